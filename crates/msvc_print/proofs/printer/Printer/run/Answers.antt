use Rattle.std.proofs.Common.{◌≡◌, [], sym, ◌∙◌, arith, rules, false, is_some}
use Rattle.msvc_print.proofs.Longer.{finished-not_whole}
use Rattle.msvc_print.proofs.Stack.{pushed_one, work_one}
use Rattle.msvc_print.proofs.PrinterLoop.{finished-none}
use Rattle.msvc_print.proofs.printer.Printer.run.Goals as goal

pub items-smaller : goal.items-smaller
items-smaller g c = omega (arith, c.in_ok-print_item.ensures.lighter, work_one _ _ _ c.in-Some.ensures.items)

pub items-preserved : goal.items-preserved
items-preserved g c = record {
  text = c.in_ok-print_item.ensures.text ∙ sym (pushed_one _ _ _ _ _ c.in-Some.ensures.items)
      ∙ c.items.invariant.text;
  kept = (
    c.print_item.ensures.kept.0 ∙ c.items.invariant.kept.0,
    c.print_item.ensures.kept.1 ∙ c.items.invariant.kept.1,
  );
}

pub returns-in_default-clause-text : goal.returns-in_default-clause-text
returns-in_default-clause-text g c =
    let empty : c.items.self.stack.now.items ≡ [] = search rules in
    sym (finished-none _ _ _ empty) ∙ c.items.invariant.text

pub returns-clause-text : goal.returns-clause-text
returns-clause-text g c =
    let left_out : is_some c.items.self.out.now.text ≡ false = search rules in
    finished-not_whole c.items.self.stack.now.items c.items.self.out.now c.items.self.flags.bits left_out
    ∙ c.items.invariant.text
