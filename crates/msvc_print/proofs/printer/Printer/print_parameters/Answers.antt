use Rattle.std.proofs.Common.{◌≡◌, ◌∷◌, ◌++◌, [], arith, sym, ◌∙◌, rules}
use Rattle.msvc_print.proofs.Stack.{pushed_one, work_one}
use Rattle.msvc_print.specs.declared.item.Item.TheVariants.{Parameters}
use Rattle.msvc_print.proofs.printer.Printer.print_parameters.Given.{Over}
use Rattle.msvc_print.proofs.printer.Printer.print_parameters.Goals as goal

-- the list was the last item of the stack
popped : (g : Over) (c : goal.After-pop g) → c.print_list.new.self.stack.now.items
    ≡ c.pop.new.self.items ++ Parameters c.in-Some-Parameters.next ∷ []
popped g c = search rules

pub lists-smaller : goal.lists-smaller
lists-smaller g c = omega (arith, c.in_ok-print_list.ensures.lighter, work_one _ _ _ (popped g c))

pub lists-preserved : goal.lists-preserved
lists-preserved g c = record {
  text = sym (pushed_one _ _ _ _ _ (popped g c)) ∙ c.in_ok-print_list.ensures.text ∙ c.lists.invariant.text;
  lighter = omega (
    arith,
    c.in_ok-print_list.ensures.lighter,
    c.lists.invariant.lighter,
    work_one _ _ _ (popped g c),
  );
  kept = (
    c.print_list.ensures.kept.0 ∙ c.lists.invariant.kept.0,
    c.print_list.ensures.kept.1 ∙ c.lists.invariant.kept.1,
  );
}
