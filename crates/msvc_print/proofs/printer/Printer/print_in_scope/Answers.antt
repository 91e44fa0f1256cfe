use Rattle.std.proofs.Common.{◌≡◌, false, is_some, true, ap, sym, ◌∙◌, arith, rules}
use Rattle.std.proofs.lemmas.Result.{on_ok_weaker}
use Rattle.msvc_nodes.specs.NodeView.{name_of}
use Rattle.msvc_print.specs.Declaration.{name_pieces}
use Rattle.msvc_print.specs.Limited.{add_all}
use Rattle.msvc_print.specs.Work.{finished_after}
use Rattle.msvc_print.proofs.SimpleTypes.{add_all-not_whole}
use Rattle.msvc_print.proofs.Names.{written-all}
use Rattle.msvc_print.proofs.Settling.{add_all-append}
use Rattle.msvc_print.proofs.Stack.{pushed_one, work_one}
use Rattle.msvc_print.proofs.printer.Printer.print_in_scope.Goals as goal

pub returns-then-left-eq0-clause-text : goal.returns-then-left-eq0-clause-text
returns-then-left-eq0-clause-text g c =
    let name = name_pieces (name_of c.args.name.now) true c.args.self.now.flags.bits in
    on_ok_weaker c.print_name.result (λ last. last
    ∙ ap (λ x. finished_after c.args.self.now (add_all x name))
    (written-all c.args.names.now _ c.args.self.now.flags.bits c.args.self.now.out.now _ c.if-left-eq0.true
    (c.in_ok-left.ensures.text c.args.self.now.flags.bits))
    ∙ ap (finished_after c.args.self.now) (sym (add_all-append c.args.self.now.out.now _ name)))
    c.print_name.ensures.text

-- a piece was left out
pub returns-then-not-is_whole-clause-text : goal.returns-then-not-is_whole-clause-text
returns-then-not-is_whole-clause-text g c =
    let name = name_pieces (name_of c.args.name.now) true c.args.self.now.flags.bits in
    let left_out : is_some c.write_spelled_names.new.out.text ≡ false = search rules in
    ap (finished_after c.args.self.now)
    (add_all-not_whole _ name left_out
    ∙ ap (λ x. add_all x name) (add_all-not_whole _ _ left_out ∙ c.in_ok-left.ensures.text c.args.self.now.flags.bits)
    ∙ sym (add_all-append c.args.self.now.out.now _ name))

pub returns-clause-text : goal.returns-clause-text
returns-clause-text g c =
    let name = name_pieces (name_of c.args.name.now) true c.args.self.now.flags.bits in
    on_ok_weaker c.print_remaining_names.result (λ last. last
    ∙ pushed_one _ _ _ _ _ c.in_ok-push.ensures
    ∙ ap (λ x. finished_after c.args.self.now (add_all x name))
    (c.in_ok-left.ensures.text c.args.self.now.flags.bits)
    ∙ ap (finished_after c.args.self.now) (sym (add_all-append c.args.self.now.out.now _ name)))
    c.print_remaining_names.ensures.text

pub returns-clause-lighter : goal.returns-clause-lighter
returns-clause-lighter g c = on_ok_weaker c.print_remaining_names.result
    (λ last. omega (arith, work_one _ _ _ c.in_ok-push.ensures, last))
    c.print_remaining_names.ensures.lighter
