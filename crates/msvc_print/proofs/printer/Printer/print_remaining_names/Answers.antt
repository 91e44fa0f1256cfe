use Rattle.std.proofs.Common.{◌<◌, take, ap, sym, ◌∙◌, arith}
use Rattle.std.proofs.lemmas.Result.{on_ok_weaker}
use Rattle.msvc_nodes.specs.NodeView.{names_in}
use Rattle.msvc_print.specs.Declaration.{scope_prefix}
use Rattle.msvc_print.specs.Limited.{add_all}
use Rattle.msvc_print.specs.Work.{finished_after}
use Rattle.msvc_print.proofs.Names.{lightened-last, scope_prefix-left, scope_prefix-none, scope_weight-fewer}
use Rattle.msvc_print.proofs.Names.{scope_weight-positive}
use Rattle.msvc_print.proofs.Settling.{settled_three}
use Rattle.msvc_print.proofs.Stack.{printed_none, pushed_one, work_one}
use Rattle.msvc_print.proofs.printer.Printer.print_remaining_names.Goals as goal

pub returns-then-left-eq0-clause-text : goal.returns-then-left-eq0-clause-text
returns-then-left-eq0-clause-text g c =
    printed_none c.args.self.now.stack.now.items _ c.args.self.now.flags.bits _
    (ap (λ k. scope_prefix (names_in (take k c.args.names.now)) c.args.self.now.flags.bits) c.if-left-eq0.true
    ∙ scope_prefix-none c.args.names.now c.args.self.now.flags.bits)

pub returns-then-left-eq0-clause-lighter : goal.returns-then-left-eq0-clause-lighter
returns-then-left-eq0-clause-lighter g c = omega (arith, scope_weight-positive c.args.names.now)

pub returns-clause-text : goal.returns-clause-text
returns-clause-text g c =
    let some : 0 < c.args.left = omega (arith, c.if-left-eq0.false) in
    on_ok_weaker c.print_name.result (λ last. last
    ∙ pushed_one _ _ _ _ _ c.in_ok-push.ensures
    ∙ c.in_ok-push_scope.ensures.text c.args.self.now.flags.bits _
    ∙ ap (finished_after c.args.self.now)
    (settled_three _ _ _ _ ∙ ap (add_all c.args.self.now.out.now)
    (sym (scope_prefix-left c.args.names.now _ c.args.left c.args.self.now.flags.bits some c.requires))))
    c.print_name.ensures.text

pub returns-clause-lighter : goal.returns-clause-lighter
returns-clause-lighter g c =
    let some : 0 < c.args.left = omega (arith, c.if-left-eq0.false) in
    on_ok_weaker c.print_name.result (λ last. omega (
      arith,
      work_one _ _ _ c.in_ok-push.ensures,
      c.in_ok-push_scope.ensures.lighter,
      scope_weight-fewer c.args.names.now c.args.left,
      lightened-last c.args.names.now _ c.args.left _ _ some c.requires last,
    )) c.print_name.ensures.lighter
