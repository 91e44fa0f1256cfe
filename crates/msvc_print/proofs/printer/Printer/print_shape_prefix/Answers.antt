use Rattle.std.proofs.Common.{ap, arith, sym, ◌∙◌}
use Rattle.std.proofs.lemmas.Result.{on_ok_weaker}
use Rattle.msvc_print.proofs.Settling.{add_all-append}
use Rattle.msvc_print.proofs.ShapePieces.{before-alone, before-around, before-empty, first-work}
use Rattle.msvc_print.proofs.Stack.{pushed_one, work_one}
use Rattle.msvc_print.specs.Limited.{add_all}
use Rattle.msvc_print.specs.ShapeNodes.{slots_from}
use Rattle.msvc_print.specs.Weights.{type_weight}
use Rattle.msvc_print.specs.Work.{finished_after}
use Rattle.msvc_print.proofs.printer.Printer.print_shape_prefix.Goals as goal

pub returns-in-None-clause-text : goal.returns-in-None-clause-text
unfolding slots_from
returns-in-None-clause-text g c = on_ok_weaker c.print_slots.result (λ e. e
    ∙ ap (λ x. finished_after c.args.self.now (add_all c.args.self.now.out.now x))
    (sym (before-alone _ _ _ _ _ c.args.shape.now.types.now _ _ (sym c.around.ensures ∙ c.in-None.is))))
    c.print_slots.ensures.text

pub returns-in-empty-clause-text : goal.returns-in-empty-clause-text
unfolding slots_from
returns-in-empty-clause-text g c = on_ok_weaker c.print_slots-in-empty.result (λ e. e
    ∙ ap (λ x. finished_after c.args.self.now (add_all c.args.self.now.out.now x))
    (sym (before-empty _ _ _ _ _ c.args.shape.now.types.now _ _ c.in-empty.len_below)))
    c.print_slots-in-empty.ensures.text

pub returns-in_ok-push-in-len1-up-clause-text : goal.returns-in_ok-push-in-len1-up-clause-text
unfolding slots_from
returns-in_ok-push-in-len1-up-clause-text g c = on_ok_weaker c.print_inner.result (λ e. e
    ∙ pushed_one _ _ _ _ _ c.in_ok-push-in-len1-up.ensures
    ∙ ap (finished_after c.args.self.now) (sym (add_all-append c.args.self.now.out.now _ _))
    ∙ ap (λ x. finished_after c.args.self.now (add_all c.args.self.now.out.now x))
    (sym (before-around _ _ _ _ _ c.args.shape.now.types.now _ _ _ _ _ c.in-len1-up.len_at_least
    (sym c.around.ensures ∙ c.in-Some.is) c.under-beneath.ensures)))
    c.print_inner.ensures.text

pub returns-in-None-clause-lighter : goal.returns-in-None-clause-lighter
unfolding type_weight slots_from
returns-in-None-clause-lighter g c = on_ok_weaker c.print_slots.result (λ e. omega (arith, e))
    c.print_slots.ensures.lighter

pub returns-in-empty-clause-lighter : goal.returns-in-empty-clause-lighter
unfolding type_weight slots_from
returns-in-empty-clause-lighter g c = on_ok_weaker c.print_slots-in-empty.result (λ e. omega (arith, e))
    c.print_slots-in-empty.ensures.lighter

pub returns-in_ok-push-in-len1-up-clause-lighter : goal.returns-in_ok-push-in-len1-up-clause-lighter
unfolding type_weight slots_from
returns-in_ok-push-in-len1-up-clause-lighter g c = on_ok_weaker c.print_inner.result (λ e. omega (
  arith,
  work_one _ _ _ c.in_ok-push-in-len1-up.ensures,
  first-work c.args.shape.now.types.now _ _ _ c.in-len1-up.len_at_least e,
)) c.print_inner.ensures.lighter
