use Rattle.std.proofs.Common.{ap, arith, sym, ◌∙◌}
use Rattle.std.proofs.lemmas.Result.{on_ok_weaker}
use Rattle.msvc_nodes.specs.NodeView.{names_in, types_in}
use Rattle.msvc_print.proofs.Settling.{add_all-none}
use Rattle.msvc_print.proofs.ShapePieces.{laid-parts, laid-none, laid-step, slots_weight-positive, slots_weight-step}
use Rattle.msvc_print.proofs.Stack.{pushed_one, work_one}
use Rattle.msvc_print.specs.Limited.{add_all}
use Rattle.msvc_print.specs.ShapeNodes.{parts_weight, rest_of_slots, slots_from}
use Rattle.msvc_print.specs.Work.{finished_after, work}
use Rattle.msvc_print.proofs.printer.Printer.print_slots.Goals as goal

pub slots-preserved : goal.slots-preserved
unfolding slots_from
slots-preserved g c = record {
  text = ap (finished_after c.slots.self) (laid-step c.slots-slots.result.now _ _ c.slots.at _ _ _ _ _
      c.slots-slots.ensures (omega (arith, c.slots-test.true)) (c.in_ok-write_slot.ensures.written c.in-None.is))
      ∙ c.slots.invariant.text;
  lighter = omega (
    arith,
    c.slots.invariant.lighter,
    slots_weight-step c.slots-slots.result.now _ c.slots.at
        (parts_weight (names_in c.args.shape.now.names.now) (types_in c.args.shape.now.types.now))
        c.slots-slots.ensures (omega (arith, c.slots-test.true)),
  );
  same = c.slots.invariant.same;
  kept = c.slots.invariant.kept;
}

pub returns-in-Some-clause-text : goal.returns-in-Some-clause-text
unfolding slots_from
returns-in-Some-clause-text g c =
    let flags = c.slots.self.flags.bits in
    on_ok_weaker c.push_part_slot.result
    (λ last. last _ ∙ pushed_one _ _ _ _ _ c.in_ok-push-in-Some.ensures
    ∙ ap (finished_after c.slots.self)
    (laid-parts c.slots-slots.result.now _ _ c.slots.at _ _ _ _ _ _ _ _ _ c.slots-slots.ensures
    (omega (arith, c.slots-test.true)) (c.in_ok-write_slot.ensures.named _ c.in-Some.is))
    ∙ ap (λ o. finished_after c.slots.self (add_all o (rest_of_slots c.args.shape.now c.args.side c.args.pointed
    c.slots.at flags))) (c.in_ok-write_slot.ensures.same _ c.in-Some.is)
    ∙ c.slots.invariant.text)
    c.push_part_slot.ensures.text

pub returns-in-Some-clause-lighter : goal.returns-in-Some-clause-lighter
unfolding slots_from
returns-in-Some-clause-lighter g c = on_ok_weaker c.push_part_slot.result (λ last. omega (
  arith,
  last,
  work_one _ _ _ c.in_ok-push-in-Some.ensures,
  slots_weight-step c.slots-slots.result.now _ c.slots.at
      (parts_weight (names_in c.args.shape.now.names.now) (types_in c.args.shape.now.types.now))
      c.slots-slots.ensures (omega (arith, c.slots-test.true)),
  c.slots.invariant.lighter,
  ap (λ s. work s.items) c.slots.invariant.same,
)) c.push_part_slot.ensures.lighter

pub returns-clause-text : goal.returns-clause-text
unfolding slots_from
returns-clause-text g c =
    ap (finished_after c.slots.self) (sym (add_all-none c.slots.self.out.now)
    ∙ ap (add_all c.slots.self.out.now) (sym (laid-none c.slots-slots.result.now _ c.slots.at c.args.pointed _ _
    c.slots-slots.ensures (omega (arith, c.slots-test.false)))))
    ∙ c.slots.invariant.text

pub returns-clause-lighter : goal.returns-clause-lighter
unfolding slots_from
returns-clause-lighter g c = omega (
  arith,
  slots_weight-positive (slots_from c.args.shape.now c.args.side c.args.at)
      (parts_weight (names_in c.args.shape.now.names.now) (types_in c.args.shape.now.types.now)),
  ap (λ s. work s.items) c.slots.invariant.same,
)
