use Rattle.std.proofs.Common.{arith, sym, ◌∙◌}
use Rattle.msvc_print.proofs.ShapePieces.{opening-found, opening-none, opening-passed}
use Rattle.msvc_print.proofs.pointed.row_opens.Goals as goal

pub returns-then-is_opening : goal.returns-then-is_opening
returns-then-is_opening c = sym (c.slots.invariant
    ∙ opening-found c.slots-left.result.now _ _ c.slots.at c.slots-left.ensures (omega (arith, c.slots-test.true))
    (sym c.is_opening.ensures ∙ c.if-is_opening.true))

pub slots-preserved : goal.slots-preserved
slots-preserved c =
    c.slots.invariant
    ∙ opening-passed c.slots-left.result.now _ _ c.slots.at c.slots-left.ensures (omega (arith, c.slots-test.true))
    (sym c.is_opening.ensures ∙ c.if-is_opening.false)

pub returns : goal.returns
returns c = sym (c.slots.invariant
    ∙ opening-none c.slots-left.result.now _ c.slots.at c.slots-left.ensures (omega (arith, c.slots-test.false)))
