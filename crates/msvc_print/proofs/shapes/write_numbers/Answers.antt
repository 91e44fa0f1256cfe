use Rattle.std.proofs.Common.{◌==◌, arith, ◌∙◌}
use Rattle.msvc_print.proofs.ShapePieces.{each_number-none, written-all, written-number}
use Rattle.msvc_print.proofs.shapes.write_numbers.Goals as goal

pub numbers-preserved : goal.numbers-preserved
numbers-preserved g c = written-number c.args.numbers.now _ c.numbers.at (c.numbers.at == 0) c.args.flags.bits _ _ _
    (omega (arith, c.numbers-test.true)) c.in_ok-write_separator.ensures c.in_ok-write_signed.ensures
    ∙ c.numbers.invariant

pub returns : goal.returns
returns g c = written-all _ _ _ (each_number-none c.args.numbers.now c.numbers.at (c.numbers.at == 0) c.args.flags.bits
    (omega (arith, c.numbers-test.false)))
    c.numbers.invariant
