use Rattle.std.proofs.Common.{arith, ◌∙◌}
use Rattle.msvc_print.proofs.ShapePieces.{each_level-none, written-all, written-level}
use Rattle.msvc_print.proofs.shapes.write_levels.Goals as goal

pub levels-preserved : goal.levels-preserved
levels-preserved g c =
    written-level c.args.lengths.now _ c.levels.at _ _ (omega (arith, c.levels-test.true))
    c.in_ok-write_level.ensures ∙ c.levels.invariant

pub returns : goal.returns
returns g c = written-all _ _ _ (each_level-none c.args.lengths.now c.levels.at (omega (arith, c.levels-test.false)))
    c.levels.invariant
