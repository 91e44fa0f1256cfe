use Rattle.std.proofs.Common.{arith, ◌∙◌, false}
use Rattle.msvc_print.proofs.Names.{written-last}
use Rattle.msvc_print.proofs.qualified_names.write_spelled_names.Goals as goal

pub loop-left-preserved : goal.loop-left-preserved
loop-left-preserved g c = record {
  left_fits = omega (arith, c.loop-left.invariant.left_fits);
  written = λ flags. written-last _ _ _ flags _ _ _ (omega (arith, c.loop-left-test.true))
      c.loop-left.invariant.left_fits (c.in_ok-write_if_spelled.ensures.spelled c.if-not-branch.false false flags)
      c.in_ok-write_text.ensures
      ∙ c.loop-left.invariant.written flags;
}
