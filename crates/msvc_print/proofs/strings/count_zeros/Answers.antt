use Rattle.std.proofs.Common.{arith, ap, ◌∙◌}
use Rattle.msvc_print.proofs.StringBytes.{counted-all, counted-most, counted-step}
use Rattle.msvc_print.specs.Strings.{count_zero}
use Rattle.msvc_print.proofs.strings.count_zeros.Goals as goal

pub bytes-preserved : goal.bytes-preserved
bytes-preserved c = record {
  counted = counted-step c.args.at_end c.args.bytes.now c.bytes.at c.bytes.zeros _ (omega (arith, c.bytes-test.true))
      (c.count_byte-zeros.ensures
      ∙ ap (count_zero c.args.at_end c.bytes.zeros) c.byte_at.ensures.is)
      ∙ c.bytes.invariant.counted;
  fits = omega (
    arith,
    c.bytes.invariant.fits,
    c.count_byte-zeros.ensures,
    counted-most c.args.at_end c.bytes.zeros c.byte_at.result,
  );
}

pub returns : goal.returns
returns c = counted-all c.args.at_end c.args.bytes.now c.bytes.at c.bytes.zeros (omega (arith, c.bytes-test.false))
    ∙ c.bytes.invariant.counted
