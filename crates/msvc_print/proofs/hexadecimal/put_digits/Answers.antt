use Rattle.std.proofs.Common.{arith, ◌-◌, ◌∙◌}
use Rattle.std.proofs.lemmas.List.{length-set}
use Rattle.msvc_print.proofs.HexDigits.{digits-last, digits-start, digits-step}
use Rattle.msvc_print.proofs.hexadecimal.put_digits.Goals as goal

pub digits-init : goal.digits-init
digits-init c = record {
  written = digits-start c.args.number c.args.buffer.now (omega (arith, c.told-buffer));
  room = c.told-buffer;
  fits = omega arith;
}

pub digits-preserved : goal.digits-preserved
digits-preserved c =
    let l = c.digits in
    record {
      written = digits-step l.left l.at c.hex_digit.result l.buffer _ (omega (arith, c.digits-test.true))
          (omega (arith, l.invariant.room, l.invariant.fits)) c.hex_digit.ensures c.if-left-eq0.false
          l.invariant.written;
      room = length-set l.buffer (l.at - 1) c.hex_digit.result ∙ l.invariant.room;
      fits = omega (arith, l.invariant.fits);
    }

pub returns-then-left-eq0 : goal.returns-then-left-eq0
returns-then-left-eq0 c =
    let l = c.digits in
    record {
      fits = omega (arith, l.invariant.fits);
      written = digits-last l.left l.at c.hex_digit.result l.buffer _ (omega (arith, c.digits-test.true))
          (omega (arith, l.invariant.room, l.invariant.fits)) c.hex_digit.ensures c.if-left-eq0.true
          l.invariant.written;
    }
