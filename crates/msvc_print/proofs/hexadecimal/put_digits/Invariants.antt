use Rattle.std.proofs.Common.{◌≡◌, ◌≤◌, true, length, drop}
use Rattle.std.specs.Fmt.{digits, digits_onto}
use Rattle.msvc_print.proofs.hexadecimal.put_digits.Given as goal

-- the digits that are left, put before those in the buffer, give all digits
pub record Holds (l : goal.Live-digits) : Type 0 where
  pub written : digits_onto l.at 16 true l.left (drop l.at l.buffer) ≡ digits 16 true l.number
  pub room : length l.buffer ≡ 64
  pub fits : l.at ≤ 64

abbrev pub invariant-digits : goal.invariant-digits
invariant-digits l = Holds l

abbrev pub decreases-digits : goal.decreases-digits
decreases-digits l = l.at
