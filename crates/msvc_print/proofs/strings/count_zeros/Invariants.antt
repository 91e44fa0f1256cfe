use Rattle.std.proofs.Common.{◌≡◌, ◌≤◌, ◌-◌, length, drop, fold}
use Rattle.msvc_print.specs.Strings.{bytes_of, count_zero, zeros_of}
use Rattle.msvc_print.proofs.strings.count_zeros.Given as goal

-- the zero bytes that were counted, with those that are left
pub record Holds (l : goal.Live-bytes) : Type 0 where
  pub counted : fold (count_zero l.at_end) l.zeros (drop l.at (bytes_of l.bytes))
      ≡ zeros_of l.at_end (bytes_of l.bytes)
  pub fits : l.zeros ≤ l.at

abbrev pub invariant-bytes : goal.invariant-bytes
invariant-bytes l = Holds l

abbrev pub decreases-bytes : goal.decreases-bytes
decreases-bytes l = length l.bytes - l.at
