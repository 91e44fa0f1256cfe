use Rattle.std.proofs.Common.{◌≤◌, length}
use Rattle.msvc_full_letters.proofs.strings.at_unknown.Given as goal

abbrev pub invariant-loop-left : goal.invariant-loop-left
invariant-loop-left l = length l.left ≤ length l.encoded

abbrev pub decreases-loop-left : goal.decreases-loop-left
decreases-loop-left l = length l.left
