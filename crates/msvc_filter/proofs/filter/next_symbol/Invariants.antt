use Rattle.std.proofs.Common.{◌≤◌, ◌-◌, map, take}
use Rattle.msvc_filter.specs.Choices.{chosen}
use Rattle.msvc_filter.specs.Filtered.{kept}
use Rattle.msvc_filter.specs.WordStates.{ArePartsUpTo}
use Rattle.msvc_filter.proofs.filter.next_symbol.Given as goal

abbrev pub invariant-bytes : goal.invariant-bytes
invariant-bytes g l =
    (l.at ≤ l.until) × ArePartsUpTo (chosen l.how) l.fn.scan l.left l.until (map kept (take l.at l.left))
    l.at l.scan

abbrev pub decreases-bytes : goal.decreases-bytes
decreases-bytes g l = l.until - l.at
