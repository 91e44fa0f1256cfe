use Rattle.std.proofs.Common.{◌≤◌, ◌-◌, List, length}
use Rattle.msvc_filter.specs.Choices.{chosen}
use Rattle.msvc_filter.specs.SliceWriters.{IsSliceWriter}
use Rattle.msvc_filter.specs.Filtered.{Part}
use Rattle.msvc_filter.specs.WordStates.{ArePartsUpTo}
use Rattle.msvc_filter.proofs.Replaced.{fresh}
use Rattle.msvc_filter.proofs.filter.filter_slice_as.Given as goal

abbrev pub invariant-symbols : goal.invariant-symbols
invariant-symbols g l = (l.at ≤ length l.text) × ((parts : List Part) × IsSliceWriter l.fn.out parts l.writer l.out
    × ArePartsUpTo (chosen l.how) (fresh 10) l.text (length l.text) parts l.at l.scan)

abbrev pub decreases-symbols : goal.decreases-symbols
decreases-symbols g l = length l.text - l.at
