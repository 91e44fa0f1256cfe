use Rattle.std.proofs.Common.{◌≡◌, ◌≤◌, ◌-◌, List, length}
use Rattle.msvc_filter.specs.Choices.{chosen}
use Rattle.msvc_filter.specs.Filtered.{Part, text_of_parts}
use Rattle.msvc_filter.specs.WordStates.{ArePartsUpTo}
use Rattle.msvc_filter.proofs.filter.filter_piece.Given as goal

abbrev pub invariant-symbols : goal.invariant-symbols
invariant-symbols l = (l.at ≤ length l.piece) × ((parts : List Part) × (l.text.items ≡ text_of_parts parts)
    × ArePartsUpTo (chosen l.how) l.fn.scan l.piece l.until parts l.at l.scan)

abbrev pub decreases-symbols : goal.decreases-symbols
decreases-symbols l = l.until - l.at
