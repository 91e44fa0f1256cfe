use Rattle.std.proofs.Common.{◌≡◌, ◌≤◌, length, drop}
use Rattle.std.specs.Prelude.{reverse}
use Rattle.msvc_full_readers.proofs.store.from_last.Given as goal

abbrev pub invariant-items : goal.invariant-items
invariant-items g l = (l.list.items ≡ reverse (drop l.at l.items)) × (l.at ≤ length l.items)

abbrev pub decreases-items : goal.decreases-items
decreases-items g l = l.at
