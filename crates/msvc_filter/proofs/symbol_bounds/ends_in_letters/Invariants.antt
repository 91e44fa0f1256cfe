use Rattle.std.proofs.Common.{◌≡◌, length}
use Rattle.msvc_filter.specs.SymbolBounds.{ends_in_letters}
use Rattle.msvc_filter.proofs.symbol_bounds.ends_in_letters.Given as goal

abbrev pub invariant-letters : goal.invariant-letters
invariant-letters l = ends_in_letters l.left ≡ ends_in_letters l.bytes

abbrev pub decreases-letters : goal.decreases-letters
decreases-letters l = length l.left
