use Rattle.std.proofs.Common.{◌≡◌, ◌≤◌, ◌<◌, ◌-◌, ℕ, get_or, true}
use Rattle.msvc_filter.specs.SymbolBounds.{is_visible}
use Rattle.msvc_filter.proofs.symbol_bounds.visible_len.Given as goal

abbrev pub invariant-visible : goal.invariant-visible
invariant-visible l = (l.len ≤ l.most) × ((k : ℕ) → k < l.len → is_visible (get_or l.left k 0) ≡ true)

abbrev pub decreases-visible : goal.decreases-visible
decreases-visible l = l.most - l.len
