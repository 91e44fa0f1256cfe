use Rattle.std.proofs.Common.{◌≤◌, ◌-◌, length, take}
use Rattle.msvc_symbol.specs.declared.grammar.Grammar.TheVariants.{Full}
use Rattle.msvc_filter.specs.WordStates.{IsUnmarked}
use Rattle.msvc_filter.proofs.symbol_bounds.unmarked_len_in_full.Given as goal

abbrev pub invariant-unmarked : goal.invariant-unmarked
invariant-unmarked l = (l.len ≤ length l.bytes) × IsUnmarked Full (take l.len l.bytes)

abbrev pub decreases-unmarked : goal.decreases-unmarked
decreases-unmarked l = length l.bytes - l.len
