use Rattle.std.proofs.Common.{◌≡◌, take, true}
use Rattle.std.specs.List.{list_all}
use Rattle.msvc_filter.specs.SymbolBounds.{is_word_byte}
use Rattle.msvc_filter.proofs.symbol_bounds.all_word_bytes.Given as goal

abbrev pub invariant-bytes : goal.invariant-bytes
invariant-bytes l = list_all is_word_byte (take l.i l.bytes) ≡ true
