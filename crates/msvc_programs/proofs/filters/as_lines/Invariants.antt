use Rattle.std.proofs.Common.{◌≡◌, take}
use Rattle.std.specs.Prelude.{map}
use Rattle.msvc_programs.specs.Filters.{as_lines, text_of}
use Rattle.msvc_programs.proofs.filters.as_lines.Given as goal

abbrev pub invariant-loop-symbol : goal.invariant-loop-symbol
invariant-loop-symbol l = l.lines.items ≡ as_lines (map text_of (take l.symbol-index l.symbols))
