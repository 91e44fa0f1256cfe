use Rattle.std.proofs.Common.{◌≡◌, take}
use Rattle.std.specs.Prelude.{map, string_bytes}
use Rattle.msvc_lines.specs.Answers.{IsLineText}
use Rattle.msvc_lines.specs.Reports.{IsReport}
use Rattle.msvc_lines.proofs.SymbolRun.{SymbolRun}
use Rattle.msvc_lines.proofs.run.undname_all.Given as goal

abbrev pub invariant-loop-symbol : goal.invariant-loop-symbol
invariant-loop-symbol g l =
    SymbolRun IsLineText (map string_bytes (take l.symbol-index l.symbols)) (g.W.Write.contents l.fn.out.stream)
    (g.W.Write.contents l.out.stream)
    × (l.out.failed ≡ l.fn.out.failed) × (l.err.failed ≡ l.fn.err.failed)
    × SymbolRun (IsReport l.fn.verbose) (map string_bytes (take l.symbol-index l.symbols))
    (g.E.Write.contents l.fn.err.stream) (g.E.Write.contents l.err.stream)
