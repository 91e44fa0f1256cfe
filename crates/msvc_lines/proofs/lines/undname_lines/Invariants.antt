use Rattle.std.proofs.Common.{◌≡◌, ◌-◌, ◌^◌}
use Rattle.msvc_streams.specs.Polled.{polled}
use Rattle.msvc_lines.proofs.LineRun.{LineRun}
use Rattle.msvc_lines.proofs.Texts.{AreAnswered}
use Rattle.msvc_lines.specs.Reports.{AreReports}
use Rattle.msvc_lines.proofs.lines.undname_lines.Given as goal

abbrev pub invariant-pieces : goal.invariant-pieces
invariant-pieces g l =
    LineRun AreAnswered (g.R.Read.remaining l.fn.input.stream) (g.R.Read.remaining l.input.stream)
    (g.W.Write.contents l.fn.out.stream)
    (g.W.Write.contents l.out.stream) l.piece.items
    × (l.input.failed ≡ l.fn.input.failed) × (l.out.failed ≡ l.fn.out.failed) × (l.err.failed ≡ l.fn.err.failed)
    × LineRun (AreReports l.fn.verbose) (g.R.Read.remaining l.fn.input.stream) (g.R.Read.remaining l.input.stream)
    (g.E.Write.contents l.fn.err.stream) (g.E.Write.contents l.err.stream) l.piece.items

abbrev pub decreases-pieces : goal.decreases-pieces
decreases-pieces g l = 2 ^ 64 - polled l.polls
