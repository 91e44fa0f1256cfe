use Rattle.std.proofs.Common.{◌≡◌, ◌-◌, ◌^◌, map, string_bytes}
use Rattle.msvc_streams.specs.Polled.{polled}
use Rattle.msvc_lines.specs.Answers.{IsFilterText}
use Rattle.msvc_lines.specs.Arguments.{is_verbose}
use Rattle.msvc_lines.specs.Reports.{AreReports}
use Rattle.msvc_programs.proofs.Prints.{BlockRun}
use Rattle.msvc_programs.proofs.run.answer_lines.Given as goal

abbrev pub invariant-blocks-2 : goal.invariant-blocks-2
invariant-blocks-2 g l =
    BlockRun IsFilterText (g.R.Read.remaining l.fn.input.stream) (g.R.Read.remaining l.input.stream)
    (g.W.Write.contents l.fn.out.stream) (g.W.Write.contents l.out.stream) l.block.items
    × BlockRun (AreReports (is_verbose (map string_bytes l.fn.words)))
    (g.R.Read.remaining l.fn.input.stream) (g.R.Read.remaining l.input.stream)
    (g.E.Write.contents l.fn.err.stream) (g.E.Write.contents l.err.stream) l.block.items
    × (l.input.failed ≡ l.fn.input.failed) × (l.out.failed ≡ l.fn.out.failed) × (l.err.failed ≡ l.fn.err.failed)

abbrev pub decreases-blocks-2 : goal.decreases-blocks-2
decreases-blocks-2 g l = 2 ^ 64 - polled l.polls
