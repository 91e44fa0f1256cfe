use Rattle.std.proofs.Common.{◌≡◌, ◌-◌, ◌^◌}
use Rattle.msvc_streams.specs.Polled.{polled}
use Rattle.msvc_filter.specs.Choices.{chosen}
use Rattle.msvc_filter.proofs.Streamed.{Streaming}
use Rattle.msvc_filter.proofs.filter.filter_lines.Given as goal

abbrev pub invariant-pieces : goal.invariant-pieces
invariant-pieces g l =
    Streaming (chosen l.how) (g.R.Read.remaining l.fn.input.stream) (g.R.Read.remaining l.input.stream)
    (g.W.Write.contents l.fn.out.stream) (g.W.Write.contents l.out.stream) l.piece.items l.scan
    × (l.input.failed ≡ l.fn.input.failed) × (l.out.failed ≡ l.fn.out.failed)

abbrev pub decreases-pieces : goal.decreases-pieces
decreases-pieces g l = 2 ^ 64 - polled l.polls
