use Rattle.std.proofs.Common.{◌≡◌, ◌-◌, ◌^◌}
use Rattle.msvc_streams.specs.Polled.{polled}
use Rattle.msvc_streams.specs.Runs.{IsWithoutEnd}
use Rattle.msvc_filter.specs.Choices.{chosen}
use Rattle.msvc_filter.proofs.Streamed.{Streaming}
use Rattle.msvc_filter.proofs.filter.filter_blocks.Given as goal

abbrev pub invariant-blocks-2 : goal.invariant-blocks-2
invariant-blocks-2 g l =
    Streaming (chosen l.how) (g.R.Read.remaining l.fn.input.stream) (g.R.Read.remaining l.input.stream)
    (g.W.Write.contents l.fn.out.stream) (g.W.Write.contents l.out.stream) l.block.items l.scan
    × IsWithoutEnd l.block.items × (l.input.failed ≡ l.fn.input.failed) × (l.out.failed ≡ l.fn.out.failed)

abbrev pub decreases-blocks-2 : goal.decreases-blocks-2
decreases-blocks-2 g l = 2 ^ 64 - polled l.polls
