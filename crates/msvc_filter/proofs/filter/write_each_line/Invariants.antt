use Rattle.std.proofs.Common.{◌≡◌, length}
use Rattle.msvc_filter.specs.Choices.{chosen}
use Rattle.msvc_filter.proofs.Blocks.{LineRun}
use Rattle.msvc_filter.proofs.filter.write_each_line.Given as goal

abbrev pub invariant-lines : goal.invariant-lines
invariant-lines g l =
    LineRun (chosen l.how) l.fn.scan l.fn.lines (g.W.Write.contents l.fn.out.stream) (g.W.Write.contents l.out.stream)
    l.left l.scan
    × (l.out.failed ≡ l.fn.out.failed)

abbrev pub decreases-lines : goal.decreases-lines
decreases-lines g l = length l.left
