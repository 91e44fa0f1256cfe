use Rattle.std.proofs.Common.{length, take, ◌-◌, ◌≡◌, ◌≤◌}
use Rattle.std.specs.Io.KnownBytes.{Appends}
use Rattle.msvc_streams.proofs.output.write_all.Given as goal

abbrev pub invariant-writes : goal.invariant-writes
invariant-writes g l = (l.sent ≤ length l.bytes)
    × Appends (g.W.Write.contents l.fn.out.stream) (g.W.Write.contents l.out.stream) (take l.sent l.bytes)
    × (l.out.failed ≡ l.fn.out.failed)

abbrev pub decreases-writes : goal.decreases-writes
decreases-writes g l = length l.bytes - l.sent
