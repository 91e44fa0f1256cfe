use Rattle.std.proofs.Common.{length}
use Rattle.msvc_cursor.proofs.parser.+bytes_after.Given as goal

abbrev pub decreases-bytes_after : goal.decreases-bytes_after
decreases-bytes_after l = length l.literal.now
