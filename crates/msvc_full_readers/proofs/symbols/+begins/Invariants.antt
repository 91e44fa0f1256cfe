use Rattle.std.proofs.Common.{length}
use Rattle.msvc_full_readers.proofs.symbols.+begins.Given as goal

abbrev pub decreases-begins : goal.decreases-begins
decreases-begins l = length l.bytes.now
