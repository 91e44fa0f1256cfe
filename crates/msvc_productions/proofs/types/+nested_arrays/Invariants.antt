use Rattle.std.proofs.Common.{length}
use Rattle.msvc_productions.proofs.types.+nested_arrays.Given as goal

abbrev pub decreases-nested_arrays : goal.decreases-nested_arrays
decreases-nested_arrays g l = length l.lengths.now
