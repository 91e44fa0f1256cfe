use Rattle.std.proofs.Common.{ℕ, List, ◌+◌, ◌*◌, length}
use Rattle.msvc_full_readers.proofs.symbols.+funclets.Given as goal

-- Where as many bytes are left, a reader calls only those with a smaller number.

abbrev level : List ℕ → ℕ → ℕ
level left n = 3 * length left + n

abbrev pub decreases-funclet : goal.decreases-funclet
decreases-funclet g l = level l.parser.now.rest.now 0

abbrev pub decreases-funclet_home : goal.decreases-funclet_home
decreases-funclet_home g l = level l.parser.now.rest.now 0

abbrev pub decreases-funclet_frame : goal.decreases-funclet_frame
decreases-funclet_frame g l = level l.parser.now.rest.now 2

abbrev pub decreases-funclet_function : goal.decreases-funclet_function
decreases-funclet_function g l = level l.parser.now.rest.now 1

abbrev pub decreases-funclet_or_symbol : goal.decreases-funclet_or_symbol
decreases-funclet_or_symbol g l = level l.parser.now.rest.now 0
