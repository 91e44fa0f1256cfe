use Rattle.std.proofs.Common.{ℕ, ◌≡◌, ◌≤◌, length}
use Rattle.msvc_rules.specs.Readers.{and_then, letter_here}
use Rattle.msvc_grammar.specs.Letters.{digits}
use Rattle.msvc_grammar.specs.Productions.{decimal}
use Rattle.msvc_grammar.specs.Reading.{read_name}
use Rattle.msvc_cursor.specs.Parser.{beyond, frame_of, state_of}
use Rattle.msvc_productions.proofs.guards.guard_number.Given as goal

-- what is read of the rest, after the value so far, is what is read of all
abbrev pub invariant-digits : goal.invariant-digits
invariant-digits g l =
    ((extra : ℕ) → read_name (decimal l.value) l.parser.rest.now (beyond extra (state_of l.parser))
    ≡ and_then (letter_here digits l.fn.parser.rest.now (beyond extra (state_of l.fn.parser))) (λ d. read_name (decimal d)))
    × (length l.parser.rest.now ≤ length l.fn.parser.rest.now)
    × (l.value ≤ 2147483647)
    × (frame_of l.parser ≡ frame_of l.fn.parser)

abbrev pub decreases-digits : goal.decreases-digits
decreases-digits g l = length l.parser.rest.now
