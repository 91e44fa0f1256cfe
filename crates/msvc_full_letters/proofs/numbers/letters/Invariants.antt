use Rattle.std.proofs.Common.{ℕ, ◌≡◌, ◌≤◌, length}
use Rattle.msvc_full_grammar.specs.Reading.{read}
use Rattle.msvc_cursor.specs.Parser.{beyond, frame_of, state_of}
use Rattle.msvc_full_letters.specs.Numbers.{wrapped_letters}
use Rattle.msvc_full_letters.proofs.WrappedLetters.{letters_at}
use Rattle.msvc_full_letters.proofs.numbers.letters.Given as goal

-- the letters left, after the value so far, give what all the letters give
abbrev pub invariant-loop-parser : goal.invariant-loop-parser
invariant-loop-parser g l =
    ((extra : ℕ) → letters_at l.value l.parser.rest.now (beyond extra (state_of l.parser))
    ≡ read wrapped_letters l.initial.parser.rest.now (beyond extra (state_of l.initial.parser)))
    × (length l.parser.rest.now ≤ length l.initial.parser.rest.now)
    × (frame_of l.parser ≡ frame_of l.initial.parser)

abbrev pub decreases-loop-parser : goal.decreases-loop-parser
decreases-loop-parser g l = length l.parser.rest.now
