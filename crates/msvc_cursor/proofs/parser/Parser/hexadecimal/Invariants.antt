use Rattle.std.proofs.Common.{ℕ, ◌≡◌, ◌≤◌, length}
use Rattle.msvc_grammar.specs.Grammar.{signed_letters}
use Rattle.msvc_grammar.specs.Reading.{read}
use Rattle.msvc_grammar.proofs.Hexadecimal.{letters_at}
use Rattle.msvc_cursor.specs.Parser.{beyond, frame_of, state_of}
use Rattle.msvc_cursor.proofs.parser.Parser.hexadecimal.Given as goal

-- the letters left, after the value so far, give what all the letters give
abbrev pub invariant-loop-self : goal.invariant-loop-self
invariant-loop-self g l =
    ((extra : ℕ) → letters_at l.value l.self.rest.now (beyond extra (state_of l.self))
    ≡ read signed_letters l.initial.self.rest.now (beyond extra (state_of l.initial.self)))
    × (length l.self.rest.now ≤ length l.initial.self.rest.now)
    × (frame_of l.self ≡ frame_of l.initial.self)

abbrev pub decreases-loop-self : goal.decreases-loop-self
decreases-loop-self g l = length l.self.rest.now
