use Rattle.std.proofs.Common.{ℕ, ◌≡◌, ◌≤◌, ◌-◌, length}
use Rattle.msvc_grammar.specs.Productions.{characters}
use Rattle.msvc_grammar.specs.Reading.{read_name}
use Rattle.msvc_cursor.specs.Parser.{beyond, frame_of, state_of}
use Rattle.msvc_cursor.specs.Rows.{with_front}
use Rattle.msvc_cursor.proofs.parser.Parser.characters.Given as goal

-- the characters so far, before those that are still to be read, are all the characters
abbrev pub invariant-loop : goal.invariant-loop
invariant-loop g l =
    ((extra : ℕ) → with_front l.text.items
    (read_name (characters (l.count - l.counter)) l.self.rest.now (beyond extra (state_of l.self)))
    ≡ read_name (characters l.count) l.initial.self.rest.now (beyond extra (state_of l.initial.self)))
    × (length l.self.rest.now ≤ length l.initial.self.rest.now)
    × (frame_of l.self ≡ frame_of l.initial.self)
