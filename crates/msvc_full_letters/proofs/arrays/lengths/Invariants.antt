use Rattle.std.proofs.Common.{ℕ, ◌≡◌, ◌≤◌, ◌-◌, length}
use Rattle.msvc_full_grammar.specs.Productions.{lengths}
use Rattle.msvc_full_grammar.specs.Reading.{read_name}
use Rattle.msvc_cursor.specs.Parser.{beyond, frame_of, state_of}
use Rattle.msvc_cursor.specs.Rows.{with_front}
use Rattle.msvc_full_letters.proofs.arrays.lengths.Given as goal

-- the lengths so far, before those that are still to be read, are all the lengths
abbrev pub invariant-loop : goal.invariant-loop
invariant-loop g l =
    ((extra : ℕ) → with_front l.lengths.items (read_name (lengths (l.levels - l.counter)) l.parser.rest.now (beyond extra (state_of l.parser)))
    ≡ read_name (lengths l.levels) l.initial.parser.rest.now (beyond extra (state_of l.initial.parser)))
    × (length l.parser.rest.now ≤ length l.initial.parser.rest.now)
    × (frame_of l.parser ≡ frame_of l.initial.parser)
