use Rattle.std.proofs.Common.{ℕ, ◌≡◌, ◌≤◌, length}
use Rattle.msvc_full_grammar.specs.Productions.{repeated_scope}
use Rattle.msvc_full_grammar.specs.Reading.{read_name}
use Rattle.msvc_cursor.specs.Parser.{beyond, frame_of, state_of}
use Rattle.msvc_full_readers.proofs.repeated_classes.repeated_scope.Given as goal

-- what is read of the rest is what is read of all
abbrev pub invariant-names : goal.invariant-names
invariant-names g l =
    ((extra : ℕ) → read_name repeated_scope l.parser.rest.now (beyond extra (state_of l.parser))
    ≡ read_name repeated_scope l.initial.parser.rest.now (beyond extra (state_of l.initial.parser)))
    × (length l.parser.rest.now ≤ length l.initial.parser.rest.now)
    × (frame_of l.parser ≡ frame_of l.initial.parser)

abbrev pub decreases-names : goal.decreases-names
decreases-names g l = length l.parser.rest.now
