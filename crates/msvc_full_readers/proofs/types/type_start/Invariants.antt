use Rattle.std.proofs.Common.{ℕ, ◌≡◌, ◌≤◌, length}
use Rattle.msvc_full_grammar.specs.Productions.{type_}
use Rattle.msvc_full_grammar.specs.Reading.{read_name}
use Rattle.msvc_cursor.specs.Parser.{beyond, frame_of, state_of}
use Rattle.msvc_full_readers.proofs.types.type_start.Given as goal

-- what is read of the rest, with the qualifiers so far, is what is read of all
abbrev pub invariant-marks : goal.invariant-marks
invariant-marks g l =
    ((extra : ℕ) → read_name (type_ l.all.0) l.parser.rest.now (beyond extra (state_of l.parser))
    ≡ read_name (type_ l.fn.qualifiers.0) l.initial.parser.rest.now (beyond extra (state_of l.initial.parser)))
    × (length l.parser.rest.now ≤ length l.initial.parser.rest.now)
    × (frame_of l.parser ≡ frame_of l.initial.parser)

abbrev pub decreases-marks : goal.decreases-marks
decreases-marks g l = length l.parser.rest.now
