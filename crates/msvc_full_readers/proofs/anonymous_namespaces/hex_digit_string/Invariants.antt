use Rattle.std.proofs.Common.{ℕ, Some, ◌≡◌, ◌≤◌, ◌++◌, length}
use Rattle.std.specs.Prelude.{codes, string_bytes}
use Rattle.msvc_rules.specs.Readers.{and_then}
use Rattle.msvc_full_grammar.specs.Productions.{hexadecimal_digits}
use Rattle.msvc_full_grammar.specs.Reading.{read_name}
use Rattle.msvc_cursor.specs.Parser.{beyond, frame_of, state_of}
use Rattle.msvc_cursor.specs.Rows.{with_front}
use Rattle.msvc_full_readers.proofs.anonymous_namespaces.hex_digit_string.Given as goal

-- the digits so far, before what is read of the rest, are what is read of all
abbrev pub invariant-digits : goal.invariant-digits
invariant-digits g l =
    ((extra : ℕ) → with_front (string_bytes l.digits) (read_name hexadecimal_digits l.parser.rest.now (beyond extra (state_of l.parser)))
    ≡ and_then (read_name hexadecimal_digits l.initial.parser.rest.now (beyond extra (state_of l.initial.parser)))
    (λ ds left s. Some (codes "0x" ++ ds, left, s)))
    × (length l.parser.rest.now ≤ length l.initial.parser.rest.now)
    × (frame_of l.parser ≡ frame_of l.initial.parser)

abbrev pub decreases-digits : goal.decreases-digits
decreases-digits g l = length l.parser.rest.now
