use Rattle.std.proofs.Common.{◌≡◌, ◌∷◌, length}
use Rattle.std.specs.Option.{option_map}
use Rattle.msvc_full_grammar.specs.Fragments.{each_plain}
use Rattle.msvc_full_grammar.specs.Strings.{decoded}
use Rattle.msvc_cursor.specs.Parser.{frame_of, state_of}
use Rattle.msvc_full_letters.proofs.StringSteps.{numbers_before}
use Rattle.msvc_full_letters.proofs.strings.string_bytes.Given as goal

-- the numbers so far, before those of the bytes that are still to be decoded, are all the numbers
abbrev pub invariant-loop-left : goal.invariant-loop-left
invariant-loop-left g l =
    (numbers_before l.numbers.items (decoded l.left)
    ≡ option_map (λ bs. each_plain (l.length ∷ bs)) (decoded l.encoded))
    × (l.parser.rest.now ≡ l.initial.parser.rest.now)
    × (state_of l.parser ≡ state_of l.initial.parser)
    × (frame_of l.parser ≡ frame_of l.initial.parser)

abbrev pub decreases-loop-left : goal.decreases-loop-left
decreases-loop-left g l = length l.left
