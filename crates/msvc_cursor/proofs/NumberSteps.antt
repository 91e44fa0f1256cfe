-- Step lemmas of numbers.
use Rattle.std.proofs.Common.{ℕ, List, Some, ◌+◌, ◌≡◌, ◌∙◌}
use Rattle.std.specs.Prelude.{codes}
use Rattle.std.specs.Int.{cast_signed, int_wrapping_neg, w32}
use Rattle.msvc_rules.specs.Readers.{read_by, letter_here, and_then}
use Rattle.msvc_rules.specs.Rules.{after, give, call, ◌>>=◌}
use Rattle.msvc_rules.specs.Sorts.{integer}
use Rattle.msvc_rules.specs.State.{State}
use Rattle.msvc_grammar.specs.Grammar.{grammar, signed_letters}
use Rattle.msvc_grammar.specs.Letters.{digits}
use Rattle.msvc_grammar.specs.Productions.{number, magnitude}
use Rattle.msvc_grammar.specs.Reading.{read_name, read}
use Rattle.msvc_grammar.proofs.Laws.{read_name-is}
use Rattle.msvc_cursor.proofs.Choices.{choose, chosen, letter_or-is, literal_or-is}

pub number_step : (left : List ℕ) (s : State) → read_name number left s
    ≡ chosen (after (codes "?") left)
    (λ rest. and_then (read_name magnitude rest s) (λ z l t. Some (int_wrapping_neg w32 z, l, t)))
    (read_name magnitude left s)
unfolding grammar read read_by
number_step left s =
    read_name-is number left s
    ∙ literal_or-is {a = integer} (codes "?") (do z ← call magnitude; give (int_wrapping_neg w32 z)) (call magnitude)
    left s

pub magnitude_step : (left : List ℕ) (s : State) → read_name magnitude left s
    ≡ choose (letter_here digits left s) (λ d l t. Some (cast_signed w32 (d + 1), l, t)) (read signed_letters left s)
unfolding grammar read read_by
magnitude_step left s =
    read_name-is magnitude left s
    ∙ letter_or-is digits (λ d. give (cast_signed w32 (d + 1))) signed_letters left s

pub ruleset steps = (number_step, magnitude_step)
