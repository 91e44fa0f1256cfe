-- Step lemmas of numbers.
use Rattle.std.proofs.Common.{ℕ, List, Some, None, true, false, ◌+◌, ◌≡◌, ◌∙◌, refl}
use Rattle.std.specs.Prelude.{codes}
use Rattle.msvc_rules.specs.Readers.{Found, read_by, letter_here, and_then, or_else}
use Rattle.msvc_rules.specs.Rules.{after, give, call, ◌>>=◌}
use Rattle.msvc_rules.specs.Sorts as sort
use Rattle.msvc_rules.specs.State.{State}
use Rattle.msvc_full_grammar.specs.Grammar.{grammar}
use Rattle.msvc_full_grammar.specs.Fragments.{small}
use Rattle.msvc_full_grammar.specs.Letters.{digits}
use Rattle.msvc_full_grammar.specs.Productions.{count, number, small_number}
use Rattle.msvc_full_grammar.specs.Reading.{read_name, read}
use Rattle.msvc_full_grammar.proofs.Laws.{read_name-is}
use Rattle.msvc_cursor.proofs.Choices.{choose, chosen}
use Rattle.msvc_full_letters.specs.Numbers.{wrapped_letters}
use Rattle.msvc_full_letters.proofs.Choices.{literal_or-is}

pub number_step : (left : List ℕ) (s : State) → read_name number left s
    ≡ chosen (after (codes "?") left)
    (λ rest. and_then (read_name count rest s) (λ n l t. Some (record { is_negative = true; value = n }, l, t)))
    (and_then (read_name count left s) (λ n l t. Some (record { is_negative = false; value = n }, l, t)))
unfolding grammar read read_by
number_step left s =
    read_name-is number left s
    ∙ literal_or-is {a = sort.number} (codes "?")
    (do n ← call count; give (record { is_negative = true; value = n }))
    (do n ← call count; give (record { is_negative = false; value = n }))
    left s

pub count_step : (left : List ℕ) (s : State) → read_name count left s
    ≡ choose (letter_here digits left s) (λ d l t. Some (d + 1, l, t)) (read wrapped_letters left s)
unfolding grammar read read_by
count_step left s = read_name-is count left s ∙ go (letter_here digits left s)
  where
    go : (o : Found ℕ)
        → or_else (and_then o (λ d l t. Some (d + 1, l, t))) (read wrapped_letters left s)
        ≡ choose o (λ d l t. Some (d + 1, l, t)) (read wrapped_letters left s)
    go None = refl
    go (Some x) = refl

pub small_number_step : (left : List ℕ) (s : State) → read_name small_number left s
    ≡ and_then (read_name number left s) (λ n l t. Some (small n, l, t))
unfolding grammar read read_by
small_number_step left s = read_name-is small_number left s

pub ruleset steps = (number_step, count_step, small_number_step)
