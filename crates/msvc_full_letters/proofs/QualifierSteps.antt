-- Step lemmas of qualifiers and of what arrays begin with.
use Rattle.std.proofs.Common.{ℕ, suc, zero, List, [], ◌∷◌, Some, None, ◌≡◌, ◌∙◌}
use Rattle.std.specs.Prelude.{bit_or, codes}
use Rattle.msvc_rules.specs.Readers.{Found, and_then, letter_here, read_by}
use Rattle.msvc_rules.specs.Rules.{after, give, optional}
use Rattle.msvc_rules.specs.Sorts.{nothing}
use Rattle.msvc_rules.specs.State.{State}
use Rattle.msvc_grammar.specs.Reading.{read as crate_read}
use Rattle.msvc_full_grammar.specs.declared.forms.OwnQualifiers.TheVariants as own
use Rattle.msvc_full_grammar.specs.Grammar.{grammar}
use Rattle.msvc_full_grammar.specs.Fragments.{managed_mark}
use Rattle.msvc_full_grammar.specs.Letters.{alignments, pointer_sizes, qualifiers, reference_qualifiers, restricts}
use Rattle.msvc_full_grammar.specs.Productions.{count, dimensions, marks, own_qualifiers, positive}
use Rattle.msvc_full_grammar.specs.Reading.{read_name, read}
use Rattle.msvc_full_grammar.proofs.Laws.{read_name-is}
use Rattle.msvc_cursor.proofs.Choices.{chosen}
use Rattle.msvc_full_letters.proofs.Choices.{literal_or-is}

-- what a letter or none stands for is read as in the crate's grammar
pub marks_step : (left : List ℕ) (s : State) → read_name marks left s
    ≡ and_then (crate_read (optional pointer_sizes) left s) (λ size l t. and_then (crate_read (optional restricts) l t)
    (λ restrict k u. and_then (crate_read (optional alignments) k u)
    (λ alignment j v. Some (bit_or size (bit_or restrict alignment), j, v))))
unfolding grammar read read_by crate_read
marks_step left s = read_name-is marks left s

pub own_absent : (left : List ℕ) (s : State) → read_name (own_qualifiers own.Absent) left s ≡ Some (0, left, s)
unfolding grammar read read_by
own_absent left s = read_name-is (own_qualifiers own.Absent) left s

pub own_present : (left : List ℕ) (s : State) → read_name (own_qualifiers own.Present) left s
    ≡ and_then (read_name marks left s) (λ m h r. and_then (read managed_mark h r)
    (λ _ l t. and_then (crate_read (optional reference_qualifiers) l t)
    (λ kind k u. and_then (letter_here qualifiers k u) (λ q j v. Some (bit_or m (bit_or kind q), j, v)))))
unfolding grammar read read_by crate_read
own_present left s = read_name-is (own_qualifiers own.Present) left s

pub managed_mark_step : (left : List ℕ) (s : State) → read managed_mark left s
    ≡ chosen (after (codes "$A") left) (λ rest. Some (tt, rest, s)) (Some (tt, left, s))
unfolding read read_by
managed_mark_step left s = literal_or-is {a = nothing} (codes "$A") (give tt) (give tt) left s

-- a count that is above 0
abbrev pub dimensions_by : ℕ → List ℕ → State → Found ℕ
dimensions_by zero left s = None
dimensions_by (suc n) left s = Some (suc n, left, s)

positive_step : (n : ℕ) (left : List ℕ) (s : State) → read_name (positive n) left s ≡ dimensions_by n left s
unfolding grammar read read_by
positive_step zero [] s = read_name-is (positive zero) [] s
positive_step zero (b ∷ bs) s = read_name-is (positive zero) (b ∷ bs) s
positive_step (suc n) left s = read_name-is (positive (suc n)) left s

pub dimensions_step : (left : List ℕ) (s : State)
    → read_name dimensions left s ≡ and_then (read_name count left s) dimensions_by
unfolding grammar read read_by
dimensions_step left s = read_name-is dimensions left s
    ∙ λ i. and_then (read_name count left s) (λ n l t. positive_step n l t i)

pub ruleset steps = (marks_step, own_absent, own_present, managed_mark_step, dimensions_step)
