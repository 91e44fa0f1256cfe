-- Step lemmas of what stands after the type of a variable.
use Rattle.std.proofs.Common.{ℕ, List, Option, Some, None, true, false, cond, ◌≡◌, ◌==◌, refl, ap, ◌∙◌}
use Rattle.std.specs.Prelude.{codes, slice_get}
use Rattle.msvc_nodes.specs.Trees.{anonymous, spelled}
use Rattle.msvc_nodes.specs.declared.kinds.Spelling.TheVariants as spelling_kind
use Rattle.msvc_rules.specs.Readers.{Found, and_then, letter_here, name_stands, read_by}
use Rattle.msvc_rules.specs.Rules.{Rule, after, call, give, literal_or, remember, some_of, stands, ◌>>=◌, ◌>>◌}
use Rattle.msvc_rules.specs.Sorts.{nothing}
use Rattle.msvc_rules.specs.State.{State, remember_name}
use Rattle.msvc_full_grammar.specs.Forms.{of_member_pointer, of_pointer, of_value}
use Rattle.msvc_full_grammar.specs.Grammar.{grammar}
use Rattle.msvc_full_grammar.specs.Fragments.{end_of_row, pointer_rows}
use Rattle.msvc_full_grammar.specs.Rows.{member_pointer_row}
use Rattle.msvc_full_grammar.specs.Letters.{digits, qualifiers}
use Rattle.msvc_full_grammar.specs.Productions.{Production, anonymous_digits, marks, repeated_class, repeated_name}
use Rattle.msvc_full_grammar.specs.Productions.{repeated_scope, source_name, variable_end}
use Rattle.msvc_full_grammar.specs.Reading.{read_name, read}
use Rattle.msvc_full_grammar.proofs.Laws.{read_name-is}
use Rattle.msvc_cursor.proofs.Choices.{choose, chosen}
use Rattle.msvc_full_letters.proofs.Choices.{letter_or-is, literal_or-is}
use Rattle.msvc_full_readers.specs.Readings.{anonymous_name}

pub end_of_pointer : (left : List ℕ) (s : State) → read_name (variable_end of_pointer) left s
    ≡ and_then (read_name marks left s)
    (λ _ l t. and_then (letter_here qualifiers l t) (λ _ k u. Some (0, k, u)))
unfolding grammar read read_by
end_of_pointer left s = read_name-is (variable_end of_pointer) left s

pub end_of_member_pointer : (left : List ℕ) (s : State) → read_name (variable_end of_member_pointer) left s
    ≡ and_then (read_name marks left s)
    (λ _ l t. and_then (letter_here qualifiers l t)
    (λ _ k u. and_then (read_name repeated_class k u) (λ _ j v. Some (0, j, v))))
unfolding grammar read read_by
end_of_member_pointer left s = read_name-is (variable_end of_member_pointer) left s

pub end_of_value : (left : List ℕ) (s : State)
    → read_name (variable_end of_value) left s ≡ letter_here qualifiers left s
unfolding grammar read read_by
end_of_value left s = read_name-is (variable_end of_value) left s

pub repeated_class_step : (left : List ℕ) (s : State) → read_name repeated_class left s
    ≡ and_then (read_name repeated_name left s) (λ _ l t. read_name repeated_scope l t)
unfolding grammar read read_by
repeated_class_step left s = read_name-is repeated_class left s

repeated_scope_step : (left : List ℕ) (s : State) → read_name repeated_scope left s
    ≡ chosen (after (codes "@") left) (λ rest. Some (tt, rest, s))
    (and_then (read_name repeated_name left s) (λ _ l t. read_name repeated_scope l t))
unfolding grammar read read_by
repeated_scope_step left s =
    read_name-is repeated_scope left s
    ∙ literal_or-is {a = nothing} (codes "@") (give tt) (call repeated_name >> call repeated_scope) left s

pub scope_repeated : (left rest : List ℕ) (s : State) → after (codes "@") left ≡ Some rest
    → read_name repeated_scope left s ≡ Some (tt, rest, s)
scope_repeated left rest s e =
    repeated_scope_step left s
    ∙ ap (λ o. chosen o (λ rest. Some (tt, rest, s))
    (and_then (read_name repeated_name left s) (λ _ l t. read_name repeated_scope l t))) e

pub scope_unrepeated : (left : List ℕ) (s : State) → after (codes "@") left ≡ None
    → read_name repeated_name left s ≡ None → read_name repeated_scope left s ≡ None
scope_unrepeated left s e none =
    repeated_scope_step left s
    ∙ ap (λ o. chosen o (λ rest. Some (tt, rest, s))
    (and_then (read_name repeated_name left s) (λ _ l t. read_name repeated_scope l t))) e
    ∙ ap (λ o. and_then o (λ _ l t. read_name repeated_scope l t)) none

pub scope_repeats : (left l : List ℕ) (s t : State) → after (codes "@") left ≡ None
    → read_name repeated_name left s ≡ Some (tt, l, t)
    → read_name repeated_scope left s ≡ read_name repeated_scope l t
scope_repeats left l s t e some =
    repeated_scope_step left s
    ∙ ap (λ o. chosen o (λ rest. Some (tt, rest, s))
    (and_then (read_name repeated_name left s) (λ _ l t. read_name repeated_scope l t))) e
    ∙ ap (λ o. and_then o (λ _ l t. read_name repeated_scope l t)) some

pub repeated_name_step : (left : List ℕ) (s : State) → read_name repeated_name left s
    ≡ choose (letter_here digits left s) (λ d l t. name_stands (slice_get t.names d) l t)
    (chosen (after (codes "?A") left) (λ rest. and_then (read anonymous_name rest s) (λ _ l t. Some (tt, l, t)))
    (and_then (read_name source_name left s)
    (λ n l t. Some (tt, l, remember_name (spelled spelling_kind.Source n) t))))
unfolding grammar read read_by
repeated_name_step left s =
    read_name-is repeated_name left s
    ∙ letter_or-is {a = nothing} digits (λ i. stands i) (literal_or (codes "?A") unnamed named) left s
    ∙ ap (choose (letter_here digits left s) (λ d l t. name_stands (slice_get t.names d) l t))
    (literal_or-is {a = nothing} (codes "?A") unnamed named left s
    ∙ λ i. chosen (after (codes "?A") left) (λ rest. go (read_name anonymous_digits rest s) i) last)
  where
    last : Found (Unit {0})
    last = and_then (read_name source_name left s)
        (λ n l t. Some (tt, l, remember_name (spelled spelling_kind.Source n) t))

    unnamed : Rule Production nothing
    unnamed = do _ ← call anonymous_digits; give tt

    named : Rule Production nothing
    named = do n ← call source_name; remember (spelled spelling_kind.Source n)

    done : List ℕ → State → Found (Unit {0})
    done l t = Some (tt, l, t)

    go : (o : Found (Option (List ℕ)))
        → and_then o (λ _. done) ≡ and_then (and_then o (λ ds l t. Some (anonymous ds, l, t))) (λ _. done)
    go None = refl
    go (Some x) = refl

-- what stands after a shape, by its row
pub end_of_member_row : (row : ℕ) → (row == member_pointer_row) ≡ true → end_of_row row ≡ of_member_pointer
end_of_member_row row e =
    ap (λ t. cond t of_member_pointer (cond (some_of (λ r. row == r) pointer_rows) of_pointer of_value)) e

pub end_of_pointer_row : (row : ℕ) → (row == member_pointer_row) ≡ false → some_of (λ r. row == r) pointer_rows ≡ true
    → end_of_row row ≡ of_pointer
end_of_pointer_row row e h =
    ap (λ t. cond t of_member_pointer (cond (some_of (λ r. row == r) pointer_rows) of_pointer of_value)) e
    ∙ ap (λ t. cond t of_pointer of_value) h

pub end_of_other_row : (row : ℕ) → (row == member_pointer_row) ≡ false → some_of (λ r. row == r) pointer_rows ≡ false
    → end_of_row row ≡ of_value
end_of_other_row row e h =
    ap (λ t. cond t of_member_pointer (cond (some_of (λ r. row == r) pointer_rows) of_pointer of_value)) e
    ∙ ap (λ t. cond t of_pointer of_value) h

pub ruleset steps = (
  end_of_pointer,
  end_of_member_pointer,
  end_of_value,
  repeated_class_step,
  scope_repeated,
  scope_unrepeated,
  repeated_name_step,
)
