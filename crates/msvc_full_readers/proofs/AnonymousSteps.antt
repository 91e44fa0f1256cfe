-- Step lemmas of anonymous namespaces.
use Rattle.std.proofs.Common.{ℕ, List, [], ◌∷◌, ◌++◌, Option, Some, None, Bool, true, false, cond, ◌≡◌, refl, ap}
use Rattle.std.proofs.Common.{◌∙◌, append-nil}
use Rattle.std.specs.Prelude.{codes}
use Rattle.std.specs.List.{list_any}
use Rattle.std.specs.Prelude.{◌||◌}
use Rattle.msvc_nodes.specs.Trees.{NameTree, anonymous}
use Rattle.msvc_rules.specs.Readers.{Found, after_literal, and_then, in_node, letter_here, or_else, read_by}
use Rattle.msvc_rules.specs.Rules.{after, call, give, letter, literal, some_of, ◌>>=◌}
use Rattle.msvc_rules.specs.Sorts.{bits, list}
use Rattle.msvc_rules.specs.State.{State, remember_name}
use Rattle.msvc_grammar.specs.Reading.{read as crate_read}
use Rattle.msvc_full_grammar.specs.Grammar.{grammar}
use Rattle.msvc_full_grammar.specs.Fragments.{anonymous_namespace, has_capital}
use Rattle.msvc_full_grammar.specs.Letters.{hexadecimal_codes}
use Rattle.msvc_full_grammar.specs.Productions.{anonymous_digits, anonymous_kept, hexadecimal_digits}
use Rattle.msvc_full_grammar.specs.Reading.{read_name, read}
use Rattle.msvc_cursor.specs.Rows.{with_front}
use Rattle.msvc_full_grammar.proofs.Laws.{read_name-is}
use Rattle.msvc_cursor.proofs.Choices.{chosen}
use Rattle.msvc_cursor.proofs.RowSteps.{digits_stop, row_by, row_ends, row_more, row_rejected}
use Rattle.msvc_full_letters.proofs.Choices.{literal_or-is}
use Rattle.msvc_full_readers.specs.Readings.{anonymous_name}

pub anonymous_namespace_step : (left : List ℕ) (s : State)
    → read anonymous_namespace left s ≡ in_node left s (λ j a. read anonymous_name j a)
unfolding read read_by
anonymous_namespace_step left s = refl

-- the state after digits, by whether a capital is among them
abbrev pub kept : Bool → List ℕ → State → State
kept true ds s = s
kept false ds s = remember_name (anonymous (Some ds)) s

kept_step : (t : Bool) (ds left : List ℕ) (s : State)
    → read_name (anonymous_kept t ds) left s ≡ Some (tt, left, kept t (codes "0x" ++ ds) s)
unfolding grammar read read_by
kept_step true ds left s = read_name-is (anonymous_kept true ds) left s
kept_step false ds left s = read_name-is (anonymous_kept false ds) left s

-- a name of these digits
abbrev named : List ℕ → List ℕ → State → Found NameTree
named ds l t = Some (anonymous (Some ds), l, kept (has_capital ds) ds t)

pub anonymous_name_step : (left : List ℕ) (s : State) → read anonymous_name left s
    ≡ chosen (after (codes "@") left) (λ rest. Some (anonymous None, rest, s))
    (and_then (crate_read (literal (codes "0x")) left s)
    (λ _ j a. and_then (and_then (read_name hexadecimal_digits j a) (λ ds l t. Some (codes "0x" ++ ds, l, t)))
    (λ ds l t. Some (anonymous (Some ds), l, kept (has_capital ds) ds t))))
unfolding grammar read read_by crate_read
anonymous_name_step left s =
    ap (λ o. and_then o (λ ds l t. Some (anonymous ds, l, t))) (read_name-is anonymous_digits left s)
    ∙ at (after (codes "@") left) (after (codes "0x") left)
  where
    digits_then : Found (List ℕ) → Found (Option (List ℕ))
    digits_then o = and_then o (λ ds l t. and_then (read_name (anonymous_kept (has_capital ds) ds) l t)
        (λ _ k u. Some (Some (codes "0x" ++ ds), k, u)))

    with_digits : (o : Found (List ℕ))
        → and_then (digits_then o) (λ ds l t. Some (anonymous ds, l, t))
        ≡ and_then (and_then o (λ ds l t. Some (codes "0x" ++ ds, l, t))) named
    with_digits None = refl
    with_digits (Some x) =
        ap (λ o. and_then (and_then o (λ _ k u. Some (Some (codes "0x" ++ x.0), k, u)))
        (λ ds l t. Some (anonymous ds, l, t))) (kept_step (has_capital x.0) x.0 x.1 x.2)

    at : (o p : Option (List ℕ))
        → and_then (or_else (and_then (after_literal o s) (λ _ l t. Some (None, l, t)))
        (and_then (after_literal p s) (λ _ l t. digits_then (read_name hexadecimal_digits l t))))
        (λ ds l t. Some (anonymous ds, l, t))
        ≡ chosen o (λ rest. Some (anonymous None, rest, s))
        (and_then (after_literal p s)
        (λ _ j a. and_then (and_then (read_name hexadecimal_digits j a) (λ ds l t. Some (codes "0x" ++ ds, l, t)))
        named))
    at (Some rest) p = refl
    at None None = refl
    at None (Some rest) = with_digits (read_name hexadecimal_digits rest s)

-- digits up to an @

hexadecimal_digits_step : (left : List ℕ) (s : State)
    → read_name hexadecimal_digits left s
    ≡ row_by (read_name hexadecimal_digits) (digits_stop (after (codes "@") left))
    (letter_here hexadecimal_codes left s) s
unfolding grammar read read_by
hexadecimal_digits_step left s =
    read_name-is hexadecimal_digits left s
    ∙ literal_or-is {a = list bits} (codes "@") (give [])
    (do d ← letter bits hexadecimal_codes; ds ← call hexadecimal_digits; give (d ∷ ds)) left s
    ∙ go (after (codes "@") left)
  where
    go : (o : Option (List ℕ))
        → chosen o (λ rest. Some ([], rest, s))
        (and_then (letter_here hexadecimal_codes left s)
        (λ d l t. and_then (read_name hexadecimal_digits l t) (λ ds k u. Some (d ∷ ds, k, u))))
        ≡ row_by (read_name hexadecimal_digits) (digits_stop o) (letter_here hexadecimal_codes left s) s
    go None = refl
    go (Some rest) = refl

pub digits_start : (xs left : List ℕ) (s : State) → with_front xs (read_name hexadecimal_digits left s)
    ≡ and_then (read_name hexadecimal_digits left s) (λ ds l t. Some (xs ++ ds, l, t))
digits_start xs left s = go (read_name hexadecimal_digits left s)
  where
    go : (o : Found (List ℕ)) → with_front xs o ≡ and_then o (λ ds l t. Some (xs ++ ds, l, t))
    go None = refl
    go (Some y) = refl

pub digits_end : (xs : List ℕ) (left rest : List ℕ) (s : State) → after (codes "@") left ≡ Some rest
    → with_front xs (read_name hexadecimal_digits left s) ≡ Some (xs, rest, s)
digits_end xs left rest s e =
    row_ends (read_name hexadecimal_digits) (letter_here hexadecimal_codes)
    (λ l. digits_stop (after (codes "@") l)) hexadecimal_digits_step xs [] left rest s (ap digits_stop e)
    ∙ ap (λ z. Some (z, rest, s)) (append-nil xs)

pub digits_rejected : (xs : List ℕ) (left : List ℕ) (s : State) → after (codes "@") left ≡ None
    → letter_here hexadecimal_codes left s ≡ None → with_front xs (read_name hexadecimal_digits left s) ≡ None
digits_rejected xs left s e none =
    row_rejected (read_name hexadecimal_digits) (letter_here hexadecimal_codes)
    (λ l. digits_stop (after (codes "@") l)) hexadecimal_digits_step xs left s (ap digits_stop e) none

pub digits_more : (xs : List ℕ) (left l : List ℕ) (s t : State) (x : ℕ) → after (codes "@") left ≡ None
    → letter_here hexadecimal_codes left s ≡ Some (x, l, t)
    → with_front xs (read_name hexadecimal_digits left s) ≡ with_front (xs ++ x ∷ []) (read_name hexadecimal_digits l t)
digits_more xs left l s t x e some =
    row_more (read_name hexadecimal_digits) (letter_here hexadecimal_codes)
    (λ m. digits_stop (after (codes "@") m)) hexadecimal_digits_step xs left l s t x (ap digits_stop e) some

-- that an element passes a test, as an iterator finds it
pub any-some : (test : ℕ → Bool) (bs : List ℕ) → list_any test bs ≡ some_of test bs
any-some test [] = refl
any-some test (b ∷ bs) = go (test b) (any-some test bs)
  where
    go : (t : Bool) → list_any test bs ≡ some_of test bs → (t || list_any test bs) ≡ cond t true (some_of test bs)
    go true e = refl
    go false e = e

pub ruleset steps = (anonymous_namespace_step, anonymous_name_step, digits_start, digits_end, digits_rejected)
