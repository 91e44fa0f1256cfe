-- Step lemmas of repetitions, as of names up to an @: what is read of the rest is appended to the elements so far.
use Rattle.std.proofs.Common.{ℕ, ℤ, zero, suc, List, [], ◌∷◌, ◌++◌, Option, Some, None, Bool, true, false, cond, not}
use Rattle.std.proofs.Common.{◌≡◌, ◌==◌, ◌<◌, refl, sym, ap, ◌∙◌, arith, append_assoc, append-nil}
use Rattle.std.specs.Prelude.{is_some, codes}
use Rattle.msvc_nodes.specs.declared.kinds.PlainType.TheVariants as plain_kind
use Rattle.msvc_nodes.specs.Trees.{NameTree, TypeTree, plain}
use Rattle.msvc_rules.specs.Readers.{Found, read_by, letter_here, after_literal, and_then, or_else, counting, in_node}
use Rattle.msvc_rules.specs.Rules.{after, give, letter, call, ◌>>=◌}
use Rattle.msvc_rules.specs.Sorts.{bits, name_tree, list}
use Rattle.msvc_rules.specs.State.{State}
use Rattle.msvc_grammar.specs.Grammar.{grammar}
use Rattle.msvc_grammar.specs.Letters.{at_sign, ellipsis_letter, hexadecimal_codes}
use Rattle.msvc_grammar.specs.Productions.{parameters, parameter, lengths, scope, nested_name, hexadecimal_digits}
use Rattle.msvc_grammar.specs.Productions.{number}
use Rattle.msvc_grammar.specs.Reading.{read_name, read}
use Rattle.msvc_grammar.proofs.Laws.{read_name-is}
use Rattle.msvc_cursor.specs.Parser.{counting_ellipsis, ellipsis_types, parameters_stop}
use Rattle.msvc_cursor.specs.Rows.{with_front}
use Rattle.msvc_grammar.specs.declared.forms.Ellipsis.{Ellipsis}
use Rattle.msvc_grammar.specs.declared.forms.Ellipsis.TheVariants.{Absent, Present}
use Rattle.msvc_cursor.proofs.Choices.{chosen, literal_or-is, or_none}

pub front_none : {A : Type 0} (o : Found (List A)) → with_front [] o ≡ o
front_none None = refl
front_none (Some y) = refl

pub front_first : {A : Type 0} (xs : List A) (x : A) (o : Found (List A))
    → with_front xs (and_then o (λ ys k u. Some (x ∷ ys, k, u))) ≡ with_front (xs ++ x ∷ []) o
front_first xs x None = refl
front_first xs x (Some y) = ap (λ z. Some (z, y.1, y.2)) (sym (append_assoc xs (x ∷ []) y.0))

-- a row stops here, with these after those so far, or one more is read and then others
abbrev pub row_by : {A : Type 0} → (List ℕ → State → Found (List A)) → Option (List A × List ℕ) → Found A → State
    → Found (List A)
row_by others (Some end) first s = Some (end.0, end.1, s)
row_by others None first s = and_then first (λ x l t. and_then (others l t) (λ xs k u. Some (x ∷ xs, k, u)))

module _ {A : Type 0} (row : List ℕ → State → Found (List A)) (item : List ℕ → State → Found A)
    (stop : List ℕ → Option (List A × List ℕ))
    (step : (left : List ℕ) (s : State) → row left s ≡ row_by row (stop left) (item left s) s) where
  pub row_ends : (xs ys : List A) (left rest : List ℕ) (s : State) → stop left ≡ Some (ys, rest)
      → with_front xs (row left s) ≡ Some (xs ++ ys, rest, s)
  row_ends xs ys left rest s e = ap (with_front xs) (step left s ∙ ap (λ o. row_by row o (item left s) s) e)

  pub row_rejected : (xs : List A) (left : List ℕ) (s : State) → stop left ≡ None → item left s ≡ None
      → with_front xs (row left s) ≡ None
  row_rejected xs left s e none =
      ap (with_front xs) (step left s ∙ ap (λ o. row_by row o (item left s) s) e ∙ ap (λ o. row_by row None o s) none)

  pub row_more : (xs : List A) (left l : List ℕ) (s t : State) (x : A) → stop left ≡ None → item left s ≡ Some (x, l, t)
      → with_front xs (row left s) ≡ with_front (xs ++ x ∷ []) (row l t)
  row_more xs left l s t x e some =
      ap (with_front xs) (step left s ∙ ap (λ o. row_by row o (item left s) s) e ∙ ap (λ o. row_by row None o s) some)
      ∙ front_first xs x (row l t)

-- names up to an @

abbrev pub scope_stop : Option (List ℕ) → Option (List NameTree × List ℕ)
scope_stop None = None
scope_stop (Some rest) = Some ([], rest)

pub scope_step : (left : List ℕ) (s : State)
    → read_name scope left s
    ≡ row_by (read_name scope) (scope_stop (after (codes "@") left)) (read_name nested_name left s) s
unfolding grammar read read_by
scope_step left s =
    read_name-is scope left s
    ∙ literal_or-is {a =
    list name_tree} (codes "@") (give []) (do n ← call nested_name; ns ← call scope; give (n ∷ ns)) left s
    ∙ go (after (codes "@") left)
  where
    go : (o : Option (List ℕ))
        → chosen o (λ rest. Some ([], rest, s))
        (and_then (read_name nested_name left s)
        (λ n l t. and_then (read_name scope l t) (λ ns k u. Some (n ∷ ns, k, u))))
        ≡ row_by (read_name scope) (scope_stop o) (read_name nested_name left s) s
    go None = refl
    go (Some rest) = refl

pub scope_starts : (left : List ℕ) (s : State) → with_front [] (read_name scope left s) ≡ read_name scope left s
scope_starts left s = front_none (read_name scope left s)

pub scope_ends : (xs : List NameTree) (left rest : List ℕ) (s : State) → after (codes "@") left ≡ Some rest
    → with_front xs (read_name scope left s) ≡ Some (xs, rest, s)
scope_ends xs left rest s e =
    row_ends (read_name scope) (read_name nested_name)
    (λ l. scope_stop (after (codes "@") l)) scope_step xs [] left rest s (ap scope_stop e)
    ∙ ap (λ z. Some (z, rest, s)) (append-nil xs)

pub scope_rejected : (xs : List NameTree) (left : List ℕ) (s : State) → after (codes "@") left ≡ None
    → read_name nested_name left s ≡ None → with_front xs (read_name scope left s) ≡ None
scope_rejected xs left s e none =
    row_rejected (read_name scope) (read_name nested_name)
    (λ l. scope_stop (after (codes "@") l)) scope_step xs left s (ap scope_stop e) none

pub scope_more : (xs : List NameTree) (left l : List ℕ) (s t : State) (x : NameTree) → after (codes "@") left ≡ None
    → read_name nested_name left s ≡ Some (x, l, t)
    → with_front xs (read_name scope left s) ≡ with_front (xs ++ x ∷ []) (read_name scope l t)
scope_more xs left l s t x e some =
    row_more (read_name scope) (read_name nested_name)
    (λ m. scope_stop (after (codes "@") m)) scope_step xs left l s t x (ap scope_stop e) some

-- digits up to an @

abbrev pub digits_stop : Option (List ℕ) → Option (List ℕ × List ℕ)
digits_stop None = None
digits_stop (Some rest) = Some ([], rest)

pub hexadecimal_digits_step : (left : List ℕ) (s : State)
    → read_name hexadecimal_digits left s
    ≡ row_by (read_name hexadecimal_digits) (digits_stop (after (codes "@") left))
    (letter_here hexadecimal_codes left s) s
unfolding grammar read read_by
hexadecimal_digits_step left s =
    read_name-is hexadecimal_digits left s
    ∙ literal_or-is {a = list bits} (codes "@") (give [])
    (do d ← letter bits hexadecimal_codes; ds ← call hexadecimal_digits; give (d ∷ ds)) left s
    ∙ go (after (codes "@") left)
  where
    go : (o : Option (List ℕ))
        → chosen o (λ rest. Some ([], rest, s))
        (and_then (letter_here hexadecimal_codes left s)
        (λ d l t. and_then (read_name hexadecimal_digits l t) (λ ds k u. Some (d ∷ ds, k, u))))
        ≡ row_by (read_name hexadecimal_digits) (digits_stop o) (letter_here hexadecimal_codes left s) s
    go None = refl
    go (Some rest) = refl

pub digits_start : (xs left : List ℕ) (s : State) → with_front xs (read_name hexadecimal_digits left s)
    ≡ and_then (read_name hexadecimal_digits left s) (λ ds l t. Some (xs ++ ds, l, t))
digits_start xs left s = go (read_name hexadecimal_digits left s)
  where
    go : (o : Found (List ℕ)) → with_front xs o ≡ and_then o (λ ds l t. Some (xs ++ ds, l, t))
    go None = refl
    go (Some y) = refl

pub digits_end : (xs : List ℕ) (left rest : List ℕ) (s : State) → after (codes "@") left ≡ Some rest
    → with_front xs (read_name hexadecimal_digits left s) ≡ Some (xs, rest, s)
digits_end xs left rest s e =
    row_ends (read_name hexadecimal_digits) (letter_here hexadecimal_codes)
    (λ l. digits_stop (after (codes "@") l)) hexadecimal_digits_step xs [] left rest s (ap digits_stop e)
    ∙ ap (λ z. Some (z, rest, s)) (append-nil xs)

pub digits_rejected : (xs : List ℕ) (left : List ℕ) (s : State) → after (codes "@") left ≡ None
    → letter_here hexadecimal_codes left s ≡ None → with_front xs (read_name hexadecimal_digits left s) ≡ None
digits_rejected xs left s e none =
    row_rejected (read_name hexadecimal_digits) (letter_here hexadecimal_codes)
    (λ l. digits_stop (after (codes "@") l)) hexadecimal_digits_step xs left s (ap digits_stop e) none

pub digits_more : (xs : List ℕ) (left l : List ℕ) (s t : State) (x : ℕ) → after (codes "@") left ≡ None
    → letter_here hexadecimal_codes left s ≡ Some (x, l, t)
    → with_front xs (read_name hexadecimal_digits left s) ≡ with_front (xs ++ x ∷ []) (read_name hexadecimal_digits l t)
digits_more xs left l s t x e some =
    row_more (read_name hexadecimal_digits) (letter_here hexadecimal_codes)
    (λ m. digits_stop (after (codes "@") m)) hexadecimal_digits_step xs left l s t x (ap digits_stop e) some

-- parameters up to their end

-- an ellipsis counts where the list stops
abbrev pub stopped : Ellipsis → List ℕ → State → Found (List TypeTree)
stopped more left s = and_then (counting_ellipsis more left s) (λ _ l t. Some (ellipsis_types more, l, t))

-- the list stops here, or one more is read and then others
abbrev pub parameters_by : Option (Ellipsis × List ℕ) → Found TypeTree → State → Found (List TypeTree)
parameters_by (Some stop) first s = stopped stop.0 stop.1 s
parameters_by None first s =
    and_then first (λ x l t. and_then (read_name parameters l t) (λ xs k u. Some (x ∷ xs, k, u)))

pub parameters_step : (left : List ℕ) (s : State) → read_name parameters left s
    ≡ parameters_by (parameters_stop left) (read_name parameter left s) s
unfolding grammar read read_by parameters_stop
parameters_step [] s = read_name-is parameters [] s
parameters_step (b ∷ bs) s = read_name-is parameters (b ∷ bs) s ∙ go (b == at_sign) (b == ellipsis_letter)
  where
    others : Found (List TypeTree)
    others = and_then (read_name parameter (b ∷ bs) s)
        (λ x l t. and_then (read_name parameters l t) (λ xs k u. Some (x ∷ xs, k, u)))

    go : (t u : Bool)
        → or_else (and_then (after_literal (cond t (Some bs) None) s) (λ _ l v. Some ([], l, v)))
        (or_else (and_then (after_literal (cond u (Some bs) None) s)
        (λ _ l v. in_node l v (λ k w. Some (plain plain_kind.Variadic ∷ [], k, w))))
        (cond (not (cond (is_some (cond t (Some bs) None)) true (cond (is_some (cond u (Some bs) None)) true false)))
        others None))
        ≡ parameters_by (cond t (Some (Absent, bs)) (cond u (Some (Present, bs)) None))
        (read_name parameter (b ∷ bs) s) s
    go true u = refl
    go false true = or_none (in_node bs s (λ k w. Some (plain plain_kind.Variadic ∷ [], k, w)))
    go false false = refl

pub parameters_starts : (left : List ℕ) (s : State)
    → with_front [] (read_name parameters left s) ≡ read_name parameters left s
parameters_starts left s = front_none (read_name parameters left s)

pub parameters_ends : (xs : List TypeTree) (left rest : List ℕ) (more : Ellipsis) (s : State)
    → parameters_stop left ≡ Some (more, rest)
    → with_front xs (read_name parameters left s)
    ≡ and_then (counting_ellipsis more rest s) (λ _ l t. Some (xs ++ ellipsis_types more, l, t))
parameters_ends xs left rest more s e =
    ap (with_front xs) (parameters_step left s ∙ ap (λ o. parameters_by o (read_name parameter left s) s) e)
    ∙ go (counting_ellipsis more rest s)
  where
    go : (o : Found (Unit {0})) → with_front xs (and_then o (λ _ l t. Some (ellipsis_types more, l, t)))
        ≡ and_then o (λ _ l t. Some (xs ++ ellipsis_types more, l, t))
    go None = refl
    go (Some x) = refl

pub parameters_ended : (xs : List TypeTree) (left rest l : List ℕ) (more : Ellipsis) (s t : State)
    → parameters_stop left ≡ Some (more, rest) → counting_ellipsis more rest s ≡ Some (tt, l, t)
    → with_front xs (read_name parameters left s) ≡ Some (xs ++ ellipsis_types more, l, t)
parameters_ended xs left rest l more s t e counted =
    parameters_ends xs left rest more s e
    ∙ ap (λ o. and_then o (λ _ k u. Some (xs ++ ellipsis_types more, k, u))) counted

pub parameters_uncounted : (xs : List TypeTree) (left rest : List ℕ) (more : Ellipsis) (s : State)
    → parameters_stop left ≡ Some (more, rest) → counting_ellipsis more rest s ≡ None
    → with_front xs (read_name parameters left s) ≡ None
parameters_uncounted xs left rest more s e none =
    parameters_ends xs left rest more s e
    ∙ ap (λ o. and_then o (λ _ k u. Some (xs ++ ellipsis_types more, k, u))) none

pub parameters_rejected : (xs : List TypeTree) (left : List ℕ) (s : State) → parameters_stop left ≡ None
    → read_name parameter left s ≡ None
    → with_front xs (read_name parameters left s) ≡ None
parameters_rejected xs left s e none =
    ap (with_front xs) (parameters_step left s ∙ ap (λ o. parameters_by o (read_name parameter left s) s) e
    ∙ ap (λ o. parameters_by None o s) none)

pub parameters_more : (xs : List TypeTree) (left l : List ℕ) (s t : State) (x : TypeTree) → parameters_stop left ≡ None
    → read_name parameter left s ≡ Some (x, l, t)
    → with_front xs (read_name parameters left s) ≡ with_front (xs ++ x ∷ []) (read_name parameters l t)
parameters_more xs left l s t x e some =
    ap (with_front xs) (parameters_step left s ∙ ap (λ o. parameters_by o (read_name parameter left s) s) e
    ∙ ap (λ o. parameters_by None o s) some)
    ∙ front_first xs x (read_name parameters l t)

-- as many numbers, each of which counts before it is read

lengths_step : (n : ℕ) (left : List ℕ) (s : State) → read_name (lengths (suc n)) left s
    ≡ in_node left s (λ j a. and_then (read_name number j a)
    (λ z l t. and_then (read_name (lengths n) l t) (λ zs k u. Some (z ∷ zs, k, u))))
unfolding grammar read read_by
lengths_step n left s = read_name-is (lengths (suc n)) left s

pub lengths_starts : (n : ℕ) (left : List ℕ) (s : State)
    → with_front [] (read_name (lengths n) left s) ≡ read_name (lengths n) left s
lengths_starts n left s = front_none (read_name (lengths n) left s)

pub lengths_ends : (zs : List ℤ) (n : ℕ) (left : List ℕ) (s : State) → n ≡ 0
    → with_front zs (read_name (lengths n) left s) ≡ Some (zs, left, s)
unfolding grammar read read_by
lengths_ends zs zero left s e =
    ap (with_front zs) (read_name-is (lengths zero) left s) ∙ ap (λ ys. Some (ys, left, s)) (append-nil zs)
lengths_ends zs (suc n) left s e = absurd (omega arith)

-- what is read once one more was counted
abbrev one_more : ℕ → List ℕ → State → Found (List ℤ)
one_more n j a =
    and_then (read_name number j a) (λ z l t. and_then (read_name (lengths n) l t) (λ zs k u. Some (z ∷ zs, k, u)))

pub lengths_uncounted : (zs : List ℤ) (n : ℕ) (left : List ℕ) (s : State) → 0 < n
    → counting s.count.weight left s ≡ None
    → with_front zs (read_name (lengths n) left s) ≡ None
lengths_uncounted zs zero left s h none = absurd (omega arith)
lengths_uncounted zs (suc n) left s h none =
    ap (with_front zs) (lengths_step n left s ∙ ap (λ o. and_then o (λ _. one_more n)) none)

pub lengths_rejected : (zs : List ℤ) (n : ℕ) (left j : List ℕ) (s a : State) → 0 < n
    → counting s.count.weight left s ≡ Some (tt, j, a) → read_name number j a ≡ None
    → with_front zs (read_name (lengths n) left s) ≡ None
lengths_rejected zs zero left j s a h e none = absurd (omega arith)
lengths_rejected zs (suc n) left j s a h e none =
    ap (with_front zs) (lengths_step n left s ∙ ap (λ o. and_then o (λ _. one_more n)) e
    ∙ ap (λ o. and_then o (λ z l t. and_then (read_name (lengths n) l t) (λ ys k u. Some (z ∷ ys, k, u)))) none)

pub lengths_more : (zs : List ℤ) (n m : ℕ) (left j l : List ℕ) (s a t : State) (z : ℤ) → n ≡ suc m
    → counting s.count.weight left s ≡ Some (tt, j, a) → read_name number j a ≡ Some (z, l, t)
    → with_front zs (read_name (lengths n) left s) ≡ with_front (zs ++ z ∷ []) (read_name (lengths m) l t)
lengths_more zs zero m left j l s a t z h e some = absurd (omega arith)
lengths_more zs (suc n) m left j l s a t z h e some =
    ap (with_front zs) (lengths_step n left s ∙ ap (λ o. and_then o (λ _. one_more n)) e
    ∙ ap (λ o. and_then o (λ y k u. and_then (read_name (lengths n) k u) (λ ys i v. Some (y ∷ ys, i, v)))) some)
    ∙ front_first zs z (read_name (lengths n) l t)
    ∙ ap (λ k. with_front (zs ++ z ∷ []) (read_name (lengths k) l t)) (let same : n ≡ m = omega arith in same)

pub ruleset steps = (
  scope_starts,
  scope_ends,
  scope_rejected,
  digits_start,
  digits_end,
  digits_rejected,
  parameters_starts,
  parameters_ended,
  parameters_uncounted,
  parameters_rejected,
  lengths_starts,
  lengths_ends,
  lengths_uncounted,
  lengths_rejected,
)
