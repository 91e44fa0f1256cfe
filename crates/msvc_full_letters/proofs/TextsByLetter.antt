-- Texts of tables, by the letters that they begin with.
use Rattle.std.proofs.Common.{ℕ, List, [], ◌∷◌, Option, Some, None, Bool, true, false, cond, ◌==◌, ◌≡◌, refl, ap, ◌∙◌}
use Rattle.std.proofs.lemmas.Bool.{eq-eqb, eqb-true}
use Rattle.msvc_rules.specs.Rules.{after, lookup}
use Rattle.msvc_full_grammar.specs.Letters.{code_texts, encoding_texts, function_texts, operator_texts}
use Rattle.msvc_cursor.specs.Parser.{at_rest, this_or, text_at}
use Rattle.msvc_full_letters.specs.Texts.{dollar, encoding_at, encoding_dollar_texts, encoding_letters, function_at}
use Rattle.msvc_full_letters.specs.Texts.{function_dollar_texts, function_letters, operator_at, operator_letters}
use Rattle.msvc_full_letters.specs.Texts.{code_at, code_dollar_texts, code_letters, text_by, under_operator_texts}
use Rattle.msvc_full_letters.specs.Texts.{underscore}

-- what one table has, or what others have
abbrev first_of : {A : Type 0} → Option A → Option A → Option A
first_of None other = other
first_of (Some x) other = Some x

first_none : {A : Type 0} (o : Option A) → first_of o None ≡ o
first_none None = refl
first_none (Some x) = refl

-- each letter of a table as a text of its own, and other texts
abbrev singles : {A : Type 0} → List (ℕ × A) → List (List ℕ × A) → List (List ℕ × A)
singles [] others = others
singles (row ∷ table) others = (row.0 ∷ [], row.1) ∷ singles table others

singles-are : {A : Type 0} (table : List (ℕ × A)) (others : List (List ℕ × A)) (b : ℕ) (bs : List ℕ)
    → text_at (singles table others) (b ∷ bs) ≡ first_of (at_rest (lookup b table) bs) (text_at others (b ∷ bs))
unfolding text_at
singles-are [] others b bs = refl
singles-are (row ∷ table) others b bs = go (b == row.0) (singles-are table others b bs)
  where
    go : (t : Bool) → text_at (singles table others) (b ∷ bs)
        ≡ first_of (at_rest (lookup b table) bs) (text_at others (b ∷ bs))
        → this_or row.1 (cond t (Some bs) None) (text_at (singles table others) (b ∷ bs))
        ≡ first_of (at_rest (cond t (Some row.1) (lookup b table)) bs) (text_at others (b ∷ bs))
    go true e = refl
    go false e = e

-- texts that all begin with one letter
abbrev pub led_by : {A : Type 0} → ℕ → List (List ℕ × A) → List (List ℕ × A)
led_by c [] = []
led_by c (row ∷ table) = (c ∷ row.0, row.1) ∷ led_by c table

pub led_by-none : {A : Type 0} (c : ℕ) (table : List (List ℕ × A)) (b : ℕ) (bs : List ℕ) → (b == c) ≡ false
    → text_at (led_by c table) (b ∷ bs) ≡ None
unfolding text_at
led_by-none c [] b bs e = refl
led_by-none c (row ∷ table) b bs e =
    ap (λ t. this_or row.1 (cond t (after row.0 bs) None) (text_at (led_by c table) (b ∷ bs))) e
    ∙ led_by-none c table b bs e

after_lead : {A : Type 0} (c : ℕ) (table : List (List ℕ × A)) (bs : List ℕ)
    → text_at (led_by c table) (c ∷ bs) ≡ text_at table bs
unfolding text_at
after_lead c [] bs = refl
after_lead c (row ∷ table) bs =
    ap (λ t. this_or row.1 (cond t (after row.0 bs) None) (text_at (led_by c table) (c ∷ bs))) (eq-eqb c c refl)
    ∙ ap (this_or row.1 (after row.0 bs)) (after_lead c table bs)

-- letters, and texts that begin with another letter
by_letter : {A : Type 0} (c : ℕ) (texts : List (List ℕ × A)) (letters : List (ℕ × A)) (left : List ℕ)
    → lookup c letters ≡ None → text_at (singles letters (led_by c texts)) left ≡ text_by c texts letters left
unfolding text_at
by_letter {A = A} c texts letters [] none = at_end letters
  where
    led_end : (table : List (List ℕ × A)) → text_at (led_by c table) [] ≡ None
    led_end [] = refl
    led_end (row ∷ table) = led_end table

    at_end : (table : List (ℕ × A)) → text_at (singles table (led_by c texts)) [] ≡ None
    at_end [] = led_end texts
    at_end (row ∷ table) = at_end table
by_letter c texts letters (b ∷ bs) none =
    singles-are letters (led_by c texts) b bs
    ∙ go (b == c) refl
  where
    go : (t : Bool) → (b == c) ≡ t
        → first_of (at_rest (lookup b letters) bs) (text_at (led_by c texts) (b ∷ bs))
        ≡ cond t (text_at texts bs) (at_rest (lookup b letters) bs)
    go true e =
        ap (λ x. first_of (at_rest (lookup x letters) bs) (text_at (led_by c texts) (x ∷ bs))) (eqb-true b c e)
        ∙ ap (λ o. first_of (at_rest o bs) (text_at (led_by c texts) (c ∷ bs))) none
        ∙ after_lead c texts bs
    go false e =
        ap (first_of (at_rest (lookup b letters) bs)) (led_by-none c texts b bs e)
        ∙ first_none (at_rest (lookup b letters) bs)

-- the encoding, the function and the operator that begin, by their letters or after a $ or a _
pub encoding_by_letter : (left : List ℕ) → text_at encoding_texts left ≡ encoding_at left
unfolding encoding_at
encoding_by_letter left = by_letter dollar encoding_dollar_texts encoding_letters left refl

pub function_by_letter : (left : List ℕ) → text_at function_texts left ≡ function_at left
unfolding function_at
function_by_letter left = by_letter dollar function_dollar_texts function_letters left refl

pub code_by_letter : (left : List ℕ) → text_at code_texts left ≡ code_at left
unfolding code_at
code_by_letter left = by_letter dollar code_dollar_texts code_letters left refl

pub operator_by_letter : (left : List ℕ) → text_at operator_texts left ≡ operator_at left
unfolding operator_at
operator_by_letter left = by_letter underscore under_operator_texts operator_letters left refl
