-- Tables of string characters, split into parts, since a search handles one part at a time.
use Rattle.std.proofs.Common.{ℕ, List, [], ◌∷◌, ◌++◌, Some, None, Bool, true, false, cond, ◌==◌, ◌≡◌, refl}
use Rattle.std.proofs.Common.{◌∙◌}
use Rattle.std.specs.Prelude.{codes, drop, take}
use Rattle.msvc_rules.specs.Rules.{lookup}
use Rattle.msvc_grammar.specs.Letters.{escaped_characters, escaped_letters, escaped_signs, plain_characters, rows}

-- what the first table does not have
pub lookup-after : {A : Type 0} (b : ℕ) (table others : List (ℕ × A)) → lookup b table ≡ None
    → lookup b (table ++ others) ≡ lookup b others
lookup-after b [] others e = refl
lookup-after b (row ∷ table) others e = go (b == row.0) e (lookup-after b table others)
  where
    go : (t : Bool) → cond t (Some row.1) (lookup b table) ≡ None
        → (lookup b table ≡ None → lookup b (table ++ others) ≡ lookup b others)
        → cond t (Some row.1) (lookup b (table ++ others)) ≡ lookup b others
    go true e ih = absurd (cc)
    go false e ih = ih e

-- what the first table has
pub lookup-first : {A : Type 0} (b : ℕ) (table others : List (ℕ × A)) (x : A) → lookup b table ≡ Some x
    → lookup b (table ++ others) ≡ Some x
lookup-first b [] others x e = absurd (cc)
lookup-first b (row ∷ table) others x e = go (b == row.0) e (lookup-first b table others x)
  where
    go : (t : Bool) → cond t (Some row.1) (lookup b table) ≡ Some x
        → (lookup b table ≡ Some x → lookup b (table ++ others) ≡ Some x)
        → cond t (Some row.1) (lookup b (table ++ others)) ≡ Some x
    go true e ih = e
    go false e ih = ih e

abbrev pub digit_rows : List (ℕ × ℕ)
digit_rows = rows (codes "0123456789") (codes "0123456789")

abbrev pub small_rows : List (ℕ × ℕ)
small_rows = rows (codes "abcdefghijklmnopqrstuvwxyz") (codes "abcdefghijklmnopqrstuvwxyz")

abbrev pub capital_rows : List (ℕ × ℕ)
capital_rows = rows (codes "ABCDEFGHIJKLMNOPQRSTUVWXYZ") (codes "ABCDEFGHIJKLMNOPQRSTUVWXYZ")

abbrev pub other_rows : List (ℕ × ℕ)
other_rows = rows (codes "_$") (codes "_$")

pub plain_small : (b : ℕ) → lookup b digit_rows ≡ None
    → lookup b plain_characters ≡ lookup b (small_rows ++ capital_rows ++ other_rows)
plain_small b e = lookup-after b digit_rows (small_rows ++ capital_rows ++ other_rows) e

pub plain_capital : (b : ℕ) → lookup b digit_rows ≡ None → lookup b small_rows ≡ None
    → lookup b plain_characters ≡ lookup b (capital_rows ++ other_rows)
plain_capital b e f = plain_small b e ∙ lookup-after b small_rows (capital_rows ++ other_rows) f

pub capital_first : (b : ℕ) → lookup b digit_rows ≡ None → lookup b small_rows ≡ None
    → lookup b capital_rows ≡ Some b → lookup b plain_characters ≡ Some b
capital_first b e f g = plain_capital b e f ∙ lookup-first b capital_rows other_rows b g

pub plain_other : (b : ℕ) → lookup b digit_rows ≡ None → lookup b small_rows ≡ None → lookup b capital_rows ≡ None
    → lookup b plain_characters ≡ lookup b other_rows
plain_other b e f g = plain_capital b e f ∙ lookup-after b capital_rows other_rows g

-- the letters of a half of the alphabet, and those of the other

abbrev pub first_escapes : List (ℕ × ℕ)
first_escapes = take 26 escaped_letters

abbrev pub last_escapes : List (ℕ × ℕ)
last_escapes = drop 26 escaped_letters

pub escaped_other : (b : ℕ) → lookup b first_escapes ≡ None → lookup b last_escapes ≡ None
    → lookup b escaped_characters ≡ lookup b escaped_signs
escaped_other b e f =
    lookup-after b first_escapes (last_escapes ++ escaped_signs) e
    ∙ lookup-after b last_escapes escaped_signs f
