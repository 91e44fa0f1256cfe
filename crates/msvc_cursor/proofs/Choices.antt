-- Choices in the form of the code: by the next byte, or by a text that the bytes begin with.
use Rattle.std.proofs.Common.{ℕ, List, [], ◌∷◌, Option, Some, None, Bool, true, false, cond, not, ◌≡◌, ◌==◌, refl, ap}
use Rattle.std.proofs.Common.{◌∙◌}
use Rattle.std.specs.Prelude.{is_some}
use Rattle.std.specs.Option.{option_map_or}
use Rattle.msvc_rules.specs.Readers.{Found, Reader, read_by, letter_here, with_value, after_literal, and_then, or_else}
use Rattle.msvc_rules.specs.Rules.{holds, none_of, some_of, after, lookup, Rule, begins_of, letter_or, literal_or}
use Rattle.msvc_rules.specs.Rules.{begins, every, text_and, text_or, texts_of}
use Rattle.msvc_rules.specs.Sorts.{Sort}
use Rattle.msvc_rules.specs.State.{State}
use Rattle.msvc_rules.proofs.Checks.{apart_texts, differ}
use Rattle.msvc_rules.proofs.FirstSets.{differ-never, if_both}
use Rattle.msvc_grammar.specs.Grammar.{grammar}
use Rattle.msvc_grammar.specs.Letters.{rows_of}
use Rattle.msvc_grammar.specs.Productions.{Production, required}
use Rattle.msvc_grammar.specs.Reading.{read_name, read}
use Rattle.msvc_grammar.proofs.Laws.{read_name-is}
use Rattle.msvc_cursor.specs.Parser.{byte_here, text_at, this_or}

pub or_none : {A : Type 0} (o : Found A) → or_else o None ≡ o
or_none None = refl
or_none (Some y) = refl

-- two forms of choice, as the program makes them

abbrev pub choose : {A B : Type 0} → Found A → (A → List ℕ → State → Found B) → Found B → Found B
choose None f q = q
choose (Some x) f q = f x.0 x.1 x.2

abbrev pub chosen : {B : Type 0} → Option (List ℕ) → (List ℕ → Found B) → Found B → Found B
chosen None f q = q
chosen (Some rest) f q = f rest

pub no_letter : {A : Type 0} (table : List (ℕ × A)) (b : ℕ) (bs : List ℕ)
    → (lookup b table ≡ None → holds (none_of (begins_of table)) (b ∷ bs) ≡ true)
    × ((x : A) → lookup b table ≡ Some x → holds (none_of (begins_of table)) (b ∷ bs) ≡ false)
no_letter [] b bs = (λ e. refl, λ x e. absurd (cc))
no_letter (row ∷ rows) b bs = go (b == row.0) (no_letter rows b bs)
  where
    go : (t : Bool) → ((lookup b rows ≡ None → holds (none_of (begins_of rows)) (b ∷ bs) ≡ true)
        × ((x : _) → lookup b rows ≡ Some x → holds (none_of (begins_of rows)) (b ∷ bs) ≡ false))
        → ((cond t (Some row.1) (lookup b rows) ≡ None
        → not (cond (is_some (cond t (Some bs) None)) true (some_of (begins (b ∷ bs)) (begins_of rows))) ≡ true)
        × ((x : _) → cond t (Some row.1) (lookup b rows) ≡ Some x
        → not (cond (is_some (cond t (Some bs) None)) true (some_of (begins (b ∷ bs)) (begins_of rows))) ≡ false))
    go true ih = (λ e. absurd (cc), λ x e. refl)
    go false ih = ih

choice : {A B : Type 0} (o : Option A) (t : Bool) (bs : List ℕ) (s : State) (f : A → List ℕ → State → Found B)
    (q : Found B)
    → (o ≡ None → t ≡ true) × ((x : A) → o ≡ Some x → t ≡ false)
    → or_else (and_then (with_value o bs s) f) (cond t q None) ≡ choose (with_value o bs s) f q
choice None t bs s f q h = ap (λ z. cond z q None) (h.0 refl)
choice (Some x) t bs s f q h = ap (λ z. or_else (f x bs s) (cond z q None)) (h.1 x refl) ∙ whole (f x bs s)
  where
    whole : {B : Type 0} (r : Found B) → or_else r None ≡ r
    whole None = refl
    whole (Some y) = refl

-- Tables of texts

-- a choice by the text of a table that begins, as the program makes it
abbrev pub by_text : {A B : Type 0} → Option (A × List ℕ) → (A → List ℕ → Found B) → Found B → Found B
by_text None f q = q
by_text (Some x) f q = f x.0 x.1

-- where one text begins, those that differ from it do not
none_at : {A : Type 0} (l left : List ℕ) (table : List (List ℕ × A)) → begins left l ≡ true
    → every (λ other. differ l other.0) table ≡ true → text_at table left ≡ None
unfolding text_at
none_at l left [] b h = refl
none_at l left (row ∷ table) b h =
    let parts : (differ l row.0 ≡ true) × (every (λ other. differ l other.0) table ≡ true) =
    if_both (differ l row.0) (every (λ other. differ l other.0) table) h in
    go (after row.0 left) refl parts.0 (none_at l left table b parts.1)
  where
    go : (o : Option (List ℕ)) → after row.0 left ≡ o → differ l row.0 ≡ true → text_at table left ≡ None
        → this_or row.1 o (text_at table left) ≡ None
    go None e d ih = ih
    go (Some rest) e d ih = absurd (differ-never l row.0 left d b (ap is_some e))

some_text : {A : Type 0} (table : List (List ℕ × A)) (left : List ℕ)
    → some_of (begins left) (texts_of table) ≡ is_some (text_at table left)
unfolding text_at
some_text [] left = refl
some_text (row ∷ table) left = go (after row.0 left) (some_text table left)
  where
    go : (o : Option (List ℕ)) → some_of (begins left) (texts_of table) ≡ is_some (text_at table left)
        → cond (is_some o) true (some_of (begins left) (texts_of table))
        ≡ is_some (this_or row.1 o (text_at table left))
    go None ih = ih
    go (Some rest) ih = refl

-- choices of any grammar, whose productions are read by `calls`
module _ {P : Sort → Type 0} (calls : (b : Sort) → P b → Reader b) where
  pub letter_or-by : {a : Sort} (table : List (ℕ × ℕ)) (f : ℕ → Rule P a) (q : Rule P a) (left : List ℕ) (s : State)
      → read_by calls (letter_or table f q) left s
      ≡ choose (letter_here table left s) (λ x. read_by calls (f x)) (read_by calls q left s)
  unfolding read_by
  letter_or-by table f q [] s = ap (λ t. cond t (read_by calls q [] s) None) (go table)
    where
      go : (rows : List (ℕ × ℕ)) → holds (none_of (begins_of rows)) [] ≡ true
      go [] = refl
      go (row ∷ rows) = go rows
  letter_or-by table f q (b ∷ bs) s =
      choice (lookup b table) (holds (none_of (begins_of table)) (b ∷ bs)) bs s
      (λ x. read_by calls (f x)) (read_by calls q (b ∷ bs) s) (no_letter table b bs)

  pub literal_or-by : {a : Sort} (l : List ℕ) (r q : Rule P a) (left : List ℕ) (s : State)
      → read_by calls (literal_or l r q) left s
      ≡ chosen (after l left) (λ rest. read_by calls r rest s) (read_by calls q left s)
  unfolding read_by
  literal_or-by l r q left s = go (after l left)
    where
      go : (o : Option (List ℕ))
          → or_else (and_then (after_literal o s) (λ _. read_by calls r))
          (cond (not (cond (is_some o) true false)) (read_by calls q left s) None)
          ≡ chosen o (λ rest. read_by calls r rest s) (read_by calls q left s)
      go None = refl
      go (Some rest) = or_none (read_by calls r rest s)

  pub text_and-by : {a : Sort} {A : Type 0} (table : List (List ℕ × A)) (f : A → Rule P a) (left : List ℕ) (s : State)
      → apart_texts table ≡ true
      → read_by calls (text_and table f) left s
      ≡ by_text (text_at table left) (λ x rest. read_by calls (f x) rest s) None
  unfolding read_by text_at
  text_and-by [] f [] s h = refl
  text_and-by [] f (b ∷ bs) s h = refl
  text_and-by (row ∷ table) f left s h =
      let parts : (every (λ other. differ row.0 other.0) table ≡ true) × (apart_texts table ≡ true) =
      if_both (every (λ other. differ row.0 other.0) table) (apart_texts table) h in
      go (after row.0 left) refl parts.0 (text_and-by table f left s parts.1)
    where
      go : (o : Option (List ℕ)) → after row.0 left ≡ o → every (λ other. differ row.0 other.0) table ≡ true
          → read_by calls (text_and table f) left s
          ≡ by_text (text_at table left) (λ x rest. read_by calls (f x) rest s) None
          → or_else (and_then (after_literal o s) (λ _. read_by calls (f row.1)))
          (read_by calls (text_and table f) left s)
          ≡ by_text (this_or row.1 o (text_at table left)) (λ x rest. read_by calls (f x) rest s) None
      go None e d ih = ih
      go (Some rest) e d ih =
          ap (or_else (read_by calls (f row.1) rest s)) (ih
          ∙ ap (λ o. by_text o (λ x l. read_by calls (f x) l s) None) (none_at row.0 left table (ap is_some e) d))
          ∙ or_none (read_by calls (f row.1) rest s)

  pub text_or-by : {a : Sort} {A : Type 0} (table : List (List ℕ × A)) (f : A → Rule P a) (q : Rule P a)
      (left : List ℕ) (s : State) → apart_texts table ≡ true
      → read_by calls (text_or table f q) left s
      ≡ by_text (text_at table left) (λ x rest. read_by calls (f x) rest s) (read_by calls q left s)
  unfolding read_by
  text_or-by table f q left s h =
      ap (λ o. or_else o (cond (not (some_of (begins left) (texts_of table))) (read_by calls q left s) None))
      (text_and-by table f left s h)
      ∙ ap (λ t. or_else (by_text (text_at table left) (λ x rest. read_by calls (f x) rest s) None)
      (cond (not t) (read_by calls q left s) None)) (some_text table left)
      ∙ go (text_at table left)
    where
      go : (o : Option (_ × List ℕ))
          → or_else (by_text o (λ x rest. read_by calls (f x) rest s) None)
          (cond (not (is_some o)) (read_by calls q left s) None)
          ≡ by_text o (λ x rest. read_by calls (f x) rest s) (read_by calls q left s)
      go None = refl
      go (Some x) = or_none (read_by calls (f x.0) x.1 s)

-- the same of the crate's grammar

pub letter_or-is : {a : Sort} (table : List (ℕ × ℕ)) (f : ℕ → Rule Production a) (q : Rule Production a)
    (left : List ℕ) (s : State)
    → read (letter_or table f q) left s ≡ choose (letter_here table left s) (λ x. read (f x)) (read q left s)
unfolding read
letter_or-is table f q left s = letter_or-by (λ b m. read_name m) table f q left s

pub literal_or-is : {a : Sort} (l : List ℕ) (r q : Rule Production a) (left : List ℕ) (s : State)
    → read (literal_or l r q) left s ≡ chosen (after l left) (λ rest. read r rest s) (read q left s)
unfolding read
literal_or-is l r q left s = literal_or-by (λ b m. read_name m) l r q left s

pub text_and-is : {a : Sort} {A : Type 0} (table : List (List ℕ × A)) (f : A → Rule Production a) (left : List ℕ)
    (s : State)
    → apart_texts table ≡ true
    → read (text_and table f) left s ≡ by_text (text_at table left) (λ x rest. read (f x) rest s) None
unfolding read
text_and-is table f left s h = text_and-by (λ b m. read_name m) table f left s h

pub text_or-is : {a : Sort} {A : Type 0} (table : List (List ℕ × A)) (f : A → Rule Production a)
    (q : Rule Production a) (left : List ℕ)
    (s : State) → apart_texts table ≡ true
    → read (text_or table f q) left s
    ≡ by_text (text_at table left) (λ x rest. read (f x) rest s) (read q left s)
unfolding read
text_or-is table f q left s h = text_or-by (λ b m. read_name m) table f q left s h

-- the rows of one table, then those of the others
pub lookup-rows : {A B : Type 0} (f : A → B) (b : ℕ) (table : List (ℕ × A)) (others : List (ℕ × B))
    → lookup b (rows_of f table others) ≡ option_map_or (λ x. Some (f x)) (lookup b table) (lookup b others)
lookup-rows f b [] others = refl
lookup-rows f b (row ∷ table) others = go (b == row.0) (lookup-rows f b table others)
  where
    go : (t : Bool) → lookup b (rows_of f table others) ≡ option_map_or
        (λ x. Some (f x)) (lookup b table) (lookup b others)
        → cond t (Some (f row.1)) (lookup b (rows_of f table others)) ≡ option_map_or
        (λ x. Some (f x)) (cond t (Some row.1) (lookup b table)) (lookup b others)
    go true e = refl
    go false e = e

-- a letter of a table, where a byte is read first
pub letter_step : {A : Type 0} (table : List (ℕ × A)) (left : List ℕ) (s : State)
    → letter_here table left s ≡ and_then (byte_here left s) (λ b l t. with_value (lookup b table) l t)
unfolding byte_here
letter_step table [] s = refl
letter_step table (b ∷ bs) s = refl

pub letter_following : {A : Type 0} (table : List (ℕ × A)) (o : Option (List ℕ)) (other : Found A) (s : State)
    → chosen o (λ rest. letter_here table rest s) other
    ≡ chosen o (λ rest. and_then (byte_here rest s) (λ b l t. with_value (lookup b table) l t)) other
letter_following table None other s = refl
letter_following table (Some rest) other s = letter_step table rest s

-- what was read may stand there, or nothing is read

pub required_step : (there : Bool) (left : List ℕ) (s : State)
    → read_name (required there) left s ≡ cond there (Some (tt, left, s)) None
unfolding grammar read read_by
required_step true left s = read_name-is (required true) left s
required_step false [] s = read_name-is (required false) [] s
required_step false (b ∷ bs) s = read_name-is (required false) (b ∷ bs) s

pub if_required : {B : Type 0} (there : Bool) (left : List ℕ) (s : State) (f : List ℕ → State → Found B)
    → and_then (read_name (required there) left s) (λ _ l t. f l t) ≡ cond there (f left s) None
if_required true left s f = ap (λ o. and_then o (λ _ l t. f l t)) (required_step true left s)
if_required false left s f = ap (λ o. and_then o (λ _ l t. f l t)) (required_step false left s)

pub then_is : {A B : Type 0} (o : Found A) (f g : A → List ℕ → State → Found B)
    → ((x : A) (l : List ℕ) (t : State) → f x l t ≡ g x l t) → and_then o f ≡ and_then o g
then_is None f g h = refl
then_is (Some x) f g h = h x.0 x.1 x.2
