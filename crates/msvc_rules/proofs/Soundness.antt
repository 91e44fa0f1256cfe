-- Soundness: what is read_in, the grammar derives.
use Rattle.std.proofs.Common.{ℕ, zero, suc, List, [], ◌∷◌, ◌++◌, length, ◌*◌, Option, Some, None, Bool, true, false}
use Rattle.std.proofs.Common.{cond, not, ◌==◌, ◌≡◌, refl, ap, subst, ◌∙◌}
use Rattle.std.proofs.lemmas.Bool.{eqb-true}
use Rattle.std.specs.Prelude.{slice_get}
use Rattle.msvc_nodes.specs.Trees.{NameTree, TypeTree}
use Rattle.msvc_rules.specs.Readers.{and_then, or_else, Found, Reader, with_value, letter_here, counting, only_if}
use Rattle.msvc_rules.specs.Readers.{after_literal, with_byte, part_here, name_known, type_known, type_noted, noted_by}
use Rattle.msvc_rules.specs.Readers.{noted_here, entered_by, put_apart, read_by, read_within, ranks, read_name_in}
use Rattle.msvc_rules.specs.Readers.{read_in}
use Rattle.msvc_rules.specs.Readers.{name_stands}
use Rattle.msvc_rules.specs.Reads.{note_digit, emptied, Reads, given, a_letter, a_literal, a_part, a_node}
use Rattle.msvc_rules.specs.Reads.{where_it_holds, in_a_row, the_first, the_second, called, a_known_name, remembered}
use Rattle.msvc_rules.specs.Reads.{a_known_type, a_noted_type, entered, set_apart, nodes_of_name, nodes_of_type}
use Rattle.msvc_rules.specs.Reads.{it_stands}
use Rattle.msvc_rules.specs.Rules.{Grammar, every, holds, after, lookup, Rule, give, letter, literal, up_to, here}
use Rattle.msvc_rules.specs.Rules.{◌>>=◌, ◌or◌, call, known_name, node, remember, known_type, noted, entering, apart}
use Rattle.msvc_rules.specs.Rules.{stands}
use Rattle.msvc_rules.specs.Sorts.{Sort, Value}
use Rattle.msvc_rules.specs.State.{Entry, State, counted, is_allowed, more}

-- what holds of what was read, if anything was
abbrev pub IfFound : {A : Type 0} → (A × List ℕ × State → Type 0) → Found A → Type 0
IfFound P None = Unit {0}
IfFound P (Some x) = P x

pub if_bind : {A B : Type 0} (P : A × List ℕ × State → Type 0) (Q : B × List ℕ × State → Type 0) (o : Found A)
    (f : A → List ℕ → State → Found B)
    → IfFound P o → ((x : A × List ℕ × State) → P x → IfFound Q (f x.0 x.1 x.2)) → IfFound Q (and_then o f)
if_bind P Q None f h go = tt
if_bind P Q (Some x) f h go = go x h

pub if_map : {A : Type 0} (P Q : A × List ℕ × State → Type 0) (o : Found A) → ((x : A × List ℕ × State) → P x → Q x)
    → IfFound P o → IfFound Q o
if_map P Q None go h = tt
if_map P Q (Some x) go h = go x h

pub if_or : {A : Type 0} (P : A × List ℕ × State → Type 0) (o q : Found A) → IfFound P o → IfFound P q
    → IfFound P (or_else o q)
if_or P None q h k = k
if_or P (Some x) q h k = h

pub if_cond : {A : Type 0} (P : A × List ℕ × State → Type 0) (t : Bool) (o : Found A) → (t ≡ true → IfFound P o)
    → IfFound P (cond t o None)
if_cond P true o h = h refl
if_cond P false o h = tt

pub if_is : {A : Type 0} (P : A × List ℕ × State → Type 0) (o : Found A) (x : A × List ℕ × State) → o ≡ Some x
    → IfFound P o → P x
if_is P o x e h = subst (IfFound P) e h

pub after-is : (literal left remaining : List ℕ) → after literal left ≡ Some remaining → left ≡ literal ++ remaining
after-is [] left remaining e = cc
after-is (l ∷ ls) [] remaining e = absurd (cc)
after-is (l ∷ ls) (b ∷ bs) remaining e = go (b == l) refl e (after-is ls bs remaining)
  where
    go : (t : Bool) → (b == l) ≡ t → cond t (after ls bs) None ≡ Some remaining
        → (after ls bs ≡ Some remaining → bs ≡ ls ++ remaining)
        → b ∷ bs ≡ l ∷ (ls ++ remaining)
    go true same e h = let first : b ≡ l = eqb-true b l same in let others : bs ≡ ls ++ remaining = h e in cc
    go false same e h = absurd (cc)

-- what goes on once nodes were counted
pub if_counted : {A : Type 0} (P : A × List ℕ × State → Type 0) (n : ℕ) (left : List ℕ) (s : State)
    (f : List ℕ → State → Found A)
    → IfFound P (f left (counted n s)) → IfFound P (and_then (counting n left s) (λ _. f))
unfolding counting
if_counted P n left s f h = go (is_allowed (more n s.count))
  where
    go : (t : Bool) → IfFound P (and_then (only_if t left (counted n s)) (λ _. f))
    go true = h
    go false = tt

module _ (G : Grammar) where
  abbrev pub Derived : {a : Sort} → Rule G.family a → List ℕ → State → Value a × List ℕ × State → Type 0
  Derived r left s x = Reads G _ r left s x.0 x.1 x.2

  is_letter : (a : Sort) (table : List (ℕ × Value a)) (b : ℕ) (bs : List ℕ) (s : State) (o : Option (Value a))
      → lookup b table ≡ o
      → IfFound (Derived (letter a table) (b ∷ bs) s) (with_value o bs s)
  is_letter a table b bs s None e = tt
  is_letter a table b bs s (Some v) e = a_letter e

  is_letter_here : (a : Sort) (table : List (ℕ × Value a)) (left : List ℕ) (s : State)
      → IfFound (Derived (letter a table) left s) (letter_here table left s)
  is_letter_here a table [] s = tt
  is_letter_here a table (b ∷ bs) s = is_letter a table b bs s (lookup b table) refl

  is_literal : (l left : List ℕ) (s : State) (o : Option (List ℕ)) → after l left ≡ o
      → IfFound (Derived (literal l) left s) (after_literal o s)
  is_literal l left s None e = tt
  is_literal l left s (Some rest) e = a_literal (after-is l left rest e)

  is_with : (b x : ℕ) (xs : List ℕ) (s : State) (o : Found (List ℕ)) → (x == b) ≡ false
      → IfFound (Derived (up_to b) xs s) o
      → IfFound (Derived (up_to b) (x ∷ xs) s) (with_byte x o)
  is_with b x xs s None e h = tt
  is_with b x xs s (Some y) e (a_part same none) =
      a_part (ap (λ z. x ∷ z) same) (ap (λ t. cond (not t) (every (λ z. not (z == b)) y.0) false) e ∙ none)

  is_part : (b : ℕ) (left : List ℕ) (s : State) → IfFound (Derived (up_to b) left s) (part_here b left s)
  unfolding part_here
  is_part b [] s = tt
  is_part b (x ∷ xs) s = go (x == b) refl (is_part b xs s)
    where
      go : (t : Bool) → (x == b) ≡ t → IfFound (Derived (up_to b) xs s) (part_here b xs s)
          → IfFound (Derived (up_to b) (x ∷ xs) s) (cond t (Some ([], xs, s)) (with_byte x (part_here b xs s)))
      go true e h = a_part (ap (λ z. z ∷ xs) (eqb-true x b e)) refl
      go false e h = is_with b x xs s (part_here b xs s) e h

  is_name : (i : ℕ) (left : List ℕ) (s : State) (o : Option NameTree) → slice_get s.names i ≡ o
      → IfFound (Derived (known_name i) left s) (name_known o left s)
  is_name i left s None e = tt
  is_name i left s (Some n) e =
      if_counted (Derived (known_name i) left s) (nodes_of_name n s) left s (λ l t. Some (n, l, t)) (a_known_name e)

  is_standing : (i : ℕ) (left : List ℕ) (s : State) (o : Option NameTree) → slice_get s.names i ≡ o
      → IfFound (Derived (stands i) left s) (name_stands o left s)
  is_standing i left s None e = tt
  is_standing i left s (Some n) e = it_stands e

  is_type : (i : ℕ) (left : List ℕ) (s : State) (o : Option Entry) → slice_get s.types i ≡ o
      → IfFound (Derived (known_type i) left s) (type_known o left s)
  is_type i left s None e = tt
  is_type i left s (Some n) e =
      if_counted (Derived (known_type i) left s) (nodes_of_type n.entered s) left s (λ l t. Some (n.entered, l, t))
      (a_known_type e)

  is_noted : (table : List (ℕ × ℕ)) (b : ℕ) (bs : List ℕ) (s : State) (o : Option ℕ) → lookup b table ≡ o
      → IfFound (Derived (noted table) (b ∷ bs) s) (noted_by o (b ∷ bs) bs s)
  is_noted table b bs s None e = tt
  is_noted table b bs s (Some i) e = go (slice_get s.types i) refl
    where
      go : (o : Option Entry) → slice_get s.types i ≡ o
          → IfFound (Derived (noted table) (b ∷ bs) s) (type_noted o (b ∷ bs) bs s)
      go None k = tt
      go (Some n) k =
          if_counted (Derived (noted table) (b ∷ bs) s) (nodes_of_type n.entered s) bs (note_digit n (b ∷ bs) s)
          (λ l t. Some (n.entered, l, t)) (a_noted_type e k)

  is_noted_here : (table : List (ℕ × ℕ)) (left : List ℕ) (s : State)
      → IfFound (Derived (noted table) left s) (noted_here table left s)
  is_noted_here table [] s = tt
  is_noted_here table (b ∷ bs) s = is_noted table b bs s (lookup b table) refl

  is_entered : (r : Rule G.family _) (left : List ℕ) (s : State) (o : Found TypeTree) → IfFound (Derived r left s) o
      → IfFound (Derived (entering r) left s) (entered_by left o)
  is_entered r left s None h = tt
  is_entered r left s (Some x) h = entered h

  is_apart : {a : Sort} (r : Rule G.family a) (left : List ℕ) (s : State) (o : Found (Value a))
      → IfFound (Derived r left (emptied s)) o
      → IfFound (Derived (apart r) left s) (put_apart s o)
  is_apart r left s None h = tt
  is_apart r left s (Some x) h = set_apart h

  abbrev pub Sound : ((b : Sort) → G.family b → Reader b) → Type 0
  Sound calls = (b : Sort) (n : G.family b) (left : List ℕ) (s : State)
      → IfFound (Derived (call n) left s) (calls b n left s)

  module _ (calls : (b : Sort) → G.family b → Reader b) (sound : Sound calls) where
    pub sound_by : {a : Sort} (r : Rule G.family a) (left : List ℕ) (s : State)
        → IfFound (Derived r left s) (read_by calls r left s)
    unfolding read_by
    sound_by (give v) left s = given
    sound_by (letter a table) left s = is_letter_here _ table left s
    sound_by (literal l) left s = is_literal l left s (after l left) refl
    sound_by (up_to b) left s = is_part b left s
    sound_by (here c r) left s =
        if_cond _ (holds c left) (read_by calls r left s)
        (λ e. if_map (Derived r left s) (Derived (here c r) left s) (read_by calls r left s)
        (λ x h. where_it_holds e h) (sound_by r left s))
    sound_by (r >>= f) left s =
        if_bind (Derived r left s) (Derived (r >>= f) left s) (read_by calls r left s) _ (sound_by r left s)
        (λ x h. if_map (Derived (f x.0) x.1 x.2) (Derived (r >>= f) left s) (read_by calls (f x.0) x.1 x.2)
        (λ y k. in_a_row h k) (sound_by (f x.0) x.1 x.2))
    sound_by (r or q) left s =
        if_or _ (read_by calls r left s) (read_by calls q left s)
        (if_map (Derived r left s) (Derived (r or q) left s) (read_by calls r left s)
        (λ x h. the_first h) (sound_by r left s))
        (if_map (Derived q left s) (Derived (r or q) left s) (read_by calls q left s)
        (λ x h. the_second h) (sound_by q left s))
    sound_by (call n) left s = sound _ n left s
    sound_by (node r) left s =
        if_counted (Derived (node r) left s) s.count.weight left s (read_by calls r)
        (if_map (Derived r left (counted s.count.weight s)) (Derived (node r) left s)
        (read_by calls r left (counted s.count.weight s))
        (λ x h. a_node h) (sound_by r left (counted s.count.weight s)))
    sound_by (known_name i) left s = is_name i left s (slice_get s.names i) refl
    sound_by (stands i) left s = is_standing i left s (slice_get s.names i) refl
    sound_by (remember n) left s = remembered
    sound_by (known_type i) left s = is_type i left s (slice_get s.types i) refl
    sound_by (noted table) left s = is_noted_here table left s
    sound_by (entering r) left s = is_entered r left s (read_by calls r left s) (sound_by r left s)
    sound_by (apart r) left s = is_apart r left s (read_by calls r left (emptied s)) (sound_by r left (emptied s))

  pub within-sound : (k : ℕ) → Sound (λ b m. read_within G k m)
  unfolding read_within
  within-sound zero b n left s = tt
  within-sound (suc k) b n left s =
      if_map (Derived (G.rule n) left s) (Derived (call n) left s)
      (read_by (λ b m. read_within G k m) (G.rule n) left s)
      (λ x h. called h)
      (sound_by (λ b m. read_within G k m) (within-sound k) (G.rule n) left s)

  pub name-sound : Sound (λ b m. read_name_in G m)
  unfolding read_name_in
  name-sound b n left s = within-sound (ranks * suc (length left)) b n left s

  pub read-sound : {a : Sort} (r : Rule G.family a) (left : List ℕ) (s : State)
      → IfFound (Derived r left s) (read_in G r left s)
  unfolding read_in
  read-sound r left s = sound_by (λ b m. read_name_in G m) name-sound r left s
