-- What a type of more than one byte begins with: no digit, and none of X, Z and @.
use Rattle.std.proofs.Common.{ℕ, zero, suc, List, [], ◌∷◌, ◌++◌, length, Option, Some, None, Bool, true, false, cond}
use Rattle.std.proofs.Common.{◌≡◌, ◌==◌, ◌≤◌, ◌<◌, ◌+◌, refl, sym, ap, ◌∙◌, arith, length-append}
use Rattle.std.specs.Prelude.{is_some, if◌then◌else◌}
use Rattle.std.proofs.lemmas.Bool.{eqb-true}
use Rattle.msvc_nodes.specs.Trees.{TypeTree}
use Rattle.msvc_rules.specs.Reads.{Reads, given, a_letter, a_literal, a_part, where_it_holds, in_a_row, the_first}
use Rattle.msvc_rules.specs.Reads.{the_second, called, a_known_name, remembered, a_known_type, a_noted_type, entered}
use Rattle.msvc_rules.specs.Reads.{a_node, set_apart}
use Rattle.msvc_rules.specs.Reads.{it_stands}
use Rattle.msvc_rules.specs.Rules.{Grammar, every, some_of, begins, lookup, Rule, give, letter, literal, up_to, here}
use Rattle.msvc_rules.specs.Rules.{◌>>=◌, ◌or◌, call, known_name, remember, known_type, node, noted, entering, apart}
use Rattle.msvc_rules.specs.Sorts.{Sort, Value}
use Rattle.msvc_rules.specs.State.{State}
use Rattle.msvc_rules.proofs.Checks.{Figures, bars, differ}
use Rattle.msvc_rules.proofs.DigitPlaces.{stops, is_in}
use Rattle.msvc_rules.proofs.FirstSets.{after-text, barred, differ-never, letter-begins, if_both}

abbrev pub quiet_after : {A : Type 0} → (A → Bool) → Option A → Bool
quiet_after p None = true
quiet_after p (Some v) = p v

abbrev IsShort : List ℕ → List ℕ → Type 0
IsShort left rest = length left ≤ 1 + length rest

following_letter : {A : Type 0} (p : A → Bool) (o : Option A) (v : A) → o ≡ Some v → quiet_after p o ≡ true → p v ≡ true
following_letter p None v e h = absurd (cc)
following_letter p (Some w) v e h = let same : w ≡ v = cc in ap p (sym same) ∙ h

one_of : (p : ℕ → Bool) (x : ℕ) (ys : List ℕ) → every p ys ≡ true → some_of (λ y. x == y) ys ≡ true → p x ≡ true
one_of p x [] h k = absurd (cc)
one_of p x (y ∷ ys) h k =
    let both : (p y ≡ true) × (every p ys ≡ true) = if_both (p y) (every p ys) h in
    go (x == y) refl k both.0 (one_of p x ys both.1)
  where
    go : (t : Bool) → (x == y) ≡ t → cond t true (some_of (λ z. x == z) ys) ≡ true → p y ≡ true
        → (some_of (λ z. x == z) ys ≡ true → p x ≡ true) → p x ≡ true
    go true e k sure ih = ap p (eqb-true x y e) ∙ sure
    go false e k sure ih = ih k

-- what a text of more than one byte begins with, if it is a type
abbrev pub starts_free : List ℕ → Bool
starts_free [] = false
starts_free (x ∷ xs) = if is_in stops x then false else true

module _ (G : Grammar) where
  unfoldable pub quiet_by : ((b : Sort) → G.family b → Bool) → {a : Sort} → Rule G.family a → Bool
  quiet_by calls (give v) = true
  quiet_by calls (here c r) = quiet_by calls r
  quiet_by calls (r or q) = if quiet_by calls r then quiet_by calls q else false
  quiet_by calls (call n) = calls _ n
  quiet_by calls (node r) = quiet_by calls r
  quiet_by calls (known_name i) = true
  quiet_by calls (known_type i) = true
  quiet_by calls (remember n) = true
  quiet_by calls r = false

  unfoldable pub quiet_within : ℕ → {a : Sort} → G.family a → Bool
  unfolding quiet_by
  quiet_within zero n = false
  quiet_within (suc k) n = quiet_by (λ b m. quiet_within k m) (G.rule n)

  quiet : {a : Sort} {r : Rule G.family a} {left : List ℕ} {s : State} {v : Value a} {rest : List ℕ} {t : State}
      → Reads G a r left s v rest t → (k : ℕ) → quiet_by (λ b m. quiet_within k m) r ≡ true → left ≡ rest
  unfolding quiet_by quiet_within
  quiet given k h = refl
  quiet (where_it_holds e d) k h = quiet d k h
  quiet (the_first {r = r} {q = q} d) k h =
      quiet d k (if_both (quiet_by (λ b m. quiet_within k m) r) (quiet_by (λ b m. quiet_within k m) q) h).0
  quiet (the_second {r = r} {q = q} d) k h =
      quiet d k (if_both (quiet_by (λ b m. quiet_within k m) r) (quiet_by (λ b m. quiet_within k m) q) h).1
  quiet (called {n = n} d) zero h = absurd (cc)
  quiet (called {n = n} d) (suc k) h = quiet d k h
  quiet (a_node d) k h = quiet d k h
  quiet (a_known_name e) k h = refl
  quiet (a_known_type e) k h = refl
  quiet remembered k h = refl
  quiet (a_letter e) k h = absurd (cc)
  quiet (a_literal e) k h = absurd (cc)
  quiet (a_part e d) k h = absurd (cc)
  quiet (it_stands e) k h = absurd (cc)
  quiet (in_a_row c d) k h = absurd (cc)
  quiet (a_noted_type e d) k h = absurd (cc)
  quiet (entered d) k h = absurd (cc)
  quiet (set_apart d) k h = absurd (cc)

  unfoldable pub short_by : ℕ → ((b : Sort) → G.family b → Bool) → {a : Sort} → Rule G.family a → Bool
  unfolding quiet_by quiet_within
  short_by x calls (letter a table) = true
  short_by x calls (here c r) = if bars (x ∷ []) c then true else short_by x calls r
  short_by x calls ((letter a table) >>= f) =
      quiet_after (λ v. quiet_by (λ b m. quiet_within 3 m) (f v)) (lookup x table)
  short_by x calls ((literal l) >>= f) = differ l (x ∷ [])
  short_by x calls (r or q) = if short_by x calls r then short_by x calls q else false
  short_by x calls (call n) = calls _ n
  short_by x calls (entering r) = short_by x calls r
  short_by x calls (node r) = short_by x calls r
  short_by x calls (apart r) = short_by x calls r
  short_by x calls (noted table) = true
  short_by x calls (literal l) = false
  short_by x calls (up_to b) = false
  short_by x calls (r >>= f) = false
  short_by x calls r = true

  unfoldable pub short_within : ℕ → ℕ → {a : Sort} → G.family a → Bool
  unfolding short_by
  short_within x zero n = false
  short_within x (suc k) n = short_by x (λ b m. short_within x k m) (G.rule n)

  short : {a : Sort} {r : Rule G.family a} {left : List ℕ} {s : State} {v : Value a} {rest : List ℕ} {t : State}
      → Reads G a r left s v rest t → (x : ℕ) (bytes : List ℕ) → left ≡ x ∷ bytes → (k : ℕ)
      → short_by x (λ b m. short_within x k m) r ≡ true → IsShort left rest
  unfolding short_by short_within
  short given x bytes is k h = omega arith
  short (a_letter e) x bytes is k h = omega arith
  short (where_it_holds {c = c} {r = r} {left = left} {rest = rest} e d) x bytes is k h =
      go (bars (x ∷ []) c) refl h (short d x bytes is k)
    where
      go : (t : Bool) → bars (x ∷ []) c ≡ t → cond t true (short_by x (λ b m. short_within x k m) r) ≡ true
          → (short_by x (λ b m. short_within x k m) r ≡ true → IsShort left rest) → IsShort left rest
      go true sure h ih =
          absurd (barred (x ∷ []) left c (ap (λ z. begins z (x ∷ [])) is ∙ letter-begins x bytes) e sure)
      go false free h ih = ih h
  short (in_a_row {f = f} (a_letter {table = table} {b = b} {v = v} {rest = l} e) d) x bytes is k h =
      let first : b ≡ x = cc in
      let same : l ≡ _ =
      quiet d 3 (following_letter (λ w. quiet_by (λ b m. quiet_within 3 m) (f w)) (lookup x table) v
      (ap (λ z. lookup z table) (sym first) ∙ e) h) in
      omega (arith, ap length same)
  short (in_a_row (a_literal {l = l} {left = left} {rest = rest} e) d) x bytes is k h =
      absurd (differ-never l (x ∷ []) left h (ap (λ z. begins z l) e ∙ ap is_some (after-text l rest))
      (ap (λ z. begins z (x ∷ [])) is ∙ letter-begins x bytes))
  short (in_a_row c d) x bytes is k h = absurd (cc)
  short (the_first {r = r} {q = q} d) x bytes is k h =
      short d x bytes is k
      (if_both (short_by x (λ b m. short_within x k m) r) (short_by x (λ b m. short_within x k m) q) h).0
  short (the_second {r = r} {q = q} d) x bytes is k h =
      short d x bytes is k
      (if_both (short_by x (λ b m. short_within x k m) r) (short_by x (λ b m. short_within x k m) q) h).1
  short (called {n = n} d) x bytes is zero h = absurd (cc)
  short (called {n = n} d) x bytes is (suc k) h = short d x bytes is k h
  short (a_known_name e) x bytes is k h = omega arith
  short (a_known_type e) x bytes is k h = omega arith
  short (it_stands e) x bytes is k h = omega arith
  short remembered x bytes is k h = omega arith
  short (a_noted_type e d) x bytes is k h = omega arith
  short (a_node d) x bytes is k h = short d x bytes is k h
  short (entered d) x bytes is k h = short d x bytes is k h
  short (set_apart d) x bytes is k h = short d x bytes is k h
  short (a_literal e) x bytes is k h = absurd (cc)
  short (a_part e d) x bytes is k h = absurd (cc)

  unfoldable pub ShortAtStops : Type 0
  unfolding short_by short_within
  ShortAtStops = every (λ x. short_by x (λ b m. short_within x 4 m) (call G.parameter_type)) stops ≡ true

  pub long_start : ShortAtStops → (span rest : List ℕ) (s : State) (v : TypeTree) (t : State)
      → Reads G _ (call G.parameter_type) (span ++ rest) s v rest t → 1 < length span
      → starts_free span ≡ true
  unfolding ShortAtStops
  long_start short_at_stops [] rest s v t d long = absurd (omega arith)
  long_start short_at_stops (x ∷ xs) rest s v t d long = go (is_in stops x) refl
    where
      go : (b : Bool) → is_in stops x ≡ b → cond b false true ≡ true
      go true stop =
          let brief : IsShort (x ∷ (xs ++ rest)) rest =
          short d x (xs ++ rest) refl 4
          (one_of (λ y. short_by y (λ b m. short_within y 4 m) (call G.parameter_type)) x stops short_at_stops stop) in
          absurd (omega (arith, brief, long, length-append xs rest))
      go false free = refl

-- what else is computed of a type as a parameter has it
pub record Starting {G : Grammar} (F : Figures G) : Type 0 where
  pub short_at_stops : ShortAtStops G
  pub needs_nothing : F.needs G.parameter_type ≡ 0
  pub runs : F.runs_up G.parameter_type ≡ 1
