-- First sets: where a rule reads, one of the rows holds that are computed from it. So of alternatives that exclude each
-- other at most one reads; and a guard that is decided by bytes that were read holds whatever follows these.
use Rattle.std.proofs.Common.{ℕ, zero, suc, List, [], ◌∷◌, ◌++◌, Some, None, Bool, true, false, cond, not, map, ◌≡◌}
use Rattle.std.proofs.Common.{◌<◌, ◌≤◌, ◌+◌, ◌==◌, nat_lt, length, refl, sym, ap, ◌∙◌, subst, arith, inl, inr}
use Rattle.std.proofs.Common.{length-append}
use Rattle.std.specs.Prelude.{is_some, ◌⊎◌}
use Rattle.std.proofs.lemmas.Bool.{eqb-true, eq-eqb, ltb-false, ltb-true}
use Rattle.msvc_rules.specs.Readers.{ranks}
use Rattle.msvc_rules.specs.Reads.{Reads, given, a_letter, a_literal, a_part, where_it_holds, in_a_row, the_first}
use Rattle.msvc_rules.specs.Reads.{a_node, the_second, called, a_known_name, remembered, a_known_type, a_noted_type}
use Rattle.msvc_rules.specs.Reads.{entered, set_apart}
use Rattle.msvc_rules.specs.Reads.{it_stands}
use Rattle.msvc_rules.specs.Rules.{Grammar, Condition, none_of, at_end, holds, every, some_of, begins, is_nil, after}
use Rattle.msvc_rules.specs.Rules.{lookup, Rule}
use Rattle.msvc_rules.specs.Sorts.{Sort, Value}
use Rattle.msvc_rules.specs.State.{State}
use Rattle.msvc_rules.proofs.Checks.{some_value, Row, Fine, Even, fine, consumes, firsts, firsts_by, firsts_within}
use Rattle.msvc_rules.proofs.Checks.{differ, is_prefix, bars, clash, exclude, settled, decided, After, the_same, others}
use Rattle.msvc_rules.proofs.Checks.{anything, Figures, Fit}
use Rattle.msvc_rules.proofs.Progress.{Less, shorter}

pub if_both : (t u : Bool) → cond t u false ≡ true → (t ≡ true) × (u ≡ true)
if_both true u h = (refl, h)
if_both false u h = absurd (cc)

pub both_if : (t u : Bool) → t ≡ true → u ≡ true → cond t u false ≡ true
both_if t u h k = ap (λ z. cond z u false) h ∙ k

pub if_either : (t u : Bool) → cond t true u ≡ true → (t ≡ true) ⊎ (u ≡ true)
if_either true u h = inl refl
if_either false u h = inr h

pub either_if : (t u : Bool) → (t ≡ true) ⊎ (u ≡ true) → cond t true u ≡ true
either_if true u h = refl
either_if false u (inl h) = absurd (cc)
either_if false u (inr h) = h

pub not_if : (t u : Bool) → (t ≡ true → u ≡ true) → not u ≡ true → not t ≡ true
not_if true u h k = ap not (sym (h refl)) ∙ k
not_if false u h k = refl

every-map : {A B : Type 0} (p : B → Bool) (f : A → B) (xs : List A) → every p (map f xs) ≡ true
    → every (λ x. p (f x)) xs ≡ true
every-map p f [] h = refl
every-map p f (x ∷ xs) h =
    let each : (p (f x) ≡ true) × (every p (map f xs) ≡ true) = if_both (p (f x)) (every p (map f xs)) h in
    both_if (p (f x)) (every (λ y. p (f y)) xs) each.0 (every-map p f xs each.1)

pub every-both : {A : Type 0} (p : A → Bool) (xs ys : List A) → every p (xs ++ ys) ≡ true
    → (every p xs ≡ true) × (every p ys ≡ true)
every-both p [] ys h = (refl, h)
every-both p (x ∷ xs) ys h =
    let each : (p x ≡ true) × (every p (xs ++ ys) ≡ true) = if_both (p x) (every p (xs ++ ys)) h in
    let others : (every p xs ≡ true) × (every p ys ≡ true) = every-both p xs ys each.1 in
    (both_if (p x) (every p xs) each.0 others.0, others.1)

-- what holds of each holds of one of which another holds, too
pub some-every : {A : Type 0} (p q r : A → Bool) (xs : List A) → ((x : A) → q x ≡ true → p x ≡ true → r x ≡ true)
    → every q xs ≡ true → some_of p xs ≡ true → some_of r xs ≡ true
some-every p q r [] go k h = absurd (cc)
some-every p q r (x ∷ xs) go k h =
    let both : (q x ≡ true) × (every q xs ≡ true) = if_both (q x) (every q xs) k in
    either_if (r x) (some_of r xs)
    (one (λ e. go x both.0 e) (λ e. some-every p q r xs go both.1 e) (if_either (p x) (some_of p xs) h))
  where
    one : {A B C D : Type 0} → (A → C) → (B → D) → A ⊎ B → C ⊎ D
    one f g (inl a) = inl (f a)
    one f g (inr b) = inr (g b)

pub all : {A : Type 0} (xs : List A) → every (λ x. true) xs ≡ true
all [] = refl
all (x ∷ xs) = all xs

none : {A : Type 0} (xs : List A) → some_of (λ x. false) xs ≡ true → ⊥
none [] h = absurd (cc)
none (x ∷ xs) h = none xs h

meet : {A : Type 0} (p q : A → Bool) (xs : List A) → ((x : A) → q x ≡ true → p x ≡ true → ⊥) → every q xs ≡ true
    → some_of p xs ≡ true → ⊥
meet p q xs go k h = none xs (some-every p q (λ x. false) xs (λ x a b. absurd (go x a b)) k h)

pub begins-both : (x a : ℕ) (left l : List ℕ) → begins (x ∷ left) (a ∷ l) ≡ true → ((x == a) ≡ true)
    × (begins left l ≡ true)
begins-both x a left l h = go (x == a) h
  where
    go : (t : Bool) → is_some (cond t (after l left) None) ≡ true → (t ≡ true) × (begins left l ≡ true)
    go true h = (refl, h)
    go false h = absurd (cc)

both-begins : (x a : ℕ) (left l : List ℕ) → (x == a) ≡ true → begins left l ≡ true → begins (x ∷ left) (a ∷ l) ≡ true
both-begins x a left l e h = ap (λ t. is_some (cond t (after l left) None)) e ∙ h

pub after-text : (l rest : List ℕ) → after l (l ++ rest) ≡ Some rest
after-text [] rest = refl
after-text (b ∷ l) rest = ap (λ t. cond t (after l (l ++ rest)) None) (eq-eqb b b refl) ∙ after-text l rest

pub begins-text : (l m left rest : List ℕ) → left ≡ l ++ rest → begins rest m ≡ true → begins left (l ++ m) ≡ true
begins-text l m left rest e h = ap (λ z. begins z (l ++ m)) e ∙ go l
  where
    go : (l : List ℕ) → begins (l ++ rest) (l ++ m) ≡ true
    go [] = h
    go (b ∷ l) = both-begins b b (l ++ rest) (l ++ m) (eq-eqb b b refl) (go l)

pub begins-longer : (l left w : List ℕ) → begins left l ≡ true → begins (left ++ w) l ≡ true
begins-longer [] left w h = refl
begins-longer (a ∷ l) [] w h = absurd (cc)
begins-longer (a ∷ l) (b ∷ left) w h =
    let first : ((b == a) ≡ true) × (begins left l ≡ true) = begins-both b a left l h in
    both-begins b a (left ++ w) l first.0 (begins-longer l left w first.1)

pub begins-inside : (l left w w' : List ℕ) → length l ≤ length left → begins (left ++ w') l ≡ true
    → begins (left ++ w) l ≡ true
begins-inside [] left w w' fits h = refl
begins-inside (b ∷ l) [] w w' fits h = absurd (omega arith)
begins-inside (b ∷ l) (x ∷ left) w w' fits h =
    let first : ((x == b) ≡ true) × (begins (left ++ w') l ≡ true) = begins-both x b (left ++ w') l h in
    both-begins x b (left ++ w) l first.0 (begins-inside l left w w' (omega arith) first.1)

pub differ-never : (l m left : List ℕ) → differ l m ≡ true → begins left l ≡ true → begins left m ≡ true → ⊥
differ-never [] m left d h k = absurd (cc)
differ-never (a ∷ l) [] left d h k = absurd (cc)
differ-never (a ∷ l) (b ∷ m) [] d h k = absurd (cc)
differ-never (a ∷ l) (b ∷ m) (x ∷ left) d h k =
    go (a == b) refl d (begins-both x a left l h) (begins-both x b left m k) (differ-never l m left)
  where
    go : (t : Bool) → (a == b) ≡ t → cond t (differ l m) true ≡ true → ((x == a) ≡ true) × (begins left l ≡ true)
        → ((x == b) ≡ true) × (begins left m ≡ true)
        → (differ l m ≡ true → begins left l ≡ true → begins left m ≡ true → ⊥) → ⊥
    go true e d h k ih = ih d h.1 k.1
    go false e d h k ih = let yes : (a == b) ≡ true = eq-eqb a b (sym (eqb-true x a h.0) ∙ eqb-true x b k.0) in
        absurd (cc)

prefix-begins : (m l left : List ℕ) → is_prefix m l ≡ true → begins left l ≡ true → begins left m ≡ true
prefix-begins [] l left d h = refl
prefix-begins (a ∷ m) [] left d h = absurd (cc)
prefix-begins (a ∷ m) (b ∷ l) [] d h = absurd (cc)
prefix-begins (a ∷ m) (b ∷ l) (x ∷ left) d h =
    let same : ((a == b) ≡ true) × (is_prefix m l ≡ true) = if_both (a == b) (is_prefix m l) d in
    let first : ((x == b) ≡ true) × (begins left l ≡ true) = begins-both x b left l h in
    both-begins x a left m (eq-eqb x a (eqb-true x b first.0 ∙ sym (eqb-true a b same.0)))
    (prefix-begins m l left same.1 first.1)

-- a row that p says yes of, that stands at the bytes left, and whose count of bytes was consumed
abbrev pub First : (Row → Bool) → List ℕ → List ℕ → Type 0
First p left rest =
    (row : Row) × (p row ≡ true) × (begins left row.0 ≡ true) × (every (λ c. holds c left) row.1 ≡ true)
    × Less left row.2 rest

of_letter : {A : Type 0} (p : Row → Bool) (g : A → ℕ) (table : List (ℕ × A)) (b : ℕ) (v : A) → lookup b table ≡ Some v
    → every p (map (λ row. (row.0 ∷ [], [], g row.1)) table) ≡ true → p (b ∷ [], [], g v) ≡ true
of_letter p g [] b v e h = absurd (cc)
of_letter p g (row ∷ table) b v e h =
    let both : (p (row.0 ∷ [], [], g row.1) ≡ true) × (every p (map (λ x. (x.0 ∷ [], [], g x.1)) table) ≡ true) =
    if_both _ _ h in
    go (b == row.0) refl e both.0 (λ k. of_letter p g table b v k both.1)
  where
    go : (t : Bool) → (b == row.0) ≡ t → cond t (Some row.1) (lookup b table) ≡ Some v
        → p (row.0 ∷ [], [], g row.1) ≡ true → (lookup b table ≡ Some v → p (b ∷ [], [], g v) ≡ true)
        → p (b ∷ [], [], g v) ≡ true
    go true d e h ih =
        let value : row.1 ≡ v = cc in
        ap (λ z. p (z ∷ [], [], g v)) (eqb-true b row.0 d) ∙ ap (λ z. p (row.0 ∷ [], [], g z)) (sym value) ∙ h
    go false d e h ih = ih e

single : {A : Type 0} (p : A → Bool) (x : A) → every p (x ∷ []) ≡ true → p x ≡ true
single p x h = (if_both (p x) true h).0

pub letter-begins : (b : ℕ) (rest : List ℕ) → begins (b ∷ rest) (b ∷ []) ≡ true
letter-begins b rest = both-begins b b rest [] (eq-eqb b b refl) refl

pub barred : (l left : List ℕ) (c : Condition) → begins left l ≡ true → holds c left ≡ true → bars l c ≡ true → ⊥
barred l left (none_of ms) b h e =
    let yes : some_of (begins left) ms ≡ true =
    some-every (λ m. is_prefix m l) (λ m. true) (begins left) ms (λ m _ q. prefix-begins m l left q b) (all ms) e in
    absurd (cc)
barred [] left at_end b h e = absurd (cc)
barred (x ∷ l) [] at_end b h e = absurd (cc)
barred (x ∷ l) (y ∷ left) at_end b h e = absurd (cc)

clash-never : (r q : Row) (left : List ℕ) → begins left r.0 ≡ true → begins left q.0 ≡ true
    → every (λ c. holds c left) r.1 ≡ true → every (λ c. holds c left) q.1 ≡ true → clash r q ≡ true → ⊥
clash-never r q left b d h k e = go (if_either (differ r.0 q.0) _ e)
  where
    guards : (some_of (bars r.0) q.1 ≡ true) ⊎ (some_of (bars q.0) r.1 ≡ true) → ⊥
    guards (inl e) = meet (bars r.0) (λ c. holds c left) q.1 (λ c g x. barred r.0 left c b g x) k e
    guards (inr e) = meet (bars q.0) (λ c. holds c left) r.1 (λ c g x. barred q.0 left c d g x) h e

    go : (differ r.0 q.0 ≡ true) ⊎ (cond (some_of (bars r.0) q.1) true (some_of (bars q.0) r.1) ≡ true) → ⊥
    go (inl e) = differ-never r.0 q.0 left e b d
    go (inr e) = guards (if_either (some_of (bars r.0) q.1) (some_of (bars q.0) r.1) e)

settled_same : (l : List ℕ) (followed : ℕ) (left rest w w' : List ℕ) → followed ≤ length rest
    → First (λ row. cond (nat_lt (followed + row.2) (length l)) (differ row.0 l) true) left rest
    → begins (left ++ w') l ≡ true → begins (left ++ w) l ≡ true
settled_same l followed left rest w w' some first b = go (nat_lt (followed + first.0.2) (length l)) refl first.1
  where
    go : (t : Bool) → nat_lt (followed + first.0.2) (length l) ≡ t → cond t (differ first.0.0 l) true ≡ true
        → begins (left ++ w) l ≡ true
    go false k e = begins-inside l left w w'
        (omega (arith, some, first.4, ltb-false (followed + first.0.2) (length l) k)) b
    go true k e = absurd (differ-never first.0.0 l (left ++ w') e (begins-longer first.0.0 left w' first.2) b)

nil_more : (left w : List ℕ) → 0 < length left → is_nil (left ++ w) ≡ false
nil_more [] w h = absurd (omega arith)
nil_more (b ∷ left) w h = refl

nil_after : (left w : List ℕ) → 0 < length w → is_nil (left ++ w) ≡ false
nil_after [] [] h = absurd (omega arith)
nil_after [] (b ∷ w) h = refl
nil_after (b ∷ left) w h = refl

-- what stands after now, and what stood there
abbrev pub Follows : After → List ℕ → List ℕ → Type 0
Follows the_same w w' = w ≡ w'
Follows others w w' = 0 < length w
Follows anything w w' = Unit {0}

module _ {G : Grammar} {F : Figures G} (C : Fit F) where
  pub first_of : {a : Sort} {r : Rule G.family a} {left : List ℕ} {s : State} {v : Value a} {rest : List ℕ} {t : State}
      → Reads G a r left s v rest t → (floor : ℕ) → Fine F floor r → (k : ℕ) (p : Row → Bool)
      → every p (firsts_by F (λ b m. firsts_within F k m) r) ≡ true → First p left rest
  unfolding firsts_by firsts_within Fine consumes Even
  first_of (a_letter {table = table} {b = b} {v = v} {rest = rest} e) floor f k p h =
      ((b ∷ [], [], 1), of_letter p (λ _. 1) table b v e h, letter-begins b rest, refl, omega arith)
  first_of (a_literal {l = l} {left = left} {rest = rest} e) floor f k p h = (
    (l, [], length l),
    single p (l, [], length l) h,
    ap (λ z. is_some (after l z)) e
        ∙ ap (λ o. is_some o) (after-text l rest),
    refl,
    omega (arith, ap length e, length-append l rest),
  )
  first_of (where_it_holds {c = c} {r = r} {left = left} e d) floor f k p h =
      let first : First (λ row. p (row.0, c ∷ row.1, row.2)) left _ =
      first_of d floor f k
      (λ row. p (row.0, c ∷ row.1, row.2))
      (every-map p (λ row. (row.0, c ∷ row.1, row.2)) (firsts_by F (λ b m. firsts_within F k m) r) h) in
      ((first.0.0, c ∷ first.0.1, first.0.2), first.1, first.2, both_if (holds c left) _ e first.3, first.4)
  first_of (in_a_row {f = g} (a_letter {table = table} {b = b} {v = v} {rest = l} e) d) floor f k p h = (
    (b ∷ [], [], 1 + consumes F (g v)),
    of_letter p (λ x. 1 + consumes F (g x)) table b v e h,
    letter-begins b l,
    refl,
    omega (arith, shorter C d ranks (f.1 v)),
  )
  first_of (in_a_row {f = g} {rest = rest} (a_literal {l = m} {left = left} {rest = l} e) d) floor f k p h =
      let first : First (λ row. p (m ++ row.0, [], length m + row.2)) l rest =
      first_of d (cond (nat_lt 0 (length m)) ranks floor) (f.1 tt) k (λ row. p (m ++ row.0, [], length m + row.2))
      (every-map p (λ row. (m ++ row.0, [], length m + row.2)) (firsts_by F (λ b n. firsts_within F k n) (g tt)) h) in (
        (m ++ first.0.0, [], length m + first.0.2),
        first.1,
        begins-text m first.0.0 left l e first.2,
        refl,
        omega (arith, first.4, ap length e, length-append m l),
      )
  first_of (in_a_row {a = a} {r = r} {f = g} {v = v} {left = left} {l = l} c d) floor f k p h =
      let first : First (λ row. p (row.0, row.1, row.2 + consumes F (g (some_value a)))) left l =
      first_of c floor f.0 k (λ row. p (row.0, row.1, row.2 + consumes F (g (some_value a))))
      (every-map p (λ row. (row.0, row.1, row.2 + consumes F (g (some_value a))))
      (firsts_by F (λ b m. firsts_within F k m) r) h) in (
        (first.0.0, first.0.1, first.0.2 + consumes F (g (some_value a))),
        first.1,
        first.2,
        first.3,
        omega (
          arith,
          first.4,
          shorter C d (cond (nat_lt 0 (consumes F r)) ranks floor) (f.1 v),
          ltb-false (consumes F (g v)) (consumes F (g (some_value a))) (f.2 v),
        ),
      )
  first_of (the_first {r = r} {q = q} d) floor f k p h =
      first_of d floor f.1 k p
      (every-both p (firsts_by F (λ b m. firsts_within F k m) r) (firsts_by F (λ b m. firsts_within F k m) q) h).0
  first_of (the_second {r = r} {q = q} d) floor f k p h =
      first_of d floor f.2 k p
      (every-both p (firsts_by F (λ b m. firsts_within F k m) r) (firsts_by F (λ b m. firsts_within F k m) q) h).1
  first_of (called {n = n} d) floor f zero p h =
      (([], [], F.consumer n), single p ([], [], F.consumer n) h, refl, refl, shorter C (called {n = n} d) floor f)
  first_of (called {n = n} d) floor f (suc k) p h = first_of d (F.rank n) (fine C n) k p h
  first_of (a_noted_type {table = table} {b = b} {i = i} {rest = rest} e d) floor f k p h =
      ((b ∷ [], [], 1), of_letter p (λ _. 1) table b i e h, letter-begins b rest, refl, omega arith)
  first_of (a_node d) floor f k p h = first_of d floor f k p h
  first_of (entered d) floor f k p h = first_of d floor f k p h
  first_of (set_apart d) floor f k p h = first_of d floor f k p h
  first_of given floor f k p h = (([], [], 0), single p ([], [], 0) h, refl, refl, omega arith)
  first_of (a_part {b = b} {v = []} {rest = rest} e d) floor f k p h = (
    (b ∷ [], [], 1),
    (if_both (p (b ∷ [], [], 1)) (every p (([], [], 2) ∷ [])) h).0,
    ap (λ z. begins z (b ∷ [])) e ∙ letter-begins b rest,
    refl,
    omega (arith, ap length e),
  )
  first_of (a_part {b = b} {v = x ∷ v} {rest = rest} e d) floor f k p h = (
    ([], [], 2),
    single p ([], [], 2) (if_both (p (b ∷ [], [], 1)) (every p (([], [], 2) ∷ [])) h).1,
    refl,
    refl,
    omega (arith, ap length e, length-append v (b ∷ rest)),
  )
  first_of (a_known_name e) floor f k p h = (([], [], 0), single p ([], [], 0) h, refl, refl, omega arith)
  first_of (it_stands e) floor f k p h = (([], [], 0), single p ([], [], 0) h, refl, refl, omega arith)
  first_of remembered floor f k p h = (([], [], 0), single p ([], [], 0) h, refl, refl, omega arith)
  first_of (a_known_type e) floor f k p h = (([], [], 0), single p ([], [], 0) h, refl, refl, omega arith)

  pub exclude-never : {a : Sort} {r q : Rule G.family a} {left : List ℕ} {s : State} {v w : Value a} {rest l : List ℕ}
      {t u : State}
      → (floor : ℕ) → exclude (firsts F r) (firsts F q) ≡ true → Fine F floor r → Fine F floor q
      → Reads G a r left s v rest t → Reads G a q left s w l u → ⊥
  unfolding exclude firsts
  exclude-never {r = r} {q = q} {left = left} {rest = rest} {l = l} floor e f g h k =
      let one : First (λ x. every (clash x) (firsts F q)) left rest =
      first_of h floor f 3 (λ x. every (clash x) (firsts F q)) e in
      let other : First (clash one.0) left l = first_of k floor g 3 (clash one.0) one.1 in
      clash-never one.0 other.0 left one.2 other.2 one.3 other.3 other.1

  pub holds_same : {a : Sort} {r : Rule G.family a} {left rest : List ℕ} {s t : State} {v : Value a} (k : After)
      (c : Condition)
      (followed floor : ℕ) (w w' : List ℕ) → Follows k w w'
      → decided k followed (consumes F r) (firsts F r) c ≡ true → followed ≤ length rest → Fine F floor r
      → Reads G a r left s v rest t
      → holds c (left ++ w) ≡ true → holds c (left ++ w') ≡ true
  unfolding decided settled firsts
  holds_same {left = left} the_same c followed floor w w' same d some f h k =
      subst (λ z. holds c (left ++ z) ≡ true) same k
  holds_same {left = left} {rest = rest} others (none_of ls) followed floor w w' more d some f h k =
      not_if (some_of (begins (left ++ w')) ls) (some_of (begins (left ++ w)) ls)
      (some-every (begins (left ++ w')) (settled followed _) (begins (left ++ w)) ls
      (λ l e b. settled_same l followed left rest w w' some (first_of h floor f 3 _ e) b) d) k
  holds_same {left = left} others at_end followed floor w w' more d some f h k =
      let clash : true ≡ false = sym k ∙ nil_after left w more in absurd (cc)
  holds_same {left = left} {rest = rest} anything (none_of ls) followed floor w w' whatever d some f h k =
      not_if (some_of (begins (left ++ w')) ls) (some_of (begins (left ++ w)) ls)
      (some-every (begins (left ++ w')) (settled followed _) (begins (left ++ w)) ls
      (λ l e b. settled_same l followed left rest w w' some (first_of h floor f 3 _ e) b) d) k
  holds_same {r = r} {left = left} anything at_end followed floor w w' whatever d some f h k =
      let clash : true ≡ false =
      sym k ∙ nil_more left w (omega (arith, some, shorter C h floor f, ltb-true 0 (followed + consumes F r) d)) in
      absurd (cc)
