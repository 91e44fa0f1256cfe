-- Checks of a grammar that its laws rest on: types that are computed from a rule, and that `search` proves for each
-- production. Alternatives of a choice exclude each other. A production that calls another before it reads a byte ranks
-- above it. A guard is decided by bytes that the rule, or what follows it, reads.
use Rattle.std.proofs.Common.{ℕ, zero, suc, pos, List, [], ◌∷◌, ◌++◌, Bool, true, false, not, ◌≡◌, ◌==◌, ◌+◌}
use Rattle.std.proofs.Common.{None, ◌*◌, length, nat_lt, map, arith, cond, refl, sym, ap, ◌∙◌, subst}
use Rattle.std.proofs.lemmas.Bool.{eq-eqb, le-ltb}
use Rattle.std.specs.Prelude.{if◌then◌else◌}
use Rattle.msvc_nodes.specs.Trees as tree
use Rattle.msvc_nodes.specs.declared.kinds.PrimitiveKind.TheVariants as base_kind
use Rattle.msvc_nodes.specs.declared.kinds.PlainType.TheVariants as plain_kind
use Rattle.msvc_nodes.specs.declared.kinds.Spelling.TheVariants as spelling_kind
use Rattle.msvc_nodes.specs.Trees.{spelled, plain}
use Rattle.msvc_nodes.specs.declared.kinds.Convention.TheVariants.{Cdecl}
use Rattle.msvc_rules.specs.Readers.{ranks}
use Rattle.msvc_rules.specs.Rules.{Grammar, Condition, none_of, at_end, every, some_of, is_nil, Rule, letter, literal}
use Rattle.msvc_rules.specs.Rules.{up_to, here, ◌>>=◌, ◌or◌, call, noted, entering, apart, node, texts_of, text_and}
use Rattle.msvc_rules.specs.Rules.{text_or}
use Rattle.msvc_rules.specs.Sorts.{Sort, nothing, bits, integer, number, bytes, name_tree, type_tree, symbol_tree}
use Rattle.msvc_rules.specs.Sorts.{base_type, type_letter, encoding_letter, convention, perhaps, list, both, Value}
use Rattle.msvc_rules.specs.Sorts.{extended, untyped}

-- the figures of a grammar's productions
pub record Figures (G : Grammar) : Type 0 where
  -- a production that calls another before it has consumed a byte stands above it
  pub rank : {a : Sort} → G.family a → ℕ
  -- how many bytes it consumes at least
  pub consumer : {a : Sort} → G.family a → ℕ
  -- how many bytes must follow it, so that it can be read again whatever follows these
  pub needs : {a : Sort} → G.family a → ℕ
  -- the same where some byte stood after these
  pub needs_inside : {a : Sort} → G.family a → ℕ
  -- how many bytes it reads at least before a digit that it notes
  pub runs_up : {a : Sort} → G.family a → ℕ

-- a value of each sort, no matter which: what holds of a rule at each value is computed at this one
abbrev pub some_value : (a : Sort) → Value a
some_value nothing = tt
some_value bits = 0
some_value integer = pos 0
some_value number = record { is_negative = false; value = 0 }
some_value bytes = []
some_value name_tree = spelled spelling_kind.Source []
some_value type_tree = plain plain_kind.None
some_value symbol_tree = record {
  name = spelled spelling_kind.Source [];
  scope = tree.no_names;
  symbol_type = plain plain_kind.None;
}
some_value base_type = base_kind.Void
some_value type_letter = extended
some_value encoding_letter = untyped
some_value convention = Cdecl
some_value (perhaps a) = None
some_value (list a) = []
some_value (both a b) = (some_value a, some_value b)

abbrev pub least : ℕ → ℕ → ℕ
least a b = if nat_lt a b then a else b

-- a text that begins there, conditions that hold there, and how many bytes are consumed at least
abbrev pub Row : Type 0
Row = List ℕ × List Condition × ℕ

-- some byte differs
abbrev pub differ : List ℕ → List ℕ → Bool
differ [] m = false
differ (a ∷ l) [] = false
differ (a ∷ l) (b ∷ m) = if a == b then differ l m else true

abbrev pub is_prefix : List ℕ → List ℕ → Bool
is_prefix [] m = true
is_prefix (a ∷ l) [] = false
is_prefix (a ∷ l) (b ∷ m) = if a == b then is_prefix l m else false

-- a condition that does not hold where the text begins
abbrev pub bars : List ℕ → Condition → Bool
bars l (none_of ms) = some_of (λ m. is_prefix m l) ms
bars l at_end = not (is_nil l)

-- two rows that are never so at one place
abbrev pub clash : Row → Row → Bool
clash r q =
    if differ r.0 q.0 then true else (if some_of (bars r.0) q.1 then true else some_of (bars q.0) r.1)

unfoldable pub exclude : List Row → List Row → Bool
exclude rs qs = every (λ r. every (clash r) qs) rs

-- what stands after bytes that are read again: the same as before; others where some stood; anything
pub data After : Type 0 where
  the_same others anything : After

-- bytes that are consumed say whether a text begins: as many as it has, or one that differs from it
unfoldable pub settled : ℕ → List Row → List ℕ → Bool
settled followed rows l =
    every (λ row. if nat_lt (followed + row.2) (length l) then differ row.0 l else true) rows

unfoldable pub decided : After → ℕ → ℕ → List Row → Condition → Bool
unfolding settled
decided the_same followed consumed rows c = true
decided others followed consumed rows (none_of ls) = every (settled followed rows) ls
decided others followed consumed rows at_end = true
decided anything followed consumed rows (none_of ls) = every (settled followed rows) ls
decided anything followed consumed rows at_end = nat_lt 0 (followed + consumed)

-- none of the texts begins another
abbrev pub apart_texts : {A : Type 0} → List (List ℕ × A) → Bool
apart_texts [] = true
apart_texts (row ∷ table) = if every (λ other. differ row.0 other.0) table then apart_texts table else false

-- nor is one empty
abbrev pub some_bytes : {A : Type 0} → List (List ℕ × A) → Bool
some_bytes table = every (λ row. nat_lt 0 (length row.0)) table

both_if : (t u : Bool) → cond t u false ≡ true → (t ≡ true) × (u ≡ true)
both_if true u h = (refl, h)
both_if false u h = absurd (cc)

every_map : {A B : Type 0} (p : B → Bool) (f : A → B) (xs : List A) → ((x : A) → p (f x) ≡ true)
    → every p (map f xs) ≡ true
every_map p f [] h = refl
every_map p f (x ∷ xs) h = ap (λ t. cond t (every p (map f xs)) false) (h x) ∙ every_map p f xs h

every_join : {A : Type 0} (p : A → Bool) (xs ys : List A) → every p xs ≡ true → every p ys ≡ true
    → every p (xs ++ ys) ≡ true
every_join p [] ys h k = k
every_join p (x ∷ xs) ys h k =
    let parts : (p x ≡ true) × (every p xs ≡ true) = both_if (p x) (every p xs) h in
    ap (λ t. cond t (every p (xs ++ ys)) false) parts.0 ∙ every_join p xs ys parts.1 k

differ_more : (l m x y : List ℕ) → differ l m ≡ true → differ (l ++ x) (m ++ y) ≡ true
differ_more [] m x y h = absurd (cc)
differ_more (a ∷ l) [] x y h = absurd (cc)
differ_more (a ∷ l) (b ∷ m) x y h = go (a == b) h (differ_more l m x y)
  where
    go : (t : Bool) → cond t (differ l m) true ≡ true → (differ l m ≡ true → differ (l ++ x) (m ++ y) ≡ true)
        → cond t (differ (l ++ x) (m ++ y)) true ≡ true
    go true h ih = ih h
    go false h ih = refl

begin_same : (l x : List ℕ) → is_prefix l (l ++ x) ≡ true
begin_same [] x = refl
begin_same (a ∷ l) x = ap (λ t. cond t (is_prefix l (l ++ x)) false) (eq-eqb a a refl) ∙ begin_same l x

clash_texts : (r q : Row) → differ r.0 q.0 ≡ true → clash r q ≡ true
clash_texts r q h =
    ap (λ t. cond t true (cond (some_of (bars r.0) q.1) true (some_of (bars q.0) r.1))) h

-- the list has each text of the table
abbrev Among : {A : Type 0} → List (List ℕ) → List (List ℕ × A) → Type 0
Among ms [] = Unit {0}
Among ms (row ∷ table) =
    ((x : List ℕ) → some_of (λ m. is_prefix m (row.0 ++ x)) ms ≡ true) × Among ms table

among_more : {A : Type 0} (m : List ℕ) (ms : List (List ℕ)) (table : List (List ℕ × A)) → Among ms table
    → Among (m ∷ ms) table
among_more m ms [] h = tt
among_more m ms (row ∷ table) h =
    (λ x. go (is_prefix m (row.0 ++ x)) (some_of (λ n. is_prefix n (row.0 ++ x)) ms) (h.0 x), among_more m ms table h.1)
  where
    go : (t u : Bool) → u ≡ true → cond t true u ≡ true
    go true u e = refl
    go false u e = e

among_these : {A : Type 0} (table : List (List ℕ × A)) → Among (texts_of table) table
among_these [] = tt
among_these (row ∷ table) = (
  λ x. ap (λ t. cond t true (some_of (λ m. is_prefix m (row.0 ++ x)) (texts_of table))) (begin_same row.0 x),
  among_more row.0 (texts_of table) table (among_these table),
)

clash_guard : (r : Row) (l : List ℕ) (c : Condition) (cs : List Condition) (n : ℕ) → bars r.0 c ≡ true
    → clash r (l, c ∷ cs, n) ≡ true
clash_guard r l c cs n h =
    ap (λ t. cond (differ r.0 l) true (cond (cond t true (some_of (bars r.0) cs)) true (some_of (bars l) r.1))) h
    ∙ go (differ r.0 l)
  where
    go : (t : Bool) → cond t true true ≡ true
    go true = refl
    go false = refl

pub none_below : (n : ℕ) → nat_lt n 0 ≡ false
none_below n = le-ltb n 0 (omega arith)

module _ {G : Grammar} (F : Figures G) where
  -- how deep productions call one another at most, where these bytes are left
  unfoldable pub depth : {a : Sort} → G.family a → List ℕ → ℕ
  depth n left = ranks * length left + F.rank n

  unfoldable pub consumes : {a : Sort} → Rule G.family a → ℕ
  consumes (letter a table) = 1
  consumes (literal l) = length l
  consumes (up_to b) = 1
  consumes (here c r) = consumes r
  consumes (◌>>=◌ {a = a} r f) = consumes r + consumes (f (some_value a))
  consumes (r or q) = least (consumes r) (consumes q)
  consumes (call n) = F.consumer n
  consumes (noted table) = 1
  consumes (entering r) = consumes r
  consumes (node r) = consumes r
  consumes (apart r) = consumes r
  consumes _ = 0

  -- rows of which one is so, where a rule reads
  unfoldable pub firsts_by : ((b : Sort) → G.family b → List Row) → {a : Sort} → Rule G.family a → List Row
  unfolding consumes
  firsts_by calls (letter a table) = map (λ row. (row.0 ∷ [], [], 1)) table
  firsts_by calls (literal l) = (l, [], length l) ∷ []
  firsts_by calls (up_to b) = (b ∷ [], [], 1) ∷ ([], [], 2) ∷ []
  firsts_by calls (here c r) = map (λ row. (row.0, c ∷ row.1, row.2)) (firsts_by calls r)
  firsts_by calls ((letter a table) >>= f) = map (λ row. (row.0 ∷ [], [], 1 + consumes (f row.1))) table
  firsts_by calls ((literal l) >>= f) = map (λ row. (l ++ row.0, [], length l + row.2)) (firsts_by calls (f tt))
  firsts_by calls (◌>>=◌ {a = a} r f) =
      map (λ row. (row.0, row.1, row.2 + consumes (f (some_value a)))) (firsts_by calls r)
  firsts_by calls (r or q) = firsts_by calls r ++ firsts_by calls q
  firsts_by calls (call n) = calls _ n
  firsts_by calls (noted table) = map (λ row. (row.0 ∷ [], [], 1)) table
  firsts_by calls (entering r) = firsts_by calls r
  firsts_by calls (node r) = firsts_by calls r
  firsts_by calls (apart r) = firsts_by calls r
  firsts_by calls r = ([], [], consumes r) ∷ []

  unfoldable pub firsts_within : ℕ → {a : Sort} → G.family a → List Row
  unfolding firsts_by
  firsts_within zero n = ([], [], F.consumer n) ∷ []
  firsts_within (suc k) n = firsts_by (λ b m. firsts_within k m) (G.rule n)

  unfoldable pub firsts : {a : Sort} → Rule G.family a → List Row
  unfolding firsts_by firsts_within
  firsts r = firsts_by (λ b m. firsts_within 3 m) r

  -- the rules after one consume no less at any value than at some
  unfoldable pub Even : {a b : Sort} → Rule G.family a → (Value a → Rule G.family b) → Type 0
  unfolding consumes
  Even {a = a} r f = (v : Value a) → nat_lt (consumes (f v)) (consumes (f (some_value a))) ≡ false

  -- before a byte is consumed, a rule calls only productions below the floor
  unfoldable pub Fine : ℕ → {a : Sort} → Rule G.family a → Type 0
  unfolding consumes firsts exclude Even
  Fine floor (here c r) = Fine floor r
  Fine floor (◌>>=◌ {a = a} r f) =
      Fine floor r × ((v : Value a) → Fine (if nat_lt 0 (consumes r) then ranks else floor) (f v)) × Even r f
  Fine floor (r or q) = (exclude (firsts r) (firsts q) ≡ true) × Fine floor r × Fine floor q
  Fine floor (call n) = nat_lt (F.rank n) floor ≡ true
  Fine floor (entering r) = Fine floor r
  Fine floor (node r) = Fine floor r
  Fine floor (apart r) = Fine floor r
  Fine floor _ = Unit {0}

  abbrev pub asks : After → {a : Sort} → G.family a → ℕ
  asks the_same n = 0
  asks others n = F.needs_inside n
  asks anything n = F.needs n

  -- the guards of a rule are decided, where so many bytes follow it that are consumed
  unfoldable pub Local : After → ℕ → {a : Sort} → Rule G.family a → Type 0
  unfolding decided consumes firsts
  Local k followed (here c r) = (decided k followed (consumes r) (firsts r) c ≡ true) × Local k followed r
  Local k followed (◌>>=◌ {a = a} r f) =
      Local k (followed + consumes (f (some_value a))) r × ((v : Value a) → Local k followed (f v))
  Local k followed (r or q) = Local k followed r × Local k followed q
  Local k followed (call n) = nat_lt followed (asks k n) ≡ false
  Local k followed (entering r) = Local k followed r
  Local k followed (node r) = Local k followed r
  Local k followed (apart r) = Local k followed r
  Local k followed _ = Unit {0}

  -- what begins with one text clashes with what begins with others
  others_clash : {a : Sort} {A : Type 0} (l x : List ℕ) (cs : List Condition) (n : ℕ) (table : List (List ℕ × A))
      (f : A → Rule G.family a) → every (λ other. differ l other.0) table ≡ true
      → every (clash (l ++ x, cs, n)) (firsts (text_and table f)) ≡ true
  unfolding firsts firsts_by
  others_clash l x cs n [] f h = refl
  others_clash l x cs n (row ∷ table) f h =
      let parts : (differ l row.0 ≡ true) × (every (λ other. differ l other.0) table ≡ true) = both_if _ _ h in
      every_join (clash (l ++ x, cs, n)) _ (firsts (text_and table f))
      (every_map (clash (l ++ x, cs, n)) (λ q. (row.0 ++ q.0, [], length row.0 + q.2)) (firsts (f row.1))
      (λ q. clash_texts (l ++ x, cs, n) (row.0 ++ q.0, [], length row.0 + q.2) (differ_more l row.0 x q.0 parts.0)))
      (others_clash l x cs n table f parts.1)

  pub fine_texts : {a : Sort} {A : Type 0} (floor : ℕ) (table : List (List ℕ × A)) (f : A → Rule G.family a)
      → apart_texts table ≡ true → some_bytes table ≡ true → ((x : A) → Fine ranks (f x))
      → Fine floor (text_and table f)
  unfolding Fine Even exclude firsts firsts_by consumes
  fine_texts floor [] f h k go = tt
  fine_texts floor (row ∷ table) f h k go =
      let parts : (every (λ other. differ row.0 other.0) table ≡ true) × (apart_texts table ≡ true) = both_if _ _ h in
      let some : (nat_lt 0 (length row.0) ≡ true) × (some_bytes table ≡ true) = both_if _ _ k in (
        every_map (λ r. every (clash r) (firsts (text_and table f))) (λ q. (row.0 ++ q.0, [], length row.0 + q.2))
            (firsts (f row.1)) (λ q. others_clash row.0 q.0 [] (length row.0 + q.2) table f parts.0),
        (
          tt,
          λ _. subst (λ t. Fine (cond t ranks floor) (f row.1)) (sym some.0) (go row.1),
          λ _. le-ltb (consumes (f row.1)) (consumes (f row.1)) (omega arith),
        ),
        fine_texts floor table f parts.1 some.1 go,
      )

  -- what begins with a text of the table clashes with what stands where none of them begins
  texts_barred : {a : Sort} {A : Type 0} (ms : List (List ℕ)) (table : List (List ℕ × A)) (f : A → Rule G.family a)
      (q : Rule G.family a)
      → Among ms table → exclude (firsts (text_and table f)) (firsts (here (none_of ms) q)) ≡ true
  unfolding exclude firsts firsts_by
  texts_barred ms [] f q h = refl
  texts_barred ms (row ∷ table) f q h =
      every_join (λ r. every (clash r) (firsts (here (none_of ms) q))) _ (firsts (text_and table f))
      (every_map (λ r. every (clash r) (firsts (here (none_of ms) q)))
      (λ p. (row.0 ++ p.0, [], length row.0 + p.2)) (firsts (f row.1))
      (λ p. every_map (clash (row.0 ++ p.0, [], length row.0 + p.2)) (λ r. (r.0, none_of ms ∷ r.1, r.2)) (firsts q)
      (λ r. clash_guard (row.0 ++ p.0, [], length row.0 + p.2) r.0 (none_of ms) r.1 r.2 (h.0 p.0))))
      (texts_barred ms table f q h.1)

  pub fine_text_or : {a : Sort} {A : Type 0} (floor : ℕ) (table : List (List ℕ × A)) (f : A → Rule G.family a)
      (q : Rule G.family a)
      → apart_texts table ≡ true → some_bytes table ≡ true → ((x : A) → Fine ranks (f x)) → Fine floor q
      → Fine floor (text_or table f q)
  unfolding Fine
  fine_text_or floor table f q h k go rest =
      (texts_barred (texts_of table) table f q (among_these table), fine_texts floor table f h k go, rest)

  pub local_texts : {a : Sort} {A : Type 0} (k : After) (followed : ℕ) (table : List (List ℕ × A))
      (f : A → Rule G.family a)
      → ((x : A) → Local k followed (f x)) → Local k followed (text_and table f)
  unfolding Local
  local_texts k followed [] f go = tt
  local_texts k followed (row ∷ table) f go = ((tt, λ _. go row.1), local_texts k followed table f go)

  -- the same bytes after decide each guard as before
  pub same_local : {a : Sort} (r : Rule G.family a) (followed : ℕ) → Local the_same followed r
  unfolding Local decided
  same_local (here c r) followed = (refl, same_local r followed)
  same_local (◌>>=◌ {a = a} r f) followed =
      (same_local r (followed + consumes (f (some_value a))), λ v. same_local (f v) followed)
  same_local (r or q) followed = (same_local r followed, same_local q followed)
  same_local (call n) followed = none_below followed
  same_local (entering r) followed = same_local r followed
  same_local (node r) followed = same_local r followed
  same_local (apart r) followed = same_local r followed
  same_local _ followed = tt

  -- what is computed of one production
  unfoldable pub Checked : {a : Sort} → G.family a → Type 0
  unfolding Fine Local
  Checked n =
      Fine (F.rank n) (G.rule n) × (nat_lt (F.rank n) ranks ≡ true) ×
      (nat_lt (consumes (G.rule n)) (F.consumer n) ≡ false)
      × Local anything (F.needs n) (G.rule n) × Local others (F.needs_inside n) (G.rule n)

-- a grammar that passes the checks
pub record Fit {G : Grammar} (F : Figures G) : Type 0 where
  pub checked : {a : Sort} (n : G.family a) → Checked F n

module _ {G : Grammar} {F : Figures G} (C : Fit F) where
  pub fine : {a : Sort} (n : G.family a) → Fine F (F.rank n) (G.rule n)
  unfolding Checked
  fine n = (C.checked n).0

  pub rank_small : {a : Sort} (n : G.family a) → nat_lt (F.rank n) ranks ≡ true
  unfolding Checked
  rank_small n = (C.checked n).1

  pub consumers : {a : Sort} (n : G.family a) → nat_lt (consumes F (G.rule n)) (F.consumer n) ≡ false
  unfolding Checked
  consumers n = (C.checked n).2

  pub locals : (k : After) {a : Sort} (n : G.family a) → Local F k (asks F k n) (G.rule n)
  unfolding Checked
  locals the_same n = same_local F (G.rule n) 0
  locals others n = (C.checked n).4
  locals anything n = (C.checked n).3
