-- Checks of the grammar by which a back reference can be written out: a rule reads something before the digit, or says
-- what else it reads in its place; and no guard distinguishes the digit from the bytes that replace it.
use Rattle.std.proofs.Common.{ℕ, zero, suc, List, [], ◌∷◌, Bool, true, false, ◌≡◌, ◌==◌, ◌+◌, nat_lt, drop}
use Rattle.std.proofs.Common.{take, not, length, arith}
use Rattle.std.proofs.lemmas.Bool.{le-ltb}
use Rattle.std.specs.Prelude.{codes, if◌then◌else◌}
use Rattle.msvc_rules.specs.Rules.{Grammar, Condition, none_of, at_end, every, some_of, Rule, letter, literal, up_to}
use Rattle.msvc_rules.specs.Rules.{here, ◌>>=◌, ◌or◌, call, noted, entering, apart, node, begins_of, text_and}
use Rattle.msvc_rules.specs.Sorts.{Sort, Value, type_tree}
use Rattle.msvc_rules.proofs.Checks.{some_value, least, consumes, differ, bars, others, Local, Figures}

abbrev pub is_in : List ℕ → ℕ → Bool
is_in l b = some_of (λ c. b == c) l

-- bytes that no type of more than one byte begins with
abbrev pub stops : List ℕ
stops = codes "0123456789XZ@"

module _ {G : Grammar} (F : Figures G) where
  -- as many as one likes where it notes none
  unfoldable pub ahead : {a : Sort} → Rule G.family a → ℕ
  unfolding consumes
  ahead (here c r) = ahead r
  ahead (◌>>=◌ {a = a} r f) = least (ahead r) (consumes F r + ahead (f (some_value a)))
  ahead (r or q) = least (ahead r) (ahead q)
  ahead (call n) = F.runs_up n
  ahead (noted table) = 0
  ahead (entering r) = ahead r
  ahead (node r) = ahead r
  ahead (apart r) = ahead r
  ahead _ = 9

  -- whether what a rule reads has a byte that a text lacks
  unfoldable pub misses_by : ((b : Sort) → G.family b → Bool) → List ℕ → {a : Sort} → Rule G.family a → Bool
  misses_by calls l (letter a table) = every (λ row. not (is_in l row.0)) table
  misses_by calls l (literal m) = not (every (is_in l) m)
  misses_by calls l (up_to b) = not (is_in l b)
  misses_by calls l (here c r) = misses_by calls l r
  misses_by calls l (r >>= f) = misses_by calls l r
  misses_by calls l (r or q) = if misses_by calls l r then misses_by calls l q else false
  misses_by calls l (call n) = calls _ n
  misses_by calls l (entering r) = misses_by calls l r
  misses_by calls l (node r) = misses_by calls l r
  misses_by calls l (apart r) = misses_by calls l r
  misses_by calls l r = false

  unfoldable pub misses_within : ℕ → List ℕ → {a : Sort} → G.family a → Bool
  unfolding misses_by
  misses_within zero l n = false
  misses_within (suc k) l n = misses_by (λ b m. misses_within k l m) l (G.rule n)

  unfoldable pub misses : List ℕ → {a : Sort} → Rule G.family a → Bool
  unfolding misses_by misses_within
  misses l r = misses_by (λ b m. misses_within 3 l m) l r

  -- Whether a text that stands where the rule begins ends before a digit that the rule notes, or goes on there with a
  -- byte that no type of more than one byte begins with.
  unfoldable pub clear_by : (List ℕ → (b : Sort) → G.family b → Bool) → List ℕ → {a : Sort} → Rule G.family a → Bool
  unfolding ahead consumes misses
  clear_by calls l (here c r) = if bars l c then true else clear_by calls l r
  clear_by calls l ((literal m) >>= f) =
      if differ m l then true else clear_by calls (drop (length m) l) (f tt)
  clear_by calls l ((letter a table) >>= f) =
      every (λ row. if differ (row.0 ∷ []) l then true else clear_by calls (drop 1 l) (f row.1)) table
  clear_by calls l (◌>>=◌ {a = a} r f) =
      if clear_by calls l r
      then (if misses l r then true else every (is_in stops) (drop (consumes F r + ahead (f (some_value a))) l))
      else false
  clear_by calls l (r or q) = if clear_by calls l r then clear_by calls l q else false
  clear_by calls l (call n) = if every (is_in stops) (drop (F.runs_up n) l) then true else calls l _ n
  clear_by calls l (noted table) = every (is_in stops) (take 1 l)
  clear_by calls l (entering r) = clear_by calls l r
  clear_by calls l (node r) = clear_by calls l r
  clear_by calls l (apart r) = clear_by calls l r
  clear_by calls l r = true

  unfoldable pub clear_within : ℕ → List ℕ → {a : Sort} → G.family a → Bool
  unfolding clear_by
  clear_within zero l n = false
  clear_within (suc k) l n = clear_by (λ m b q. clear_within k m q) l (G.rule n)

  -- a guard that tells no digit from the bytes that are written out in its place
  unfoldable pub keeps : Condition → {a : Sort} → Rule G.family a → Bool
  unfolding clear_by clear_within
  keeps (none_of ls) r = every (λ l. clear_by (λ m b q. clear_within 3 m q) l r) ls
  keeps at_end r = true

  -- what is read where a noted digit was written out: a type, which enters the table
  abbrev pub instead : List (ℕ × ℕ) → Rule G.family type_tree
  instead table = here (none_of (begins_of table)) (entering (call G.parameter_type))

  -- a digit is noted beside what is read in its place; of another rule this is asked
  unfoldable pub Beside : {a : Sort} → Type 0 → Rule G.family a → Rule G.family a → Type 0
  Beside asked (noted table) q = (q ≡ instead table) × (every (λ row. is_in stops row.0) table ≡ true)
  Beside asked r q = asked

  -- A digit is noted beside what is read in its place, and nowhere else; and what stands before it is read again,
  -- whatever stands in its place.
  unfoldable pub Placed : {a : Sort} → Rule G.family a → Type 0
  unfolding ahead keeps Local consumes Beside
  Placed (here c r) = (keeps c r ≡ true) × Placed r
  Placed (◌>>=◌ {a = a} r f) =
      Placed r × ((v : Value a) → Placed (f v)) × Local F others (ahead (f (some_value a))) r
      × ((v : Value a) → nat_lt (ahead (f v)) (ahead (f (some_value a))) ≡ false)
  Placed (r or q) = Beside (Placed r) r q × Placed q
  Placed (noted table) = ⊥
  Placed (entering r) = r ≡ call G.parameter_type
  Placed (apart r) = Placed r
  Placed (node r) = Placed r
  Placed _ = Unit {0}

  unfoldable pub WellPlaced : {a : Sort} → G.family a → Type 0
  unfolding Placed ahead
  WellPlaced n = Placed (G.rule n) × (nat_lt (ahead (G.rule n)) (F.runs_up n) ≡ false)

  -- what begins with a text of a table
  pub placed_texts : {a : Sort} {A : Type 0} (table : List (List ℕ × A)) (f : A → Rule G.family a)
      → ((x : A) → Placed (f x))
      → Placed (text_and table f)
  unfolding Placed Beside Local
  placed_texts [] f go = tt
  placed_texts (row ∷ table) f go = (
    (tt, λ _. go row.1, tt, λ _. le-ltb (ahead (f row.1)) (ahead (f row.1)) (omega arith)),
    placed_texts table f go,
  )

-- a grammar whose digits stand in their places
pub record Placing {G : Grammar} (F : Figures G) : Type 0 where
  pub well_placed : {a : Sort} (n : G.family a) → WellPlaced F n

module _ {G : Grammar} {F : Figures G} (D : Placing F) where
  pub placed : {a : Sort} (n : G.family a) → Placed F (G.rule n)
  unfolding WellPlaced
  placed n = (D.well_placed n).0

  pub runs_ups : {a : Sort} (n : G.family a) → nat_lt (ahead F (G.rule n)) (F.runs_up n) ≡ false
  unfolding WellPlaced
  runs_ups n = (D.well_placed n).1
