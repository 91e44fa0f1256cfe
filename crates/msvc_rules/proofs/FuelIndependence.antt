-- A bound on calls that is large enough reads what any other does, so a production is read as its rule.
use Rattle.std.proofs.Common.{ℕ, zero, suc, List, length, Some, None, Bool, true, false, cond, nat_lt, ◌≡◌, ◌<◌, ◌≤◌}
use Rattle.std.proofs.Common.{◌+◌, ◌*◌, refl, ap, ◌∙◌, arith}
use Rattle.std.proofs.lemmas.Bool.{ltb-true}
use Rattle.msvc_rules.specs.Readers.{counting, only_if, Found, Reader, and_then, or_else, entered_by, put_apart}
use Rattle.msvc_rules.specs.Readers.{read_by, read_within, ranks, read_name_in, read_in}
use Rattle.msvc_rules.specs.Reads.{emptied}
use Rattle.msvc_rules.specs.Rules.{Grammar, holds, Rule, here, ◌>>=◌, ◌or◌, call, node, entering, apart}
use Rattle.msvc_rules.specs.Sorts.{Sort}
use Rattle.msvc_rules.specs.State.{State, counted, is_allowed, more}
use Rattle.msvc_rules.proofs.Checks.{depth, Fine, fine, consumes, rank_small, Figures, Fit}
use Rattle.msvc_rules.proofs.Progress.{Less, shorter}
use Rattle.msvc_rules.proofs.Soundness.{IfFound, Derived, Sound, sound_by, within-sound, name-sound}

then_same : {A B : Type 0} (P : A × List ℕ × State → Type 0) (o p : Found A) (f g : A → List ℕ → State → Found B)
    → o ≡ p → IfFound P p
    → ((x : A × List ℕ × State) → P x → f x.0 x.1 x.2 ≡ g x.0 x.1 x.2) → and_then o f ≡ and_then p g
then_same P o None f g e h go = ap (λ z. and_then z f) e
then_same P o (Some x) f g e h go = ap (λ z. and_then z f) e ∙ go x h

floor_after : (e floor bound : ℕ) (left rest : List ℕ) → ranks * length left + floor ≤ bound → Less left e rest
    → ranks * length rest + cond (nat_lt 0 e) ranks floor ≤ bound
floor_after e floor bound left rest h less = go (nat_lt 0 e) refl
  where
    go : (t : Bool) → nat_lt 0 e ≡ t → ranks * length rest + cond t ranks floor ≤ bound
    go true k = omega (arith, ltb-true 0 e k)
    go false k = omega arith

-- what goes on once nodes were counted
counted_same : {A : Type 0} (n : ℕ) (left : List ℕ) (s : State) (f g : List ℕ → State → Found A)
    → f left (counted n s) ≡ g left (counted n s)
    → and_then (counting n left s) (λ _. f) ≡ and_then (counting n left s) (λ _. g)
unfolding counting
counted_same n left s f g e = go (is_allowed (more n s.count))
  where
    go : (t : Bool) → and_then (only_if t left (counted n s)) (λ _. f)
        ≡ and_then (only_if t left (counted n s)) (λ _. g)
    go true = e
    go false = refl

module _ {G : Grammar} {F : Figures G} (C : Fit F) where
  module _ (calls others : (b : Sort) → G.family b → Reader b) (bound : ℕ) (sound : Sound G others)
      (agree : (b : Sort) (n : G.family b) (left : List ℕ) (s : State) → depth F n left < bound
      → calls b n left s ≡ others b n left s) where
    pub stable_by : {a : Sort} (floor : ℕ) (r : Rule G.family a) (left : List ℕ) (s : State) → Fine F floor r
        → ranks * length left + floor ≤ bound
        → read_by calls r left s ≡ read_by others r left s
    unfolding read_by Fine depth
    stable_by floor (here c r) left s f h = ap (λ z. cond (holds c left) z None) (stable_by floor r left s f h)
    stable_by floor (r >>= g) left s f h =
        then_same (Derived G r left s) (read_by calls r left s) (read_by others r left s) _ _
        (stable_by floor r left s f.0 h) (sound_by G others sound r left s)
        (λ x d. stable_by (cond (nat_lt 0 (consumes F r)) ranks floor) (g x.0) x.1 x.2 (f.1 x.0)
        (floor_after (consumes F r) floor bound left x.1 h (shorter C d floor f.0)))
    stable_by floor (r or q) left s f h =
        ap (λ z. or_else z (read_by calls q left s)) (stable_by floor r left s f.1 h)
        ∙ ap (λ z. or_else (read_by others r left s) z) (stable_by floor q left s f.2 h)
    stable_by floor (call n) left s f h =
        agree _ n left s (let below : F.rank n < floor = ltb-true (F.rank n) floor f in omega arith)
    stable_by floor (node r) left s f h =
        counted_same s.count.weight left s (read_by calls r) (read_by others r)
        (stable_by floor r left (counted s.count.weight s) f h)
    stable_by floor (entering r) left s f h = ap (entered_by left) (stable_by floor r left s f h)
    stable_by floor (apart r) left s f h = ap (put_apart s) (stable_by floor r left (emptied s) f h)
    stable_by floor _ left s f h = refl

  pub within-stable : (k j : ℕ) (b : Sort) (n : G.family b) (left : List ℕ) (s : State) → depth F n left < k
      → depth F n left < j
      → read_within G k n left s ≡ read_within G j n left s
  unfolding read_within depth
  within-stable zero j b n left s h g = absurd (omega arith)
  within-stable (suc k) zero b n left s h g = absurd (omega arith)
  within-stable (suc k) (suc j) b n left s h g =
      stable_by (λ b m. read_within G k m) (λ b m. read_within G j m) (depth F n left) ((within-sound G) j)
      (λ c m l t less. within-stable k j c m l t (omega arith) (omega arith))
      (F.rank n) (G.rule n) left s (fine C n) (omega arith)

  enough : {a : Sort} (n : G.family a) (left : List ℕ) → depth F n left < ranks * suc (length left)
  unfolding depth
  enough n left = omega (arith, ltb-true (F.rank n) ranks (rank_small C n))

  -- a production is read as its rule
  pub read_name-is : {a : Sort} (n : G.family a) (left : List ℕ) (s : State)
      → read_name_in G n left s ≡ read_in G (G.rule n) left s
  unfolding read_name_in read_within read_in depth
  read_name-is n left s =
      within-stable (ranks * suc (length left)) (suc (depth F n left)) _ n left s (enough n left) (omega arith)
      ∙ stable_by (λ b m. read_within G (depth F n left) m) (λ b m. read_name_in G m) (depth F n left) (name-sound G)
      (λ c m l t less. within-stable (depth F n left) (ranks * suc (length l)) c m l t less (enough m l))
      (F.rank n) (G.rule n) left s (fine C n) (omega arith)
