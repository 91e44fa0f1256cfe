-- Completeness: what the grammar derives is what is read_in, unless it has more nodes than the limit. So the grammar
-- derives at most one tree.
use Rattle.std.proofs.Common.{ℕ, List, [], ◌∷◌, ◌++◌, Some, None, Bool, true, false, cond, not, ◌==◌, ◌≡◌, refl, sym}
use Rattle.std.proofs.Common.{ap, ◌∙◌, ◌-◌, length, nat_lt}
use Rattle.std.proofs.lemmas.Bool.{eq-eqb}
use Rattle.msvc_rules.specs.Readers.{Found, with_value, with_byte, part_here, after_literal, and_then, or_else}
use Rattle.msvc_rules.specs.Readers.{counting, only_if, name_known, type_known, type_noted, noted_by, entered_by}
use Rattle.msvc_rules.specs.Readers.{put_apart, read_by, read_name_in, read_in, ranks}
use Rattle.msvc_rules.specs.Readers.{name_stands}
use Rattle.msvc_rules.specs.Reads.{Reads, given, a_letter, a_literal, a_part, where_it_holds, in_a_row, the_first}
use Rattle.msvc_rules.specs.Reads.{the_second, called, a_node, a_known_name, remembered, a_known_type, a_noted_type}
use Rattle.msvc_rules.specs.Reads.{entered, set_apart, note_digit, nodes_of_name, nodes_of_type}
use Rattle.msvc_rules.specs.Reads.{it_stands}
use Rattle.msvc_rules.specs.Rules.{Grammar, every, after, Rule, call}
use Rattle.msvc_rules.specs.Sorts.{Sort, Value}
use Rattle.msvc_rules.specs.State.{State, counted, is_allowed, more, span_of, uncounted}
use Rattle.msvc_rules.proofs.Checks.{Fine, fine, consumes, Figures, Fit}
use Rattle.msvc_rules.proofs.CountsMonotone.{allowed_before, count_if, uncounted_allowed}
use Rattle.msvc_rules.proofs.FirstSets.{exclude-never, after-text}
use Rattle.msvc_rules.proofs.FuelIndependence.{read_name-is}
use Rattle.msvc_rules.proofs.Soundness.{IfFound, Derived, read-sound}

passed : {A : Type 0} (P : A × List ℕ × State → Type 0) (o q : Found A) → IfFound P o
    → ((x : A × List ℕ × State) → P x → ⊥) → or_else o q ≡ q
passed P None q h never = refl
passed P (Some x) q h never = absurd (never x h)

part-complete : (b : ℕ) (v rest : List ℕ) (s : State) → every (λ x. not (x == b)) v ≡ true
    → part_here b (v ++ b ∷ rest) s ≡ Some (v, rest, s)
unfolding part_here
part-complete b [] rest s h = ap (λ t. cond t (Some ([], rest, s)) (with_byte b (part_here b rest s))) (eq-eqb b b refl)
part-complete b (x ∷ v) rest s h = go (x == b) h (part-complete b v rest s)
  where
    go : (t : Bool) → cond (not t) (every (λ z. not (z == b)) v) false ≡ true
        → (every (λ z. not (z == b)) v ≡ true → part_here b (v ++ b ∷ rest) s ≡ Some (v, rest, s))
        → cond t (Some ([], v ++ b ∷ rest, s)) (with_byte x (part_here b (v ++ b ∷ rest) s)) ≡ Some (x ∷ v, rest, s)
    go true h ih = absurd (cc)
    go false h ih = ap (with_byte x) (ih h)

-- nodes that are allowed are counted
counts_on : {A : Type 0} (n : ℕ) (left : List ℕ) (s : State) (f : List ℕ → State → Found A)
    → is_allowed (more n s.count) ≡ true
    → and_then (counting n left s) (λ _. f) ≡ f left (counted n s)
unfolding counting
counts_on n left s f ok = ap (λ t. and_then (only_if t left (counted n s)) (λ _. f)) ok

same_found : {A : Type 0} (x y : A × List ℕ × State) → Some x ≡ Some y → (x.0 ≡ y.0) × (x.1 ≡ y.1) × (x.2 ≡ y.2)
same_found x y e = let same : x ≡ y = cc in (ap (λ z. z.0) same, ap (λ z. z.1) same, ap (λ z. z.2) same)

module _ {G : Grammar} {F : Figures G} (C : Fit F) where
  pub complete : {a : Sort} {r : Rule G.family a} {left : List ℕ} {s : State} {v : Value a} {rest : List ℕ} {t : State}
      → Reads G a r left s v rest t
      → (floor : ℕ) → Fine F floor r → is_allowed t.count ≡ true → read_in G r left s ≡ Some (v, rest, t)
  unfolding read_in read_by Fine
  complete given floor f ok = refl
  complete (a_letter {rest = rest} {s = s} e) floor f ok = ap (λ o. with_value o rest s) e
  complete (a_literal {l = l} {rest = rest} {s = s} e) floor f ok =
      ap (λ z. after_literal (after l z) s) e ∙ ap (λ o. after_literal o s) (after-text l rest)
  complete (a_part {b = b} {v = v} {rest = rest} {s = s} e h) floor f ok =
      ap (λ z. part_here b z s) e ∙ part-complete b v rest s h
  complete (where_it_holds {r = r} {left = left} {s = s} e h) floor f ok =
      ap (λ z. cond z (read_in G r left s) None) e ∙ complete h floor f ok
  complete (in_a_row {r = r} {f = g} {v = v} h k) floor f ok =
      ap (λ o. and_then o (λ x. read_in G (g x))) (complete h floor f.0 (allowed_before G k ok))
      ∙ complete k (cond (nat_lt 0 (consumes F r)) ranks floor) (f.1 v) ok
  complete (the_first {r = r} {q = q} {left = left} {s = s} h) floor f ok =
      ap (λ o. or_else o (read_in G q left s)) (complete h floor f.1 ok)
  complete (the_second {r = r} {q = q} {left = left} {s = s} h) floor f ok =
      passed (Derived G r left s) (read_in G r left s) (read_in G q left s) (read-sound G r left s)
      (λ x k. exclude-never C floor f.0 f.1 f.2 k h)
      ∙ complete h floor f.2 ok
  complete (called {n = n} {left = left} {s = s} h) floor f ok =
      read_name-is C n left s ∙ complete h (F.rank n) (fine C n) ok
  complete (a_node {r = r} {left = left} {s = s} h) floor f ok =
      counts_on s.count.weight left s (read_in G r) (allowed_before G h ok) ∙ complete h floor f ok
  complete (a_known_name {n = n} {left = left} {s = s} e) floor f ok =
      ap (λ o. name_known o left s) e ∙ counts_on (nodes_of_name n s) left s (λ l t. Some (n, l, t)) ok
  complete (it_stands {left = left} {s = s} e) floor f ok = ap (λ o. name_stands o left s) e
  complete remembered floor f ok = refl
  complete (a_known_type {e = e} {left = left} {s = s} h) floor f ok =
      ap (λ o. type_known o left s) h
      ∙ counts_on (nodes_of_type e.entered s) left s (λ l t. Some (e.entered, l, t)) ok
  complete (a_noted_type {b = b} {e = e} {rest = rest} {s = s} h k) floor f ok =
      ap (λ o. noted_by o (b ∷ rest) rest s) h ∙ ap (λ o. type_noted o (b ∷ rest) rest s) k
      ∙ counts_on (nodes_of_type e.entered s) rest (note_digit e (b ∷ rest) s) (λ l t. Some (e.entered, l, t)) ok
  complete (entered {v = v} {left = left} {rest = rest} {t = t} h) floor f ok =
      ap (entered_by left) (complete h floor f
      (ap is_allowed (sym (count_if (nat_lt 1 (length left - length rest)) (span_of v left rest t) t)) ∙ ok))
  complete (set_apart {s = s} h) floor f ok = ap (put_apart s) (complete h floor f ok)

  pub name-complete : {a : Sort} (n : G.family a) (left : List ℕ) (s : State) (v : Value a) (rest : List ℕ) (t : State)
      → Reads G a (call n) left s v rest t → is_allowed t.count ≡ true
      → read_name_in G n left s ≡ Some (v, rest, t)
  name-complete n left s v rest t (called h) ok = read_name-is C n left s ∙ complete h (F.rank n) (fine C n) ok

  -- without limit, a name is read in one way at most
  pub only : {a : Sort} (n : G.family a) (left : List ℕ) (s : State) (v w : Value a) (rest l : List ℕ) (t u : State)
      → s.count ≡ uncounted → Reads G a (call n) left s v rest t → Reads G a (call n) left s w l u
      → (v ≡ w) × (rest ≡ l) × (t ≡ u)
  only n left s v w rest l t u none h k =
      same_found (v, rest, t) (w, l, u)
      (sym (name-complete n left s v rest t h (uncounted_allowed G h none))
      ∙ name-complete n left s w l u k (uncounted_allowed G k none))
