-- A rule leaves a suffix of what it found, shorter by at least as many bytes as the rule must read.
use Rattle.std.proofs.Common.{ℕ, List, [], ◌∷◌, ◌++◌, length, Bool, true, false, cond, nat_lt, ◌≡◌, ◌≤◌, ◌+◌, refl, sym}
use Rattle.std.proofs.Common.{ap, ◌∙◌, arith, append_assoc, length-append}
use Rattle.std.proofs.lemmas.Bool.{ltb-false, ltb-true}
use Rattle.msvc_rules.specs.Readers.{ranks}
use Rattle.msvc_rules.specs.Reads.{Reads, given, a_letter, a_literal, a_part, where_it_holds, in_a_row, the_first}
use Rattle.msvc_rules.specs.Reads.{the_second, called, a_known_name, remembered, a_known_type, a_noted_type, entered}
use Rattle.msvc_rules.specs.Reads.{a_node, set_apart}
use Rattle.msvc_rules.specs.Reads.{it_stands}
use Rattle.msvc_rules.specs.Rules.{Grammar, Rule}
use Rattle.msvc_rules.specs.Sorts.{Sort, Value}
use Rattle.msvc_rules.specs.State.{State}
use Rattle.msvc_rules.proofs.Checks.{some_value, Fine, fine, Even, least, consumes, consumers, Figures, Fit}

abbrev pub IsTail : List ℕ → List ℕ → Type 0
IsTail left rest = (consumed : List ℕ) × (left ≡ consumed ++ rest)

pub tail_of_tail : {left l rest : List ℕ} → IsTail left l → IsTail l rest → IsTail left rest
tail_of_tail {rest = rest} h k = (h.0 ++ k.0, h.1 ∙ ap (λ z. h.0 ++ z) k.1 ∙ sym (append_assoc h.0 k.0 rest))

-- a number of bytes were consumed
abbrev pub Less : List ℕ → ℕ → List ℕ → Type 0
Less left n rest = length rest + n ≤ length left

pub least_first : (d e : ℕ) → least d e ≤ d
least_first d e = go (nat_lt d e) refl
  where
    go : (t : Bool) → nat_lt d e ≡ t → cond t d e ≤ d
    go true h = omega arith
    go false h = ltb-false d e h

pub least_second : (d e : ℕ) → least d e ≤ e
least_second d e = go (nat_lt d e) refl
  where
    go : (t : Bool) → nat_lt d e ≡ t → cond t d e ≤ e
    go true h = omega (arith, ltb-true d e h)
    go false h = omega arith

module _ {G : Grammar} {F : Figures G} (C : Fit F) where
  pub tail : {a : Sort} {r : Rule G.family a} {left : List ℕ} {s : State} {v : Value a} {rest : List ℕ} {t : State}
      → Reads G a r left s v rest t → IsTail left rest
  tail (a_letter {b = b} e) = (b ∷ [], refl)
  tail (a_literal {l = l} e) = (l, e)
  tail (a_part {b = b} {v = v} {rest = rest} e h) = (v ++ b ∷ [], e ∙ sym (append_assoc v (b ∷ []) rest))
  tail (where_it_holds e h) = tail h
  tail (in_a_row h k) = tail_of_tail (tail h) (tail k)
  tail (the_first h) = tail h
  tail (the_second h) = tail h
  tail (called h) = tail h
  tail (a_node h) = tail h
  tail (a_noted_type {b = b} e h) = (b ∷ [], refl)
  tail (entered h) = tail h
  tail (set_apart h) = tail h
  tail _ = ([], refl)

  pub shorter : {a : Sort} {r : Rule G.family a} {left : List ℕ} {s : State} {v : Value a} {rest : List ℕ} {t : State}
      → Reads G a r left s v rest t → (floor : ℕ) → Fine F floor r → Less left (consumes F r) rest
  unfolding consumes Fine Even
  shorter (a_letter e) floor f = omega arith
  shorter (a_literal {l = l} {rest = rest} e) floor f = omega (arith, ap length e, length-append l rest)
  shorter (a_part {b = b} {v = v} {rest = rest} e h) floor f = omega (arith, ap length e, length-append v (b ∷ rest))
  shorter (where_it_holds e h) floor f = shorter h floor f
  shorter (in_a_row {a = a} {r = r} {f = g} {v = v} h k) floor f =
      omega (
        arith,
        shorter h floor f.0,
        shorter k (cond (nat_lt 0 (consumes F r)) ranks floor) (f.1 v),
        ltb-false (consumes F (g v)) (consumes F (g (some_value a))) (f.2 v),
      )
  shorter (the_first {r = r} {q = q} h) floor f = omega (
    arith,
    shorter h floor f.1,
    least_first (consumes F r) (consumes F
        q),
  )
  shorter (the_second {r = r} {q = q} h) floor f = omega (
    arith,
    shorter h floor f.2,
    least_second (consumes F r) (consumes F
        q),
  )
  shorter (called {n = n} h) floor f =
      omega (arith, shorter h (F.rank n) (fine C n), ltb-false (consumes F (G.rule n)) (F.consumer n) (consumers C n))
  shorter (a_noted_type e h) floor f = omega arith
  shorter (a_node h) floor f = shorter h floor f
  shorter (entered h) floor f = shorter h floor f
  shorter (set_apart h) floor f = shorter h floor f
  shorter given floor f = omega arith
  shorter (a_known_name e) floor f = omega arith
  shorter (it_stands e) floor f = omega arith
  shorter remembered floor f = omega arith
  shorter (a_known_type e) floor f = omega arith
