-- The offsets of the back references of a symbol increase in the order in which they are noted.
use Rattle.std.proofs.Common.{ℕ, zero, suc, List, [], ◌∷◌, ◌++◌, length, Bool, true, false, cond, nat_lt, map}
use Rattle.std.proofs.Common.{◌≡◌, ◌≤◌, ◌<◌, ◌+◌, ◌-◌, refl, sym, ap, ◌∙◌, subst, arith, append-nil, append_assoc}
use Rattle.std.proofs.Common.{length-append}
use Rattle.std.specs.List.{slice_index}
use Rattle.msvc_nodes.specs.Trees.{SymbolTree}
use Rattle.msvc_rules.specs.Reads.{DerivesIn, Reads, given, a_letter, a_literal, a_part, where_it_holds, in_a_row}
use Rattle.msvc_rules.specs.Reads.{the_first, the_second, called, a_known_name, remembered, a_known_type, a_noted_type}
use Rattle.msvc_rules.specs.Reads.{a_node, entered, set_apart}
use Rattle.msvc_rules.specs.Reads.{it_stands}
use Rattle.msvc_rules.specs.Rules.{Grammar, Rule}
use Rattle.msvc_rules.specs.Sorts.{Sort, Value}
use Rattle.msvc_rules.specs.State.{Note, State, place, span_of, remember_name, remember_type, beginning}
use Rattle.msvc_rules.specs.Written.{AreRising}
use Rattle.msvc_rules.proofs.Checks.{Figures, Fit}
use Rattle.msvc_rules.proofs.DigitPlaces.{Placing}
use Rattle.msvc_rules.proofs.EntryOrigins.{Within, within_next}
use Rattle.msvc_rules.proofs.Progress.{IsTail, tail}

-- notes between two places, each after the one before it
abbrev pub Between : ℕ → List Note → ℕ → Type 0
Between from [] to = from ≤ to
Between from (n ∷ ns) to = (from ≤ n.at) × Between (suc n.at) ns to

between_from : (a b : ℕ) (ns : List Note) (c : ℕ) → a ≤ b → Between b ns c → Between a ns c
between_from a b [] c h k = omega (arith, h, k)
between_from a b (n ∷ ns) c h k = (omega (arith, h, k.0), k.1)

between_join : (a : ℕ) (ns : List Note) (b : ℕ) (ms : List Note) (c : ℕ) → Between a ns b → Between b ms c
    → Between a (ns ++ ms) c
between_join a [] b ms c h k = between_from a b ms c h k
between_join a (n ∷ ns) b ms c h k = (h.0, between_join (suc n.at) ns b ms c h.1 k)

-- the notes that were taken on the way
abbrev pub Taken : List ℕ → List ℕ → List ℕ → State → State → Type 0
Taken text left rest s t =
    (new : List Note) × (t.notes ≡ s.notes ++ new)
    × Between (length text - length left) new (length text - length rest)

none_taken : (text left rest : List ℕ) (s t : State) → t.notes ≡ s.notes → IsTail left rest → Taken text left rest s t
none_taken text left rest s t same h =
    ([], same ∙ sym (append-nil s.notes), omega (arith, ap length h.1, length-append h.0 rest))

both_taken : (text left l rest : List ℕ) (s t u : State) → Taken text left l s t → Taken text l rest t u
    → Taken text left rest s u
both_taken text left l rest s t u h k = (
  h.0 ++ k.0,
  k.1 ∙ ap (λ z. z ++ k.0) h.1 ∙ append_assoc s.notes h.0 k.0,
  between_join (length text - length left) h.0 (length text - length l) k.0 (length text - length rest) h.2 k.2,
)

one_taken : (text : List ℕ) (b : ℕ) (rest : List ℕ) (s : State) (n : Note) → Within text (b ∷ rest) s
    → n.at ≡ place (b ∷ rest) s
    → Taken text (b ∷ rest) rest s (record s { notes = s.notes ++ n ∷ [] })
one_taken text b rest s n w at = (
  n ∷ [],
  refl,
  (omega (arith, at, w.0), omega (arith, at, w.0, ap length w.1.1, length-append w.1.0 (b ∷ rest))),
)

entered_taken : (text left rest : List ℕ) (s t u : State) (b : Bool) → u.notes ≡ t.notes → Taken text left rest s t
    → Taken text left rest s (cond b u t)
entered_taken text left rest s t u true same h = (h.0, same ∙ h.1, h.2)
entered_taken text left rest s t u false same h = h

rising : (a : ℕ) (ns : List Note) (c : ℕ) → Between a ns c → AreRising ns
rising a [] c h k less = absurd (omega arith)
rising a (n ∷ []) c h k less = absurd (omega arith)
rising a (n ∷ m ∷ ns) c h zero less = h.1.0
rising a (n ∷ m ∷ ns) c h (suc k) less =
    let next : suc k + 1 ≡ suc (k + 1) = omega arith in
    subst (λ i. slice_index (map (λ (x : Note). x.at) (m ∷ ns)) k
    < slice_index (map (λ (x : Note). x.at) (n ∷ m ∷ ns)) i)
    (sym next)
    (rising (suc n.at) (m ∷ ns) c h.1 k (omega arith))

module _ {G : Grammar} {F : Figures G} (C : Fit F) (D : Placing F) where
  pub taken : {a : Sort} {r : Rule G.family a} {left : List ℕ} {s : State} {v : Value a} {rest : List ℕ} {t : State}
      → Reads G a r left s v rest t
      → (text : List ℕ) → Within text left s → Taken text left rest s t
  taken (where_it_holds e d) text w = taken d text w
  taken (in_a_row {left = left} {l = l} {rest = rest} {s = s} {t = t} {u = u} c d) text w =
      both_taken text left l rest s t u (taken c text w) (taken d text (within_next C D text w c))
  taken (the_first d) text w = taken d text w
  taken (the_second d) text w = taken d text w
  taken (called d) text w = taken d text w
  taken (a_node d) text w = taken d text w
  taken (entered {v = v} {left = left} {rest = rest} {s = s} {t = t} d) text w =
      entered_taken text left rest s t (remember_type (span_of v left rest t) t) (nat_lt 1 (length left - length rest))
      refl (taken d text w)
  taken (set_apart d) text w = taken d text w
  taken (a_noted_type {b = b} {e = e} {rest = rest} {s = s} k d) text w =
      one_taken text b rest s (record { at = place (b ∷ rest) s; start = e.start; end = e.end }) w refl
  taken (given {left = left} {s = s}) text w = none_taken text left left s s refl ([], refl)
  taken (a_letter {b = b} {rest = rest} {s = s} e) text w = none_taken text (b ∷ rest) rest s s refl (b ∷ [], refl)
  taken (a_literal {l = l} {left = left} {rest = rest} {s = s} e) text w = none_taken text left rest s s refl (l, e)
  taken (a_part {left = left} {rest = rest} {s = s} e d) text w =
      none_taken text left rest s s refl (tail C (a_part {s = s} e d))
  taken (a_known_name {left = left} {s = s} e) text w = none_taken text left left s s refl ([], refl)
  taken (it_stands {left = left} {s = s} e) text w = none_taken text left left s s refl ([], refl)
  taken (remembered {n = n} {left = left} {s = s}) text w =
      none_taken text left left s (remember_name n s) refl ([], refl)
  taken (a_known_type {left = left} {s = s} e) text w = none_taken text left left s s refl ([], refl)

  -- the notes of what a text derives rise
  pub derived_rising : (text : List ℕ) (tree : SymbolTree) (rest : List ℕ) (notes : List Note)
      → DerivesIn G text tree rest notes → AreRising notes
  derived_rising text tree rest notes d =
      let all : Taken text text rest (beginning text) d.0 = taken d.1 text (refl, ([], refl)) in
      subst AreRising (sym all.1 ∙ d.2) (rising (length text - length text) all.0 (length text - length rest) all.2)
