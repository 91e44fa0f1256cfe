-- Where the entries of the table of types come from: each was read in the text between its two offsets, with earlier
-- tables.
use Rattle.std.proofs.Common.{ℕ, zero, suc, List, [], ◌∷◌, ◌++◌, length, Some, Bool, true, false, cond, nat_lt}
use Rattle.std.proofs.Common.{◌≡◌, ◌<◌, ◌+◌, ◌-◌, refl, sym, ap, ◌∙◌, subst, arith, inl, inr, length-append}
use Rattle.std.proofs.lemmas.Bool.{ltb-true}
use Rattle.std.specs.List.{list_any}
use Rattle.std.specs.Prelude.{slice_get, ◌⊎◌}
use Rattle.msvc_nodes.specs.Trees.{TypeTree}
use Rattle.msvc_nodes.specs.Equality.{same_type}
use Rattle.msvc_rules.specs.Laws.{Later}
use Rattle.msvc_rules.specs.Reads.{enter, note_digit, put_back, Reads, given, a_letter, a_literal, a_part}
use Rattle.msvc_rules.specs.Reads.{where_it_holds, in_a_row, the_first, the_second, called, a_known_name, remembered}
use Rattle.msvc_rules.specs.Reads.{a_known_type, a_node, a_noted_type, entered, nodes_of_type, set_apart}
use Rattle.msvc_rules.specs.Reads.{it_stands}
use Rattle.msvc_rules.specs.Rules.{Grammar, Rule, call}
use Rattle.msvc_rules.specs.Sorts.{Sort, Value, type_tree}
use Rattle.msvc_rules.specs.State.{Entry, State, counted, most_memorized, span_of, with_type, remember_name}
use Rattle.msvc_rules.specs.State.{remember_type}
use Rattle.msvc_rules.proofs.Checks.{Figures, Fit}
use Rattle.msvc_rules.proofs.DigitPlaces.{Placed, Beside, placed, Placing}
use Rattle.msvc_rules.proofs.Locality.{later-refl, later-trans, later-type, grows}
use Rattle.msvc_rules.proofs.Progress.{IsTail, tail, tail_of_tail}

-- the bytes left are the text's, and places are told in it
abbrev pub Within : List ℕ → List ℕ → State → Type 0
Within text left s = (s.whole ≡ length text) × IsTail text left

-- what stands in a longer list stands in it without its last, or is that
pub got_last : {A : Type 0} (es : List A) (x e : A) (i : ℕ) → slice_get (es ++ x ∷ []) i ≡ Some e
    → (slice_get es i ≡ Some e) ⊎ (e ≡ x)
got_last [] x e zero h = inr (cc)
got_last [] x e (suc i) h = absurd (cc)
got_last (y ∷ es) x e zero h = inl h
got_last (y ∷ es) x e (suc i) h = got_last es x e i h

got_with : (x e : Entry) (es : List Entry) (i : ℕ) → slice_get (with_type x es) i ≡ Some e
    → (slice_get es i ≡ Some e) ⊎ (e ≡ x)
got_with x e es i h = go (nat_lt (length es) most_memorized) (list_any (λ k. same_type x.entered k.entered) es) h
  where
    go : (t u : Bool) → slice_get (cond t (cond u es (es ++ x ∷ [])) es) i ≡ Some e
        → (slice_get es i ≡ Some e) ⊎ (e ≡ x)
    go true true h = inl h
    go true false h = got_last es x e i h
    go false u h = inl h

module _ {G : Grammar} {F : Figures G} (C : Fit F) (D : Placing F) where
  -- how an entry was read
  pub record Source (text : List ℕ) (e : Entry) : Type 0 where
    pub before : List ℕ
    pub span : List ℕ
    pub rest : List ℕ
    pub stands : text ≡ before ++ (span ++ rest)
    pub starts : e.start ≡ length before
    pub ends : e.end ≡ length before + length span
    pub long : 1 < length span
    pub found : State
    pub left : State
    pub read : Reads G type_tree (call G.parameter_type) (span ++ rest) found e.entered rest left

  -- an entry of these tables, which are later than those that it entered
  abbrev pub From : List ℕ → Entry → State → Type 0
  From text e s = (h : Source text e) × Later (remember_type e h.left) s

  abbrev pub Sourced : List ℕ → State → Type 0
  Sourced text s = (i : ℕ) (e : Entry) → slice_get s.types i ≡ Some e → From text e s

  from_later : (text : List ℕ) (e : Entry) (s t : State) → From text e s → Later s t → From text e t
  from_later text e s t h k = (h.0, later-trans (remember_type e h.0.left) s t h.1 k)

  pub whole_same : {a : Sort} {r : Rule G.family a} {left : List ℕ} {s : State} {v : Value a} {rest : List ℕ}
      {t : State}
      → Reads G a r left s v rest t → t.whole ≡ s.whole
  whole_same (where_it_holds e d) = whole_same d
  whole_same (in_a_row c d) = whole_same d ∙ whole_same c
  whole_same (the_first d) = whole_same d
  whole_same (the_second d) = whole_same d
  whole_same (called d) = whole_same d
  whole_same (a_node d) = whole_same d
  whole_same (entered {v = v} {left = left} {rest = rest} {t = t} d) =
      go (nat_lt 1 (length left - length rest)) ∙ whole_same d
    where
      go : (b : Bool) → (cond b (remember_type (span_of v left rest t) t) t).whole ≡ t.whole
      go true = refl
      go false = refl
  whole_same (set_apart d) = whole_same d
  whole_same given = refl
  whole_same (a_letter e) = refl
  whole_same (a_literal e) = refl
  whole_same (a_part e d) = refl
  whole_same (a_known_name e) = refl
  whole_same (it_stands e) = refl
  whole_same remembered = refl
  whole_same (a_known_type e) = refl
  whole_same (a_noted_type e d) = refl

  pub within_next : {a : Sort} {r : Rule G.family a} {left : List ℕ} {s : State} {v : Value a} {rest : List ℕ}
      {t : State}
      → (text : List ℕ) → Within text left s → Reads G a r left s v rest t → Within text rest t
  within_next text h d = (whole_same d ∙ h.0, tail_of_tail h.1 (tail C d))

  -- the types that entered stand where they did, if the table is the same and the tables are later
  kept : (text : List ℕ) (s t : State) → Sourced text s → Later s t
      → ((i : ℕ) → slice_get t.types i ≡ slice_get s.types i)
      → Sourced text t
  kept text s t h later same i e k = from_later text e s t (h i e (sym (same i) ∙ k)) later

  -- what was read enters with its places
  new_source : (text left rest : List ℕ) (s t : State) (v : TypeTree) → Within text left s
      → Reads G _ (call G.parameter_type) left s v rest t → 1 < length left - length rest
      → Source text (span_of v left rest t)
  new_source text left rest s t v within d long =
      let consumed : IsTail left rest = tail C d in
      record {
        before = within.1.0;
        span = consumed.0;
        rest = rest;
        stands = within.1.1 ∙ ap (λ z. within.1.0 ++ z) consumed.1;
        starts = omega (arith, whole_same d, within.0, ap length within.1.1, length-append within.1.0 left);
        ends =
            omega (
              arith,
              whole_same d,
              within.0,
              ap length within.1.1,
              length-append within.1.0 left,
              ap length consumed.1,
              length-append consumed.0 rest,
            );
        long = omega (arith, long, ap length consumed.1, length-append consumed.0 rest);
        found = s;
        left = t;
        read = subst (λ z. Reads G _ (call G.parameter_type) z s v rest t) consumed.1 d;
      }

  with_new : (text left rest : List ℕ) (s t : State) (v : TypeTree) → Within text left s
      → Reads G _ (call G.parameter_type) left s v rest t → Sourced text t → Sourced text (enter v left rest t)
  unfolding new_source
  with_new text left rest s t v within d h = go (nat_lt 1 (length left - length rest)) refl
    where
      either : (e : Entry) (i : ℕ) → 1 < length left - length rest
          → (slice_get t.types i ≡ Some e) ⊎ (e ≡ span_of v left rest t)
          → From text e (remember_type (span_of v left rest t) t)
      either e i long (inl k) =
          from_later text e t (remember_type (span_of v left rest t) t) (h i e k) (later-type (span_of v left rest t) t)
      either e i long (inr k) =
          subst (λ (x : Entry). From text x (remember_type (span_of v left rest t) t)) (sym k)
          (new_source text left rest s t v within d long, later-refl (remember_type (span_of v left rest t) t))

      go : (b : Bool) → nat_lt 1 (length left - length rest) ≡ b
          → Sourced text (cond b (remember_type (span_of v left rest t) t) t)
      go true long =
          λ i e k. either e i (ltb-true 1 (length left - length rest) long)
          (got_with (span_of v left rest t) e t.types i k)
      go false long = h

  type_read : {r : Rule G.family type_tree} {left : List ℕ} {s : State} {v : TypeTree} {rest : List ℕ} {t : State}
      → r ≡ call G.parameter_type → Reads G _ r left s v rest t → Reads G _ (call G.parameter_type) left s v rest t
  type_read {left = left} {s = s} {v = v} {rest = rest} {t = t} e d = subst (λ q. Reads G _ q left s v rest t) e d

  pub type_placed : {r : Rule G.family type_tree} → r ≡ call G.parameter_type → Placed F r
  unfolding Placed
  type_placed e = subst (λ (q : Rule G.family type_tree). Placed F q) (sym e) tt

  pub sourced : {a : Sort} {r : Rule G.family a} {left : List ℕ} {s : State} {v : Value a} {rest : List ℕ} {t : State}
      → Reads G a r left s v rest t
      → Placed F r → (text : List ℕ) → Within text left s → Sourced text s → Sourced text t
  unfolding Placed Beside
  sourced (where_it_holds e d) p text w h = sourced d p.1 text w h
  sourced (in_a_row {v = v} c d) p text w h =
      sourced d (p.1 v) text (within_next text w c) (sourced c p.0 text w h)
  sourced (the_first (a_noted_type {b = b} {e = e} {rest = rest} {s = s} k d)) p text w h =
      kept text s (counted (nodes_of_type e.entered s) (note_digit e (b ∷ rest) s)) h (later-refl s) (λ i. refl)
  sourced (the_first d) p text w h = sourced d p.0 text w h
  sourced (the_second d) p text w h = sourced d p.1 text w h
  sourced (called {n = n} d) p text w h = sourced d (placed D n) text w h
  sourced (a_node d) p text w h = sourced d p text w h
  sourced (entered {v = v} {left = left} {rest = rest} {s = s} {t = t} d) p text w h =
      with_new text left rest s t v w (type_read p d) (sourced d (type_placed p) text w h)
  sourced (set_apart {s = s} {t = t} d) p text w h = kept text s (put_back s t) h (grows C (set_apart d)) (λ i. refl)
  sourced (remembered {n = n} {s = s}) p text w h =
      kept text s (remember_name n s) h (grows C (remembered {n = n} {left = []} {s = s})) (λ i. refl)
  sourced given p text w h = h
  sourced (a_letter e) p text w h = h
  sourced (a_literal e) p text w h = h
  sourced (a_part e d) p text w h = h
  sourced (a_known_name e) p text w h = h
  sourced (it_stands e) p text w h = h
  sourced (a_known_type e) p text w h = h
  sourced (a_noted_type e d) p text w h = absurd p
