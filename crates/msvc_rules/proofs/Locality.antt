-- Locality: what was read is read again with the same tables or with later ones, whatever follows.
use Rattle.std.proofs.Common.{ℕ, List, [], ◌∷◌, ◌++◌, length, Some, Bool, true, false, cond, nat_lt, ◌≡◌, ◌≤◌, ◌+◌, ◌-◌}
use Rattle.std.proofs.Common.{refl, sym, ap, ◌∙◌, subst, arith, append_assoc, length-append}
use Rattle.std.specs.Prelude.{slice_get}
use Rattle.std.proofs.lemmas.List.{append_cancel_right}
use Rattle.msvc_nodes.specs.Trees.{NameTree, TypeTree}
use Rattle.msvc_nodes.specs.Equality.{same_type}
use Rattle.std.proofs.lemmas.Bool.{ltb-false}
use Rattle.msvc_rules.specs.Laws.{GoesOn, Later, SameTables, trees}
use Rattle.msvc_rules.specs.Readers.{ranks}
use Rattle.msvc_rules.specs.Reads.{enter, note_digit, emptied, put_back, Reads, given, a_letter, a_literal, a_part}
use Rattle.msvc_rules.specs.Reads.{where_it_holds, in_a_row, the_first, the_second, called, a_known_name, remembered}
use Rattle.msvc_rules.specs.Reads.{a_known_type, a_node, a_noted_type, entered, nodes_of_name, nodes_of_type, set_apart}
use Rattle.msvc_rules.specs.Reads.{it_stands}
use Rattle.msvc_rules.specs.Rules.{Grammar, call, known_type, holds, Rule}
use Rattle.msvc_rules.specs.Sorts.{Sort, Value}
use Rattle.msvc_rules.specs.State.{Entry, Note, State, place, with_name, with_type, remember_name, remember_type}
use Rattle.msvc_rules.specs.State.{counted, take_note}
use Rattle.msvc_rules.proofs.Checks.{some_value, After, anything, Local, locals, asks, Fine, Even, fine, consumes}
use Rattle.msvc_rules.proofs.Checks.{rank_small, Figures, Fit}
use Rattle.msvc_rules.proofs.FirstSets.{Follows, holds_same}
use Rattle.msvc_rules.proofs.PrefixClosed.{cut, before_cut, moved}
use Rattle.msvc_rules.proofs.Progress.{tail, shorter}
use Rattle.msvc_rules.proofs.TableGrowth.{goes-refl, goes-trans, with_one, with_one-goes, trees-with, name-again}
use Rattle.msvc_rules.proofs.TableGrowth.{type-again, got-goes, got-tree, tree-got}

-- the tables are the same but for places
abbrev pub Alike : State → State → Type 0
Alike s t = (s.names ≡ t.names) × (trees s.types ≡ trees t.types)

pub later-refl : (s : State) → Later s s
later-refl s = (goes-refl s.names, goes-refl (trees s.types))

pub later-trans : (s t u : State) → Later s t → Later t u → Later s u
later-trans s t u h k = (
  goes-trans s.names t.names u.names h.0 k.0,
  goes-trans (trees s.types) (trees t.types) (trees u.types) h.1 k.1,
)

pub later-type : (e : Entry) (s : State) → Later s (remember_type e s)
later-type e s = (
  goes-refl s.names,
  subst (λ z. GoesOn (trees s.types) z) (sym (trees-with e s.types)) (with_one-goes _ e.entered (trees s.types)),
)

later-enter : (b : Bool) (e : Entry) (s : State) → Later s (cond b (remember_type e s) s)
later-enter true e s = later-type e s
later-enter false e s = later-refl s

abbrev pub Ready : Bool → State → State → State → Type 0
Ready true s t s' = Later t s'
Ready false s t s' = Alike s s'

abbrev pub Done : Bool → State → State → State → State → Type 0
Done true s t s' t' = SameTables t' s'
Done false s t s' t' = Alike t t'

ready-first : (m : Bool) (s t u s' : State) → Later t u → Ready m s u s' → Ready m s t s'
ready-first true s t u s' g h = later-trans t u s' g h
ready-first false s t u s' g h = h

ready-next : (m : Bool) (s t u s' t' : State) → Ready m s u s' → Done m s t s' t' → Ready m t u t'
ready-next true s t u s' t' h d = (
  subst (λ z. GoesOn u.names z) (sym d.0) h.0,
  subst (λ z. GoesOn (trees u.types) (trees z)) (sym d.1) h.1,
)
ready-next false s t u s' t' h d = d

done-both : (m : Bool) (s t u s' t' u' : State) → Done m s t s' t' → Done m t u t' u' → Done m s u s' u'
done-both true s t u s' t' u' d e = (e.0 ∙ d.0, e.1 ∙ d.1)
done-both false s t u s' t' u' d e = e

done-still : (m : Bool) (s s' : State) → Ready m s s s' → Done m s s s' s'
done-still true s s' h = (refl, refl)
done-still false s s' h = h

done-noted : (m : Bool) (s s' : State) (e e' : Note) (n n' : ℕ) → Ready m s (counted n (take_note e s)) s'
    → Done m s (counted n (take_note e s)) s' (counted n' (take_note e' s'))
done-noted true s s' e e' n n' h = (refl, refl)
done-noted false s s' e e' n n' h = h

done-counted : (m : Bool) (s s' : State) (n n' : ℕ) → Ready m s (counted n s) s'
    → Done m s (counted n s) s' (counted n' s')
done-counted true s s' n n' h = (refl, refl)
done-counted false s s' n n' h = h

-- what counts more has the same tables
ready-counted : (m : Bool) (s t s' : State) (n n' : ℕ) → Ready m s t s' → Ready m (counted n s) t (counted n' s')
ready-counted true s t s' n n' h = h
ready-counted false s t s' n n' h = h

counted-done : (m : Bool) (s t s' t' : State) (n n' : ℕ) → Done m (counted n s) t (counted n' s') t'
    → Done m s t s' t'
counted-done true s t s' t' n n' h = h
counted-done false s t s' t' n n' h = h

uncounted-ready : (m : Bool) (s s' : State) (n : ℕ) → Ready m s (counted n s) s' → Ready m s s s'
uncounted-ready true s s' n h = h
uncounted-ready false s s' n h = h

done-name : (m : Bool) (n : NameTree) (s s' : State) → Ready m s (remember_name n s) s'
    → Done m s (remember_name n s) s' (remember_name n s')
done-name true n s s' h = (name-again n s.names s'.names h.0, refl)
done-name false n s s' h = (ap (with_name n) h.0, h.1)

pub done-type : (m b : Bool) (e e' : Entry) (s t s' t' : State) → e.entered ≡ e'.entered
    → Ready m s (cond b (remember_type e t) t) s' → Done m s t s' t'
    → Done m s (cond b (remember_type e t) t) s' (cond b (remember_type e' t') t')
done-type true true e e' s t s' t' same h d = (
  d.0,
  type-again e e' t.types t'.types same
      (subst (λ z. GoesOn (trees (with_type e t.types)) (trees z)) (sym d.1) h.1) ∙ d.1,
)
done-type true false e e' s t s' t' same h d = d
done-type false true e e' s t s' t' same h d = (
  d.0,
  trees-with e t.types ∙ ap (λ x. record_one x (trees t.types)) same ∙ ap (record_one e'.entered) d.1
      ∙ sym (trees-with e' t'.types),
)
  where
    record_one : TypeTree → List TypeTree → List TypeTree
    record_one x table = with_one (same_type x) x table
done-type false false e e' s t s' t' same h d = d

done-apart : (m : Bool) (s t s' t' : State) → Ready m s (put_back s t) s'
    → Done m s (put_back s t) s' (put_back s' t')
done-apart true s t s' t' h = (refl, refl)
done-apart false s t s' t' h = h

name_there : (m : Bool) (s s' : State) (i : ℕ) (n : NameTree) → Ready m s s s' → slice_get s.names i ≡ Some n
    → slice_get s'.names i ≡ Some n
name_there true s s' i n h e = got-goes s.names s'.names i n e h.0
name_there false s s' i n h e = ap (λ z. slice_get z i) (sym h.0) ∙ e

type_there : (m : Bool) (s s' : State) (i : ℕ) (e : Entry) → Ready m s s s' → slice_get s.types i ≡ Some e
    → (e' : Entry) × (slice_get s'.types i ≡ Some e') × (e'.entered ≡ e.entered)
type_there true s s' i e h k =
    tree-got s'.types i e.entered (got-goes (trees s.types) (trees s'.types) i e.entered (got-tree s.types i e k) h.1)
type_there false s s' i e h k =
    tree-got s'.types i e.entered (ap (λ z. slice_get z i) (sym h.1) ∙ got-tree s.types i e k)

longer : (w' : List ℕ) (left p rest : List ℕ) → left ≡ p ++ rest → left ++ w' ≡ p ++ (rest ++ w')
longer w' left p rest e = ap (λ z. z ++ w') e ∙ append_assoc p rest w'

filled_next : (followed e : ℕ) (l rest w p : List ℕ) → followed ≤ length rest → l ≡ (p ++ rest) ++ w
    → length (rest ++ w) + e ≤ length l
    → followed + e ≤ length (p ++ rest)
filled_next followed e l rest w p some is less =
    omega (arith, some, less, ap length is, length-append (p ++ rest) w, length-append rest w)

span : (left rest w w' : List ℕ) → length (left ++ w') - length (rest ++ w') ≡ length (left ++ w) - length (rest ++ w)
span left rest w w' =
    omega (arith, length-append left w, length-append rest w, length-append left w', length-append rest w')

done-enter : (m : Bool) (v : TypeTree) (found remaining left rest w w' : List ℕ) → found ≡ left ++ w
    → remaining ≡ rest ++ w
    → (s t s' t' : State)
    → Ready m s (enter v found remaining t) s' → Done m s t s' t'
    → Done m s (enter v found remaining t) s' (enter v (left ++ w') (rest ++ w') t')
done-enter m v found remaining left rest w w' h k s t s' t' ready done =
    let entry : Entry = record { entered = v; start = place found t; end = place remaining t } in
    let other : Entry = record { entered = v; start = place (left ++ w') t'; end = place (rest ++ w') t' } in
    let same : length found - length remaining ≡ length (left ++ w') - length (rest ++ w') =
    ap (λ z. length z - length remaining) h ∙ ap (λ z. length (left ++ w) - length z) k ∙ sym (span left rest w w') in
    subst (λ n. Done m s (enter v found remaining t) s' (cond (nat_lt 1 n) (remember_type other t') t')) same
    (done-type m (nat_lt 1 (length found - length remaining)) entry other s t s' t' refl ready done)

module _ {G : Grammar} {F : Figures G} (C : Fit F) where
  pub grows : {a : Sort} {r : Rule G.family a} {left : List ℕ} {s : State} {v : Value a} {rest : List ℕ} {t : State}
      → Reads G a r left s v rest t → Later s t
  grows (where_it_holds e h) = grows h
  grows (in_a_row {s = s} {t = t} {u = u} h k) = later-trans s t u (grows h) (grows k)
  grows (the_first h) = grows h
  grows (the_second h) = grows h
  grows (called h) = grows h
  grows (a_node h) = grows h
  grows (remembered {n = n} {s = s}) = (with_one-goes _ n s.names, goes-refl (trees s.types))
  grows (entered {v = v} {left = left} {rest = rest} {s = s} {t = t} h) =
      later-trans s t (enter v left rest t) (grows h)
      (later-enter (nat_lt 1 (length left - length rest))
      (record { entered = v; start = place left t; end = place rest t }) t)
  grows (set_apart {s = s} h) = (goes-refl s.names, goes-refl (trees s.types))
  grows (given {s = s}) = later-refl s
  grows (a_letter {s = s} e) = later-refl s
  grows (a_literal {s = s} e) = later-refl s
  grows (a_part {s = s} e h) = later-refl s
  grows (a_known_name {s = s} e) = later-refl s
  grows (it_stands {s = s} e) = later-refl s
  grows (a_known_type {s = s} e) = later-refl s
  grows (a_noted_type {s = s} e h) = later-refl s

  -- read again from s', with w' after
  abbrev pub Again : Bool → {a : Sort} → Rule G.family a → List ℕ → List ℕ → Value a → State → State → State → Type 0
  Again m r left remaining v s t s' = (t' : State) × Reads G _ r left s' v remaining t' × Done m s t s' t'

  abbrev pub Repeats : {a : Sort} → After → ℕ → Rule G.family a → List ℕ → State → Value a → List ℕ → State → Type 0
  Repeats b followed r found s v remaining t =
      (left rest w w' : List ℕ) → Follows b w w' → found ≡ left ++ w → remaining ≡ rest ++ w → followed ≤ length rest
      → (m : Bool) (s' : State) → Ready m s t s' → Again m r (left ++ w') (rest ++ w') v s t s'

  still : {a : Sort} (r : Rule G.family a) (found : List ℕ) (s : State) (v : Value a) (t : State) (j : After)
      (followed : ℕ)
      → ((left : List ℕ) (m : Bool) (s' : State) → Ready m s t s' → Again m r left left v s t s')
      → Repeats j followed r found s v found t
  still r found s v t j followed go left rest w w' y h k some m s' ready =
      let same : left ≡ rest = append_cancel_right left rest w (sym h ∙ k) in
      subst (λ z. Again m r (left ++ w') (z ++ w') v s t s') same (go (left ++ w') m s' ready)

  value_is : {a : Sort} {r : Rule G.family a} {left rest : List ℕ} {s t : State} {v x : Value a} → x ≡ v
      → Reads G a r left s x rest t → Reads G a r left s v rest t
  value_is {r = r} {left = left} {rest = rest} {s = s} {t = t} e h = subst (λ z. Reads G _ r left s z rest t) e h

  pub local : {a : Sort} {r : Rule G.family a} {found : List ℕ} {s : State} {v : Value a} {remaining : List ℕ}
      {t : State}
      → Reads G a r found s v remaining t
      → (floor : ℕ) → Fine F floor r → (j : After) (followed : ℕ) → Local F j followed r
      → Repeats j followed r found s v remaining t
  unfolding Fine Local Even
  local (given {v = v} {left = found} {s = s}) floor f j followed c left rest w w' y h k some m s' ready =
      still _ found s v s j followed (λ l n u q. (u, given, done-still n s u q)) left rest w w' y h k some m s' ready
  local (a_letter {b = b} {s = s} e) floor f j followed c left rest w w' y h k some m s' ready = (
    s',
    moved C (longer w' left (b ∷ []) rest (before_cut (b ∷ []) left rest w (ap (λ z. b ∷ z) (sym k) ∙ h)))
        (a_letter e),
    done-still m s s' ready,
  )
  local (a_literal {l = l} {s = s} e) floor f j followed c left rest w w' y h k some m s' ready = (
    s',
    a_literal (longer w' left l rest (before_cut l left rest w (ap (λ z. l ++ z) (sym k) ∙ sym e ∙ h))),
    done-still m s s' ready,
  )
  local (a_part {b = b} {v = v} {s = s} e d) floor f j followed c left rest w w' y h k some m s' ready =
      let same : left ≡ v ++ b ∷ rest =
      before_cut (v ++ b ∷ []) left rest w
      (append_assoc v (b ∷ []) (rest ++ w) ∙ ap (λ z. v ++ b ∷ z) (sym k) ∙ sym e ∙ h)
      ∙ append_assoc v (b ∷ []) rest in
      (s', a_part (ap (λ z. z ++ w') same ∙ append_assoc v (b ∷ rest) w') d, done-still m s s' ready)
  local (where_it_holds {c = c} {r = r} {v = v} {left = found} {rest = remaining} {s = s} {t = t} e d) floor f j
      followed g
      left rest w w' y h k some
      m s' ready =
      let again : Again m r (left ++ w') (rest ++ w') v s t s' =
      local d floor f j followed g.1 left rest w w' y h k some m s' ready in (
        again.0,
        where_it_holds (holds_same C j c followed floor w w' y g.0 some f (cut C d floor f left rest w h k)
            (ap (holds c) (sym h) ∙ e)) again.1,
        again.2,
      )
  local (in_a_row {a = a} {r = r} {f = g} {v = v} {l = l} {rest = remaining} {s = s} {t = t} {u = u} d e) floor f j
      followed c left rest w w' y h k some m s' ready =
      let p : List ℕ = (tail C e).0 in
      let middle : l ≡ (p ++ rest) ++ w = (tail C e).1 ∙ ap (λ z. p ++ z) k ∙ sym (append_assoc p rest w) in
      let less : length (rest ++ w) + consumes F (g (some_value a)) ≤ length l =
      omega (
        arith,
        shorter C e (cond (nat_lt 0 (consumes F r)) ranks floor) (f.1 v),
        ltb-false (consumes F (g v)) (consumes F (g (some_value a))) (f.2 v),
        ap length k,
      ) in
      let first : Again m r (left ++ w') ((p ++ rest) ++ w') v s t s' =
      local d floor f.0 j (followed + consumes F (g (some_value a))) c.0 left (p ++ rest) w w' y h middle
      (filled_next followed (consumes F (g (some_value a))) l rest w p some middle less) m s'
      (ready-first m s t u s' (grows e) ready) in
      let second : Again m (g v) ((p ++ rest) ++ w') (rest ++ w') _ t u first.0 =
      local e (cond (nat_lt 0 (consumes F r)) ranks floor) (f.1 v) j followed (c.1 v)
      (p ++ rest) rest w w' y middle k some m first.0 (ready-next m s t u s' first.0 ready first.2) in (
        second.0,
        in_a_row {t = first.0} {u = second.0} first.1 second.1,
        done-both m s t u s' first.0 second.0 first.2 second.2,
      )
  local (the_first d) floor f j followed c left rest w w' y h k some m s' ready =
      let again : Again m _ (left ++ w') (rest ++ w') _ _ _ s' =
      local d floor f.1 j followed c.0 left rest w w' y h k some m s' ready in (again.0, the_first again.1, again.2)
  local (the_second d) floor f j followed c left rest w w' y h k some m s' ready =
      let again : Again m _ (left ++ w') (rest ++ w') _ _ _ s' =
      local d floor f.2 j followed c.1 left rest w w' y h k some m s' ready in (again.0, the_second again.1, again.2)
  local (called {n = n} d) floor f j followed c left rest w w' y h k some m s' ready =
      let again : Again m (G.rule n) (left ++ w') (rest ++ w') _ _ _ s' =
      local d (F.rank n) (fine C n) j (asks F j n) (locals C j n) left rest w w' y h k
      (omega (arith, some, ltb-false followed (asks F j n) c)) m s' ready in
      (again.0, called again.1, again.2)
  local (a_node {r = r} {v = v} {s = s} {t = t} d) floor f j followed c left rest w w' y h k some m s' ready =
      let next : State = counted s'.count.weight s' in
      let again : Again m r (left ++ w') (rest ++ w') v (counted s.count.weight s) t next =
      local d floor f j followed c left rest w w' y h k some m next
      (ready-counted m s t s' s.count.weight s'.count.weight ready) in
      (again.0, a_node again.1, counted-done m s t s' again.0 s.count.weight s'.count.weight again.2)
  local (a_known_name {i = i} {n = n} {left = found} {s = s} e) floor f j followed c left rest w w' y
      h k some m s' ready =
      still _ found s n (counted (nodes_of_name n s) s) j followed
      (λ l o u q. (
        counted (nodes_of_name n u) u,
        a_known_name (name_there o s u i n (uncounted-ready o s u (nodes_of_name n s) q) e),
        done-counted o s u (nodes_of_name n s) (nodes_of_name n u) q,
      )) left rest w w' y h k some m s' ready
  local (it_stands {i = i} {n = n} {left = found} {s = s} e) floor f j followed c left rest w w' y h k some m s'
      ready =
      still _ found s tt s j followed
      (λ l o u q. (u, it_stands (name_there o s u i n q e), done-still o s u q)) left rest w w' y h k some m s' ready
  local (remembered {n = n} {left = found} {s = s}) floor f j followed c left rest w w' y h k some m s' ready =
      still _ found s tt (remember_name n s) j followed
      (λ l o u q. (remember_name n u, remembered, done-name o n s u q)) left rest w w' y h k some m s' ready
  local (a_known_type {i = i} {e = entry} {left = found} {s = s} e) floor f j followed c left rest w w' y
      h k some m s' ready =
      still (known_type i) found s entry.entered (counted (nodes_of_type entry.entered s) s) j followed
      (λ l o u q. let there : (x : Entry) × (slice_get u.types i ≡ Some x) × (x.entered ≡ entry.entered) =
      type_there o s u i entry (uncounted-ready o s u (nodes_of_type entry.entered s) q) e in (
        counted (nodes_of_type there.0.entered u) u,
        value_is there.2 (a_known_type there.1),
        done-counted o s u (nodes_of_type entry.entered s) (nodes_of_type there.0.entered u) q,
      ))
      left rest w w' y h k some m s' ready
  local (a_noted_type {table = table} {b = b} {i = i} {e = entry} {rest = remaining} {s = s} e d) floor f j followed c
      left
      rest w w' y h k some m s' ready =
      let there : (x : Entry) × (slice_get s'.types i ≡ Some x) × (x.entered ≡ entry.entered) =
      type_there m s s' i entry
      (ready-first m s s (counted (nodes_of_type entry.entered s) (note_digit entry (b ∷ remaining) s)) s'
      (later-refl s)
      ready) d in (
        counted (nodes_of_type there.0.entered s') (note_digit there.0 (b ∷ rest ++ w') s'),
        moved C (longer w' left (b ∷ []) rest (before_cut (b ∷ []) left rest w (ap (λ z. b ∷ z) (sym k) ∙ h)))
            (value_is there.2 (a_noted_type e there.1)),
        done-noted m s s' (record { at = place (b ∷ remaining) s; start = entry.start; end = entry.end })
            (record { at = place (b ∷ rest ++ w') s'; start = there.0.start; end = there.0.end })
            (nodes_of_type entry.entered s) (nodes_of_type there.0.entered s') ready,
      )
  local (entered {r = r} {v = v} {left = found} {rest = remaining} {s = s} {t = t} d) floor f j followed c left rest w
      w' y
      h k some m s' ready =
      let entry : Entry = record { entered = v; start = place found t; end = place remaining t } in
      let again : Again m r (left ++ w') (rest ++ w') v s t s' =
      local d floor f j followed c left rest w w' y h k some m s'
      (ready-first m s t (enter v found remaining t) s'
      (later-enter (nat_lt 1 (length found - length remaining)) entry t) ready) in (
        enter v (left ++ w') (rest ++ w') again.0,
        entered again.1,
        done-enter m v found remaining left rest w w' h k s t s' again.0 ready again.2,
      )
  local (set_apart {r = r} {v = v} {s = s} {t = t} d) floor f j followed c left rest w w' y h k some m s' ready =
      let again : Again false r (left ++ w') (rest ++ w') v (emptied s) t (emptied s') =
      local d floor f j followed c left rest w w' y h k some false (emptied s') (refl, refl) in
      (put_back s' again.0, set_apart again.1, done-apart m s t s' again.0 ready)

  -- What a production reads that needs nothing after it is read again with later tables, whatever follows, and leaves
  -- these as they are.
  pub is-local : {a : Sort} (n : G.family a) → F.needs n ≡ 0
      → (left rest : List ℕ) (s : State) (v : Value a) (t : State)
      → Reads G _ (call n) (left ++ rest) s v rest t
      → (others : List ℕ) (later : State) → Later t later
      → (next : State) × Reads G _ (call n) (left ++ others) later v others next × SameTables next later
  unfolding Fine Local
  is-local n none left rest s v t d others later goes =
      local d ranks (rank_small C n) anything 0 (ap (nat_lt 0) none) left [] rest others tt refl refl
      (omega arith) true later goes
