-- A text that is cut after the bytes read derives the same tree.
use Rattle.std.proofs.Common.{ℕ, List, [], ◌∷◌, ◌++◌, length, Bool, true, false, cond, nat_lt, ◌≡◌, ◌-◌, refl, sym, ap}
use Rattle.std.proofs.Common.{◌∙◌, subst, arith, append_assoc, length-append}
use Rattle.std.proofs.lemmas.List.{append_cancel_right}
use Rattle.msvc_nodes.specs.Trees.{TypeTree}
use Rattle.msvc_rules.specs.Readers.{ranks}
use Rattle.msvc_rules.specs.Reads.{enter, note_digit, Reads, given, a_letter, a_literal, a_part, where_it_holds}
use Rattle.msvc_rules.specs.Reads.{in_a_row, the_first, the_second, called, a_known_name, remembered, a_known_type}
use Rattle.msvc_rules.specs.Reads.{a_node, a_noted_type, entered, nodes_of_name, nodes_of_type, set_apart}
use Rattle.msvc_rules.specs.Reads.{it_stands}
use Rattle.msvc_rules.specs.Rules.{Grammar, call, noted, entering, Condition, none_of, at_end, holds, some_of, begins}
use Rattle.msvc_rules.specs.Rules.{Rule}
use Rattle.msvc_rules.specs.Sorts.{Sort, Value}
use Rattle.msvc_rules.specs.State.{Entry, State, place, counted, remember_type, take_note}
use Rattle.msvc_rules.proofs.Checks.{Fine, fine, consumes, rank_small, Figures, Fit}
use Rattle.msvc_rules.proofs.FirstSets.{all, some-every, not_if, begins-longer}
use Rattle.msvc_rules.proofs.Progress.{tail}

-- the state in a text that has fewer bytes after
abbrev pub less : ℕ → State → State
less n s = record s { whole = s.whole - n }

-- what is consumed is consumed of the bytes before the cut
pub before_cut : (p left rest w : List ℕ) → p ++ (rest ++ w) ≡ left ++ w → left ≡ p ++ rest
before_cut p left rest w e = append_cancel_right left (p ++ rest) w (sym e ∙ sym (append_assoc p rest w))

place_cut : (left w : List ℕ) (s : State) → place left (less (length w) s) ≡ place (left ++ w) s
place_cut left w s = omega (arith, length-append left w)

span_cut : (left rest w : List ℕ) → length left - length rest ≡ length (left ++ w) - length (rest ++ w)
span_cut left rest w = omega (arith, length-append left w, length-append rest w)

enter_cut : (v : TypeTree) (left rest w : List ℕ) (t : State)
    → enter v left rest (less (length w) t) ≡ less (length w) (enter v (left ++ w) (rest ++ w) t)
enter_cut v left rest w t =
    ap (λ n. chosen_of (nat_lt 1 n)) (span_cut left rest w) ∙ go (nat_lt 1 (length (left ++ w) - length (rest ++ w)))
  where
    chosen_of : Bool → State
    chosen_of b = cond b
        (remember_type (record {
          entered = v;
          start = place left (less (length w) t);
          end =
              place rest (less (length w) t);
        }) (less (length w) t)) (less (length w) t)

    go : (b : Bool) → chosen_of b
        ≡ less (length w) (cond b
        (remember_type (record { entered = v; start = place (left ++ w) t; end = place (rest ++ w) t }) t) t)
    go true =
        ap (λ p. remember_type (record { entered = v; start = p; end = place rest (less (length w) t) })
        (less (length w) t)) (place_cut left w t)
        ∙ ap (λ p. remember_type (record { entered = v; start = place (left ++ w) t; end = p }) (less (length w) t))
        (place_cut rest w t)
    go false = refl

note_cut : (e : Entry) (left w : List ℕ) (s : State)
    → note_digit e left (less (length w) s) ≡ less (length w) (note_digit e (left ++ w) s)
note_cut e left w s =
    ap (λ p. take_note (record { at = p; start = e.start; end = e.end }) (less (length w) s)) (place_cut left w s)

holds_cut : (c : Condition) (left w : List ℕ) → holds c (left ++ w) ≡ true → holds c left ≡ true
holds_cut (none_of ls) left w h =
    not_if (some_of (begins left) ls) (some_of (begins (left ++ w)) ls)
    (some-every (begins left) (λ l. true) (begins (left ++ w)) ls (λ l _ b. begins-longer l left w b) (all ls)) h
holds_cut at_end [] w h = refl
holds_cut at_end (b ∷ left) w h = h

module _ {G : Grammar} {F : Figures G} (C : Fit F) where
  abbrev Cuts : {a : Sort} → Rule G.family a → List ℕ → State → Value a → List ℕ → State → Type 0
  Cuts r found s v remaining t =
      (left rest w : List ℕ) → found ≡ left ++ w → remaining ≡ rest ++ w
      → Reads G _ r left (less (length w) s) v rest (less (length w) t)

  pub moved : {a : Sort} {r : Rule G.family a} {l left rest : List ℕ} {s t : State} {v : Value a} → left ≡ l
      → Reads G a r l s v rest t → Reads G a r left s v rest t
  moved {r = r} {rest = rest} {s = s} {t = t} {v = v} e h = subst (λ z. Reads G _ r z s v rest t) (sym e) h

  -- a rule that leaves all bytes
  still : {a : Sort} (r : Rule G.family a) (found : List ℕ) (s : State) (v : Value a) (t : State)
      → ((left : List ℕ) (n : ℕ) → Reads G a r left (less n s) v left (less n t))
      → Cuts r found s v found t
  still r found s v t go left rest w e k = let same : left ≡ rest = append_cancel_right left rest w (sym e ∙ k) in
      subst (λ z. Reads G _ r left (less (length w) s) v z (less (length w) t)) same (go left (length w))

  pub cut : {a : Sort} {r : Rule G.family a} {found : List ℕ} {s : State} {v : Value a} {remaining : List ℕ} {t : State}
      → Reads G a r found s v remaining t
      → (floor : ℕ) → Fine F floor r → Cuts r found s v remaining t
  unfolding Fine
  cut (given {v = v} {left = found} {s = s}) floor f left rest w h k = still _ found s v s
      (λ l n. given) left rest w h k
  cut (a_letter {b = b} {rest = remaining} {s = s} e) floor f left rest w h k =
      moved (before_cut (b ∷ []) left rest w (ap (λ z. b ∷ z) (sym k) ∙ h)) (a_letter e)
  cut (a_literal {l = l} {rest = remaining} e) floor f left rest w h k =
      a_literal (before_cut l left rest w (ap (λ z. l ++ z) (sym k) ∙ sym e ∙ h))
  cut (a_part {b = b} {v = v} e d) floor f left rest w h k =
      a_part (before_cut (v ++ b ∷ []) left rest w
      (append_assoc v (b ∷ []) (rest ++ w) ∙ ap (λ z. v ++ b ∷ z) (sym k) ∙ sym e ∙ h)
      ∙ append_assoc v (b ∷ []) rest) d
  cut (where_it_holds {c = c} e d) floor f left rest w h k =
      where_it_holds (holds_cut c left w (ap (holds c) (sym h) ∙ e)) (cut d floor f left rest w h k)
  cut (in_a_row {r = r} {f = g} {v = v} {l = l} {rest = remaining} d c) floor f left rest w h k =
      let middle : l ≡ (tail C c).0 ++ rest ++ w =
      (tail C c).1 ∙ ap (λ z. (tail C c).0 ++ z) k ∙ sym (append_assoc (tail C c).0 rest w) in
      in_a_row (cut d floor f.0 left ((tail C c).0 ++ rest) w h middle)
      (cut c (cond (nat_lt 0 (consumes F r)) ranks floor) (f.1 v) ((tail C c).0 ++ rest) rest w middle k)
  cut (the_first d) floor f left rest w h k = the_first (cut d floor f.1 left rest w h k)
  cut (the_second d) floor f left rest w h k = the_second (cut d floor f.2 left rest w h k)
  cut (called {n = n} d) floor f left rest w h k = called (cut d (F.rank n) (fine C n) left rest w h k)
  cut (a_node d) floor f left rest w h k = a_node (cut d floor f left rest w h k)
  cut (a_known_name {i = i} {n = n} {left = found} {s = s} e) floor f left rest w h k =
      still _ found s n (counted (nodes_of_name n s) s) (λ l m. a_known_name e) left rest w h k
  cut (it_stands {left = found} {s = s} e) floor f left rest w h k =
      still _ found s tt s (λ l m. it_stands e) left rest w h k
  cut (remembered {left = found} {s = s}) floor f left rest w h k =
      still _ found s tt _ (λ l m. remembered) left rest w h k
  cut (a_known_type {e = entry} {left = found} {s = s} e) floor f left rest w h k =
      still _ found s entry.entered (counted (nodes_of_type entry.entered s) s) (λ l m. a_known_type e) left rest w h k
  cut (a_noted_type {table = table} {b = b} {e = entry} {rest = remaining} {s = s} e d) floor f left rest w h k =
      let same : left ≡ b ∷ rest = before_cut (b ∷ []) left rest w (ap (λ z. b ∷ z) (sym k) ∙ h) in
      let noting : note_digit entry (b ∷ rest) (less (length w) s) ≡ less (length w) (note_digit entry
      (b ∷ remaining) s) =
      note_cut entry (b ∷ rest) w s ∙ ap (λ z. less (length w) (note_digit entry (b ∷ z) s)) (sym k) in
      moved same
      (subst (λ u. Reads G _ (noted table) (b ∷ rest) (less (length w) s) entry.entered rest
      (counted (nodes_of_type entry.entered s) u)) noting (a_noted_type e d))
  cut (entered {r = r} {v = v} {left = found} {rest = remaining} {s = s} {t = t} d) floor f left rest w h k =
      let entering_it : enter v left rest (less (length w) t) ≡ less (length w) (enter v found remaining t) =
      enter_cut v left rest w t ∙ ap (λ z. less (length w) (enter v z (rest ++ w) t)) (sym h)
      ∙ ap (λ z. less (length w) (enter v found z t)) (sym k) in
      subst (λ u. Reads G _ (entering r) left (less (length w) s) v rest u) entering_it
      (entered (cut d floor f left rest w h k))
  cut (set_apart {s = s} d) floor f left rest w h k = set_apart (cut d floor f left rest w h k)

  -- the text cut after the bytes read derives the same
  pub cut_text : {a : Sort} (n : G.family a) (left rest : List ℕ) (s : State) (v : Value a) (t : State)
      → Reads G a (call n) (left ++ rest) s v rest t
      → Reads G a (call n) left (less (length rest) s) v [] (less (length rest) t)
  unfolding Fine
  cut_text n left rest s v t d = cut d ranks (rank_small C n) left [] rest refl refl
