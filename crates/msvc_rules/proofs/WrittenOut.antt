-- A back reference can be written out: with the text of its type in place of the digit, the symbol derives the same
-- tree and leaves the same rest.
use Rattle.std.proofs.Common.{ℕ, zero, suc, List, [], ◌∷◌, ◌++◌, length, Some, Bool, true, false, cond, not, nat_lt}
use Rattle.std.proofs.Common.{◌≡◌, ◌==◌, ◌≤◌, ◌<◌, ◌+◌, ◌-◌, refl, sym, ap, ◌∙◌, subst, arith, append_assoc}
use Rattle.std.proofs.Common.{length-append, drop, take, get_or, inl, inr}
use Rattle.std.proofs.lemmas.Bool.{cases_lt, eq-eqb, eqb-true, ltb-false, lt-ltb}
use Rattle.std.proofs.lemmas.List.{append_cancel_right, length-drop, take_at, drop_at}
use Rattle.std.proofs.lemmas.Option.{slice_get-get_or}
use Rattle.std.specs.Prelude.{slice_get, ◌⊎◌, None, is_some}
use Rattle.msvc_nodes.specs.Trees.{TypeTree, SymbolTree}
use Rattle.msvc_rules.specs.Laws.{GoesOn, Later, SameTables, trees}
use Rattle.msvc_rules.specs.Readers.{ranks}
use Rattle.msvc_rules.specs.Reads.{DerivesIn, enter, note_digit, emptied, put_back, Reads, given, a_letter, a_literal}
use Rattle.msvc_rules.specs.Reads.{a_part, where_it_holds, in_a_row, the_first, the_second, called, a_known_name}
use Rattle.msvc_rules.specs.Reads.{remembered, a_known_type, a_node, a_noted_type, entered, nodes_of_type, set_apart}
use Rattle.msvc_rules.specs.Reads.{it_stands}
use Rattle.msvc_rules.specs.Rules.{Grammar, Condition, none_of, at_end, holds, every, some_of, begins, begins_of, Rule}
use Rattle.msvc_rules.specs.Rules.{◌>>=◌, ◌or◌, apart, call, here, node, noted, entering, lookup, is_nil}
use Rattle.msvc_rules.specs.Sorts.{Sort, Value, type_tree}
use Rattle.msvc_rules.specs.State.{Entry, Note, State, place, counted, span_of, beginning, with_type, remember_type}
use Rattle.msvc_rules.specs.Written.{written_out, CanBeWrittenOutIn}
use Rattle.msvc_rules.proofs.Checks.{some_value, consumes, Fine, fine, bars, differ, the_same, others, Local}
use Rattle.msvc_rules.proofs.Checks.{same_local, rank_small, Figures, Fit}
use Rattle.msvc_rules.proofs.DigitPlaces.{ahead, stops, is_in, misses_by, misses_within, misses, clear_by, clear_within}
use Rattle.msvc_rules.proofs.DigitPlaces.{keeps, instead, Beside, Placed, placed, runs_ups, Placing}
use Rattle.msvc_rules.proofs.EntryOrigins.{Within, within_next, Source, From, Sourced, sourced, type_placed, got_last}
use Rattle.msvc_rules.proofs.FirstSets.{after-text, barred, differ-never, begins-both, begins-inside, if_both, both_if}
use Rattle.msvc_rules.proofs.FirstSets.{either_if, not_if, some-every, every-both}
use Rattle.msvc_rules.proofs.Locality.{Alike, later-trans, later-type, done-type, local, is-local}
use Rattle.msvc_rules.proofs.Progress.{IsTail, tail, tail_of_tail, least_first, least_second, shorter}
use Rattle.msvc_rules.proofs.TableGrowth.{type-again}
use Rattle.msvc_rules.proofs.TypeStarts.{starts_free, long_start, Starting}

-- the bytes of the text that a note names
record Bytes (text : List ℕ) (n : Note) : Type 0 where
  pub before : List ℕ
  pub span : List ℕ
  pub rest : List ℕ
  pub stands : text ≡ before ++ (span ++ rest)
  pub starts : n.start ≡ length before
  pub ends : n.end ≡ length before + length span
  pub long : 1 < length span
  pub free : starts_free span ≡ true

-- a text that begins where the bytes of a type stand, and is long enough, has one of their first bytes
stops_there : (n : ℕ) (l before span remaining : List ℕ) → n ≤ length before → length before < length l
    → begins (before ++ (span ++ remaining)) l ≡ true → every (is_in stops) (drop n l) ≡ true
    → starts_free span ≡ true → ⊥
stops_there n [] before span remaining h k b e f = absurd (omega arith)
stops_there n (a ∷ l) [] [] remaining h k b e f = absurd (cc)
stops_there zero (a ∷ l) [] (x ∷ span) remaining h k b e f =
    let same : x ≡ a = eqb-true x a (begins-both x a (span ++ remaining) l b).0 in
    let stop : is_in stops x ≡ true = ap (is_in stops) same ∙ (if_both (is_in stops a) (every (is_in stops) l) e).0 in
    let clash : false ≡ true = ap (λ z. cond z false true) (sym stop) ∙ f in
    absurd (cc)
stops_there (suc n) (a ∷ l) [] (x ∷ span) remaining h k b e f = absurd (omega arith)
stops_there zero (a ∷ l) (y ∷ before) span remaining h k b e f =
    stops_there zero l before span remaining (omega arith) (omega arith)
    (begins-both y a (before ++ (span ++ remaining)) l b).1 (if_both (is_in stops a) (every (is_in stops) l) e).1 f
stops_there (suc n) (a ∷ l) (y ∷ before) span remaining h k b e f =
    stops_there n l before span remaining (omega arith) (omega arith)
    (begins-both y a (before ++ (span ++ remaining)) l b).1 e f

ends_at_stops : (n : ℕ) (l before span remaining : List ℕ) → n ≤ length before
    → begins (before ++ (span ++ remaining)) l ≡ true → every (is_in stops) (drop n l) ≡ true → starts_free span ≡ true
    → length l ≤ length before
ends_at_stops n l before span remaining h b e f = go (cases_lt (length before) (length l))
  where
    go : (length before < length l) ⊎ (length l ≤ length before) → length l ≤ length before
    go (inl long) = absurd (stops_there n l before span remaining h long b e f)
    go (inr short) = short

not_nil : (before : List ℕ) (digit : ℕ) (remaining : List ℕ) → is_nil (before ++ digit ∷ remaining) ≡ false
not_nil [] digit remaining = refl
not_nil (x ∷ before) digit remaining = refl

has_row : {A : Type 0} (p : ℕ × A → Bool) (table : List (ℕ × A)) (b : ℕ) (v : A) → lookup b table ≡ Some v
    → every p table ≡ true → p (b, v) ≡ true
has_row p [] b v e h = absurd (cc)
has_row p (row ∷ table) b v e h =
    let both : (p row ≡ true) × (every p table ≡ true) = if_both (p row) (every p table) h in
    go (b == row.0) refl e both.0 (λ k. has_row p table b v k both.1)
  where
    go : (t : Bool) → (b == row.0) ≡ t → cond t (Some row.1) (lookup b table) ≡ Some v → p row ≡ true
        → (lookup b table ≡ Some v → p (b, v) ≡ true) → p (b, v) ≡ true
    go true d e h ih =
        let value : row.1 ≡ v = cc in
        ap (λ z. p (z, v)) (eqb-true b row.0 d) ∙ ap (λ z. p (row.0, z)) (sym value) ∙ h
    go false d e h ih = ih e

not_both : (u : Bool) → not u ≡ true → u ≡ true → ⊥
not_both true h k = absurd (cc)
not_both false h k = absurd (cc)

consumed_is : (p q left rest : List ℕ) → left ≡ p ++ rest → left ≡ q ++ rest → p ≡ q
consumed_is p q left rest h k = append_cancel_right p q rest (sym h ∙ k)

-- a text that begins here and is as long has each byte that stands here
has_each : (l m before remaining : List ℕ) → every (is_in l) m ≡ true → begins (before ++ remaining) m ≡ true
    → length before ≤ length m → every (is_in l) before ≡ true
has_each l m [] remaining h b fits = refl
has_each l [] (x ∷ before) remaining h b fits = absurd (omega arith)
has_each l (a ∷ m) (x ∷ before) remaining h b fits =
    let first : ((x == a) ≡ true) × (begins (before ++ remaining) m ≡ true) = begins-both x a
    (before ++ remaining) m b in
    let both : (is_in l a ≡ true) × (every (is_in l) m ≡ true) = if_both (is_in l a) (every (is_in l) m) h in
    both_if (is_in l x) (every (is_in l) before) (ap (is_in l) (eqb-true x a first.0) ∙ both.0)
    (has_each l m before remaining both.1 first.1 (omega arith))

each_in : (l m : List ℕ) → ((b : ℕ) → is_in m b ≡ true → is_in l b ≡ true) → every (is_in l) m ≡ true
each_in l [] go = refl
each_in l (a ∷ m) go =
    both_if (is_in l a) (every (is_in l) m) (go a (either_if (a == a) (is_in m a) (inl (eq-eqb a a refl))))
    (each_in l m (λ b h. go b (either_if (b == a) (is_in m b) (inr h))))

begins_after : (m rest l : List ℕ) → begins (m ++ rest) l ≡ true → begins rest (drop (length m) l) ≡ true
begins_after [] rest l h = h
begins_after (x ∷ m) rest [] h = refl
begins_after (x ∷ m) rest (a ∷ l) h = begins_after m rest l (begins-both x a (m ++ rest) l h).1

-- no byte of a table begins what is written out
free_of : {A : Type 0} (table : List (ℕ × A)) (x : ℕ) (rest : List ℕ) → every (λ row. is_in stops row.0) table ≡ true
    → is_in stops x ≡ false → some_of (begins (x ∷ rest)) (begins_of table) ≡ false
free_of [] x rest h e = refl
free_of (row ∷ table) x rest h e =
    let both : (is_in stops row.0 ≡ true) × (every (λ y. is_in stops y.0) table ≡ true) =
    if_both (is_in stops row.0) (every (λ y. is_in stops y.0) table) h in
    go (x == row.0) refl both.0 (free_of table x rest both.1 e)
  where
    go : (u : Bool) → (x == row.0) ≡ u → is_in stops row.0 ≡ true
        → some_of (begins (x ∷ rest)) (begins_of table) ≡ false
        → cond (is_some (cond u (Some rest) None)) true (some_of (begins (x ∷ rest)) (begins_of table)) ≡ false
    go true same stop h = let clash : true ≡ false = sym stop ∙ ap (is_in stops) (sym (eqb-true x row.0 same)) ∙ e in
        absurd (cc)
    go false same stop h = h

free_start : {A : Type 0} (table : List (ℕ × A)) (span remaining : List ℕ)
    → every (λ row. is_in stops row.0) table ≡ true → starts_free span ≡ true
    → holds (none_of (begins_of table)) (span ++ remaining) ≡ true
free_start table [] remaining h e = absurd (cc)
free_start table (x ∷ span) remaining h e =
    ap not (free_of table x (span ++ remaining) h (is_free (is_in stops x) e))
  where
    is_free : (u : Bool) → cond u false true ≡ true → u ≡ false
    is_free true k = absurd (cc)
    is_free false k = refl

alike_later : (r s t : State) → Later r s → Alike s t → Later r t
alike_later r s t h k = (
  subst (λ z. GoesOn r.names z) k.0 h.0,
  subst (λ z. GoesOn (trees r.types) z) k.1 h.1,
)

-- what is known does not enter again
known_enter : (b : Bool) (e : Entry) (s t : State) → Alike s t → with_type e t.types ≡ t.types
    → Alike s (cond b (remember_type e t) t)
known_enter true e s t h k = (h.0, h.1 ∙ ap trees (sym k))
known_enter false e s t h k = h

alike_kept : (s t u : State) → Alike s t → SameTables u t → Alike s u
alike_kept s t u h k = (h.0 ∙ sym k.0, h.1 ∙ ap trees (sym k.1))

enter_notes : (b : Bool) (e : Entry) (t : State) → (cond b (remember_type e t) t).notes ≡ t.notes
enter_notes true e t = refl
enter_notes false e t = refl

abbrev note_of : Entry → List ℕ → State → Note
note_of e left s = record { at = place left s; start = e.start; end = e.end }

-- the note was taken before, or for a digit among the bytes read
abbrev pub TakenBefore : List Note → ℕ → Note → Type 0
TakenBefore notes i n = slice_get notes i ≡ Some n

maybe : {A B C : Type 0} → (B → C) → A ⊎ B → A ⊎ C
maybe f (inl a) = inl a
maybe f (inr b) = inr (f b)

then_maybe : {A B C D : Type 0} → (A → C ⊎ D) → (B → D) → A ⊎ B → C ⊎ D
then_maybe f g (inl a) = f a
then_maybe f g (inr b) = inr (g b)

written_is : (text : List ℕ) (n : Note) (b : Bytes text n) (before : List ℕ) (digit : ℕ) (remaining : List ℕ)
    → text ≡ before ++ digit ∷ remaining → n.at ≡ length text - suc (length remaining)
    → written_out text n ≡ before ++ (b.span ++ remaining)
written_is text n b before digit remaining is at =
    let place : n.at ≡ length before =
    omega (arith, at, ap length is, length-append before (digit ∷ remaining)) in
    let first : take n.at text ≡ before =
    ap (take n.at) is ∙ take_at before (digit ∷ remaining) n.at (sym place) in
    let size : n.end - n.start ≡ length b.span = omega (arith, b.starts, b.ends) in
    let span : take (n.end - n.start) (drop n.start text) ≡ b.span =
    ap (λ z. take (n.end - n.start) (drop n.start z)) b.stands
    ∙ ap (take (n.end - n.start)) (drop_at b.before (b.span ++ b.rest) n.start (sym b.starts))
    ∙ take_at b.span b.rest (n.end - n.start) (sym size) in
    let last : drop (suc n.at) text ≡ remaining =
    ap (drop (suc n.at)) (is ∙ sym (append_assoc before (digit ∷ []) remaining))
    ∙ drop_at (before ++ digit ∷ []) remaining (suc n.at)
    (omega (arith, place, length-append before (digit ∷ []))) in
    ap (λ z. z ++ (take (n.end - n.start) (drop n.start text) ++ drop (suc n.at) text)) first
    ∙ ap (λ z. before ++ (z ++ drop (suc n.at) text)) span
    ∙ ap (λ z. before ++ (b.span ++ z)) last

module _ {G : Grammar} {F : Figures G} (C : Fit F) (D : Placing F) (S : Starting F) where
  -- a text that is clear of the digits of a rule, and begins here, ends before the digit
  abbrev pub Clears : {a : Sort} → Rule G.family a → List ℕ → List ℕ → Type 0
  Clears r before remaining =
      (k : ℕ) (l : List ℕ) → clear_by F (λ m b q. clear_within F k m q) l r ≡ true
      → begins (before ++ remaining) l ≡ true
      → length l ≤ length before

  -- A digit among the bytes that a rule reads. With the bytes in its place that its note names, the rule reads the
  -- same from any state with the same tables, and leaves tables that are the same.
  record Digit {a : Sort} (text : List ℕ) (n : Note) (r : Rule G.family a) (left : List ℕ) (s : State) (v : Value a)
      (rest : List ℕ) (t : State) : Type 0 where
    pub before : List ℕ
    pub digit : ℕ
    pub remaining : List ℕ
    pub stands : left ≡ before ++ digit ∷ remaining
    pub at : n.at ≡ length text - suc (length remaining)
    pub goes_on : IsTail remaining rest
    pub far : ahead F r ≤ length before
    pub bytes : Bytes text n
    pub clears : Clears r before (bytes.span ++ remaining)
    pub again : (s' : State) → Alike s s'
        → (t' : State) × Reads G a r (before ++ (bytes.span ++ remaining)) s' v rest t' × Alike t t'

  -- a guard that held before a digit holds before what is written out
  guarded : {a : Sort} (r : Rule G.family a) (c : Condition) (before remaining written : List ℕ) (digit : ℕ)
      → keeps F c r ≡ true → Clears r before written → holds c (before ++ digit ∷ remaining) ≡ true
      → holds c (before ++ written) ≡ true
  unfolding keeps
  guarded r at_end before remaining written digit e clears h =
      let clash : true ≡ false = sym h ∙ not_nil before digit remaining in absurd (cc)
  guarded r (none_of ls) before remaining written digit e clears h =
      not_if (some_of (begins (before ++ written)) ls) (some_of (begins (before ++ digit ∷ remaining)) ls)
      (some-every (begins (before ++ written)) (λ l. clear_by F (λ m b q. clear_within F 3 m q) l r)
      (begins (before ++ digit ∷ remaining)) ls
      (λ l k b. begins-inside l before (digit ∷ remaining) written (clears 3 l k b) b) e) h

  lacks : {a : Sort} {r : Rule G.family a} {left : List ℕ} {s : State} {v : Value a} {rest : List ℕ} {t : State}
      → Reads G a r left s v rest t → (k : ℕ) (l p : List ℕ) → left ≡ p ++ rest
      → misses_by F (λ b m. misses_within F k l m) l r ≡ true → every (is_in l) p ≡ true → ⊥
  unfolding misses_by misses_within
  lacks (a_letter {table = table} {b = b} {v = v} {rest = rest} e) k l p is h all =
      let same : p ≡ b ∷ [] = consumed_is p (b ∷ []) (b ∷ rest) rest is refl in
      not_both (is_in l b) (has_row (λ row. not (is_in l row.0)) table b v e h)
      (if_both (is_in l b) true (ap (every (is_in l)) (sym same) ∙ all)).0
  lacks (a_literal {l = m} {left = left} {rest = rest} e) k l p is h all =
      not_both (every (is_in l) m) h (ap (every (is_in l)) (sym (consumed_is p m left rest is e)) ∙ all)
  lacks (a_part {b = b} {v = v} {left = left} {rest = rest} e d) k l p is h all =
      let same : p ≡ v ++ b ∷ [] =
      consumed_is p (v ++ b ∷ []) left rest is (e ∙ sym (append_assoc v (b ∷ []) rest)) in
      not_both (is_in l b) h
      (if_both (is_in l b) true
      (every-both (is_in l) v (b ∷ []) (ap (every (is_in l)) (sym same) ∙ all)).1).0
  lacks (where_it_holds e d) k l p is h all = lacks d k l p is h all
  lacks (in_a_row {left = left} {l = m} {rest = rest} c d) k l p is h all =
      let first : IsTail left m = tail C c in
      let second : IsTail m rest = tail C d in
      let same : p ≡ first.0 ++ second.0 =
      consumed_is p (first.0 ++ second.0) left rest is
      (first.1 ∙ ap (λ z. first.0 ++ z) second.1 ∙ sym (append_assoc first.0 second.0 rest)) in
      lacks c k l first.0 first.1 h
      (every-both (is_in l) first.0 second.0 (ap (every (is_in l)) (sym same) ∙ all)).0
  lacks (the_first {r = r} {q = q} d) k l p is h all =
      lacks d k l p is
      (if_both (misses_by F (λ b m. misses_within F k l m) l r)
      (misses_by F (λ b m. misses_within F k l m) l q) h).0 all
  lacks (the_second {r = r} {q = q} d) k l p is h all =
      lacks d k l p is
      (if_both (misses_by F (λ b m. misses_within F k l m) l r)
      (misses_by F (λ b m. misses_within F k l m) l q) h).1 all
  lacks (called d) zero l p is h all = absurd (cc)
  lacks (called d) (suc k) l p is h all = lacks d k l p is h all
  lacks (a_node d) k l p is h all = lacks d k l p is h all
  lacks (entered d) k l p is h all = lacks d k l p is h all
  lacks (set_apart d) k l p is h all = lacks d k l p is h all
  lacks given k l p is h all = absurd (cc)
  lacks (a_known_name e) k l p is h all = absurd (cc)
  lacks (it_stands e) k l p is h all = absurd (cc)
  lacks remembered k l p is h all = absurd (cc)
  lacks (a_known_type e) k l p is h all = absurd (cc)
  lacks (a_noted_type e d) k l p is h all = absurd (cc)

  -- what is read first differs from the text, or the text goes on after it
  text_clears : {a : Sort} (q : Rule G.family a) (m before written l : List ℕ) (k : ℕ)
      → cond (differ m l) true (clear_by F (λ o b n. clear_within F k o n) (drop (length m) l) q) ≡ true
      → Clears q before written → begins ((m ++ before) ++ written) l ≡ true → length l ≤ length (m ++ before)
  text_clears q m before written l k e clears b = go (differ m l) refl e
    where
      whole : begins (m ++ (before ++ written)) l ≡ true
      whole = ap (λ z. begins z l) (sym (append_assoc m before written)) ∙ b

      go : (y : Bool) → differ m l ≡ y
          → cond y true (clear_by F (λ o b n. clear_within F k o n) (drop (length m) l) q) ≡ true
          → length l ≤ length (m ++ before)
      go true d e =
          absurd (differ-never m l (m ++ (before ++ written)) d (ap is_some (after-text m (before ++ written))) whole)
      go false d e =
          omega (
            arith,
            clears k (drop (length m) l) e (begins_after m (before ++ written) l whole),
            length-drop (length m) l,
            length-append m before,
          )

  -- what is read first has a byte that the text lacks, or is so long that the text has only stops after it
  row_clears : {a : Sort} {r : Rule G.family a} {left l : List ℕ} {s t : State} {v : Value a}
      → Reads G a r left s v l t → (p before span remaining m : List ℕ) (n : ℕ) → left ≡ p ++ l
      → n ≤ length (p ++ before)
      → starts_free span ≡ true
      → cond (misses F m r) true (every (is_in stops) (drop n m)) ≡ true
      → begins ((p ++ before) ++ (span ++ remaining)) m ≡ true → length m ≤ length (p ++ before)
  unfolding misses
  row_clears {r = r} d p before span remaining m n is far free e b =
      go (misses F m r) refl e (cases_lt (length (p ++ before)) (length m))
    where
      go : (y : Bool) → misses F m r ≡ y → cond y true (every (is_in stops) (drop n m)) ≡ true
          → (length (p ++ before) < length m) ⊎ (length m ≤ length (p ++ before)) → length m ≤ length (p ++ before)
      go y miss e (inr short) = short
      go true miss e (inl long) =
          absurd (lacks d 3 m p is miss
          (every-both (is_in m) p before
          (has_each m m (p ++ before) (span ++ remaining) (each_in m m (λ x h. h)) b (omega (arith, long)))).0)
      go false miss e (inl long) = absurd (stops_there n m (p ++ before) span remaining far long b e free)

  -- what was read is read again with the same tables
  same_again : {a : Sort} {r : Rule G.family a} {left : List ℕ} {s : State} {v : Value a} {rest : List ℕ} {t : State}
      → Reads G a r left s v rest t → (floor : ℕ) → Fine F floor r → (s' : State) → Alike s s'
      → (t' : State) × Reads G a r left s' v rest t' × Alike t t'
  same_again {a = a} {r = r} {left = left} {s = s} {v = v} {rest = rest} {t = t} d floor f s' alike =
      let consumed : IsTail left rest = tail C d in
      subst (λ z. (t' : State) × Reads G a r z s' v rest t' × Alike t t') (sym consumed.1)
      (local C d floor f the_same 0 (same_local F r 0) consumed.0 [] rest rest refl consumed.1 refl
      (omega arith) false s'
      alike)

  -- the type that a digit stands for, read where it is written out
  type_there : (text : List ℕ) (e : Entry) (s : State) (remaining : List ℕ) (h : From C D text e s) (s' : State)
      → Alike s s'
      → (t' : State) × Reads G _ (entering (call G.parameter_type)) (h.0.span ++ remaining) s' e.entered remaining t'
      × Alike s t'
  type_there text e s remaining h s' alike =
      let src : Source C D text e = h.0 in
      let entry_later : Later (remember_type e src.left) s' = alike_later (remember_type e src.left) s s' h.1 alike in
      let later : Later src.left s' =
      later-trans src.left (remember_type e src.left) s' (later-type e src.left) entry_later in
      let again : (t' : State) × Reads G _ (call G.parameter_type) (src.span ++ remaining) s' e.entered remaining t'
      × SameTables t' s' =
      is-local C G.parameter_type S.needs_nothing src.span src.rest src.found e.entered src.left src.read remaining
      s' later in
      let entry : Entry = span_of e.entered (src.span ++ remaining) remaining again.0 in
      let known : with_type entry again.0.types ≡ again.0.types =
      type-again e entry src.left.types again.0.types refl
      (subst (λ (z : List Entry). GoesOn (trees (with_type e src.left.types)) (trees z)) (sym again.2.1)
      entry_later.1) in (
        enter e.entered (src.span ++ remaining) remaining again.0,
        entered again.1,
        known_enter (nat_lt 1 (length (src.span ++ remaining) - length remaining)) entry s again.0
            (alike_kept s s' again.0 alike again.2) known,
      )

  noted_clears : (table : List (ℕ × ℕ)) (q : Rule G.family type_tree) (span rest : List ℕ) → starts_free span ≡ true
      → Clears (noted table or q) [] (span ++ rest)
  unfolding clear_by
  noted_clears table q [] rest free k l e b = absurd (cc)
  noted_clears table q (x ∷ span) rest free k [] e b = omega arith
  noted_clears table q (x ∷ span) rest free k (a ∷ l) e b =
      let stop : is_in stops a ≡ true =
      (if_both (is_in stops a) true
      (if_both (every (is_in stops) (a ∷ [])) (clear_by F (λ m b q. clear_within F k m q) (a ∷ l) q) e).0).0 in
      let same : x ≡ a = eqb-true x a (begins-both x a (span ++ rest) l b).0 in
      let clash : false ≡ true = ap (λ z. cond z false true) (sym stop ∙ ap (is_in stops) (sym same)) ∙ free in
      absurd (cc)

  noted_digit : {q : Rule G.family type_tree} {table : List (ℕ × ℕ)} {b : ℕ} {e : Entry} {rest : List ℕ} {s : State}
      → q ≡ instead F table → every (λ row. is_in stops row.0) table ≡ true
      → (text : List ℕ) → Within text (b ∷ rest) s → From C D text e s → (n : Note) → n ≡ note_of e (b ∷ rest) s
      → Digit text n (noted table or q) (b ∷ rest) s e.entered rest
      (counted (nodes_of_type e.entered s) (note_digit e (b ∷ rest) s))
  unfolding ahead
  noted_digit {q = q} {table = table} {b = b} {e = e} {rest = rest} {s = s} same stop text w h n is =
      let src : Source C D text e = h.0 in
      let free : starts_free src.span ≡ true =
      long_start G S.short_at_stops src.span src.rest src.found e.entered src.left src.read src.long in
      record {
        before = [];
        digit = b;
        remaining = rest;
        stands = refl;
        at = ap (λ (m : Note). m.at) is ∙ ap (λ k. k - suc (length rest)) w.0;
        goes_on = ([], refl);
        far = omega (arith, least_first 0 (ahead F q));
        clears = noted_clears table q src.span rest free;
        bytes =
            record {
              before = src.before;
              span = src.span;
              rest = src.rest;
              stands = src.stands;
              starts = ap (λ (m : Note). m.start) is ∙ src.starts;
              ends = ap (λ (m : Note). m.end) is ∙ src.ends;
              long = src.long;
              free = free;
            };
        again =
            λ s' alike.
            let there = type_there text e s rest h s' alike in (
              there.0,
              the_second (subst (λ z. Reads G _ z (src.span ++ rest) s' e.entered rest there.0) (sym same)
                  (where_it_holds (free_start table src.span rest stop free) there.1)),
              there.2,
            );
      }

  within_first : {a b : Sort} {r : Rule G.family a} {f : Value a → Rule G.family b} {left l rest : List ℕ}
      {s t u : State} {v : Value a}
      {w : Value b} {text : List ℕ} {n : Note}
      → ((before remaining : List ℕ) → Clears r before remaining → Clears (r >>= f) before remaining)
      → Reads G b (f v) l t w rest u → (floor : ℕ) → Fine F floor (f v)
      → Digit text n r left s v l t → Digit text n (r >>= f) left s w rest u
  unfolding ahead
  within_first {a = a} {r = r} {f = f} go d floor g h =
      record {
        before = h.before;
        digit = h.digit;
        remaining = h.remaining;
        stands = h.stands;
        at = h.at;
        goes_on = tail_of_tail h.goes_on (tail C d);
        far = omega (arith, least_first (ahead F r) (consumes F r + ahead F (f (some_value a))), h.far);
        bytes = h.bytes;
        clears = go h.before (h.bytes.span ++ h.remaining) h.clears;
        again =
            λ s' alike.
            let first = h.again s' alike in
            let second = same_again d floor g first.0 first.2 in
            (second.0, in_a_row first.1 second.1, second.2);
      }

  far_after : {a b : Sort} {r : Rule G.family a} (f : Value a → Rule G.family b) {left l : List ℕ} {s t : State}
      {v : Value a}
      (p before : List ℕ) → left ≡ p ++ l
      → Reads G a r left s v l t → (floor : ℕ) → Fine F floor r
      → nat_lt (ahead F (f v)) (ahead F (f (some_value a))) ≡ false
      → ahead F (f v) ≤ length before → consumes F r + ahead F (f (some_value a)) ≤ length (p ++ before)
  far_after {a = a} f {l = l} {v = v} p before is d floor g even far =
      omega (
        arith,
        ltb-false (ahead F (f v)) (ahead F (f (some_value a))) even,
        far,
        shorter C d floor g,
        ap length is,
        length-append p l,
        length-append p before,
      )

  within_second : {a b : Sort} {r : Rule G.family a} {f : Value a → Rule G.family b} {left l rest : List ℕ}
      {s t u : State} {v : Value a}
      {w : Value b} {text : List ℕ} {n : Note} (p : List ℕ) → left ≡ p ++ l
      → Reads G a r left s v l t → (floor : ℕ) → Fine F floor r → Local F others (ahead F (f (some_value a))) r
      → nat_lt (ahead F (f v)) (ahead F (f (some_value a))) ≡ false
      → ((h : Digit text n (f v) l t w rest u) → Clears (r >>= f) (p ++ h.before) (h.bytes.span ++ h.remaining))
      → Digit text n (f v) l t w rest u → Digit text n (r >>= f) left s w rest u
  unfolding ahead
  within_second {a = a} {r = r} {f = f} {left = left} {l = l} {s = s} {t = t} {v = v} p is d floor g c even clears h =
      let stands : left ≡ (p ++ h.before) ++ h.digit ∷ h.remaining =
      is ∙ ap (λ z. p ++ z) h.stands ∙ sym (append_assoc p h.before (h.digit ∷ h.remaining)) in
      record {
        before = p ++ h.before;
        digit = h.digit;
        remaining = h.remaining;
        stands = stands;
        at = h.at;
        goes_on = h.goes_on;
        far =
            omega (
              arith,
              least_second (ahead F r) (consumes F r + ahead F (f (some_value a))),
              far_after f p h.before is d floor g even h.far,
            );
        bytes = h.bytes;
        clears = clears h;
        again =
            λ s' alike.
            let first : (t' : State)
            × Reads G a r ((p ++ h.before) ++ (h.bytes.span ++ h.remaining)) s' v
            (h.before ++ (h.bytes.span ++ h.remaining)) t' × Alike t t' =
            local C d floor g others (ahead F (f (some_value a))) c (p ++ h.before) h.before (h.digit ∷ h.remaining)
            (h.bytes.span ++ h.remaining) (omega arith) stands h.stands
            (omega (arith, ltb-false (ahead F (f v)) (ahead F (f (some_value a))) even, h.far)) false s' alike in
            let second = h.again first.0 first.2 in
            (second.0, in_a_row {u = second.0} first.1 second.1, second.2);
      }

  after_guard : {a : Sort} {r : Rule G.family a} {c : Condition} {left rest : List ℕ} {s t : State} {v : Value a}
      {text : List ℕ} {n : Note}
      → holds c left ≡ true → keeps F c r ≡ true
      → Digit text n r left s v rest t → Digit text n (here c r) left s v rest t
  unfolding ahead clear_by
  after_guard {r = r} {c = c} e k h =
      let written : List ℕ = h.bytes.span ++ h.remaining in
      let guard : holds c (h.before ++ written) ≡ true =
      guarded r c h.before h.remaining written h.digit k h.clears (ap (holds c) (sym h.stands) ∙ e) in
      record {
        before = h.before;
        digit = h.digit;
        remaining = h.remaining;
        stands = h.stands;
        at = h.at;
        goes_on = h.goes_on;
        far = h.far;
        bytes = h.bytes;
        clears = λ i l d b. go l (clear_by F (λ m b q. clear_within F i m q) l r) (bars l c) refl d
            (h.clears i l) guard b;
        again =
            λ s' alike.
            let again = h.again s' alike in (again.0, where_it_holds guard again.1, again.2);
      }
    where
      go : (l : List ℕ) (x y : Bool) → bars l c ≡ y → cond y true x ≡ true
          → (x ≡ true → begins (h.before ++ (h.bytes.span ++ h.remaining)) l ≡ true → length l ≤ length h.before)
          → holds c (h.before ++ (h.bytes.span ++ h.remaining)) ≡ true
          → begins (h.before ++ (h.bytes.span ++ h.remaining)) l ≡ true → length l ≤ length h.before
      go l x true bar d clears guard b = absurd (barred l (h.before ++ (h.bytes.span ++ h.remaining)) c b guard bar)
      go l x false bar d clears guard b = clears d b

  within_entered : {left rest : List ℕ} {s t : State} {v : TypeTree} {text : List ℕ} {n : Note}
      → Digit text n (call G.parameter_type) left s v rest t
      → Digit text n (entering (call G.parameter_type)) left s v rest (enter v left rest t)
  unfolding ahead clear_by
  within_entered {left = left} {rest = rest} {s = s} {t = t} {v = v} h =
      let again_left : List ℕ = h.before ++ (h.bytes.span ++ h.remaining) in
      let was_long : nat_lt 1 (length left - length rest) ≡ true =
      lt-ltb 1 (length left - length rest)
      (omega (
        arith,
        h.far,
        S.runs,
        ap length h.stands,
        length-append h.before (h.digit ∷ h.remaining),
        ap length h.goes_on.1,
        length-append h.goes_on.0 rest,
      )) in
      let is_long : nat_lt 1 (length again_left - length rest) ≡ true =
      lt-ltb 1 (length again_left - length rest)
      (omega (
        arith,
        h.bytes.long,
        length-append h.before (h.bytes.span ++ h.remaining),
        length-append h.bytes.span h.remaining,
        ap length h.goes_on.1,
        length-append h.goes_on.0 rest,
      )) in
      record {
        before = h.before;
        digit = h.digit;
        remaining = h.remaining;
        stands = h.stands;
        at = h.at;
        goes_on = h.goes_on;
        far = h.far;
        bytes = h.bytes;
        clears = h.clears;
        again =
            λ s' alike.
            let again = h.again s' alike in (
              enter v again_left rest again.0,
              entered again.1,
              long_alike (nat_lt 1 (length left - length rest)) (nat_lt 1 (length again_left - length rest))
                  (span_of v left rest t) (span_of v again_left rest again.0) s t s' again.0 refl was_long is_long alike
                  again.2,
            );
      }
    where
      long_alike : (b c : Bool) (e e' : Entry) (s t s' t' : State) → e.entered ≡ e'.entered → b ≡ true → c ≡ true
          → Alike s s' → Alike t t'
          → Alike (cond b (remember_type e t) t) (cond c (remember_type e' t') t')
      long_alike true true e e' s t s' t' same h k alike d = done-type false true e e' s t s' t' same alike d
      long_alike true false e e' s t s' t' same h k alike d = absurd (cc)
      long_alike false c e e' s t s' t' same h k alike d = absurd (cc)

  -- where a rule is another one, or has it as an alternative
  by_another : {a : Sort} {r q : Rule G.family a} {left rest : List ℕ} {s t : State} {v : Value a} {text : List ℕ}
      {n : Note}
      → ahead F q ≤ ahead F r
      → ((h : Digit text n r left s v rest t) → Clears q h.before (h.bytes.span ++ h.remaining))
      → ((l : List ℕ) (s' t' : State) → Reads G a r l s' v rest t' → Reads G a q l s' v rest t')
      → Digit text n r left s v rest t → Digit text n q left s v rest t
  by_another less clears go h =
      record {
        before = h.before;
        digit = h.digit;
        remaining = h.remaining;
        stands = h.stands;
        at = h.at;
        goes_on = h.goes_on;
        far = omega (arith, less, h.far);
        bytes = h.bytes;
        clears = clears h;
        again =
            λ s' alike.
            let again = h.again s' alike in
            (again.0, go (h.before ++ (h.bytes.span ++ h.remaining)) s' again.0 again.1, again.2);
      }

  within_called : {a : Sort} {m : G.family a} {left rest : List ℕ} {s t : State} {v : Value a} {text : List ℕ}
      {n : Note}
      → Digit text n (G.rule m) left s v rest t → Digit text n (call m) left s v rest t
  unfolding ahead clear_by clear_within
  within_called {m = m} {left = left} {rest = rest} {s = s} {t = t} {v = v} {text = text} {n = n} =
      by_another runs clear (λ l s' t' x. called x)
    where
      runs : F.runs_up m ≤ ahead F (G.rule m)
      runs = ltb-false (ahead F (G.rule m)) (F.runs_up m) (runs_ups D m)

      go : (h : Digit text n (G.rule m) left s v rest t) (k : ℕ) (l : List ℕ) (y : Bool)
          → every (is_in stops) (drop (F.runs_up m) l) ≡ y → cond y true (clear_within F k l m) ≡ true
          → begins (h.before ++ (h.bytes.span ++ h.remaining)) l ≡ true
          → length l ≤ length h.before
      go h k l true stop e b =
          ends_at_stops (F.runs_up m) l h.before h.bytes.span h.remaining
          (omega (arith, runs, h.far)) b stop h.bytes.free
      go h zero l false stop e b = absurd (cc)
      go h (suc k) l false stop e b = h.clears k l e b

      clear : (h : Digit text n (G.rule m) left s v rest t)
          → Clears (call m) h.before (h.bytes.span ++ h.remaining)
      clear h k l = go h k l (every (is_in stops) (drop (F.runs_up m) l)) refl

  within_apart : {a : Sort} {r : Rule G.family a} {left rest : List ℕ} {s t : State} {v : Value a} {text : List ℕ}
      {n : Note}
      → Digit text n r left (emptied s) v rest t → Digit text n (apart r) left s v rest (put_back s t)
  unfolding ahead clear_by
  within_apart {s = s} h =
      record {
        before = h.before;
        digit = h.digit;
        remaining = h.remaining;
        stands = h.stands;
        at = h.at;
        goes_on = h.goes_on;
        far = h.far;
        bytes = h.bytes;
        clears = h.clears;
        again =
            λ s' alike.
            let again = h.again (emptied s') (refl, refl) in
            (put_back s' again.0, set_apart again.1, alike);
      }

  -- what is read of a node begins in a state that counts more, with the same tables
  within_node : {a : Sort} {r : Rule G.family a} {left rest : List ℕ} {s t : State} {v : Value a} {text : List ℕ}
      {n : Note}
      → Digit text n r left (counted s.count.weight s) v rest t → Digit text n (node r) left s v rest t
  unfolding ahead clear_by
  within_node h =
      record {
        before = h.before;
        digit = h.digit;
        remaining = h.remaining;
        stands = h.stands;
        at = h.at;
        goes_on = h.goes_on;
        far = h.far;
        bytes = h.bytes;
        clears = h.clears;
        again =
            λ s' alike.
            let again = h.again (counted s'.count.weight s') alike in (again.0, a_node again.1, again.2);
      }

  entered_digit : {r : Rule G.family type_tree} {left rest : List ℕ} {s t : State} {v : TypeTree} {text : List ℕ}
      {n : Note}
      → r ≡ call G.parameter_type
      → Digit text n r left s v rest t → Digit text n (entering r) left s v rest (enter v left rest t)
  entered_digit {left = left} {rest = rest} {s = s} {t = t} {v = v} {text = text} {n = n} is =
      subst (λ q. Digit text n q left s v rest t → Digit text n (entering q) left s v rest (enter v left rest t))
      (sym is)
      within_entered

  digits_inside : {a : Sort} {r : Rule G.family a} {left : List ℕ} {s : State} {v : Value a} {rest : List ℕ} {t : State}
      → Reads G a r left s v rest t
      → (floor : ℕ) → Fine F floor r → Placed F r → (text : List ℕ) → Within text left s → Sourced C D text s
      → (i : ℕ) (n : Note) → TakenBefore t.notes i n → TakenBefore s.notes i n ⊎ Digit text n r left s v rest t
  unfolding Fine Placed Beside ahead clear_by
  digits_inside (where_it_holds e d) floor f p text w h i n k =
      maybe (after_guard e p.0) (digits_inside d floor f p.1 text w h i n k)
  digits_inside (in_a_row {f = g} {v = v} {s = s} (a_letter {table = table} {b = b} e) d) floor f p text w h i n k =
      then_maybe inl
      (within_second {f = g} (b ∷ []) refl (a_letter e) floor f.0 p.2 (p.3 v)
      (λ x j l c z. text_clears (g v) (b ∷ []) x.before (x.bytes.span ++ x.remaining) l j
      (has_row (λ row. cond (differ (row.0 ∷ []) l) true
      (clear_by F (λ m b q. clear_within F j m q) (drop 1 l) (g row.1)))
      table b v e c) x.clears z))
      (digits_inside d ranks (f.1 v) (p.1 v) text (within_next C D {s = s} text w (a_letter {table = table} e)) h i n k)
  digits_inside (in_a_row {f = g} {s = s} (a_literal {l = m} e) d) floor f p text w h i n k =
      then_maybe inl
      (within_second {f = g} m e (a_literal e) floor f.0 p.2 (p.3 tt)
      (λ x j l c z. text_clears (g tt) m x.before (x.bytes.span ++ x.remaining) l j c x.clears z))
      (digits_inside d (cond (nat_lt 0 (length m)) ranks floor) (f.1 tt) (p.1 tt)
      text (within_next C D {s = s} text w (a_literal e))
      h i n k)
  digits_inside (in_a_row {a = a} {r = r} {f = g} {v = v} c d) floor f p text w h i n k =
      then_maybe
      (λ m. maybe (within_first {f = g}
      (λ before remaining x j l e. x j l (if_both (clear_by F (λ m b q. clear_within F j m q) l r) _ e).0)
      d (cond (nat_lt 0 (consumes F r)) ranks floor) (f.1 v))
      (digits_inside c floor f.0 p.0 text w h i n m))
      (within_second {f = g} (tail C c).0 (tail C c).1 c floor f.0 p.2 (p.3 v)
      (λ x j l e z. row_clears c (tail C c).0 x.before x.bytes.span x.remaining l
      (consumes F r + ahead F (g (some_value a)))
      (tail C c).1
      (far_after g (tail C c).0 x.before (tail C c).1 c floor f.0 (p.3 v) x.far) x.bytes.free
      (if_both (clear_by F (λ m b q. clear_within F j m q) l r) _ e).1 z))
      (digits_inside d (cond (nat_lt 0 (consumes F r)) ranks floor) (f.1 v) (p.1 v) text (within_next C D text w c)
      (sourced C D c p.0 text w h) i n k)
  digits_inside (the_first (a_noted_type {b = b} {i = j} {e = e} {rest = rest} {s = s} c d)) floor f p text w h i n k =
      maybe (noted_digit {s = s} p.0.0 p.0.1 text w (h j e d) n)
      (got_last s.notes (note_of e (b ∷ rest) s) n i k)
  digits_inside (the_first {r = r} {q = q} d) floor f p text w h i n k =
      maybe (by_another (least_first (ahead F r) (ahead F q))
      (λ x j l e. x.clears j l
      (if_both (clear_by F (λ m b n. clear_within F j m n) l r) (clear_by F (λ m b n. clear_within F j m n) l q) e).0)
      (λ l s' t' x. the_first x))
      (digits_inside d floor f.1 p.0 text w h i n k)
  digits_inside (the_second {r = r} {q = q} d) floor f p text w h i n k =
      maybe (by_another (least_second (ahead F r) (ahead F q))
      (λ x j l e. x.clears j l
      (if_both (clear_by F (λ m b n. clear_within F j m n) l r) (clear_by F (λ m b n. clear_within F j m n) l q) e).1)
      (λ l s' t' x. the_second x))
      (digits_inside d floor f.2 p.1 text w h i n k)
  digits_inside (called {n = m} d) floor f p text w h i n k =
      maybe within_called (digits_inside d (F.rank m) (fine C m) (placed D m) text w h i n k)
  digits_inside (a_node d) floor f p text w h i n k =
      maybe within_node (digits_inside d floor f p text w h i n k)
  digits_inside (entered {r = r} {v = v} {left = left} {rest = rest} {s = s} {t = t} d) floor f p text w h i n k =
      maybe (entered_digit p)
      (digits_inside d floor f (type_placed C D p) text w h i n
      (subst (λ m. TakenBefore m i n)
      (enter_notes (nat_lt 1 (length left - length rest)) (span_of v left rest t) t) k))
  digits_inside (set_apart d) floor f p text w h i n k =
      maybe within_apart (digits_inside d floor f p text w (λ j e none. absurd (cc)) i n k)
  digits_inside given floor f p text w h i n k = inl k
  digits_inside (a_letter e) floor f p text w h i n k = inl k
  digits_inside (a_literal e) floor f p text w h i n k = inl k
  digits_inside (a_part e d) floor f p text w h i n k = inl k
  digits_inside (a_known_name e) floor f p text w h i n k = inl k
  digits_inside (it_stands e) floor f p text w h i n k = inl k
  digits_inside remembered floor f p text w h i n k = inl k
  digits_inside (a_known_type e) floor f p text w h i n k = inl k
  digits_inside (a_noted_type e d) floor f p text w h i n k = absurd p

  pub sources_none : (text : List ℕ) → Sourced C D text (beginning text)
  sources_none text i e none = absurd (cc)

  -- a digit that was read as a parameter, written out
  pub one_written_out : (text : List ℕ) (tree : SymbolTree) (rest : List ℕ) (notes : List Note)
      → DerivesIn G text tree rest notes → (i : ℕ) (n : Note) → slice_get notes i ≡ Some n
      → (others : List Note) × DerivesIn G (written_out text n) tree rest others
  unfolding Fine Placed
  one_written_out text tree rest notes d i n k =
      go (digits_inside d.1 ranks (rank_small C G.start) tt text (refl, ([], refl)) (sources_none text) i n
      (ap (λ ns. slice_get ns i) d.2 ∙ k))
    where
      go : TakenBefore [] i n ⊎ Digit text n (call G.start) text (beginning text) tree rest d.0
          → (others : List Note) × DerivesIn G (written_out text n) tree rest others
      go (inl none) = absurd (cc)
      go (inr h) =
          let out : written_out text n ≡ h.before ++ (h.bytes.span ++ h.remaining) =
          written_is text n h.bytes h.before h.digit h.remaining h.stands h.at in
          let again = h.again (beginning (written_out text n)) (refl, refl) in (
            again.0.notes,
            (
              again.0,
              subst (λ z. Reads G _ (call G.start) z (beginning (written_out text n)) tree rest again.0) (sym out)
                  again.1,
              refl,
            ),
          )

  -- with any of its digits written out, a text derives the same
  pub all_written_out : (text : List ℕ) (tree : SymbolTree) (rest : List ℕ) (notes : List Note)
      → DerivesIn G text tree rest notes → CanBeWrittenOutIn G text tree rest notes
  all_written_out text tree rest notes d i e less =
      one_written_out text tree rest notes d i (get_or notes i e) (slice_get-get_or notes i e less)
