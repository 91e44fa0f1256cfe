-- What a limit means for a text: what is read has no more nodes than the limit, and what is derived but rejected has
-- more.
use Rattle.std.proofs.Common.{ℕ, zero, suc, List, [], ◌∷◌, length, Option, Some, None, Bool, true, false, cond, not}
use Rattle.std.proofs.Common.{nat_lt, ◌≡◌, ◌≤◌, ◌<◌, ◌+◌, ◌*◌, ◌==◌, ◌-◌, refl, sym, ap, ◌∙◌, arith}
use Rattle.std.proofs.lemmas.Bool.{le-ltb, ltb-false, ltb-true}
use Rattle.std.specs.Prelude.{slice_get}
use Rattle.msvc_nodes.specs.Trees.{NameTree, SymbolTree, TypeTree}
use Rattle.msvc_rules.specs.Counts.{node_count}
use Rattle.msvc_rules.specs.Readers.{Found, Reader, and_then, counting, entered_by, letter_here, after_literal}
use Rattle.msvc_rules.specs.Readers.{name_known, noted_by, noted_here, only_if, part_here, put_apart, ranks, read_by}
use Rattle.msvc_rules.specs.Readers.{read_name_in, read_within, type_known, type_noted, with_byte, with_value}
use Rattle.msvc_rules.specs.Readers.{name_stands}
use Rattle.msvc_rules.specs.Reads.{DerivesIn, Reads, emptied, nodes_of_name, nodes_of_type, note_digit}
use Rattle.msvc_rules.specs.Rules.{Grammar, Rule, after, apart, call, entering, give, here, holds, known_name}
use Rattle.msvc_rules.specs.Rules.{known_type, letter, literal, lookup, node, noted, remember, up_to, ◌>>=◌, ◌or◌}
use Rattle.msvc_rules.specs.Rules.{stands}
use Rattle.msvc_rules.specs.Sorts.{Sort, Value}
use Rattle.msvc_rules.specs.State.{Entry, Note, State, Count, beginning_with, counted, is_allowed, more, span_of}
use Rattle.msvc_rules.specs.State.{uncounted}
use Rattle.msvc_rules.proofs.Checks.{Figures, Fit}
use Rattle.msvc_rules.proofs.Completeness.{name-complete}
use Rattle.msvc_rules.proofs.CountIndependence.{recounted, with_count}
use Rattle.msvc_rules.proofs.CountsMonotone.{count_if}
use Rattle.msvc_rules.proofs.NodesCounted.{symbol_counts, Counted}
use Rattle.msvc_rules.proofs.Soundness.{Derived, IfFound, if_bind, if_cond, if_is, if_or, name-sound}

-- no more nodes were made than may be
abbrev pub Allowed : {A : Type 0} → A × List ℕ × State → Type 0
Allowed x = is_allowed x.2.count ≡ true

value_allowed : {A : Type 0} (o : Option A) (left : List ℕ) (s : State) → is_allowed s.count ≡ true
    → IfFound Allowed (with_value o left s)
value_allowed None left s ok = tt
value_allowed (Some v) left s ok = ok

letter_allowed : {A : Type 0} (table : List (ℕ × A)) (left : List ℕ) (s : State) → is_allowed s.count ≡ true
    → IfFound Allowed (letter_here table left s)
letter_allowed table [] s ok = tt
letter_allowed table (b ∷ bs) s ok = value_allowed (lookup b table) bs s ok

literal_allowed : (o : Option (List ℕ)) (s : State) → is_allowed s.count ≡ true → IfFound Allowed (after_literal o s)
literal_allowed None s ok = tt
literal_allowed (Some rest) s ok = ok

byte_allowed : (x : ℕ) (o : Found (List ℕ)) → IfFound Allowed o → IfFound Allowed (with_byte x o)
byte_allowed x None h = tt
byte_allowed x (Some y) h = h

part_allowed : (b : ℕ) (left : List ℕ) (s : State) → is_allowed s.count ≡ true → IfFound Allowed (part_here b left s)
unfolding part_here
part_allowed b [] s ok = tt
part_allowed b (x ∷ xs) s ok = go (x == b) (part_allowed b xs s ok)
  where
    go : (t : Bool) → IfFound Allowed (part_here b xs s)
        → IfFound Allowed (cond t (Some ([], xs, s)) (with_byte x (part_here b xs s)))
    go true h = ok
    go false h = byte_allowed x (part_here b xs s) h

-- what is counted is allowed, or nothing goes on
counting_allowed : {A : Type 0} (n : ℕ) (left : List ℕ) (s : State) (f : List ℕ → State → Found A)
    → (is_allowed (more n s.count) ≡ true → IfFound Allowed (f left (counted n s)))
    → IfFound Allowed (and_then (counting n left s) (λ _. f))
unfolding counting
counting_allowed n left s f h = go (is_allowed (more n s.count)) refl
  where
    go : (t : Bool) → is_allowed (more n s.count) ≡ t
        → IfFound Allowed (and_then (only_if t left (counted n s)) (λ _. f))
    go true e = h e
    go false e = tt

name_allowed : (o : Option NameTree) (left : List ℕ) (s : State) → IfFound Allowed (name_known o left s)
name_allowed None left s = tt
name_allowed (Some n) left s = counting_allowed (nodes_of_name n s) left s (λ l t. Some (n, l, t)) (λ e. e)

stands_allowed : (o : Option NameTree) (left : List ℕ) (s : State) → is_allowed s.count ≡ true
    → IfFound Allowed (name_stands o left s)
stands_allowed None left s ok = tt
stands_allowed (Some n) left s ok = ok

type_allowed : (o : Option Entry) (left : List ℕ) (s : State) → IfFound Allowed (type_known o left s)
type_allowed None left s = tt
type_allowed (Some e) left s =
    counting_allowed (nodes_of_type e.entered s) left s (λ l t. Some (e.entered, l, t)) (λ h. h)

noted_allowed : (o : Option Entry) (left bs : List ℕ) (s : State) → IfFound Allowed (type_noted o left bs s)
noted_allowed None left bs s = tt
noted_allowed (Some e) left bs s =
    counting_allowed (nodes_of_type e.entered s) bs (note_digit e left s) (λ l t. Some (e.entered, l, t)) (λ h. h)

digit_allowed : (o : Option ℕ) (left bs : List ℕ) (s : State) → IfFound Allowed (noted_by o left bs s)
digit_allowed None left bs s = tt
digit_allowed (Some i) left bs s = noted_allowed (slice_get s.types i) left bs s

digits_allowed : (table : List (ℕ × ℕ)) (left : List ℕ) (s : State) → IfFound Allowed (noted_here table left s)
digits_allowed table [] s = tt
digits_allowed table (b ∷ bs) s = digit_allowed (lookup b table) (b ∷ bs) bs s

entered_allowed : (left : List ℕ) (o : Found TypeTree) → IfFound Allowed o → IfFound Allowed (entered_by left o)
entered_allowed left None h = tt
entered_allowed left (Some x) h =
    ap is_allowed (count_if (nat_lt 1 (length left - length x.1)) (span_of x.0 left x.1 x.2) x.2) ∙ h

apart_allowed : {A : Type 0} (s : State) (o : Found A) → IfFound Allowed o → IfFound Allowed (put_apart s o)
apart_allowed s None h = tt
apart_allowed s (Some x) h = h

-- a count of at most n nodes
abbrev pub at_most : ℕ → Count
at_most n = record { weight = 1; used = 0; max = n }

-- before anything is read, there are no nodes too many
pub none_allowed : (max : ℕ) → is_allowed (at_most max) ≡ true
none_allowed max = ap not (le-ltb max 0 (omega arith))

-- as many nodes are allowed as may be
pub allowed_most : (max n : ℕ) → is_allowed (more n (at_most max)) ≡ true → n ≤ max
allowed_most max n ok = go (nat_lt max (0 + n)) refl ok
  where
    go : (t : Bool) → nat_lt max (0 + n) ≡ t → not t ≡ true → n ≤ max
    go true e k = absurd (cc)
    go false e k = omega (arith, ltb-false max (0 + n) e)

module _ {G : Grammar} {F : Figures G} (C : Fit F) (N : Counted G) where
  abbrev KeepsAllowed : ((b : Sort) → G.family b → Reader b) → Type 0
  KeepsAllowed calls = (b : Sort) (n : G.family b) (left : List ℕ) (s : State) → is_allowed s.count ≡ true
      → IfFound Allowed (calls b n left s)

  module _ (calls : (b : Sort) → G.family b → Reader b) (keeps : KeepsAllowed calls) where
    allowed_by : {a : Sort} (r : Rule G.family a) (left : List ℕ) (s : State) → is_allowed s.count ≡ true
        → IfFound Allowed (read_by calls r left s)
    unfolding read_by
    allowed_by (give v) left s ok = ok
    allowed_by (letter a table) left s ok = letter_allowed table left s ok
    allowed_by (literal l) left s ok = literal_allowed (after l left) s ok
    allowed_by (up_to b) left s ok = part_allowed b left s ok
    allowed_by (here c r) left s ok =
        if_cond Allowed (holds c left) (read_by calls r left s) (λ _. allowed_by r left s ok)
    allowed_by (r >>= f) left s ok =
        if_bind Allowed Allowed (read_by calls r left s) _ (allowed_by r left s ok)
        (λ x h. allowed_by (f x.0) x.1 x.2 h)
    allowed_by (r or q) left s ok =
        if_or Allowed (read_by calls r left s) (read_by calls q left s) (allowed_by r left s ok)
        (allowed_by q left s ok)
    allowed_by (call n) left s ok = keeps _ n left s ok
    allowed_by (node r) left s ok =
        counting_allowed s.count.weight left s (read_by calls r)
        (λ e. allowed_by r left (counted s.count.weight s) e)
    allowed_by (known_name i) left s ok = name_allowed (slice_get s.names i) left s
    allowed_by (stands i) left s ok = stands_allowed (slice_get s.names i) left s ok
    allowed_by (remember n) left s ok = ok
    allowed_by (known_type i) left s ok = type_allowed (slice_get s.types i) left s
    allowed_by (noted table) left s ok = digits_allowed table left s
    allowed_by (entering r) left s ok = entered_allowed left (read_by calls r left s) (allowed_by r left s ok)
    allowed_by (apart r) left s ok =
        apart_allowed s (read_by calls r left (emptied s)) (allowed_by r left (emptied s) ok)

  within-allowed : (k : ℕ) → KeepsAllowed (λ b m. read_within G k m)
  unfolding read_within
  within-allowed zero b n left s ok = tt
  within-allowed (suc k) b n left s ok =
      allowed_by (λ b m. read_within G k m) (within-allowed k) (G.rule n) left s ok

  name-allowed : KeepsAllowed (λ b m. read_name_in G m)
  unfolding read_name_in
  name-allowed b n left s ok = within-allowed (ranks * suc (length left)) b n left s ok

  pub read_name-allowed : {a : Sort} (n : G.family a) (left : List ℕ) (s : State) (v : Value a) (rest : List ℕ)
      (t : State)
      → read_name_in G n left s ≡ Some (v, rest, t) → is_allowed s.count ≡ true → is_allowed t.count ≡ true
  read_name-allowed n left s v rest t e ok =
      if_is Allowed (read_name_in G n left s) (v, rest, t) e (name-allowed _ n left s ok)

  -- what is read within a limit is derived, and has no more nodes
  pub within_derived : (text : List ℕ) (max : ℕ) (tree : SymbolTree) (rest : List ℕ) (s : State)
      → read_name_in G G.start text (beginning_with (at_most max) text) ≡ Some (tree, rest, s)
      → DerivesIn G text tree rest s.notes × (node_count tree ≤ max)
  within_derived text max tree rest s e =
      let start : State = beginning_with (at_most max) text in
      let derived : Reads G _ (call G.start) text start tree rest s =
      if_is (Derived G (call G.start) text start) (read_name_in G G.start text start) (tree, rest, s) e
      ((name-sound G) _ G.start text start) in
      let free = recounted G derived uncounted in
      let ok : is_allowed s.count ≡ true = read_name-allowed G.start text start tree rest s e (none_allowed max) in (
        (with_count free.0 s, free.1, refl),
        allowed_most max (node_count tree) (ap is_allowed (sym (symbol_counts N derived)) ∙ ok),
      )

  -- where nothing is read within a limit, whatever is derived has more nodes
  pub within_rejected : (text : List ℕ) (max : ℕ)
      → read_name_in G G.start text (beginning_with (at_most max) text) ≡ None
      → (tree : SymbolTree) (rest : List ℕ) (notes : List Note) → DerivesIn G text tree rest notes
      → max < node_count tree
  within_rejected text max none tree rest notes d = go (nat_lt max (0 + node_count tree)) refl
    where
      go : (t : Bool) → nat_lt max (0 + node_count tree) ≡ t → max < node_count tree
      go true e = omega (arith, ltb-true max (0 + node_count tree) e)
      go false e =
          let start : State = beginning_with (at_most max) text in
          let limited = recounted G d.1 (at_most max) in
          let ok : is_allowed limited.0 ≡ true = ap is_allowed (symbol_counts N limited.1) ∙ ap not e in
          let some : read_name_in G G.start text start ≡ Some (tree, rest, with_count limited.0 d.0) =
          name-complete C G.start text start tree rest (with_count limited.0 d.0) limited.1 ok in absurd (cc)
