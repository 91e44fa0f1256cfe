-- What a rule reads, as a function: what `Reads` relates, computed.
use Rattle.std.specs.Prelude.{ℕ, List, [], ◌∷◌, ◌==◌, ◌*◌, Bool, true, false, Option, Some, None}
use Rattle.std.specs.Prelude.{length}
use Rattle.std.specs.Prelude.{if◌then◌else◌, slice_get, suc, zero}
use Rattle.msvc_nodes.specs.Trees.{NameTree, TypeTree}
use Rattle.msvc_rules.specs.Reads.{emptied, enter, nodes_of_name, nodes_of_type, note_digit, put_back}
use Rattle.msvc_rules.specs.Rules.{Grammar, holds, lookup, after, Rule, give, letter, literal, up_to}
use Rattle.msvc_rules.specs.Rules.{here, ◌>>=◌, ◌or◌, call, known_name, remember, known_type, noted, entering, apart}
use Rattle.msvc_rules.specs.Rules.{node, stands}
use Rattle.msvc_rules.specs.Sorts.{Sort, type_tree, Value}
use Rattle.msvc_rules.specs.State.{State, Entry, remember_name}
use Rattle.msvc_rules.specs.State.{counted, is_allowed, more}

-- a value, the bytes left and the state after it
abbrev pub Found : Type 0 → Type 0
Found A = Option (A × List ℕ × State)

-- a function that reads the bytes left in a state
abbrev pub Reader : Sort → Type 0
Reader a = List ℕ → State → Found (Value a)

abbrev pub with_value : {A : Type 0} → Option A → List ℕ → State → Found A
with_value None left s = None
with_value (Some v) left s = Some (v, left, s)

abbrev pub letter_here : {A : Type 0} → List (ℕ × A) → List ℕ → State → Found A
letter_here table [] s = None
letter_here table (b ∷ bs) s = with_value (lookup b table) bs s

abbrev pub after_literal : Option (List ℕ) → State → Found (Unit {0})
after_literal None s = None
after_literal (Some rest) s = Some (tt, rest, s)

abbrev pub with_byte : ℕ → Found (List ℕ) → Found (List ℕ)
with_byte x None = None
with_byte x (Some y) = Some (x ∷ y.0, y.1, y.2)

unfoldable pub part_here : ℕ → List ℕ → State → Found (List ℕ)
part_here b [] s = None
part_here b (x ∷ xs) s = if x == b then Some ([], xs, s) else with_byte x (part_here b xs s)

abbrev pub and_then : {A B : Type 0} → Found A → (A → List ℕ → State → Found B) → Found B
and_then None f = None
and_then (Some x) f = f x.0 x.1 x.2

abbrev pub or_else : {A : Type 0} → Found A → Found A → Found A
or_else None q = q
or_else (Some x) q = Some x

abbrev pub only_if : Bool → List ℕ → State → Found (Unit {0})
only_if true left s = Some (tt, left, s)
only_if false left s = None

-- counts n nodes more, if they are allowed
unfoldable pub counting : ℕ → List ℕ → State → Found (Unit {0})
counting n left s = only_if (is_allowed (more n s.count)) left (counted n s)

abbrev pub name_known : Option NameTree → List ℕ → State → Found NameTree
name_known None left s = None
name_known (Some n) left s = and_then (counting (nodes_of_name n s) left s) (λ _ l t. Some (n, l, t))

abbrev pub name_stands : Option NameTree → List ℕ → State → Found (Unit {0})
name_stands None left s = None
name_stands (Some n) left s = Some (tt, left, s)

abbrev pub type_known : Option Entry → List ℕ → State → Found TypeTree
type_known None left s = None
type_known (Some e) left s = and_then (counting (nodes_of_type e.entered s) left s) (λ _ l t. Some (e.entered, l, t))

abbrev pub type_noted : Option Entry → List ℕ → List ℕ → State → Found TypeTree
type_noted None left bs s = None
type_noted (Some e) left bs s =
    and_then (counting (nodes_of_type e.entered s) bs (note_digit e left s)) (λ _ l t. Some (e.entered, l, t))

-- what a reader reads of a node, which counts before any of its bytes is read
abbrev pub in_node : {A : Type 0} → List ℕ → State → (List ℕ → State → Found A) → Found A
in_node left s r = and_then (counting s.count.weight left s) (λ _. r)

abbrev pub noted_by : Option ℕ → List ℕ → List ℕ → State → Found TypeTree
noted_by None left bs s = None
noted_by (Some i) left bs s = type_noted (slice_get s.types i) left bs s

abbrev pub noted_here : List (ℕ × ℕ) → Reader type_tree
noted_here table [] s = None
noted_here table (b ∷ bs) s = noted_by (lookup b table) (b ∷ bs) bs s

abbrev pub entered_by : List ℕ → Found TypeTree → Found TypeTree
entered_by left None = None
entered_by left (Some x) = Some (x.0, x.1, enter x.0 left x.1 x.2)

abbrev pub put_apart : {A : Type 0} → State → Found A → Found A
put_apart s None = None
put_apart s (Some x) = Some (x.0, x.1, put_back s x.2)

-- what a rule reads, where readers of the productions are given
unfoldable pub read_by : {P : Sort → Type 0} → ((b : Sort) → P b → Reader b) → {a : Sort} → Rule P a → Reader a
read_by calls (give v) left s = Some (v, left, s)
read_by calls (letter a table) left s = letter_here table left s
read_by calls (literal l) left s = after_literal (after l left) s
read_by calls (up_to b) left s = part_here b left s
read_by calls (here c r) left s = if holds c left then read_by calls r left s else None
read_by calls (r >>= f) left s = and_then (read_by calls r left s) (λ v. read_by calls (f v))
read_by calls (r or q) left s = or_else (read_by calls r left s) (read_by calls q left s)
read_by calls (call n) left s = calls _ n left s
read_by calls (node r) left s = in_node left s (read_by calls r)
read_by calls (known_name i) left s = name_known (slice_get s.names i) left s
read_by calls (stands i) left s = name_stands (slice_get s.names i) left s
read_by calls (remember n) left s = Some (tt, left, remember_name n s)
read_by calls (known_type i) left s = type_known (slice_get s.types i) left s
read_by calls (noted table) left s = noted_here table left s
read_by calls (entering r) left s = entered_by left (read_by calls r left s)
read_by calls (apart r) left s = put_apart s (read_by calls r left (emptied s))

-- what a production reads, where productions call one another no deeper than the number
unfoldable pub read_within : (G : Grammar) → ℕ → {a : Sort} → G.family a → Reader a
read_within G zero n left s = None
read_within G (suc k) n left s = read_by (λ b m. read_within G k m) (G.rule n) left s

-- fewer productions than this number call one another before a byte is consumed
abbrev pub ranks : ℕ
ranks = 6

unfoldable pub read_name_in : (G : Grammar) → {a : Sort} → G.family a → Reader a
read_name_in G n left s = read_within G (ranks * suc (length left)) n left s

unfoldable pub read_in : (G : Grammar) → {a : Sort} → Rule G.family a → Reader a
read_in G r left s = read_by (λ b m. read_name_in G m) r left s
