-- What a rule reads, as a relation, and what a grammar derives.
use Rattle.std.specs.Prelude.{ℕ, List, [], ◌∷◌, ◌++◌, ◌≡◌, ◌==◌, ◌-◌, true, not, Some}
use Rattle.std.specs.Prelude.{length}
use Rattle.std.specs.Prelude.{nat_lt, if◌then◌else◌, slice_get}
use Rattle.msvc_nodes.specs.Trees.{NameTree, TypeTree, SymbolTree}
use Rattle.msvc_rules.specs.Counts.{name_count, type_count}
use Rattle.msvc_rules.specs.Rules.{Grammar, Condition, holds, every, lookup, Rule, give, letter, literal, up_to}
use Rattle.msvc_rules.specs.Rules.{here, ◌>>=◌, ◌or◌, call, known_name, remember, known_type, noted, entering, apart}
use Rattle.msvc_rules.specs.Rules.{node, stands}
use Rattle.msvc_rules.specs.Sorts.{Sort, type_tree, Value}
use Rattle.msvc_rules.specs.State.{State, Entry, Note, place, span_of, beginning, remember_name, remember_type}
use Rattle.msvc_rules.specs.State.{take_note, counted}

-- the state after a type that was read: the type enters the table of types, unless it was one byte
abbrev pub enter : TypeTree → List ℕ → List ℕ → State → State
enter t left rest s =
    if nat_lt 1 (length left - length rest)
    then remember_type (span_of t left rest s) s
    else s

-- the note of a digit that stands for an entry
abbrev pub note_digit : Entry → List ℕ → State → State
note_digit e left s = take_note (record { at = place left s; start = e.start; end = e.end }) s

-- a state with empty tables
abbrev pub emptied : State → State
emptied s = record s { names = []; types = [] }

-- the second state with the tables of the first
abbrev pub put_back : State → State → State
put_back s t = record t { names = s.names; types = s.types }

-- the nodes of a name and of a type, as a state counts them
abbrev pub nodes_of_name : NameTree → State → ℕ
nodes_of_name n s = name_count s.count.weight n

abbrev pub nodes_of_type : TypeTree → State → ℕ
nodes_of_type t s = type_count s.count.weight t

-- A rule reads the bytes left up to the rest, from one state to another, and has a value.
pub data Reads (G : Grammar) : (a : Sort) → Rule G.family a → List ℕ → State → Value a → List ℕ → State → Type 0 where
  given : {a : Sort} {v : Value a} {left : List ℕ} {s : State} → Reads G _ (give v) left s v left s
  a_letter : {a : Sort} {table : List (ℕ × Value a)} {b : ℕ} {v : Value a} {rest : List ℕ} {s : State}
      → lookup b table ≡ Some v → Reads G _ (letter a table) (b ∷ rest) s v rest s
  a_literal : {l left rest : List ℕ} {s : State} → left ≡ l ++ rest → Reads G _ (literal l) left s tt rest s
  a_part : {b : ℕ} {v left rest : List ℕ} {s : State} → left ≡ v ++ b ∷ rest → every (λ x. not (x == b)) v ≡ true
      → Reads G _ (up_to b) left s v rest s
  where_it_holds : {a : Sort} {c : Condition} {r : Rule G.family a} {v : Value a} {left rest : List ℕ} {s t : State}
      → holds c left ≡ true → Reads G _ r left s v rest t → Reads G _ (here c r) left s v rest t
  in_a_row : {a b : Sort} {r : Rule G.family a} {f : Value a → Rule G.family b} {v : Value a} {w : Value b}
      {left l rest : List ℕ} {s t u : State}
      → Reads G _ r left s v l t → Reads G _ (f v) l t w rest u → Reads G _ (r >>= f) left s w rest u
  the_first : {a : Sort} {r q : Rule G.family a} {v : Value a} {left rest : List ℕ} {s t : State}
      → Reads G _ r left s v rest t → Reads G _ (r or q) left s v rest t
  the_second : {a : Sort} {r q : Rule G.family a} {v : Value a} {left rest : List ℕ} {s t : State}
      → Reads G _ q left s v rest t → Reads G _ (r or q) left s v rest t
  called : {a : Sort} {n : G.family a} {v : Value a} {left rest : List ℕ} {s t : State}
      → Reads G _ (G.rule n) left s v rest t → Reads G _ (call n) left s v rest t
  a_node : {a : Sort} {r : Rule G.family a} {v : Value a} {left rest : List ℕ} {s t : State}
      → Reads G _ r left (counted s.count.weight s) v rest t → Reads G _ (node r) left s v rest t
  a_known_name : {i : ℕ} {n : NameTree} {left : List ℕ} {s : State} → slice_get s.names i ≡ Some n
      → Reads G _ (known_name i) left s n left (counted (nodes_of_name n s) s)
  it_stands : {i : ℕ} {n : NameTree} {left : List ℕ} {s : State} → slice_get s.names i ≡ Some n
      → Reads G _ (stands i) left s tt left s
  remembered : {n : NameTree} {left : List ℕ} {s : State} → Reads G _ (remember n) left s tt left (remember_name n s)
  a_known_type : {i : ℕ} {e : Entry} {left : List ℕ} {s : State} → slice_get s.types i ≡ Some e
      → Reads G _ (known_type i) left s e.entered left (counted (nodes_of_type e.entered s) s)
  a_noted_type : {table : List (ℕ × ℕ)} {b i : ℕ} {e : Entry} {rest : List ℕ} {s : State}
      → lookup b table ≡ Some i → slice_get s.types i ≡ Some e
      → Reads G _ (noted table) (b ∷ rest) s e.entered rest
      (counted (nodes_of_type e.entered s) (note_digit e (b ∷ rest) s))
  entered : {r : Rule G.family type_tree} {v : TypeTree} {left rest : List ℕ} {s t : State}
      → Reads G _ r left s v rest t → Reads G _ (entering r) left s v rest (enter v left rest t)
  set_apart : {a : Sort} {r : Rule G.family a} {v : Value a} {left rest : List ℕ} {s t : State}
      → Reads G _ r left (emptied s) v rest t → Reads G _ (apart r) left s v rest (put_back s t)

-- A beginning of the text is a symbol: its tree, the bytes after it, and the digits that were read as parameters.
abbrev pub DerivesIn : Grammar → List ℕ → SymbolTree → List ℕ → List Note → Type 0
DerivesIn G text tree rest notes =
    (s : State) × Reads G _ (call G.start) text (beginning text) tree rest s × (s.notes ≡ notes)
