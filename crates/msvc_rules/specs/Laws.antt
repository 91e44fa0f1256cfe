-- What a grammar that passes the checks promises of every text. `proofs/Laws`, `proofs/Locality` and
-- `proofs/WrittenOut` prove it.
use Rattle.std.specs.Prelude.{ℕ, List, [], ◌∷◌, ◌++◌, ◌≡◌}
use Rattle.msvc_nodes.specs.Trees.{SymbolTree, TypeTree}
use Rattle.msvc_rules.specs.Reads.{DerivesIn, Reads}
use Rattle.msvc_rules.specs.Rules.{Grammar, Rule, apart, call}
use Rattle.msvc_rules.specs.Sorts.{Sort, Value, type_tree}
use Rattle.msvc_rules.specs.State.{Entry, Note, State}

-- a text has at most one tree, with one rest and one list of notes
abbrev pub HasOneTreeIn : Grammar → List ℕ → Type 0
HasOneTreeIn G text = (tree other : SymbolTree) (rest remaining : List ℕ) (notes others : List Note)
    → DerivesIn G text tree rest notes → DerivesIn G text other remaining others
    → (tree ≡ other) × (rest ≡ remaining) × (notes ≡ others)

-- the second list begins with the first
abbrev pub GoesOn : {A : Type 0} → List A → List A → Type 0
GoesOn {A = A} xs ys = (others : List A) × (ys ≡ xs ++ others)

-- the trees of a table of types
unfoldable pub trees : List Entry → List TypeTree
trees [] = []
trees (e ∷ es) = e.entered ∷ trees es

-- the tables of the second state begin with the tables of the first
abbrev pub Later : State → State → Type 0
Later s t = GoesOn s.names t.names × GoesOn (trees s.types) (trees t.types)

-- both states have the same tables
abbrev pub SameTables : State → State → Type 0
SameTables s t = (s.names ≡ t.names) × (s.types ≡ t.types)

-- A type that was read with some tables is read again with later tables, whatever bytes follow, and leaves the later
-- tables as they are.
abbrev pub TypesAreLocalIn : (G : Grammar) → (ℕ → G.family type_tree) → Type 0
TypesAreLocalIn G types = (q : ℕ) (left rest : List ℕ) (s : State) (v : TypeTree) (t : State)
    → Reads G _ (call (types q)) (left ++ rest) s v rest t
    → (others : List ℕ) (later : State) → Later t later
    → (next : State) × Reads G _ (call (types q)) (left ++ others) later v others next × SameTables next later

-- a rule with tables of its own, as a template has, leaves the tables before it as they were
abbrev pub TablesAreHandedBackIn : Grammar → Type 0
TablesAreHandedBackIn G = (a : Sort) (r : Rule G.family a) (left : List ℕ) (s : State) (v : Value a) (rest : List ℕ)
    (t : State)
    → Reads G a (apart r) left s v rest t → SameTables t s
