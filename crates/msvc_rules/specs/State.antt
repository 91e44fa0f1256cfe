-- The state of the grammar before and after a rule, beside the bytes left. A place in the text is the length of the
-- text less the number of bytes left.
use Rattle.std.specs.Prelude.{ℕ, List, [], ◌∷◌, ◌++◌, ◌+◌, ◌-◌, Bool, length, nat_lt, not, if◌then◌else◌}
use Rattle.std.specs.List.{list_any}
use Rattle.msvc_nodes.specs.Equality.{same_name, same_type}
use Rattle.msvc_nodes.specs.Trees.{NameTree, TypeTree}

-- a type of the table, with the places where its bytes start and end
pub record Entry : Type 0 where
  pub entered : TypeTree
  pub start : ℕ
  pub end : ℕ

-- a digit that was read as a whole parameter: its place, and where the bytes of its type start and end
pub record Note : Type 0 where
  pub at : ℕ
  pub start : ℕ
  pub end : ℕ

-- the nodes that were made so far
pub record Count : Type 0 where
  -- what each counts for: one, or nothing where there is no limit
  pub weight : ℕ
  pub used : ℕ
  pub max : ℕ

pub record State : Type 0 where
  -- how many bytes the whole text has
  pub whole : ℕ
  pub count : Count
  pub names : List NameTree
  pub types : List Entry
  pub notes : List Note

abbrev pub place : List ℕ → State → ℕ
place left s = s.whole - length left

-- the entry of a type whose bytes begin where `left` is unread and end where `remaining` is unread
abbrev pub span_of : TypeTree → List ℕ → List ℕ → State → Entry
span_of t left remaining s = record { entered = t; start = place left s; end = place remaining s }

-- the count where there is no limit and nothing is counted
abbrev pub uncounted : Count
uncounted = record { weight = 0; used = 0; max = 0 }

-- the state in which the reading of a text begins, with a limit or without
abbrev pub beginning_with : Count → List ℕ → State
beginning_with count text = record { whole = length text; count = count; names = []; types = []; notes = [] }

abbrev pub beginning : List ℕ → State
beginning text = beginning_with uncounted text

-- a count with n nodes more
abbrev pub more : ℕ → Count → Count
more n count = record count { used = count.used + n }

abbrev pub counted : ℕ → State → State
counted n s = record s { count = more n s.count }

-- whether no more nodes were made than may be
abbrev pub is_allowed : Count → Bool
is_allowed count = not (nat_lt count.max count.used)

-- how many entries a table has at most
abbrev pub most_memorized : ℕ
most_memorized = 10

-- A new entry goes to the end of a table. An entry that the table has does not enter it again, and nothing enters a
-- full table.

abbrev pub with_name : NameTree → List NameTree → List NameTree
with_name name table =
    if nat_lt (length table) most_memorized
    then (if list_any (same_name name) table then table else table ++ name ∷ [])
    else table

abbrev pub with_type : Entry → List Entry → List Entry
with_type entry table =
    if nat_lt (length table) most_memorized
    then (if list_any (λ known. same_type entry.entered known.entered) table then table else table ++ entry ∷ [])
    else table

abbrev pub remember_name : NameTree → State → State
remember_name name s = record s { names = with_name name s.names }

abbrev pub remember_type : Entry → State → State
remember_type entry s = record s { types = with_type entry s.types }

abbrev pub take_note : Note → State → State
take_note note s = record s { notes = s.notes ++ note ∷ [] }
