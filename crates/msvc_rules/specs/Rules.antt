-- The language that the grammar is written in. A rule reads bytes and has a value; what it reads stands in Reads.
-- A choice is a union of its two alternatives, and a guard is a condition on the bytes left, which reads none: that
-- at most one alternative reads on is no part of the language. It is proved of the grammar.
use Rattle.std.specs.Prelude.{ℕ, List, [], ◌∷◌, ◌==◌, Bool, true, false, not, Option, Some, None, if◌then◌else◌}
use Rattle.std.specs.Prelude.{is_some}
use Rattle.msvc_nodes.specs.Trees.{NameTree}
use Rattle.msvc_rules.specs.Sorts.{Sort, nothing, bits, bytes, name_tree, type_tree, symbol_tree, Value}

-- a condition on the bytes left
pub data Condition : Type 0 where
  -- none of these texts begins here
  none_of : List (List ℕ) → Condition
  -- no byte is left
  at_end : Condition

pub data Rule (P : Sort → Type 0) : Sort → Type 0 where
  -- reads no byte and has this value
  give : {a : Sort} → Value a → Rule P a
  -- a byte of a table, which has a value for each
  letter : (a : Sort) → List (ℕ × Value a) → Rule P a
  -- this text
  literal : List ℕ → Rule P nothing
  -- the bytes before the first byte of this kind, which is consumed too
  up_to : ℕ → Rule P bytes
  -- a rule where a condition holds
  here : {a : Sort} → Condition → Rule P a → Rule P a
  -- a rule, and then the rule that is made of its value
  ◌>>=◌ : {a b : Sort} → Rule P a → (Value a → Rule P b) → Rule P b
  -- either of two
  ◌or◌ : {a : Sort} → Rule P a → Rule P a → Rule P a
  call : {a : Sort} → P a → Rule P a
  -- a rule that makes a node, a name or a type, which counts from its beginning on
  node : {a : Sort} → Rule P a → Rule P a
  -- an entry of the table of names, whose nodes count again
  known_name : ℕ → Rule P name_tree
  -- an entry of the table of names is there, of which no node counts
  stands : ℕ → Rule P nothing
  -- a name enters the table of names
  remember : NameTree → Rule P nothing
  -- the type of an entry of the table of types, whose nodes count again
  known_type : ℕ → Rule P type_tree
  -- the type of the entry that a byte stands for in a table, whose nodes count again; the byte is noted
  noted : List (ℕ × ℕ) → Rule P type_tree
  -- a type enters the table of types if more than one byte was read for it
  entering : Rule P type_tree → Rule P type_tree
  -- a rule with tables of its own, which are empty before it and are dropped after it
  apart : {a : Sort} → Rule P a → Rule P a

infixr 5 ◌or◌
infixl 10 ◌>>=◌
infixl 10 ◌>>◌
abbrev pub ◌>>◌ : {P : Sort → Type 0} {a : Sort} → Rule P nothing → Rule P a → Rule P a
r >> q = r >>= λ _. q

-- what a table has for a letter
abbrev pub lookup : {A : Type 0} → ℕ → List (ℕ × A) → Option A
lookup b [] = None
lookup b (row ∷ others) = if b == row.0 then Some row.1 else lookup b others

-- what follows a text, if the bytes begin with it
abbrev pub after : List ℕ → List ℕ → Option (List ℕ)
after [] bs = Some bs
after (l ∷ ls) [] = None
after (l ∷ ls) (b ∷ bs) = if b == l then after ls bs else None

-- Conditions, as tests

abbrev pub is_nil : List ℕ → Bool
is_nil [] = true
is_nil (b ∷ bs) = false

abbrev pub every : {A : Type 0} → (A → Bool) → List A → Bool
every p [] = true
every p (x ∷ xs) = if p x then every p xs else false

abbrev pub some_of : {A : Type 0} → (A → Bool) → List A → Bool
some_of p [] = false
some_of p (x ∷ xs) = if p x then true else some_of p xs

abbrev pub begins : List ℕ → List ℕ → Bool
begins left text = is_some (after text left)

abbrev pub holds : Condition → List ℕ → Bool
holds (none_of texts) left = not (some_of (begins left) texts)
holds at_end left = is_nil left

-- Rules that are made of other rules

-- no text is read
abbrev pub never : {P : Sort → Type 0} {a : Sort} → Rule P a
never = letter _ []

-- the texts of one byte that a table's letters are
abbrev pub begins_of : {A : Type 0} → List (ℕ × A) → List (List ℕ)
begins_of [] = []
begins_of (row ∷ others) = (row.0 ∷ []) ∷ begins_of others

-- a letter of a table and what follows it, or another rule where no letter of the table stands
abbrev pub letter_or : {P : Sort → Type 0} {a : Sort} → List (ℕ × ℕ) → (ℕ → Rule P a) → Rule P a → Rule P a
letter_or table f q = (letter bits table >>= f) or here (none_of (begins_of table)) q

-- a text and what follows it, or another rule where the text does not begin
abbrev pub literal_or : {P : Sort → Type 0} {a : Sort} → List ℕ → Rule P a → Rule P a → Rule P a
literal_or text r q = (literal text >> r) or here (none_of (text ∷ [])) q

-- the texts of a table
abbrev pub texts_of : {A : Type 0} → List (List ℕ × A) → List (List ℕ)
texts_of [] = []
texts_of (row ∷ others) = row.0 ∷ texts_of others

-- a text of a table and what follows it
abbrev pub text_and : {P : Sort → Type 0} {a : Sort} {A : Type 0} → List (List ℕ × A) → (A → Rule P a) → Rule P a
text_and [] f = never
text_and (row ∷ others) f = (literal row.0 >> f row.1) or text_and others f

-- a text of a table and what follows it, or another rule where no text of the table begins
abbrev pub text_or : {P : Sort → Type 0} {a : Sort} {A : Type 0} → List (List ℕ × A) → (A → Rule P a) → Rule P a
    → Rule P a
text_or table f q = text_and table f or here (none_of (texts_of table)) q

-- the bits of a letter of a table, or no bits where no letter of the table stands
abbrev pub optional : {P : Sort → Type 0} → List (ℕ × ℕ) → Rule P bits
optional table = letter_or table (λ x. give x) (give 0)

-- A grammar: the names of its productions, the rule of each, and the two that laws speak of.
pub record Grammar : Type 1 where
  pub family : Sort → Type 0
  pub rule : {a : Sort} → family a → Rule family a
  -- a whole symbol
  pub start : family symbol_tree
  -- a type as a parameter has it
  pub parameter_type : family type_tree
