-- What the grammar derives from a text, and its laws.
use Rattle.std.specs.Prelude.{ℕ, List}
use Rattle.msvc_nodes.specs.Trees.{SymbolTree}
use Rattle.msvc_rules.specs.Derived.{IsOnlyIn}
use Rattle.msvc_rules.specs.Laws.{HasOneTreeIn, TablesAreHandedBackIn, TypesAreLocalIn}
use Rattle.msvc_rules.specs.Prefix.{IsReadToIn}
use Rattle.msvc_rules.specs.Reads.{DerivesIn}
use Rattle.msvc_rules.specs.State.{Note}
use Rattle.msvc_rules.specs.Written.{CanBeWrittenOutIn, DigitsCanBeWrittenOutIn}
use Rattle.msvc_grammar.specs.Grammar.{crate_grammar}
use Rattle.msvc_grammar.specs.Productions.{type_}

-- A beginning of the text is a symbol: its tree, the bytes after it, and the digits that were read as parameters.
abbrev pub Derives : List ℕ → SymbolTree → List ℕ → List Note → Type 0
Derives text tree rest notes = DerivesIn crate_grammar text tree rest notes

-- whatever the grammar derives from the text is this tree, with this rest and these notes
abbrev pub IsOnly : List ℕ → SymbolTree → List ℕ → List Note → Type 0
IsOnly text tree rest notes = IsOnlyIn crate_grammar text tree rest notes

-- The rest of a text stands after this many bytes of it, and these alone derive the same symbol with the same notes and
-- nothing left.
abbrev pub IsReadTo : ℕ → List ℕ → SymbolTree → List ℕ → List Note → Type 0
IsReadTo bytes text tree rest notes = IsReadToIn crate_grammar bytes text tree rest notes

-- a text has one tree at most, with one rest and one list of notes
abbrev pub HasOneTree : List ℕ → Type 0
HasOneTree text = HasOneTreeIn crate_grammar text

-- a type that was read with some tables is read again with later ones, and leaves these as they are
abbrev pub TypesAreLocal : Type 0
TypesAreLocal = TypesAreLocalIn crate_grammar type_

-- what is read with tables of its own leaves the tables before it as they were
abbrev pub TablesAreHandedBack : Type 0
TablesAreHandedBack = TablesAreHandedBackIn crate_grammar

-- with any of the digits written out, the text begins with the same symbol, and has the same rest
abbrev pub CanBeWrittenOut : List ℕ → SymbolTree → List ℕ → List Note → Type 0
CanBeWrittenOut text tree rest notes = CanBeWrittenOutIn crate_grammar text tree rest notes

-- whatever symbol the text begins with, each digit that was read as a whole parameter can be written out
abbrev pub DigitsCanBeWrittenOut : List ℕ → Type 0
DigitsCanBeWrittenOut text = DigitsCanBeWrittenOutIn crate_grammar text
