-- The contract of the calls that read a whole text, in a dialect: what holds of a tree that was read, of the grammar
-- whatever a call returns, and of an error.
use Rattle.std.specs.Prelude.{ℕ, List, ◌≡◌, Option, None}
use Rattle.std.specs.Str.{IsCharBoundary, IsUtf8}
use Rattle.msvc_nodes.specs.EachName.{EachName}
use Rattle.msvc_nodes.specs.Errors.{limit_of}
use Rattle.msvc_nodes.specs.Trees.{SymbolTree}
use Rattle.msvc_nodes.specs.declared.error.ErrorRepr.{ErrorRepr}
use Rattle.msvc_rules.specs.Derived.{IsOnlyIn}
use Rattle.msvc_rules.specs.Dialects.{Dialect}
use Rattle.msvc_rules.specs.Laws.{HasOneTreeIn, TablesAreHandedBackIn, TypesAreLocalIn}
use Rattle.msvc_rules.specs.Limits.{MayBeAbout}
use Rattle.msvc_rules.specs.Parts.{NamesAreParts}
use Rattle.msvc_rules.specs.Prefix.{IsReadToIn}
use Rattle.msvc_rules.specs.Reads.{DerivesIn}
use Rattle.msvc_rules.specs.Rejections.{IsRejectionAt, IsRejectedRightlyIn}
use Rattle.msvc_rules.specs.State.{Note}
use Rattle.msvc_rules.specs.Written.{AreRising, CanBeWrittenOutIn, DigitsCanBeWrittenOutIn}

-- The text begins with a symbol, and this is its tree.
pub record IsParsedIn (D : Dialect) (text : List ℕ) (tree : SymbolTree) : Type 0 where
  -- the bytes after the symbol
  pub rest : List ℕ
  -- the digits that were read as whole parameters
  pub notes : List Note
  -- the grammar derives the tree from the text, with these bytes left
  pub derived : DerivesIn D.grammar text tree rest notes
  -- the grammar derives nothing else from the text
  pub only : IsOnlyIn D.grammar text tree rest notes
  -- each name in the tree is a part of the text
  pub parts : NamesAreParts text tree
  -- each name in the tree is UTF-8
  pub texts : EachName IsUtf8 tree
  -- if the text begins with a hash, the tree is that hash
  pub hashes : D.Stands text tree
  -- the text begins as symbols of the dialect do
  pub begins : D.Begins text

-- What holds of the grammar at this text, whatever a call returns.
pub record GrammarLawsIn (D : Dialect) (text : List ℕ) : Type 0 where
  -- the text has one tree at most
  pub unique : HasOneTreeIn D.grammar text
  -- a type that was read with some tables is read again with later ones, whatever follows it
  pub local : TypesAreLocalIn D.grammar D.types
  -- a template leaves the tables as they were before it
  pub tables : TablesAreHandedBackIn D.grammar
  -- each digit that was read as a whole parameter can be written out
  pub written_out : DigitsCanBeWrittenOutIn D.grammar text

-- Reading the text fails with this error, under a limit on nodes or without one.
pub record IsRejectedIn (D : Dialect) (nodes : Option ℕ) (text : List ℕ) (e : ErrorRepr) : Type 0 where
  -- out of memory, or the text begins with no symbol, or none within the limit that the error is about: then the error
  -- has an offset in the text
  pub rejected : IsRejectedRightlyIn D.grammar nodes text e
  -- a text that begins otherwise than symbols of the dialect is rejected at offset 0
  pub begins : (D.Begins text → ⊥) → IsRejectionAt text 0 e
  -- a text that begins with a hash is rejected only out of memory, if there is no limit
  pub hashes : nodes ≡ None → D.AreRead text e
  -- the message is about no limit, if there is none, and never about the bytes of a declaration
  pub limit : MayBeAbout nodes (limit_of e)

-- The symbol at the beginning of the text takes this many bytes.
pub record IsSymbolLengthIn (D : Dialect) (bytes : ℕ) (text : List ℕ) : Type 0 where
  -- the rest of the text stands after these bytes, and they derive the same tree when they stand alone
  pub read_to : (tree : SymbolTree) (rest : List ℕ) (notes : List Note) → DerivesIn D.grammar text tree rest notes
      → IsReadToIn D.grammar bytes text tree rest notes
  -- they end at a character's boundary
  pub boundary : IsCharBoundary text bytes

-- These are the digits of the symbol at the beginning of the text that were read as whole parameters.
pub record AreReferencesIn (D : Dialect) (text : List ℕ) (notes : List Note) : Type 0 where
  -- the tree of the symbol
  pub tree : SymbolTree
  -- the bytes after the symbol
  pub rest : List ℕ
  -- the grammar derives the tree from the text, with these digits
  pub derived : DerivesIn D.grammar text tree rest notes
  -- the grammar derives nothing else from the text
  pub only : IsOnlyIn D.grammar text tree rest notes
  -- the text begins as symbols of the dialect do
  pub begins : D.Begins text
  -- each digit stands after the one before it
  pub rising : AreRising notes
  -- with any of the digits written out, the text has the same tree and the same bytes left
  pub written_out : CanBeWrittenOutIn D.grammar text tree rest notes
