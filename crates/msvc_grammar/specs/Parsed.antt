-- The contract of the calls that read a whole text, in the crate's dialect.
use Rattle.std.specs.Prelude.{ℕ, List, Option, codes}
use Rattle.msvc_nodes.specs.Trees.{SymbolTree}
use Rattle.msvc_nodes.specs.declared.error.ErrorRepr.{ErrorRepr}
use Rattle.msvc_rules.specs.Dialects.{Dialect}
use Rattle.msvc_rules.specs.Parsed.{AreReferencesIn, GrammarLawsIn, IsParsedIn, IsRejectedIn, IsSymbolLengthIn}
use Rattle.msvc_rules.specs.Rejections.{begins_with}
use Rattle.msvc_rules.specs.State.{Note}
use Rattle.msvc_grammar.specs.Grammar.{crate_grammar}
use Rattle.msvc_grammar.specs.Hashes.{HashesAreRead, HashesStand}
use Rattle.msvc_grammar.specs.Productions.{type_}

-- the dialect of the Rust crate msvc-demangler
abbrev pub crate_dialect : Dialect
crate_dialect = record {
  grammar = crate_grammar;
  types = type_;
  Begins = begins_with (codes "?");
  Stands = HashesStand;
  AreRead = HashesAreRead;
}

-- the text begins with a symbol, and this is its tree
abbrev pub IsParsed : List ℕ → SymbolTree → Type 0
IsParsed text tree = IsParsedIn crate_dialect text tree

-- what holds of the grammar at this text, whatever a call returns
abbrev pub GrammarLaws : List ℕ → Type 0
GrammarLaws text = GrammarLawsIn crate_dialect text

-- reading the text fails with this error, under a limit on nodes or without one
abbrev pub IsRejected : (nodes : Option ℕ) → List ℕ → ErrorRepr → Type 0
IsRejected nodes text e = IsRejectedIn crate_dialect nodes text e

-- the symbol at the beginning of the text takes this many bytes
abbrev pub IsSymbolLength : ℕ → List ℕ → Type 0
IsSymbolLength bytes text = IsSymbolLengthIn crate_dialect bytes text

-- these are the digits of the symbol at the beginning of the text that were read as whole parameters
abbrev pub AreReferences : List ℕ → List Note → Type 0
AreReferences text notes = AreReferencesIn crate_dialect text notes
