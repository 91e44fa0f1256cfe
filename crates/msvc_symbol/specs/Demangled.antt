-- The contract of the calls that return a declaration, in a grammar. Without `In` the grammar is the crate's.
use Rattle.std.specs.Prelude.{ℕ, List, [], true, ◌≡◌, ◌⊎◌, Option, Some, length}
use Rattle.msvc_nodes.specs.Errors.{IsRejectionOrMemory, context_text_of, too_long}
use Rattle.msvc_nodes.specs.Trees.{SymbolTree}
use Rattle.msvc_nodes.specs.declared.error.ErrorRepr.{ErrorRepr}
use Rattle.msvc_rules.specs.Counts.{node_count}
use Rattle.msvc_rules.specs.Limits.{IsBeyond, IsWithin}
use Rattle.msvc_rules.specs.Parsed.{IsParsedIn, IsRejectedIn, IsSymbolLengthIn}
use Rattle.msvc_grammar.specs.Grammar.{is_hash}
use Rattle.msvc_grammar.specs.Hashes.{hashed_text}
use Rattle.msvc_cursor.specs.declared.limits.Limits.{Limits}
use Rattle.msvc_print.specs.NamePlaces.{IsNamePlace}
use Rattle.msvc_symbol.specs.Grammars.{declaration_in, dialect_of, styled}
use Rattle.msvc_symbol.specs.declared.grammar.Grammar.{Grammar}
use Rattle.msvc_symbol.specs.declared.grammar.Grammar.TheVariants.{Crate}
use Rattle.msvc_symbol.specs.declared.steps.Named.{Named}

-- The input begins with a symbol of this tree, and the text is the tree's declaration under these flags.
pub record IsDeclaredIn (g : Grammar) (input : List ℕ) (tree : SymbolTree) (flags : ℕ) (text : List ℕ) : Type 0 where
  -- the tree is that of the symbol that the input begins with
  pub parsed : IsParsedIn (dialect_of g) input tree
  -- the text is the tree's declaration, byte for byte
  pub printed : text ≡ declaration_in g tree flags

abbrev pub IsDeclared : List ℕ → SymbolTree → ℕ → List ℕ → Type 0
IsDeclared input tree flags text = IsDeclaredIn Crate input tree flags text

-- The text is the declaration of the symbol that the input begins with, and both are within the limits.
abbrev pub IsDeclaredWithinIn : Grammar → Limits → List ℕ → ℕ → List ℕ → Type 0
IsDeclaredWithinIn g limits input flags text = (tree : SymbolTree) × IsDeclaredIn g input tree flags text
    × IsWithin limits.nodes (node_count tree) × IsWithin limits.bytes (length text)

abbrev pub IsDeclaredWithin : Limits → List ℕ → ℕ → List ℕ → Type 0
IsDeclaredWithin limits input flags text = IsDeclaredWithinIn Crate limits input flags text

-- The input begins with a symbol that takes `read` bytes. Its tree is within the limit on nodes. The text is the
-- symbol's declaration, which is within the limit on bytes.
pub record IsDeclaredAsIn (g : Grammar) (limits : Limits) (input : List ℕ) (flags read : ℕ) (text : Option (List ℕ)) :
    Type 0 where
  -- the tree of the symbol
  pub tree : SymbolTree
  pub parsed : IsParsedIn (dialect_of g) input tree
  pub nodes : IsWithin limits.nodes (node_count tree)
  pub takes : IsSymbolLengthIn (dialect_of g) read input
  pub printed : text ≡ Some (declaration_in g tree flags)
  pub bytes : IsWithin limits.bytes (length (declaration_in g tree flags))

abbrev pub IsDeclaredAs : Limits → List ℕ → (flags read : ℕ) → Option (List ℕ) → Type 0
IsDeclaredAs limits input flags read text = IsDeclaredAsIn Crate limits input flags read text

-- The same, and where the name of the symbol stands in the declaration.
pub record IsNamedAsIn (g : Grammar) (limits : Limits) (input : List ℕ) (flags : ℕ) (named : Named)
    (text : Option (List ℕ)) : Type 0 where
  pub declared : IsDeclaredAsIn g limits input flags named.length text
  pub name : IsNamePlace declared.tree (styled g flags) named.place

-- The input begins with a symbol whose tree is within the limit on nodes and whose declaration exceeds the limit on
-- bytes, and this is the error.
pub record IsTooLongIn (g : Grammar) (limits : Limits) (input : List ℕ) (flags : ℕ) (e : ErrorRepr) : Type 0 where
  -- the tree of the symbol
  pub tree : SymbolTree
  pub parsed : IsParsedIn (dialect_of g) input tree
  pub nodes : IsWithin limits.nodes (node_count tree)
  pub longer : IsBeyond limits.bytes (length (declaration_in g tree flags))
  -- the number of bytes that the symbol takes
  pub read : ℕ
  pub takes : IsSymbolLengthIn (dialect_of g) read input
  -- the error has the message `longer than allowed` and the offset `read`, or is out of memory
  pub error : IsRejectionOrMemory too_long (context_text_of input read) read e

-- Demangling the input fails with this error: either reading fails with it, or the declaration exceeds the limit on
-- bytes.
abbrev pub IsErrorUnderIn : Grammar → Limits → List ℕ → ℕ → ErrorRepr → Type 0
IsErrorUnderIn g limits input flags e =
    IsRejectedIn (dialect_of g) limits.nodes input e ⊎ IsTooLongIn g limits input flags e

abbrev pub IsErrorUnder : Limits → List ℕ → ℕ → ErrorRepr → Type 0
IsErrorUnder limits input flags e = IsErrorUnderIn Crate limits input flags e

-- if the input begins with a hash, which stands for a name that was too long, the text is this hash
abbrev pub HashesAreShown : (input text : List ℕ) → Type 0
HashesAreShown input text =
    (digits rest : List ℕ) → is_hash digits ≡ true → input ≡ hashed_text digits rest → text ≡ hashed_text digits []
