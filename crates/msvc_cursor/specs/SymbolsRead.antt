-- What is read of a text that begins with a symbol.
use Rattle.std.specs.Prelude.{ℕ, List, ◌≡◌, ◌≤◌, Option, length}
use Rattle.msvc_nodes.specs.Trees.{SymbolTree}
use Rattle.msvc_rules.specs.Counts.{node_count}
use Rattle.msvc_rules.specs.Dialects.{Dialect}
use Rattle.msvc_rules.specs.Limits.{IsWithin}
use Rattle.msvc_rules.specs.Parsed.{AreReferencesIn, IsParsedIn, IsSymbolLengthIn}
use Rattle.msvc_rules.specs.State.{Note}
use Rattle.msvc_grammar.specs.Parsed.{crate_dialect}

-- The text begins with a symbol of this tree, which is within the limit on nodes. The symbol takes this many bytes, and
-- the notes are its back references.
pub record IsSymbolReadIn (D : Dialect) (nodes : Option ℕ) (text : List ℕ) (tree : SymbolTree) (bytes : ℕ)
    (notes : List Note)
    : Type 0 where
  pub parsed : IsParsedIn D text tree
  pub within : IsWithin nodes (node_count tree)
  pub takes : IsSymbolLengthIn D bytes text
  -- the bytes are in the text
  pub inside : bytes ≤ length text
  pub references : AreReferencesIn D text notes
  -- the references are those of this tree
  pub same : references.tree ≡ tree

-- the text begins with a symbol of the crate's dialect
abbrev pub IsSymbolRead : (nodes : Option ℕ) → List ℕ → SymbolTree → (bytes : ℕ) → List Note → Type 0
IsSymbolRead nodes text tree bytes notes = IsSymbolReadIn crate_dialect nodes text tree bytes notes
