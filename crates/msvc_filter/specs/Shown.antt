-- What is shown of a symbol at a start.
use Rattle.std.specs.Prelude.{ℕ, List, ◌≡◌, Option, Some, length}
use Rattle.msvc_nodes.specs.Trees.{SymbolTree}
use Rattle.msvc_rules.specs.Counts.{node_count}
use Rattle.msvc_rules.specs.Limits.{IsWithin}
use Rattle.msvc_rules.specs.Parsed.{IsParsedIn, IsSymbolLengthIn}
use Rattle.msvc_cursor.specs.declared.limits.Limits.{Limits}
use Rattle.msvc_symbol.specs.Grammars.{Choice, dialect_of}
use Rattle.msvc_filter.specs.Colors.{declaration_under, shown_under}

-- The input begins with a symbol that takes `read` bytes, within the limits, and the text is what is shown of it.
pub record IsShownIn (how : Choice) (limits : Limits) (input : List ℕ) (read : ℕ) (text : Option (List ℕ)) : Type 0 where
  -- the tree of the symbol
  pub tree : SymbolTree
  pub parsed : IsParsedIn (dialect_of how.grammar) input tree
  pub nodes : IsWithin limits.nodes (node_count tree)
  pub takes : IsSymbolLengthIn (dialect_of how.grammar) read input
  pub shown : text ≡ Some (shown_under how tree)
  pub bytes : IsWithin limits.bytes (length (declaration_under how tree))
