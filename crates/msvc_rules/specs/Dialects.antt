-- A dialect: a grammar, and what calls promise of its symbols beside its rules.
use Rattle.std.specs.Prelude.{ℕ, List}
use Rattle.msvc_nodes.specs.Trees.{SymbolTree}
use Rattle.msvc_nodes.specs.declared.error.ErrorRepr.{ErrorRepr}
use Rattle.msvc_rules.specs.Rules.{Grammar}
use Rattle.msvc_rules.specs.Sorts.{type_tree}

pub record Dialect : Type 1 where
  pub grammar : Grammar
  -- a type with qualifiers from outside
  pub types : ℕ → grammar.family type_tree
  -- what a text begins with that is a symbol
  pub Begins : List ℕ → Type 0
  -- what the tree is of a text that needs no reading
  pub Stands : List ℕ → SymbolTree → Type 0
  -- such a text is rejected for memory alone
  pub AreRead : List ℕ → ErrorRepr → Type 0
