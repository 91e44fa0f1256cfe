-- The forms of facts about a symbol.
use Rattle.std.specs.Prelude.{ℕ, List, ◌≡◌, None, codes}
use Prim.Native.String.{String}
use Rattle.msvc_nodes.specs.Trees.{SymbolTree}
use Rattle.msvc_rules.specs.Counts.{node_count}
use Rattle.msvc_rules.specs.State.{Note}
use Rattle.msvc_grammar.specs.Derived.{Derives}
use Rattle.msvc_grammar.specs.Rejections.{IsNoSymbol}
use Rattle.msvc_print.specs.Declaration.{declaration}

-- the text begins with a symbol of this tree and these notes, and the rest follows the symbol
pub record IsTree (text : String) (tree : SymbolTree) (rest : String) (notes : List Note) : Type 0 where
  pub derived : Derives (codes text) tree (codes rest) notes

-- the text begins with a symbol of this many nodes, and the rest follows the symbol
pub record IsCounted (text : String) (nodes : ℕ) (rest : String) : Type 0 where
  pub tree : SymbolTree
  pub notes : List Note
  pub derived : Derives (codes text) tree (codes rest) notes
  pub counted : node_count tree ≡ nodes

-- the text begins with no symbol
pub record IsRefused (text : String) : Type 0 where
  pub none : IsNoSymbol None (codes text)

-- the text begins with a symbol whose tree has this declaration under these flags
pub record IsShown (flags : ℕ) (text declared : String) : Type 0 where
  pub tree : SymbolTree
  pub rest : List ℕ
  pub notes : List Note
  pub derived : Derives (codes text) tree rest notes
  pub printed : declaration tree flags ≡ codes declared
