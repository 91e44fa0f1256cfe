-- Equality of values of the program as a test: whether two are seen as the same tree.
use Rattle.std.specs.Prelude.{Bool}
use mathlib.Core.Bool.{decide}
use Rattle.msvc_nodes.specs.Decided.{names_discrete, types_discrete, symbol_discrete, typed_symbol_discrete}
use Rattle.msvc_nodes.specs.Equality.{same_name, same_type}
use Rattle.msvc_nodes.specs.Trees.{NameTree, NameTrees}
use Rattle.msvc_tree.specs.View.{name_of, operator_of, type_of, scope_of, params_of, tree_of}
use Rattle.msvc_tree.specs.declared.tree.Name.{Name}
use Rattle.msvc_tree.specs.declared.tree.NameSequence.{NameSequence}
use Rattle.msvc_tree.specs.declared.tree.Operator.{Operator}
use Rattle.msvc_tree.specs.declared.tree.Params.{Params}
use Rattle.msvc_tree.specs.declared.tree.ParseResult.{ParseResult}
use Rattle.msvc_tree.specs.declared.tree.Symbol.{Symbol}
use Rattle.msvc_tree.specs.declared.tree.Type.{«Type»}

-- a symbol's name and its scope
abbrev pub symbol_of : Symbol → NameTree × NameTrees
symbol_of s = (name_of s.name, scope_of s.scope)

-- whether two names are seen as the same
unfoldable pub name_eq : Name → Name → Bool
name_eq s t = same_name (name_of s) (name_of t)

-- whether two operators are seen as the same
unfoldable pub operator_eq : Operator → Operator → Bool
operator_eq s t = same_name (operator_of s) (operator_of t)

-- whether two types are seen as the same
unfoldable pub type_eq : «Type» → «Type» → Bool
type_eq s t = same_type (type_of s) (type_of t)

-- whether two scopes are seen as the same
unfoldable pub scope_eq : NameSequence → NameSequence → Bool
scope_eq s t = decide (names_discrete (scope_of s) (scope_of t))

-- whether two lists of types are seen as the same
unfoldable pub params_eq : Params → Params → Bool
params_eq s t = decide (types_discrete (params_of s) (params_of t))

-- whether two symbols without types are seen as the same
unfoldable pub symbol_eq : Symbol → Symbol → Bool
symbol_eq s t = decide (symbol_discrete (symbol_of s) (symbol_of t))

-- whether two symbols with their types are seen as the same
unfoldable pub result_eq : ParseResult → ParseResult → Bool
result_eq s t = decide (typed_symbol_discrete (tree_of s) (tree_of t))
