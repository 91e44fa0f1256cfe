-- What the tests of `Equality` tell.
use Rattle.std.proofs.Common.{◌≡◌, ◌↔◌, IsTrue}
use mathlib.Core.Bool.{decide_iff}
use Rattle.msvc_nodes.proofs.Decisions.{same_name-is, same_type-is}
use Rattle.msvc_nodes.specs.Decided.{names_discrete, types_discrete, symbol_discrete, typed_symbol_discrete}
use Rattle.msvc_tree.specs.Equality.{name_eq, operator_eq, type_eq, scope_eq, params_eq, symbol_eq, result_eq}
use Rattle.msvc_tree.specs.Equality.{symbol_of}
use Rattle.msvc_tree.specs.View.{name_of, operator_of, type_of, scope_of, params_of, tree_of}
use Rattle.msvc_tree.specs.declared.tree.Name.{Name}
use Rattle.msvc_tree.specs.declared.tree.NameSequence.{NameSequence}
use Rattle.msvc_tree.specs.declared.tree.Operator.{Operator}
use Rattle.msvc_tree.specs.declared.tree.Params.{Params}
use Rattle.msvc_tree.specs.declared.tree.ParseResult.{ParseResult}
use Rattle.msvc_tree.specs.declared.tree.Symbol.{Symbol}
use Rattle.msvc_tree.specs.declared.tree.Type.{«Type»}

pub name_eq-is : (s t : Name) → IsTrue (name_eq s t) ↔ (name_of s ≡ name_of t)
unfolding name_eq
name_eq-is s t = same_name-is (name_of s) (name_of t)

pub operator_eq-is : (s t : Operator) → IsTrue (operator_eq s t) ↔ (operator_of s ≡ operator_of t)
unfolding operator_eq
operator_eq-is s t = same_name-is (operator_of s) (operator_of t)

pub type_eq-is : (s t : «Type») → IsTrue (type_eq s t) ↔ (type_of s ≡ type_of t)
unfolding type_eq
type_eq-is s t = same_type-is (type_of s) (type_of t)

pub scope_eq-is : (s t : NameSequence) → IsTrue (scope_eq s t) ↔ (scope_of s ≡ scope_of t)
unfolding scope_eq
scope_eq-is s t = decide_iff (names_discrete (scope_of s) (scope_of t))

pub params_eq-is : (s t : Params) → IsTrue (params_eq s t) ↔ (params_of s ≡ params_of t)
unfolding params_eq
params_eq-is s t = decide_iff (types_discrete (params_of s) (params_of t))

pub symbol_eq-is : (s t : Symbol) → IsTrue (symbol_eq s t) ↔ (symbol_of s ≡ symbol_of t)
unfolding symbol_eq
symbol_eq-is s t = decide_iff (symbol_discrete (symbol_of s) (symbol_of t))

pub result_eq-is : (s t : ParseResult) → IsTrue (result_eq s t) ↔ (tree_of s ≡ tree_of t)
unfolding result_eq
result_eq-is s t = decide_iff (typed_symbol_discrete (tree_of s) (tree_of t))
