-- The tests of `Equality` are equivalences, as `PartialEq` and `Eq` ask.
use Rattle.std.specs.Cmp.{IsEquivalence, decided, on_equiv}
use mathlib.Core.Bool.{decide, decide_iff}
use Rattle.msvc_nodes.specs.Decided.{name_discrete, names_discrete, type_discrete, types_discrete, symbol_discrete}
use Rattle.msvc_nodes.specs.Decided.{typed_symbol_discrete}
use Rattle.msvc_nodes.specs.Equality.{same_name, same_type}
use Rattle.msvc_tree.specs.Equality.{name_eq, operator_eq, type_eq, scope_eq, params_eq, symbol_eq, result_eq}
use Rattle.msvc_tree.specs.Equality.{symbol_of}
use Rattle.msvc_tree.specs.View.{name_of, operator_of, type_of, scope_of, params_of, tree_of}

-- a decision whether two values are equal is an equivalence
decision-laws : {A : Type 0} (d : Discrete A) → IsEquivalence (λ (a b : A). decide (d a b))
decision-laws d = decided (λ a b. decide (d a b)) (λ a b. decide_iff (d a b))

pub name_eq-laws : IsEquivalence name_eq
unfolding name_eq same_name
name_eq-laws = on_equiv name_of (decision-laws name_discrete)

pub operator_eq-laws : IsEquivalence operator_eq
unfolding operator_eq same_name
operator_eq-laws = on_equiv operator_of (decision-laws name_discrete)

pub type_eq-laws : IsEquivalence type_eq
unfolding type_eq same_type
type_eq-laws = on_equiv type_of (decision-laws type_discrete)

pub scope_eq-laws : IsEquivalence scope_eq
unfolding scope_eq
scope_eq-laws = on_equiv scope_of (decision-laws names_discrete)

pub params_eq-laws : IsEquivalence params_eq
unfolding params_eq
params_eq-laws = on_equiv params_of (decision-laws types_discrete)

pub symbol_eq-laws : IsEquivalence symbol_eq
unfolding symbol_eq
symbol_eq-laws = on_equiv symbol_of (decision-laws symbol_discrete)

pub result_eq-laws : IsEquivalence result_eq
unfolding result_eq
result_eq-laws = on_equiv tree_of (decision-laws typed_symbol_discrete)
