use Rattle.std.proofs.Common.{◌≡◌, ℕ, ◌<◌, ◌+◌, ◌*◌, get_or}
use Rattle.msvc_tree.specs.Variants.{name_in, operator_in, type_in}
use Rattle.msvc_nodes.proofs.TreeSizes.{name_size, names_size, type_size, types_size}
use Rattle.msvc_tree.specs.View.{name_of, operator_of, type_of, scope_of, params_of}
use Rattle.msvc_tree.specs.declared.tree.Name.{Name}
use Rattle.msvc_tree.specs.declared.tree.Type.{«Type»}
use Rattle.msvc_tree.proofs.tree.equality.+equality.Given as goal

abbrev pub decreases-same_function : goal.decreases-same_function
decreases-same_function l =
    4 * (types_size (params_of l.left.parameters.now) + type_size (type_of l.left.returned.now)) + 2

abbrev pub decreases-same_name : goal.decreases-same_name
decreases-same_name l = 4 * name_size (name_of l.left.now) + 3

abbrev pub decreases-same_name_node : goal.decreases-same_name_node
decreases-same_name_node l = 4 * name_size (name_in l.left) + 2

abbrev pub decreases-same_operator : goal.decreases-same_operator
decreases-same_operator l = 4 * name_size (operator_of l.left.now) + 1

abbrev pub decreases-same_operator_node : goal.decreases-same_operator_node
decreases-same_operator_node l = 4 * name_size (operator_in l.left)

abbrev pub decreases-same_params : goal.decreases-same_params
decreases-same_params l = 4 * types_size (params_of l.left.now)

abbrev pub decreases-same_result : goal.decreases-same_result
decreases-same_result l =
    4 * (name_size (name_of l.left.now.symbol.name) + names_size (scope_of l.left.now.symbol.scope)
    + type_size (type_of l.left.now.symbol_type)) + 1

abbrev pub decreases-same_scope : goal.decreases-same_scope
decreases-same_scope l = 4 * names_size (scope_of l.left.now)

abbrev pub decreases-same_symbol : goal.decreases-same_symbol
decreases-same_symbol l = 4 * (name_size (name_of l.left.now.name) + names_size (scope_of l.left.now.scope)) + 1

abbrev pub decreases-same_type : goal.decreases-same_type
decreases-same_type l = 4 * type_size (type_of l.left.now) + 1

abbrev pub decreases-same_type_node : goal.decreases-same_type_node
decreases-same_type_node l = 4 * type_size (type_in l.left)

abbrev pub invariant-same_params-loop-i : goal.invariant-same_params-loop-i
invariant-same_params-loop-i l =
    (d : «Type») (k : ℕ) → k < l.i → type_of (get_or l.left.types.items k d) ≡ type_of (get_or l.right.types.items k d)

abbrev pub invariant-same_scope-loop-i : goal.invariant-same_scope-loop-i
invariant-same_scope-loop-i l =
    (d : Name) (k : ℕ) → k < l.i → name_of (get_or l.left.names.items k d) ≡ name_of (get_or l.right.names.items k d)
