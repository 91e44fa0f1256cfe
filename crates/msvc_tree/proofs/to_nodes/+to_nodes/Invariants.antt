use Rattle.std.proofs.Common.{◌≡◌, ◌≤◌, ◌+◌, ◌*◌, length, map, take, vec_capacity, vec_len}
use Rattle.msvc_nodes.specs.NodeView.{name_at, type_at}
use Rattle.msvc_nodes.proofs.TreeSizes.{name_size, names_size, type_size, types_size}
use Rattle.msvc_tree.specs.View.{name_of, operator_of, type_of, scope_of, params_of}
use Rattle.msvc_tree.proofs.to_nodes.+to_nodes.Given as goal

abbrev pub decreases-name_to_nodes : goal.decreases-name_to_nodes
decreases-name_to_nodes l = 3 * name_size (name_of l.tree.now) + 2

abbrev pub decreases-any_name_to_nodes : goal.decreases-any_name_to_nodes
decreases-any_name_to_nodes l = 3 * name_size (name_of l.tree.now) + 1

abbrev pub decreases-operator_to_nodes : goal.decreases-operator_to_nodes
decreases-operator_to_nodes l = 3 * name_size (operator_of l.tree.now)

abbrev pub decreases-type_to_nodes : goal.decreases-type_to_nodes
decreases-type_to_nodes l = 3 * type_size (type_of l.tree.now) + 1

abbrev pub decreases-function_to_nodes : goal.decreases-function_to_nodes
decreases-function_to_nodes l =
    3 * (types_size (params_of l.tree.parameters.now) + type_size (type_of l.tree.returned.now)) + 2

abbrev pub decreases-names_to_nodes : goal.decreases-names_to_nodes
decreases-names_to_nodes l = 3 * names_size (scope_of l.tree.now)

abbrev pub decreases-types_to_nodes : goal.decreases-types_to_nodes
decreases-types_to_nodes l = 3 * types_size (params_of l.tree.now)

abbrev pub decreases-symbol_to_nodes : goal.decreases-symbol_to_nodes
decreases-symbol_to_nodes l = 3 * (name_size (name_of l.tree.now.name) + names_size (scope_of l.tree.now.scope)) + 3

abbrev pub decreases-tree_to_nodes : goal.decreases-tree_to_nodes
decreases-tree_to_nodes l =
    3 * (name_size (name_of l.tree.now.symbol.name) + names_size (scope_of l.tree.now.symbol.scope)
    + type_size (type_of l.tree.now.symbol_type)) + 3

abbrev pub invariant-names_to_nodes-loop-name : goal.invariant-names_to_nodes-loop-name
invariant-names_to_nodes-loop-name l = (map name_at l.nodes.items ≡ map name_of (take l.name-index l.name-items))
    × (vec_len l.nodes ≡ l.name-index) × (length l.name-items ≤ vec_capacity l.nodes)

abbrev pub invariant-types_to_nodes-loop-item : goal.invariant-types_to_nodes-loop-item
invariant-types_to_nodes-loop-item l = (map type_at l.nodes.items ≡ map type_of (take l.item-index l.item-items))
    × (vec_len l.nodes ≡ l.item-index) × (length l.item-items ≤ vec_capacity l.nodes)
