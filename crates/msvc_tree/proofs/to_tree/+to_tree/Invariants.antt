use Rattle.std.proofs.Common.{◌≡◌, ◌≤◌, ◌+◌, ◌*◌, length, map, take, vec_capacity, vec_len}
use Rattle.msvc_nodes.specs.NodeView.{name_at, type_at, name_of, type_of, names_in, types_in}
use Rattle.msvc_nodes.proofs.TreeSizes.{name_size, names_size, type_size, types_size}
use Rattle.msvc_tree.specs.View.{name_of as tree_name, type_of as tree_type}
use Rattle.msvc_tree.proofs.to_tree.+to_tree.Given as goal

abbrev pub decreases-name_to_tree : goal.decreases-name_to_tree
decreases-name_to_tree l = 3 * name_size (name_of l.name.now) + 1

abbrev pub decreases-any_name_to_tree : goal.decreases-any_name_to_tree
decreases-any_name_to_tree l = 3 * name_size (name_of l.name.now)

abbrev pub decreases-type_to_tree : goal.decreases-type_to_tree
decreases-type_to_tree l = 3 * type_size (type_of l.node.now)

abbrev pub decreases-boxed_to_tree : goal.decreases-boxed_to_tree
decreases-boxed_to_tree l = 3 * type_size (type_of l.node.now) + 1

abbrev pub decreases-names_to_tree : goal.decreases-names_to_tree
decreases-names_to_tree l = 3 * names_size (names_in l.names.now)

abbrev pub decreases-types_to_tree : goal.decreases-types_to_tree
decreases-types_to_tree l = 3 * types_size (types_in l.types.now)

abbrev pub decreases-symbol_to_tree : goal.decreases-symbol_to_tree
decreases-symbol_to_tree l =
    3 * (name_size (name_of l.symbol.now.name.now) + names_size (names_in l.symbol.now.scope.now)) + 2

abbrev pub decreases-nodes_to_tree : goal.decreases-nodes_to_tree
decreases-nodes_to_tree l =
    3 * (name_size (name_of l.whole.now.symbol.name.now) + names_size (names_in l.whole.now.symbol.scope.now)
    + type_size (type_of l.whole.now.symbol_type.now)) + 1

abbrev pub invariant-names_to_tree-loop-name : goal.invariant-names_to_tree-loop-name
invariant-names_to_tree-loop-name l = (map tree_name l.made.items ≡ map name_at (take l.name-index l.names))
    × (vec_len l.made ≡ l.name-index) × (length l.names ≤ vec_capacity l.made)

abbrev pub invariant-types_to_tree-loop-item : goal.invariant-types_to_tree-loop-item
invariant-types_to_tree-loop-item l = (map tree_type l.made.items ≡ map type_at (take l.item-index l.types))
    × (vec_len l.made ≡ l.item-index) × (length l.types ≤ vec_capacity l.made)
