use Rattle.std.proofs.Common.{◌≡◌, ℕ, ◌<◌, ◌+◌, ◌*◌, get_or}
use Rattle.std.specs.Borrow.{Bor}
use Rattle.msvc_nodes.proofs.TreeSizes.{name_size, names_size, type_size, types_size}
use Rattle.msvc_nodes.specs.NodeView.{name_at, name_of, type_at, type_of, names_in, types_in}
use Rattle.msvc_nodes.specs.declared.nodes.Name.{Name}
use Rattle.msvc_nodes.specs.declared.nodes.Type.{«Type»}
use Rattle.msvc_nodes.proofs.same.+same.Given as goal

abbrev pub decreases-same_name : goal.decreases-same_name
decreases-same_name l = 3 * name_size (name_of l.left.now)

abbrev pub decreases-same_type : goal.decreases-same_type
decreases-same_type l = 3 * type_size (type_of l.left.now)

abbrev pub decreases-same_names : goal.decreases-same_names
decreases-same_names l = 3 * names_size (names_in l.left.now)

abbrev pub decreases-same_types : goal.decreases-same_types
decreases-same_types l = 3 * types_size (types_in l.left.now)

abbrev pub decreases-same_template : goal.decreases-same_template
decreases-same_template l =
    3 * (name_size (name_of l.left.now.name.now) + types_size (types_in l.left.now.arguments.now)) + 1

abbrev pub decreases-same_symbol : goal.decreases-same_symbol
decreases-same_symbol l =
    3 * (name_size (name_of l.left.now.name.now) + names_size (names_in l.left.now.scope.now)) + 1

abbrev pub decreases-same_typed_symbol : goal.decreases-same_typed_symbol
decreases-same_typed_symbol l =
    3 * (name_size (name_of l.left.now.symbol.name.now) + names_size (names_in l.left.now.symbol.scope.now)
    + type_size (type_of l.left.now.symbol_type.now)) + 1

abbrev pub decreases-same_function : goal.decreases-same_function
decreases-same_function l =
    3 * (types_size (types_in l.left.now.parameters.now) + type_size (type_of l.left.now.returned.now)) + 1

abbrev pub decreases-same_member : goal.decreases-same_member
decreases-same_member l =
    3 * (types_size (types_in l.left.now.parameters.now) + type_size (type_of l.left.now.returned.now)) + 2

abbrev pub decreases-same_shape : goal.decreases-same_shape
decreases-same_shape l =
    3 * (names_size (names_in l.left.now.names.now) + types_size (types_in l.left.now.types.now)) + 1

abbrev pub decreases-same_scope : goal.decreases-same_scope
decreases-same_scope l = 3 * names_size (names_in l.left.now.names.now) + 1

abbrev pub invariant-same_names-loop-i : goal.invariant-same_names-loop-i
invariant-same_names-loop-i l =
    (d : Bor Name) (k : ℕ) → k < l.i → name_at (get_or l.left k d) ≡ name_at (get_or l.right k d)

abbrev pub invariant-same_types-loop-i : goal.invariant-same_types-loop-i
invariant-same_types-loop-i l =
    (d : Bor «Type») (k : ℕ) → k < l.i → type_at (get_or l.left k d) ≡ type_at (get_or l.right k d)
