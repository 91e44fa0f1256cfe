-- Lists of nodes and of trees whose elements are seen as the same are seen as the same.
use Rattle.std.proofs.Common.{◌≡◌, List, [], ◌∷◌, map, refl, sym, ap, ◌∙◌}
use Rattle.std.specs.Borrow.{Bor}
use Rattle.msvc_nodes.specs.NodeView.{name_at, type_at}
use Rattle.msvc_nodes.specs.NodeView.{names_in as node_names, types_in as node_types}
use Rattle.msvc_nodes.specs.Trees.{names, types, name_trees, type_trees}
use Rattle.msvc_tree.specs.View.{name_of, type_of, names_in, types_in}
use Rattle.msvc_nodes.proofs.NodeLists.{node_names-map, node_types-map}
use Rattle.msvc_nodes.specs.declared.nodes.Name.{Name as NodeName}
use Rattle.msvc_nodes.specs.declared.nodes.Type.{«Type» as NodeType}
use Rattle.msvc_tree.specs.declared.tree.Name.{Name}
use Rattle.msvc_tree.specs.declared.tree.Type.{«Type»}

names_in-map : (xs : List Name) → names_in xs ≡ name_trees (map name_of xs)
names_in-map [] = refl
names_in-map (x ∷ xs) = ap (names (name_of x)) (names_in-map xs)

types_in-map : (xs : List «Type») → types_in xs ≡ type_trees (map type_of xs)
types_in-map [] = refl
types_in-map (x ∷ xs) = ap (types (type_of x)) (types_in-map xs)

pub names-from_map : (xs : List Name) (ys : List (Bor NodeName)) → map name_of xs ≡ map name_at ys
    → names_in xs ≡ node_names ys
names-from_map xs ys e = names_in-map xs ∙ ap name_trees e ∙ sym (node_names-map ys)

pub types-from_map : (xs : List «Type») (ys : List (Bor NodeType)) → map type_of xs ≡ map type_at ys
    → types_in xs ≡ node_types ys
types-from_map xs ys e = types_in-map xs ∙ ap type_trees e ∙ sym (node_types-map ys)
