use Rattle.std.proofs.Common.{◌≡◌, ◌<◌, rules, get_or, sym, ap, ◌∙◌, subst, map, arith}
use Rattle.std.proofs.lemmas.List.{take_all}
use Rattle.msvc_nodes.specs.NodeView.{name_at, type_at, name_of as node_name}
use Rattle.msvc_nodes.proofs.TreeSizes.{name_size, names_size, type_size, types_size}
use Rattle.msvc_tree.specs.View.{name_of, type_of, scope_of, params_of}
use Rattle.msvc_tree.proofs.Lists.{names_in-size, types_in-size}
use Rattle.msvc_tree.proofs.NodeLists.{names-from_map, types-from_map}
use Rattle.msvc_tree.proofs.to_nodes.+to_nodes.Goals as goal

pub names_to_nodes-name_to_nodes-requires : goal.names_to_nodes-name_to_nodes-requires
names_to_nodes-name_to_nodes-requires t c =
    let l = c.name-item.result in
    let items = c.args.tree.now.names.items in
    let here : name_of (get_or items c.loop-name.name-index l) ≡ name_of l =
    sym (ap name_of (c.name-item.is
    ∙ ap (λ xs. get_or xs c.loop-name.name-index l) c.deref-name-items.ensures.value)) in
    let small : name_size (name_of l) < names_size (scope_of c.args.tree.now) =
    subst (λ x. name_size x < names_size (scope_of c.args.tree.now)) here
    (names_in-size items l c.loop-name.name-index (omega arith)) in
    omega (arith, c.decreases)

pub names_to_nodes-returns : goal.names_to_nodes-returns
names_to_nodes-returns t c =
    sym (names-from_map c.args.tree.now.names.items c.into_bump_slice.result.now
    (sym (ap (map name_at) c.into_bump_slice.ensures ∙ c.loop-name.invariant.0
    ∙ ap (map name_of) (take_all c.loop-name.name-index c.deref-name-items.result.now (search (rules, arith))
    ∙ c.deref-name-items.ensures.value))))

pub types_to_nodes-type_to_nodes-requires : goal.types_to_nodes-type_to_nodes-requires
types_to_nodes-type_to_nodes-requires t c =
    let l = c.item-item.result in
    let items = c.args.tree.now.types.items in
    let here : type_of (get_or items c.loop-item.item-index l) ≡ type_of l =
    sym (ap type_of (c.item-item.is
    ∙ ap (λ xs. get_or xs c.loop-item.item-index l) c.deref-item-items.ensures.value)) in
    let small : type_size (type_of l) < types_size (params_of c.args.tree.now) =
    subst (λ x. type_size x < types_size (params_of c.args.tree.now)) here
    (types_in-size items l c.loop-item.item-index (omega arith)) in
    omega (arith, c.decreases)

pub types_to_nodes-returns : goal.types_to_nodes-returns
types_to_nodes-returns t c =
    sym (types-from_map c.args.tree.now.types.items c.into_bump_slice.result.now
    (sym (ap (map type_at) c.into_bump_slice.ensures ∙ c.loop-item.invariant.0
    ∙ ap (map type_of) (take_all c.loop-item.item-index c.deref-item-items.result.now (search (rules, arith))
    ∙ c.deref-item-items.ensures.value))))

pub name_to_nodes-returns-in-NonTemplate : goal.name_to_nodes-returns-in-NonTemplate
unfolding node_name name_of
name_to_nodes-returns-in-NonTemplate t c = rw c.in-NonTemplate.is c.put_name.ensures
