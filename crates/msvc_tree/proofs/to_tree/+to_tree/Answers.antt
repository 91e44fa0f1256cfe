use Rattle.std.proofs.Common.{◌≡◌, ◌<◌, ◌+◌, [], ◌∷◌, ◌++◌, suc, rules, slice_index_or, sym, ap, ◌∙◌, map, arith}
use Rattle.std.proofs.Common.{subst}
use Rattle.std.proofs.lemmas.List.{map_more, take_all}
use Rattle.std.specs.Borrow.{Bor}
use Rattle.msvc_nodes.specs.NodeView.{name_at, type_at, names_in as node_names, types_in as node_types}
use Rattle.msvc_nodes.specs.NodeView.{name_of as node_name, type_of as node_type}
use Rattle.msvc_nodes.proofs.TreeSizes.{name_size, names_size, type_size, types_size}
use Rattle.msvc_nodes.specs.Trees.{member_pointer, table, tagged}
use Rattle.msvc_tree.specs.Ownable.{IsOwnableType}
use Rattle.msvc_tree.specs.View.{name_of, type_of, scope_of, params_of}
use Rattle.msvc_nodes.specs.declared.kinds.PlainType.TheVariants as plain_kind
use Rattle.msvc_nodes.specs.declared.nodes.Name as node_code
use Rattle.msvc_nodes.specs.declared.nodes.Name.{Name}
use Rattle.msvc_nodes.specs.declared.nodes.Type as node_type_code
use Rattle.msvc_nodes.specs.declared.nodes.Type.{«Type»}
use Rattle.msvc_tree.proofs.Kept.{pushed-seen}
use Rattle.msvc_nodes.proofs.NodeLists.{node_names-size, node_types-size}
use Rattle.msvc_tree.proofs.NodeLists.{names-from_map, types-from_map}
use Rattle.msvc_tree.proofs.Ownable.{names-ownable_at, types-ownable_at}
use Rattle.msvc_nodes.proofs.NodeViews.{type_of-MemberPointer, type_of-Table, type_of-Tagged}
use Rattle.msvc_tree.proofs.Seen.{both, seen-of, seen-of-three}
use Rattle.msvc_tree.proofs.to_tree.+to_tree.Goals as goal

-- what an item of a list is called outside of the list
abbrev no_name : Bor Name
no_name = record { ref_ptr = (0, 0); now = node_code.Source (record { ref_ptr = (0, 0); now = [] }) }

abbrev no_type : Bor «Type»
no_type = record { ref_ptr = (0, 0); now = node_type_code.Plain plain_kind.None }

pub names_to_tree-name_to_tree-requires : goal.names_to_tree-name_to_tree-requires
names_to_tree-name_to_tree-requires t c =
    let small : name_size (name_at (slice_index_or c.args.names.now c.loop-name.name-index no_name))
    < names_size (node_names c.args.names.now) =
    node_names-size c.args.names.now no_name c.loop-name.name-index (omega arith) in (
      omega (arith, c.decreases),
      names-ownable_at c.args.names.now no_name c.loop-name.name-index (omega arith) c.requires,
    )

pub names_to_tree-loop-name-preserved : goal.names_to_tree-loop-name-preserved
names_to_tree-loop-name-preserved t c =
    let x = slice_index_or c.args.names.now c.loop-name.name-index no_name in (
      pushed-seen name_of _ _ _ (name_at x) c.in_ok-push_ok.ensures.items c.name_to_tree.ensures
          ∙ ap (λ ns. ns ++ name_at x ∷ []) c.loop-name.invariant.0
          ∙ sym (map_more name_at c.args.names.now c.loop-name.name-index no_name (omega arith)),
      omega (arith, c.in_ok-push_ok.ensures.len),
      omega arith,
    )

pub types_to_tree-type_to_tree-requires : goal.types_to_tree-type_to_tree-requires
types_to_tree-type_to_tree-requires t c =
    let small : type_size (type_at (slice_index_or c.args.types.now c.loop-item.item-index no_type))
    < types_size (node_types c.args.types.now) =
    node_types-size c.args.types.now no_type c.loop-item.item-index (omega arith) in (
      omega (arith, c.decreases),
      types-ownable_at c.args.types.now no_type c.loop-item.item-index (omega arith) c.requires,
    )

pub types_to_tree-loop-item-preserved : goal.types_to_tree-loop-item-preserved
types_to_tree-loop-item-preserved t c =
    let x = slice_index_or c.args.types.now c.loop-item.item-index no_type in (
      pushed-seen type_of _ _ _ (type_at x) c.in_ok-push_ok.ensures.items c.type_to_tree.ensures
          ∙ ap (λ ts. ts ++ type_at x ∷ []) c.loop-item.invariant.0
          ∙ sym (map_more type_at c.args.types.now c.loop-item.item-index no_type (omega arith)),
      omega (arith, c.in_ok-push_ok.ensures.len),
      omega arith,
    )

pub names_to_tree-returns : goal.names_to_tree-returns
names_to_tree-returns t c =
    names-from_map c.loop-name.made.items c.args.names.now (c.loop-name.invariant.0
    ∙ ap (map name_at) (take_all c.loop-name.name-index c.args.names.now (search (rules, arith))))

pub types_to_tree-returns : goal.types_to_tree-returns
types_to_tree-returns t c =
    types-from_map c.loop-item.made.items c.args.types.now (c.loop-item.invariant.0
    ∙ ap (map type_at) (take_all c.loop-item.item-index c.args.types.now (search (rules, arith))))

pub type_to_tree-symbol_to_tree-requires : goal.type_to_tree-symbol_to_tree-requires
type_to_tree-symbol_to_tree-requires t c =
    let w = c.in-Tagged in
    let s = w.symbol.now in
    let seen : node_type c.args.node.now ≡ tagged w.tag (node_name s.name.now) (node_names s.scope.now) w.qualifiers.0 =
    ap node_type w.is ∙ type_of-Tagged w.tag w.qualifiers w.symbol in
    let size : type_size (node_type c.args.node.now)
    ≡ suc (name_size (node_name s.name.now) + names_size (node_names s.scope.now)) = ap type_size seen in
    (omega (arith, c.decreases), subst IsOwnableType seen c.requires)

pub type_to_tree-types_to_tree-requires-in-MemberPointer : goal.type_to_tree-types_to_tree-requires-in-MemberPointer
type_to_tree-types_to_tree-requires-in-MemberPointer t c =
    let w = c.in-MemberPointer in
    let s = w.symbol.now in
    let f = w.function.now in
    let seen : node_type c.args.node.now
    ≡ member_pointer (node_name s.name.now) (node_names s.scope.now) f.class.0 f.convention (node_types f.parameters.now)
    f.qualifiers.0 (node_type f.returned.now) =
    ap node_type w.is ∙ type_of-MemberPointer w.symbol w.function in
    let size : type_size (node_type c.args.node.now)
    ≡ suc (name_size (node_name s.name.now) + names_size (node_names s.scope.now)
    + types_size (node_types f.parameters.now) + type_size (node_type f.returned.now)) = ap type_size seen in
    (omega (arith, c.decreases), (subst IsOwnableType seen c.requires).3)

pub type_to_tree-names_to_tree-requires : goal.type_to_tree-names_to_tree-requires
type_to_tree-names_to_tree-requires t c =
    let w = c.in-Table in
    let seen : node_type c.args.node.now ≡ table w.table (node_names w.scope.now.names.now) w.qualifiers.0 =
    ap node_type w.is ∙ type_of-Table w.table w.qualifiers w.scope in
    let size : type_size (node_type c.args.node.now) ≡ suc (names_size (node_names w.scope.now.names.now)) =
    ap type_size seen in
    (omega (arith, c.decreases), subst IsOwnableType seen c.requires)

pub type_to_tree-returns-in-Tagged : goal.type_to_tree-returns-in-Tagged
type_to_tree-returns-in-Tagged t c =
    let w = c.in-Tagged in
    seen-of c.tagged_from.result c.symbol_to_tree.result type_of
    (λ s. tagged w.tag (name_of s.name) (scope_of s.scope) w.qualifiers.0) (node_type c.args.node.now)
    c.tagged_from.ensures
    (both _ _ c.symbol_to_tree.result c.symbol_to_tree.ensures.name c.symbol_to_tree.ensures.scope)
    (λ s p. ap (λ n. tagged w.tag n (scope_of s.scope) w.qualifiers.0) p.0
    ∙ ap (λ ns. tagged w.tag (node_name w.symbol.now.name.now) ns w.qualifiers.0) p.1
    ∙ sym (ap node_type w.is ∙ type_of-Tagged w.tag w.qualifiers w.symbol))

pub type_to_tree-returns-in-MemberPointer : goal.type_to_tree-returns-in-MemberPointer
type_to_tree-returns-in-MemberPointer t c =
    let w = c.in-MemberPointer in
    let f = w.function.now in
    seen-of-three c.member_pointer_from.result c.symbol_to_tree-in-MemberPointer.result
    c.types_to_tree-in-MemberPointer.result c.boxed_to_tree-in-MemberPointer.result type_of
    (λ s p b. member_pointer (name_of s.name) (scope_of s.scope) f.class.0 f.convention (params_of p) f.qualifiers.0
    (type_of b.value)) (node_type c.args.node.now) c.member_pointer_from.ensures
    (both _ _ c.symbol_to_tree-in-MemberPointer.result c.symbol_to_tree-in-MemberPointer.ensures.name
    c.symbol_to_tree-in-MemberPointer.ensures.scope) c.types_to_tree-in-MemberPointer.ensures
    c.boxed_to_tree-in-MemberPointer.ensures
    (λ s p b e q r. ap (λ n. member_pointer n (scope_of s.scope) f.class.0 f.convention (params_of p) f.qualifiers.0
    (type_of b.value)) e.0
    ∙ ap (λ ns. member_pointer (node_name w.symbol.now.name.now) ns f.class.0 f.convention (params_of p) f.qualifiers.0
    (type_of b.value)) e.1
    ∙ ap (λ ts. member_pointer (node_name w.symbol.now.name.now) (node_names w.symbol.now.scope.now) f.class.0
    f.convention ts f.qualifiers.0 (type_of b.value)) q
    ∙ ap (λ i. member_pointer (node_name w.symbol.now.name.now) (node_names w.symbol.now.scope.now) f.class.0
    f.convention (node_types f.parameters.now) f.qualifiers.0 i) r
    ∙ sym (ap node_type w.is ∙ type_of-MemberPointer w.symbol w.function))

pub type_to_tree-returns-in-Table : goal.type_to_tree-returns-in-Table
type_to_tree-returns-in-Table t c =
    let w = c.in-Table in
    seen-of c.table_from.result c.names_to_tree.result type_of (λ s. table w.table (scope_of s) w.qualifiers.0)
    (node_type c.args.node.now) c.table_from.ensures c.names_to_tree.ensures
    (λ s p. ap (λ ns. table w.table ns w.qualifiers.0) p ∙ sym (ap node_type w.is ∙ type_of-Table w.table w.qualifiers
    w.scope))
