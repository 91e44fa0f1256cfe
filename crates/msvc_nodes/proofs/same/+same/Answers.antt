use denote.Enum.Bare.{same_true, true_same}
use Rattle.std.proofs.Common.{◌≡◌, ◌<◌, ◌+◌, [], suc, slice_index_or, refl, sym, ap, ◌∙◌, arith}
use Rattle.std.specs.Borrow.{Bor}
use Rattle.msvc_nodes.proofs.NodeLists.{names_in-length, names_in-at, names_in-same, node_names-size}
use Rattle.msvc_nodes.proofs.NodeLists.{types_in-length, types_in-at, types_in-same, node_types-size}
use Rattle.msvc_nodes.proofs.NodeViews.{type_of-MemberPointer, type_of-Table, type_of-Tagged}
use Rattle.msvc_nodes.specs.NodeView.{name_at, name_of, names_in, type_at, type_of, types_in}
use Rattle.msvc_nodes.proofs.TreeSizes.{name_size, names_size, type_size, types_size}
use Rattle.msvc_nodes.specs.Trees.{member_pointer, operator, table, tagged}
use Rattle.msvc_nodes.specs.contracts.kinds.PlainOperator.{the_type as operators}
use Rattle.msvc_nodes.specs.declared.kinds.PlainType.TheVariants as plain_kind
use Rattle.msvc_nodes.specs.declared.nodes.Name as node_code
use Rattle.msvc_nodes.specs.declared.nodes.Name.{Name}
use Rattle.msvc_nodes.specs.declared.nodes.Type as node_type_code
use Rattle.msvc_nodes.specs.declared.nodes.Type.{«Type»}
use Rattle.msvc_nodes.proofs.same.+same.Goals as goal

-- what an item of a list is called outside of the list
abbrev no_name : Bor Name
no_name = record { ref_ptr = (0, 0); now = node_code.Source (record { ref_ptr = (0, 0); now = [] }) }

abbrev no_type : Bor «Type»
no_type = record { ref_ptr = (0, 0); now = node_type_code.Plain plain_kind.None }

pub same_name-returns-in-Plain-right : goal.same_name-returns-in-Plain-right
unfolding name_of
same_name-returns-in-Plain-right t c =
    let a : name_of c.args.left.now ≡ operator c.in-Plain.operator = ap name_of c.in-Plain.is in
    let b : name_of c.args.right.now ≡ operator c.in-Plain-right.other = ap name_of c.in-Plain-right.is in (
      λ h. a ∙ ap operator (same_true operators tt c.in-Plain.operator c.in-Plain-right.other (sym c.eq.ensures ∙ h))
          ∙ sym b,
      λ e. c.eq.ensures ∙ true_same operators c.in-Plain.operator c.in-Plain-right.other
          (let q : operator c.in-Plain.operator ≡ operator c.in-Plain-right.other = sym a ∙ e ∙ b in cc),
    )

pub same_type-returns-then-same_tag : goal.same_type-returns-then-same_tag
same_type-returns-then-same_tag t c =
    let v = c.in-Tagged in
    let w = c.in-Tagged-right in
    let s = v.symbol.now in
    let o = w.other.now in
    let a : type_of c.args.left.now ≡ tagged v.tag (name_of s.name.now) (names_in s.scope.now) v.qualifiers.0 =
    ap type_of v.is ∙ type_of-Tagged v.tag v.qualifiers v.symbol in
    let b : type_of c.args.right.now ≡ tagged w.other_tag (name_of o.name.now) (names_in o.scope.now) w.others.0 =
    ap type_of w.is ∙ type_of-Tagged w.other_tag w.others w.other in
    let p = c.same_tag.ensures.0 c.if-same_tag.true in (
      λ h.
          let q = c.same_symbol.ensures.0 h in
          let r : tagged v.tag (name_of s.name.now) (names_in s.scope.now) v.qualifiers.0
          ≡ tagged w.other_tag (name_of o.name.now) (names_in o.scope.now) w.others.0 = cc in a ∙ r ∙ sym b,
      λ e.
          let r : tagged v.tag (name_of s.name.now) (names_in s.scope.now) v.qualifiers.0
          ≡ tagged w.other_tag (name_of o.name.now) (names_in o.scope.now) w.others.0 = sym a ∙ e ∙ b in
          c.same_symbol.ensures.1 (cc, cc),
    )

pub same_type-returns-then-same_symbol : goal.same_type-returns-then-same_symbol
same_type-returns-then-same_symbol t c =
    let v = c.in-MemberPointer in
    let w = c.in-MemberPointer-right in
    let s = v.symbol.now in
    let f = v.function.now in
    let o = w.class.now in
    let g = w.other.now in
    let a : type_of c.args.left.now
    ≡ member_pointer (name_of s.name.now) (names_in s.scope.now) f.class.0 f.convention (types_in f.parameters.now)
    f.qualifiers.0 (type_of f.returned.now) = ap type_of v.is ∙ type_of-MemberPointer v.symbol v.function in
    let b : type_of c.args.right.now
    ≡ member_pointer (name_of o.name.now) (names_in o.scope.now) g.class.0 g.convention (types_in g.parameters.now)
    g.qualifiers.0 (type_of g.returned.now) = ap type_of w.is ∙ type_of-MemberPointer w.class w.other in
    let p = c.same_symbol-in-MemberPointer-right.ensures.0 c.if-same_symbol.true in (
      λ h.
          let q = c.same_member-then-same_symbol.ensures.0 h in
          let r : member_pointer (name_of s.name.now) (names_in s.scope.now) f.class.0 f.convention
          (types_in f.parameters.now) f.qualifiers.0 (type_of f.returned.now)
          ≡ member_pointer (name_of o.name.now) (names_in o.scope.now) g.class.0 g.convention
          (types_in g.parameters.now) g.qualifiers.0 (type_of g.returned.now) = cc in a ∙ r ∙ sym b,
      λ e.
          let r : member_pointer (name_of s.name.now) (names_in s.scope.now) f.class.0 f.convention
          (types_in f.parameters.now) f.qualifiers.0 (type_of f.returned.now)
          ≡ member_pointer (name_of o.name.now) (names_in o.scope.now) g.class.0 g.convention
          (types_in g.parameters.now) g.qualifiers.0 (type_of g.returned.now) = sym a ∙ e ∙ b in
          c.same_member-then-same_symbol.ensures.1 (cc, cc, cc, cc, cc),
    )

pub same_type-returns-then-same_table : goal.same_type-returns-then-same_table
same_type-returns-then-same_table t c =
    let v = c.in-Table in
    let w = c.in-Table-right in
    let a : type_of c.args.left.now ≡ table v.table (names_in v.scope.now.names.now) v.qualifiers.0 =
    ap type_of v.is ∙ type_of-Table v.table v.qualifiers v.scope in
    let b : type_of c.args.right.now ≡ table w.other (names_in w.names.now.names.now) w.others.0 =
    ap type_of w.is ∙ type_of-Table w.other w.others w.names in
    let p = c.same_table.ensures.0 c.if-same_table.true in (
      λ h.
          let q = c.same_scope.ensures.0 h in
          let r : table v.table (names_in v.scope.now.names.now) v.qualifiers.0
          ≡ table w.other (names_in w.names.now.names.now) w.others.0 = cc in a ∙ r ∙ sym b,
      λ e.
          let r : table v.table (names_in v.scope.now.names.now) v.qualifiers.0
          ≡ table w.other (names_in w.names.now.names.now) w.others.0 = sym a ∙ e ∙ b in c.same_scope.ensures.1 cc,
    )

pub same_type-same_symbol-requires : goal.same_type-same_symbol-requires
same_type-same_symbol-requires t c =
    let w = c.in-Tagged in
    let size : type_size (type_of c.args.left.now)
    ≡ suc (name_size (name_of w.symbol.now.name.now) + names_size (names_in w.symbol.now.scope.now)) =
    ap type_size (ap type_of w.is ∙ type_of-Tagged w.tag w.qualifiers w.symbol) in
    omega (arith, c.decreases)

pub same_type-same_scope-requires : goal.same_type-same_scope-requires
same_type-same_scope-requires t c =
    let w = c.in-Table in
    let size : type_size (type_of c.args.left.now) ≡ suc (names_size (names_in w.scope.now.names.now)) =
    ap type_size (ap type_of w.is ∙ type_of-Table w.table w.qualifiers w.scope) in
    omega (arith, c.decreases)

pub same_type-same_member-requires-then-same_symbol : goal.same_type-same_member-requires-then-same_symbol
same_type-same_member-requires-then-same_symbol t c =
    let w = c.in-MemberPointer in
    let s = w.symbol.now in
    let f = w.function.now in
    let size : type_size (type_of c.args.left.now)
    ≡ suc (name_size (name_of s.name.now) + names_size (names_in s.scope.now) + types_size (types_in f.parameters.now)
    + type_size (type_of f.returned.now)) =
    ap type_size (ap type_of w.is ∙ type_of-MemberPointer w.symbol w.function) in
    omega (arith, c.decreases)

pub same_names-returns-then-left-right : goal.same_names-returns-then-left-right
same_names-returns-then-left-right t c = (
  λ h. absurd (cc),
  λ e. absurd (let n = names_in-length c.args.left.now c.args.right.now e in omega arith),
)

pub same_names-returns-then-not-same_name : goal.same_names-returns-then-not-same_name
same_names-returns-then-not-same_name t c = (
  λ h. absurd (cc),
  λ e.
      let here : name_at (slice_index_or c.args.left.now c.loop-i.i no_name)
      ≡ name_at (slice_index_or c.args.right.now c.loop-i.i no_name) =
      names_in-at c.args.left.now c.args.right.now no_name no_name c.loop-i.i (omega arith) e in
      let yes = c.same_name.ensures.1 here in
      absurd (cc),
)

pub same_names-returns : goal.same_names-returns
same_names-returns t c = (
  λ h. names_in-same c.args.left.now c.args.right.now (omega arith) (λ d k b. c.loop-i.invariant d k (omega arith)),
  λ e. refl,
)

pub same_names-same_name-requires : goal.same_names-same_name-requires
same_names-same_name-requires t c =
    let small : name_size (name_at (slice_index_or c.args.left.now c.loop-i.i no_name))
    < names_size (names_in c.args.left.now) = node_names-size c.args.left.now no_name c.loop-i.i (omega arith) in
    omega (arith, c.decreases)

pub same_types-returns-then-left-right : goal.same_types-returns-then-left-right
same_types-returns-then-left-right t c = (
  λ h. absurd (cc),
  λ e. absurd (let n = types_in-length c.args.left.now c.args.right.now e in omega arith),
)

pub same_types-returns-then-not-same_type : goal.same_types-returns-then-not-same_type
same_types-returns-then-not-same_type t c = (
  λ h. absurd (cc),
  λ e.
      let here : type_at (slice_index_or c.args.left.now c.loop-i.i no_type)
      ≡ type_at (slice_index_or c.args.right.now c.loop-i.i no_type) =
      types_in-at c.args.left.now c.args.right.now no_type no_type c.loop-i.i (omega arith) e in
      let yes = c.same_type.ensures.1 here in
      absurd (cc),
)

pub same_types-returns : goal.same_types-returns
same_types-returns t c = (
  λ h. types_in-same c.args.left.now c.args.right.now (omega arith) (λ d k b. c.loop-i.invariant d k (omega arith)),
  λ e. refl,
)

pub same_types-same_type-requires : goal.same_types-same_type-requires
same_types-same_type-requires t c =
    let small : type_size (type_at (slice_index_or c.args.left.now c.loop-i.i no_type))
    < types_size (types_in c.args.left.now) = node_types-size c.args.left.now no_type c.loop-i.i (omega arith) in
    omega (arith, c.decreases)
