use denote.Enum.Bare.{same_true, true_same}
use Rattle.std.proofs.Common.{◌≡◌, ◌<◌, get_or, refl, sym, ap, ◌∙◌, subst, arith}
use Rattle.msvc_tree.specs.Variants.{operator_in}
use Rattle.msvc_nodes.proofs.TreeSizes.{name_size, names_size, type_size, types_size}
use Rattle.msvc_nodes.specs.Trees.{operator}
use Rattle.msvc_tree.specs.View.{name_of, type_of, scope_of, params_of}
use Rattle.msvc_nodes.specs.contracts.kinds.PlainOperator.{the_type as operators}
use Rattle.msvc_tree.proofs.Lists.{types_in-length, types_in-at, types_in-same, types_in-size, names_in-length}
use Rattle.msvc_tree.proofs.Lists.{names_in-at, names_in-same, names_in-size}
use Rattle.msvc_tree.proofs.tree.equality.+equality.Goals as goal

pub same_params-returns-then-len : goal.same_params-returns-then-len
same_params-returns-then-len t c = (
  λ h. absurd (cc),
  λ e. absurd (let n = types_in-length c.args.left.now.types.items c.args.right.now.types.items e in omega arith),
)

pub same_params-returns-then-not-same_type : goal.same_params-returns-then-not-same_type
same_params-returns-then-not-same_type t c = (
  λ h. absurd (cc),
  λ e.
      let l = c.item-item.result in
      let r = c.index.result.now in
      let there : type_of (get_or c.args.left.now.types.items c.loop-i.i l)
      ≡ type_of (get_or c.args.right.now.types.items c.loop-i.i r) = types_in-at _ _ _ _ _ (omega arith) e in
      let here : type_of l ≡ type_of r =
      ap type_of (c.item-item.is ∙ ap (λ xs. get_or xs c.loop-i.i l) c.deref-item-items.ensures.value) ∙ there
      ∙ sym (ap type_of c.index.ensures) in
      let yes = c.same_type.ensures.1 here in
      absurd (cc),
)

pub same_params-returns : goal.same_params-returns
same_params-returns t c =
    (λ h. types_in-same _ _ (omega arith) (λ d k b. c.loop-i.invariant d k (omega arith)), λ e. refl)

pub same_scope-returns-then-len : goal.same_scope-returns-then-len
same_scope-returns-then-len t c = (
  λ h. absurd (cc),
  λ e. absurd (let n = names_in-length c.args.left.now.names.items c.args.right.now.names.items e in omega arith),
)

pub same_scope-returns-then-not-same_name : goal.same_scope-returns-then-not-same_name
same_scope-returns-then-not-same_name t c = (
  λ h. absurd (cc),
  λ e.
      let l = c.name-item.result in
      let r = c.index.result.now in
      let there : name_of (get_or c.args.left.now.names.items c.loop-i.i l)
      ≡ name_of (get_or c.args.right.now.names.items c.loop-i.i r) = names_in-at _ _ _ _ _ (omega arith) e in
      let here : name_of l ≡ name_of r =
      ap name_of (c.name-item.is ∙ ap (λ xs. get_or xs c.loop-i.i l) c.deref-name-items.ensures.value) ∙ there
      ∙ sym (ap name_of c.index.ensures) in
      let yes = c.same_name.ensures.1 here in
      absurd (cc),
)

pub same_scope-returns : goal.same_scope-returns
same_scope-returns t c =
    (λ h. names_in-same _ _ (omega arith) (λ d k b. c.loop-i.invariant d k (omega arith)), λ e. refl)

pub same_operator_node-returns-in-Plain-right : goal.same_operator_node-returns-in-Plain-right
same_operator_node-returns-in-Plain-right t c =
    let a : operator_in c.args.left ≡ operator c.in-Plain.operator = ap operator_in c.in-Plain.is in
    let b : operator_in c.args.right ≡ operator c.in-Plain-right.other = ap operator_in c.in-Plain-right.is in (
      λ h. a ∙ ap operator (same_true operators tt c.in-Plain.operator c.in-Plain-right.other (sym c.eq.ensures ∙ h))
          ∙ sym b,
      λ e. c.eq.ensures ∙ true_same operators c.in-Plain.operator c.in-Plain-right.other
          (let q : operator c.in-Plain.operator ≡ operator c.in-Plain-right.other = sym a ∙ e ∙ b in cc),
    )

pub same_params-same_type-requires : goal.same_params-same_type-requires
same_params-same_type-requires t c =
    let l = c.item-item.result in
    let here : type_of (get_or c.args.left.now.types.items c.loop-i.i l) ≡ type_of l =
    sym (ap type_of (c.item-item.is ∙ ap (λ xs. get_or xs c.loop-i.i l) c.deref-item-items.ensures.value)) in
    let small : type_size (type_of l) < types_size (params_of c.args.left.now) =
    subst (λ x. type_size x < types_size (params_of c.args.left.now)) here
    (types_in-size c.args.left.now.types.items l c.loop-i.i (omega arith)) in
    omega (arith, c.decreases)

pub same_scope-same_name-requires : goal.same_scope-same_name-requires
same_scope-same_name-requires t c =
    let l = c.name-item.result in
    let here : name_of (get_or c.args.left.now.names.items c.loop-i.i l) ≡ name_of l =
    sym (ap name_of (c.name-item.is ∙ ap (λ xs. get_or xs c.loop-i.i l) c.deref-name-items.ensures.value)) in
    let small : name_size (name_of l) < names_size (scope_of c.args.left.now) =
    subst (λ x. name_size x < names_size (scope_of c.args.left.now)) here
    (names_in-size c.args.left.now.names.items l c.loop-i.i (omega arith)) in
    omega (arith, c.decreases)
