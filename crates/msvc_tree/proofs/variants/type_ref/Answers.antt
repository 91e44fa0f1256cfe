use Rattle.std.proofs.Common.{sym, ap, ◌∙◌}
use Rattle.msvc_nodes.specs.Trees.{function, member_function, member_pointer}
use Rattle.msvc_tree.specs.View.{name_of, type_of, scope_of, params_of, convention_of}
use Rattle.msvc_tree.proofs.Views.{type_of-NonMemberFunction, type_of-MemberFunction, type_of-MemberFunctionPointer}
use Rattle.msvc_tree.proofs.variants.type_ref.Goals as goal

pub returns-in-NonMemberFunction : goal.returns-in-NonMemberFunction
returns-in-NonMemberFunction c =
    let w = c.in-NonMemberFunction in
    rw c.node_convention.ensures
    (ap (λ t. function (convention_of w.convention) (params_of w.parameters) w.qualifiers.0 (type_of t))
    c.deref-in-NonMemberFunction.ensures
    ∙ sym (ap type_of w.is ∙ type_of-NonMemberFunction w.convention w.parameters w.qualifiers w.returned))

pub returns-in-MemberFunction : goal.returns-in-MemberFunction
returns-in-MemberFunction c =
    let w = c.in-MemberFunction in
    rw c.node_convention-in-MemberFunction.ensures
    (ap (λ t. member_function w.class.0 (convention_of w.convention) (params_of w.parameters) w.qualifiers.0
    (type_of t))
    c.deref-in-MemberFunction.ensures
    ∙ sym (ap type_of w.is ∙ type_of-MemberFunction w.class w.convention w.parameters w.qualifiers w.returned))

pub returns-in-MemberFunctionPointer : goal.returns-in-MemberFunctionPointer
returns-in-MemberFunctionPointer c =
    let w = c.in-MemberFunctionPointer in
    rw c.node_convention-in-MemberFunctionPointer.ensures
    (ap (λ t. member_pointer (name_of w.symbol.name) (scope_of w.symbol.scope) w.class.0 (convention_of w.convention)
    (params_of w.parameters) w.qualifiers.0 (type_of t))
    c.deref-in-MemberFunctionPointer.ensures
    ∙ sym (ap type_of w.is
    ∙ type_of-MemberFunctionPointer w.symbol w.class w.convention w.parameters w.qualifiers w.returned))
