-- The view of a tree by the views of its parts: in the view, a list is a row.
use Rattle.std.proofs.Common.{◌≡◌, ℤ, Box, Global, refl}
use Rattle.std.proofs.Common.{ap, ◌∙◌}
use Rattle.msvc_nodes.specs.Trees as tree
use Rattle.msvc_tree.specs.View.{name_of, operator_of, type_of, names_of, types_of, names_in, types_in, params_of}
use Rattle.msvc_tree.specs.View.{scope_of, convention_of}
use Rattle.msvc_nodes.specs.declared.flags.FuncClass.{FuncClass}
use Rattle.msvc_nodes.specs.declared.flags.StorageClass.{StorageClass}
use Rattle.msvc_nodes.specs.declared.kinds.CallingConv.{CallingConv}
use Rattle.msvc_tree.specs.declared.tree.Name as code
use Rattle.msvc_tree.specs.declared.tree.Name.{Name, Row_of-Type, end_of-Type, more_of-Type, Row_of-Name, end_of-Name}
use Rattle.msvc_tree.specs.declared.tree.Name.{more_of-Name, items-the_row-Type, items-the_row-Name}
use Rattle.msvc_tree.specs.declared.tree.Name.{items_hidden-the_row-Type-0, items_hidden-the_row-Name-1}
use Rattle.msvc_tree.specs.declared.tree.Name.TheBlock.{hidden-the_row-Type-0, hidden-the_row-Name-1}
use Rattle.msvc_tree.specs.declared.tree.NameSequence.{NameSequence}
use Rattle.msvc_tree.specs.declared.tree.Operator as code_operator
use Rattle.msvc_tree.specs.declared.tree.Params.{Params}
use Rattle.msvc_tree.specs.declared.tree.Symbol.{Symbol}
use Rattle.msvc_tree.specs.declared.tree.Type as code_type
use Rattle.msvc_tree.specs.declared.tree.Type.{«Type»}

types_of-row : {m : _} (r : Row_of-Type m) → types_of r ≡ types_in (items-the_row-Type m r)
unfolding types_of
types_of-row end_of-Type = refl
types_of-row (more_of-Type t r) = ap (tree.types (type_of t)) (types_of-row r)

names_of-row : {m : _} (r : Row_of-Name m) → names_of r ≡ names_in (items-the_row-Name m r)
unfolding names_of
names_of-row end_of-Name = refl
names_of-row (more_of-Name n r) = ap (tree.names (name_of n)) (names_of-row r)

-- the row of a list of parameters is the list
pub types_of-hidden : (p : Params) → types_of (hidden-the_row-Type-0 p.types) ≡ params_of p
types_of-hidden p = types_of-row (hidden-the_row-Type-0 p.types) ∙ ap types_in (items_hidden-the_row-Type-0 p.types)

-- the row of a scope is the scope
pub names_of-hidden : (s : NameSequence) → names_of (hidden-the_row-Name-1 s.names) ≡ scope_of s
names_of-hidden s = names_of-row (hidden-the_row-Name-1 s.names) ∙ ap names_in (items_hidden-the_row-Name-1 s.names)

pub name_of-Template : (b : Box Name Global) (p : Params)
    → name_of (code.Template b p) ≡ tree.template (name_of b.value) (params_of p)
unfolding name_of types_of
name_of-Template b p = ap (tree.template (name_of b.value)) (types_of-hidden p)

pub operator_of-RTTIBaseClassDescriptor : (i : ℤ) (j : ℤ) (k : ℤ) (l : ℤ)
    → operator_of (code_operator.RTTIBaseClassDescriptor i j k l) ≡ tree.base_class_descriptor i j k l
unfolding operator_of
operator_of-RTTIBaseClassDescriptor i j k l = refl

pub type_of-NonMemberFunction : (c : CallingConv) (p : Params) (w : StorageClass) (b : Box «Type» Global)
    → type_of (code_type.NonMemberFunction c p w b)
    ≡ tree.function (convention_of c) (params_of p) w.0 (type_of b.value)
unfolding type_of types_of
type_of-NonMemberFunction c p w b =
    ap (λ x. tree.function (convention_of c) x w.0 (type_of b.value)) (types_of-hidden p)

pub type_of-MemberFunction : (f : FuncClass) (c : CallingConv) (p : Params) (w : StorageClass) (b : Box «Type» Global)
    → type_of (code_type.MemberFunction f c p w b)
    ≡ tree.member_function f.0 (convention_of c) (params_of p) w.0 (type_of b.value)
unfolding type_of types_of
type_of-MemberFunction f c p w b =
    ap (λ x. tree.member_function f.0 (convention_of c) x w.0 (type_of b.value)) (types_of-hidden p)

pub type_of-MemberFunctionPointer : (s : Symbol) (f : FuncClass) (c : CallingConv) (p : Params) (w : StorageClass)
    (b : Box «Type» Global) → type_of (code_type.MemberFunctionPointer s f c p w b)
    ≡ tree.member_pointer (name_of s.name) (scope_of s.scope) f.0 (convention_of c) (params_of p) w.0 (type_of b.value)
unfolding type_of name_of names_of types_of
type_of-MemberFunctionPointer s f c p w b =
    ap (λ x. tree.member_pointer (name_of s.name) x f.0 (convention_of c) (types_of (hidden-the_row-Type-0 p.types)) w.0
    (type_of b.value)) (names_of-hidden s.scope)
    ∙ ap (λ x. tree.member_pointer (name_of s.name) (scope_of s.scope) f.0 (convention_of c) x w.0 (type_of b.value))
    (types_of-hidden p)

pub ruleset rows = (types_of-hidden, names_of-hidden)
