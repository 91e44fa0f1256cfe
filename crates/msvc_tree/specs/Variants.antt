-- Variants of borrowed names, operators and types, seen as trees.
use Rattle.std.specs.Prelude.{option_map, string_bytes}
use Rattle.msvc_nodes.specs.Trees.{NameTree, TypeTree, spelled, operator, guard, type_descriptor}
use Rattle.msvc_nodes.specs.Trees.{base_class_descriptor, template, discriminator, nested, anonymous, plain}
use Rattle.msvc_nodes.specs.Trees.{base, tagged, numbered, constant_string, pointing, array, function, member_function}
use Rattle.msvc_nodes.specs.Trees.{member_pointer, variable, table, vcall_thunk}
use Rattle.msvc_tree.specs.View.{name_of, operator_of, type_of, scope_of, params_of}
use Rattle.msvc_tree.specs.declared.variants.NameRef.{NameRef}
use Rattle.msvc_tree.specs.declared.variants.NameRef.TheVariants as name
use Rattle.msvc_tree.specs.declared.variants.OperatorRef.{OperatorRef}
use Rattle.msvc_tree.specs.declared.variants.OperatorRef.TheVariants as operator_ref
use Rattle.msvc_tree.specs.declared.variants.TypeRef.{TypeRef}
use Rattle.msvc_tree.specs.declared.variants.TypeRef.TheVariants as node

-- the name that a variant of a borrowed name is seen as
abbrev pub name_in : NameRef → NameTree
name_in (name.Spelled how x) = spelled how x.now
name_in (name.Operator o) = operator_of o.now
name_in (name.Template n p) = template (name_of n.now) (params_of p.now)
name_in (name.Discriminator n) = discriminator n
name_in (name.Nested s) =
    nested (name_of s.now.symbol.name) (scope_of s.now.symbol.scope) (type_of s.now.symbol_type)
name_in (name.Anonymous x) = anonymous (option_map string_bytes x.now)

-- the name that a variant of a borrowed operator is seen as
abbrev pub operator_in : OperatorRef → NameTree
operator_in (operator_ref.Plain o) = operator o
operator_in (operator_ref.Guard g n) = guard g n
operator_in (operator_ref.TypeDescriptor q t) = type_descriptor q.0 (type_of t.now)
operator_in (operator_ref.BaseClassDescriptor p) = base_class_descriptor p.member p.pointer p.entry p.attributes

-- the type that a variant of a borrowed type is seen as
abbrev pub type_in : TypeRef → TypeTree
type_in (node.Plain p) = plain p
type_in (node.Base b q) = base b q.0
type_in (node.Tagged tag s q) = tagged tag (name_of s.now.name) (scope_of s.now.scope) q.0
type_in (node.Numbered k n) = numbered k n
type_in (node.ConstantString x) = constant_string x.now
type_in (node.Pointing m i q) = pointing m (type_of i.now) q.0
type_in (node.Array n i q) = array n (type_of i.now) q.0
type_in (node.Function f) = function f.convention (params_of f.parameters.now) f.qualifiers.0 (type_of f.returned.now)
type_in (node.MemberFunction c f) =
    member_function c.0 f.convention (params_of f.parameters.now) f.qualifiers.0 (type_of f.returned.now)
type_in (node.MemberPointer s c f) =
    member_pointer (name_of s.now.name) (scope_of s.now.scope) c.0 f.convention (params_of f.parameters.now)
    f.qualifiers.0 (type_of f.returned.now)
type_in (node.Variable i k q) = variable (type_of i.now) k q.0
type_in (node.Table k s q) = table k (scope_of s.now) q.0
type_in (node.VcallThunk n c) = vcall_thunk n c
