-- The nodes of the program seen as trees of the definitions.
use Rattle.std.specs.Prelude.{List, [], ◌∷◌, Some, None}
use Rattle.std.specs.Borrow.{Bor}
use Rattle.msvc_nodes.specs.Trees.{NameTree, NameTrees, TypeTree, TypeTrees, SymbolTree, spelled, operator, guard}
use Rattle.msvc_nodes.specs.Trees.{type_descriptor, base_class_descriptor, template, discriminator, nested, anonymous}
use Rattle.msvc_nodes.specs.Trees.{no_names, names, plain, base, tagged, numbered, constant_string, pointing, array}
use Rattle.msvc_nodes.specs.Trees.{function, member_function, member_pointer, variable, table, vcall_thunk, no_types}
use Rattle.msvc_nodes.specs.Trees.{types, shape, shaped}
use Rattle.msvc_nodes.specs.declared.kinds.Spelling.TheVariants as spelling_kind
use Rattle.msvc_nodes.specs.declared.nodes.Name.{Name, Row_of-Function-parameters-1, Row_of-Scope-names-1}
use Rattle.msvc_nodes.specs.declared.nodes.Name as n
use Rattle.msvc_nodes.specs.declared.nodes.Type as t
use Rattle.msvc_nodes.specs.declared.nodes.TypedSymbol.{TypedSymbol}

unfoldable mutual
  -- a name of the program as a tree
  pub name_of : Name → NameTree
  name_of (n.Source x) = spelled spelling_kind.Source x.now
  name_of (n.Interface x) = spelled spelling_kind.Interface x.now
  name_of (n.Md5 x) = spelled spelling_kind.Md5 x.now
  name_of n.Anonymous = anonymous None
  name_of (n.AnonymousDigits x) = anonymous (Some x.now)
  name_of (n.Plain o) = operator o
  name_of (n.Guard g i) = guard g i
  name_of (n.TypeDescriptor' q p t) = type_descriptor q.0 (type_of t)
  name_of (n.BaseClassDescriptor p) = base_class_descriptor p.now.member p.now.pointer p.now.entry p.now.attributes
  name_of (n.Template' p pn n pl s r) = template (name_of n) (types_of r)
  name_of (n.Discriminator z) = discriminator z
  name_of (n.Nested' p pn n pl s r pt t) = nested (name_of n) (names_of r) (type_of t)
  name_of (n.Shape' p k q zs x pn s r pt s' r') = shaped k q.0 zs.now x.now (names_of r) (types_of r')

  -- a type of the program as a tree
  pub type_of : t.«Type» → TypeTree
  type_of (t.Plain k) = plain k
  type_of (t.Base b q) = base b q.0
  type_of (t.Tagged' k q p pn n pl s r) = tagged k (name_of n) (names_of r) q.0
  type_of (t.Numbered k z) = numbered k z
  type_of (t.ConstantString x) = constant_string x.now
  type_of (t.Pointing' m q p t) = pointing m (type_of t) q.0
  type_of (t.Array' z q p t) = array z (type_of t) q.0
  type_of (t.Function' p c k w pl s r pt t) = function c (types_of r) w.0 (type_of t)
  type_of (t.MemberFunction' p c k w pl s r pt t) = member_function k.0 c (types_of r) w.0 (type_of t)
  type_of (t.MemberPointer' p pn n pl s r pf c k w pl' s' r' pt t) =
      member_pointer (name_of n) (names_of r) k.0 c (types_of r') w.0 (type_of t)
  type_of (t.Variable' k q p t) = variable (type_of t) k q.0
  type_of (t.Table' k q p pl s r) = table k (names_of r) q.0
  type_of (t.VcallThunk z c) = vcall_thunk z c
  type_of (t.Shape' p k q zs x pn s r pt s' r') = shape k q.0 zs.now x.now (names_of r) (types_of r')

  -- a row of names, as a scope holds it, as a tree
  pub names_of : {m : _} → Row_of-Scope-names-1 m → NameTrees
  names_of n.end_of-Scope-names-1 = no_names
  names_of (n.more_of-Scope-names-1 p n r) = names (name_of n) (names_of r)

  -- a row of types, as a list of parameters or arguments holds it, as a tree
  pub types_of : {m : _} → Row_of-Function-parameters-1 m → TypeTrees
  types_of n.end_of-Function-parameters-1 = no_types
  types_of (n.more_of-Function-parameters-1 p t r) = types (type_of t) (types_of r)

-- the names of a list of references, in its order, as a tree
abbrev pub names_in : List (Bor Name) → NameTrees
names_in [] = no_names
names_in (n ∷ ns) = names (name_of n.now) (names_in ns)

-- the types of a list of references, in its order, as a tree
abbrev pub types_in : List (Bor t.«Type») → TypeTrees
types_in [] = no_types
types_in (t ∷ ts) = types (type_of t.now) (types_in ts)

-- the name that a reference refers to, as a tree
abbrev pub name_at : Bor Name → NameTree
name_at n = name_of n.now

-- the type that a reference refers to, as a tree
abbrev pub type_at : Bor t.«Type» → TypeTree
type_at t = type_of t.now

-- a symbol of the program with its type, as a tree
abbrev pub typed_symbol_of : TypedSymbol → SymbolTree
typed_symbol_of w = record {
  name = name_of w.symbol.name.now;
  scope = names_in w.symbol.scope.now;
  symbol_type = type_of w.symbol_type.now;
}
