-- The owned trees of the code, seen as trees of the definitions.
use Rattle.std.specs.Prelude.{List, [], ◌∷◌, option_map, string_bytes}
use Rattle.msvc_nodes.specs.Trees.{NameTree, NameTrees, TypeTree, TypeTrees, SymbolTree, spelled, operator, guard}
use Rattle.msvc_nodes.specs.Trees.{type_descriptor, base_class_descriptor, template, discriminator, nested, anonymous}
use Rattle.msvc_nodes.specs.Trees.{no_names, names, plain, base, tagged, numbered, constant_string, pointing, array}
use Rattle.msvc_nodes.specs.Trees.{function, member_function, member_pointer, variable, table, vcall_thunk, no_types}
use Rattle.msvc_nodes.specs.Trees.{types}
use Rattle.msvc_nodes.specs.declared.kinds.PrimitiveKind.TheVariants as base_kind
use Rattle.msvc_nodes.specs.declared.kinds.CallingConv.{CallingConv}
use Rattle.msvc_nodes.specs.declared.kinds.CallingConv.TheVariants as code_convention
use Rattle.msvc_nodes.specs.declared.kinds.Convention.{Convention}
use Rattle.msvc_nodes.specs.declared.kinds.Convention.TheVariants as convention_kind
use Rattle.msvc_nodes.specs.declared.kinds.Guard.TheVariants as guard_kind
use Rattle.msvc_nodes.specs.declared.kinds.PointerAffinity.TheVariants as mark_kind
use Rattle.msvc_nodes.specs.declared.kinds.NumberedType.TheVariants as number_kind
use Rattle.msvc_nodes.specs.declared.kinds.PlainOperator.TheVariants as operator_kind
use Rattle.msvc_nodes.specs.declared.kinds.PlainType.TheVariants as plain_kind
use Rattle.msvc_nodes.specs.declared.kinds.Spelling.TheVariants as spelling_kind
use Rattle.msvc_nodes.specs.declared.kinds.SpecialTableKind.TheVariants as table_kind
use Rattle.msvc_nodes.specs.declared.kinds.TagKind.TheVariants as tag_kind
use Rattle.msvc_tree.specs.declared.tree.Name.{Name, Operator, NonTemplate, Template', Discriminator, ParsedName'}
use Rattle.msvc_tree.specs.declared.tree.Name.{AnonymousNamespace, AsInterface, Md5, Row_of-Type, end_of-Type}
use Rattle.msvc_tree.specs.declared.tree.Name.{more_of-Type, Row_of-Name, end_of-Name, more_of-Name}
use Rattle.msvc_tree.specs.declared.tree.Operator as code_operator
use Rattle.msvc_tree.specs.declared.tree.Type as code_type
use Rattle.msvc_tree.specs.declared.tree.NameSequence.{NameSequence}
use Rattle.msvc_tree.specs.declared.tree.Params.{Params}
use Rattle.msvc_tree.specs.declared.tree.ParseResult.{ParseResult}

-- how a function is called, seen as a convention of a tree
abbrev pub convention_of : CallingConv → Convention
convention_of code_convention.Cdecl = convention_kind.Cdecl
convention_of code_convention.Pascal = convention_kind.Pascal
convention_of code_convention.Thiscall = convention_kind.Thiscall
convention_of code_convention.Stdcall = convention_kind.Stdcall
convention_of code_convention.Fastcall = convention_kind.Fastcall
convention_of code_convention._Regcall = convention_kind._Regcall

unfoldable mutual
  -- a name, seen as a tree
  pub name_of : Name → NameTree
  name_of (Operator o) = operator_of o
  name_of (NonTemplate x) = spelled spelling_kind.Source x.now
  name_of (Template' p n s r) = template (name_of n) (types_of r)
  name_of (Discriminator n) = discriminator n
  name_of (ParsedName' p n s r t) = nested (name_of n) (names_of r) (type_of t)
  name_of (AnonymousNamespace t) = anonymous (option_map string_bytes t)
  name_of (AsInterface x) = spelled spelling_kind.Interface x.now
  name_of (Md5 x) = spelled spelling_kind.Md5 x.now

  -- an operator, seen as a tree of a name
  pub operator_of : code_operator.Operator → NameTree
  operator_of code_operator.Ctor = operator operator_kind.Ctor
  operator_of code_operator.Dtor = operator operator_kind.Dtor
  operator_of code_operator.New = operator operator_kind.New
  operator_of code_operator.Delete = operator operator_kind.Delete
  operator_of code_operator.Equal = operator operator_kind.Equal
  operator_of code_operator.RShift = operator operator_kind.RShift
  operator_of code_operator.LShift = operator operator_kind.LShift
  operator_of code_operator.Bang = operator operator_kind.Bang
  operator_of code_operator.EqualEqual = operator operator_kind.EqualEqual
  operator_of code_operator.BangEqual = operator operator_kind.BangEqual
  operator_of code_operator.Subscript = operator operator_kind.Subscript
  operator_of code_operator.Conversion = operator operator_kind.Conversion
  operator_of code_operator.Arrow = operator operator_kind.Arrow
  operator_of code_operator.Star = operator operator_kind.Star
  operator_of code_operator.PlusPlus = operator operator_kind.PlusPlus
  operator_of code_operator.MinusMinus = operator operator_kind.MinusMinus
  operator_of code_operator.Minus = operator operator_kind.Minus
  operator_of code_operator.Plus = operator operator_kind.Plus
  operator_of code_operator.Amp = operator operator_kind.Amp
  operator_of code_operator.ArrowStar = operator operator_kind.ArrowStar
  operator_of code_operator.Slash = operator operator_kind.Slash
  operator_of code_operator.Percent = operator operator_kind.Percent
  operator_of code_operator.Less = operator operator_kind.Less
  operator_of code_operator.LessEqual = operator operator_kind.LessEqual
  operator_of code_operator.Greater = operator operator_kind.Greater
  operator_of code_operator.GreaterEqual = operator operator_kind.GreaterEqual
  operator_of code_operator.Comma = operator operator_kind.Comma
  operator_of code_operator.Call = operator operator_kind.Call
  operator_of code_operator.Tilde = operator operator_kind.Tilde
  operator_of code_operator.Caret = operator operator_kind.Caret
  operator_of code_operator.Pipe = operator operator_kind.Pipe
  operator_of code_operator.AmpAmp = operator operator_kind.AmpAmp
  operator_of code_operator.PipePipe = operator operator_kind.PipePipe
  operator_of code_operator.StarEqual = operator operator_kind.StarEqual
  operator_of code_operator.PlusEqual = operator operator_kind.PlusEqual
  operator_of code_operator.MinusEqual = operator operator_kind.MinusEqual
  operator_of code_operator.SlashEqual = operator operator_kind.SlashEqual
  operator_of code_operator.PercentEqual = operator operator_kind.PercentEqual
  operator_of code_operator.GreaterGreaterEqual = operator operator_kind.GreaterGreaterEqual
  operator_of code_operator.LessLessEqual = operator operator_kind.LessLessEqual
  operator_of code_operator.AmpEqual = operator operator_kind.AmpEqual
  operator_of code_operator.PipeEqual = operator operator_kind.PipeEqual
  operator_of code_operator.CaretEqual = operator operator_kind.CaretEqual
  operator_of code_operator.VFTable = operator operator_kind.VFTable
  operator_of code_operator.VBTable = operator operator_kind.VBTable
  operator_of code_operator.VCall = operator operator_kind.VCall
  operator_of code_operator.Typeof = operator operator_kind.Typeof
  operator_of code_operator.String = operator operator_kind.String
  operator_of code_operator.VBaseDtor = operator operator_kind.VBaseDtor
  operator_of code_operator.VectorDeletingDtor = operator operator_kind.VectorDeletingDtor
  operator_of code_operator.DefaultCtorClosure = operator operator_kind.DefaultCtorClosure
  operator_of code_operator.ScalarDeletingDtor = operator operator_kind.ScalarDeletingDtor
  operator_of code_operator.VectorCtorIterator = operator operator_kind.VectorCtorIterator
  operator_of code_operator.VectorDtorIterator = operator operator_kind.VectorDtorIterator
  operator_of code_operator.VectorVBaseCtorIterator = operator operator_kind.VectorVBaseCtorIterator
  operator_of code_operator.VirtualDisplacementMap = operator operator_kind.VirtualDisplacementMap
  operator_of code_operator.EHVectorCtorIterator = operator operator_kind.EHVectorCtorIterator
  operator_of code_operator.EHVectorDtorIterator = operator operator_kind.EHVectorDtorIterator
  operator_of code_operator.EHVectorVBaseCtorIterator = operator operator_kind.EHVectorVBaseCtorIterator
  operator_of code_operator.CopyCtorClosure = operator operator_kind.CopyCtorClosure
  operator_of code_operator.LocalVFTable = operator operator_kind.LocalVFTable
  operator_of code_operator.LocalVFTableCtorClosure = operator operator_kind.LocalVFTableCtorClosure
  operator_of code_operator.ArrayNew = operator operator_kind.ArrayNew
  operator_of code_operator.ArrayDelete = operator operator_kind.ArrayDelete
  operator_of code_operator.PlacementDeleteClosure = operator operator_kind.PlacementDeleteClosure
  operator_of code_operator.PlacementArrayDeleteClosure = operator operator_kind.PlacementArrayDeleteClosure
  operator_of code_operator.RTTIBaseClassArray = operator operator_kind.RTTIBaseClassArray
  operator_of code_operator.RTTIClassHierarchyDescriptor = operator operator_kind.RTTIClassHierarchyDescriptor
  operator_of code_operator.RTTIClassCompleteObjectLocator = operator operator_kind.RTTIClassCompleteObjectLocator
  operator_of code_operator.DynamicInitializer = operator operator_kind.DynamicInitializer
  operator_of code_operator.DynamicAtexitDtor = operator operator_kind.DynamicAtexitDtor
  operator_of code_operator.LiteralOperatorName = operator operator_kind.LiteralOperatorName
  operator_of code_operator.CoroutineAwait = operator operator_kind.CoroutineAwait
  operator_of (code_operator.LocalStaticGuard n) = guard guard_kind.Static n
  operator_of (code_operator.LocalStaticThreadGuard n) = guard guard_kind.Thread n
  operator_of (code_operator.RTTITypeDescriptor' q p t) = type_descriptor q.0 (type_of t)
  operator_of (code_operator.RTTIBaseClassDescriptor a b c d) = base_class_descriptor a b c d

  -- a type, seen as a tree
  pub type_of : code_type.«Type» → TypeTree
  type_of code_type.None = plain plain_kind.None
  type_of (code_type.ConstantString x) = constant_string x.items
  type_of code_type.EmptyParameterPack = plain plain_kind.EmptyPack
  type_of code_type.RTTIType = plain plain_kind.Rtti
  type_of (code_type.Void q) = base base_kind.Void q.0
  type_of (code_type.Char q) = base base_kind.Char q.0
  type_of (code_type.Schar q) = base base_kind.Schar q.0
  type_of (code_type.Uchar q) = base base_kind.Uchar q.0
  type_of (code_type.Short q) = base base_kind.Short q.0
  type_of (code_type.Ushort q) = base base_kind.Ushort q.0
  type_of (code_type.Int q) = base base_kind.Int q.0
  type_of (code_type.Uint q) = base base_kind.Uint q.0
  type_of (code_type.Long q) = base base_kind.Long q.0
  type_of (code_type.Ulong q) = base base_kind.Ulong q.0
  type_of (code_type.Float q) = base base_kind.Float q.0
  type_of (code_type.Double q) = base base_kind.Double q.0
  type_of (code_type.Ldouble q) = base base_kind.Ldouble q.0
  type_of (code_type.Bool q) = base base_kind.Bool q.0
  type_of (code_type.Wchar q) = base base_kind.Wchar q.0
  type_of (code_type.Char8 q) = base base_kind.Char8 q.0
  type_of (code_type.Char16 q) = base base_kind.Char16 q.0
  type_of (code_type.Char32 q) = base base_kind.Char32 q.0
  type_of (code_type.Int64 q) = base base_kind.Int64 q.0
  type_of (code_type.Uint64 q) = base base_kind.Uint64 q.0
  type_of (code_type.Int128 q) = base base_kind.Int128 q.0
  type_of (code_type.Uint128 q) = base base_kind.Uint128 q.0
  type_of (code_type.Class' n s r q) = tagged tag_kind.Class (name_of n) (names_of r) q.0
  type_of (code_type.Struct' n s r q) = tagged tag_kind.Struct (name_of n) (names_of r) q.0
  type_of (code_type.Union' n s r q) = tagged tag_kind.Union (name_of n) (names_of r) q.0
  type_of (code_type.Enum' n s r q) = tagged tag_kind.Enum (name_of n) (names_of r) q.0
  type_of (code_type.Alias' n s r q) = tagged tag_kind.Alias (name_of n) (names_of r) q.0
  type_of (code_type.Constant n) = numbered number_kind.Constant n
  type_of (code_type.TemplateParameterWithIndex n) = numbered number_kind.TemplateParameter n
  type_of (code_type.ThreadSafeStaticGuard n) = numbered number_kind.ThreadSafeGuard n
  type_of code_type.VarArgs = plain plain_kind.Variadic
  type_of code_type.Nullptr = plain plain_kind.Nullptr
  type_of (code_type.Ptr' p t q) = pointing mark_kind.Pointer (type_of t) q.0
  type_of (code_type.Ref' p t q) = pointing mark_kind.Reference (type_of t) q.0
  type_of (code_type.RValueRef' p t q) = pointing mark_kind.RValueReference (type_of t) q.0
  type_of (code_type.Array' n p t q) = array n (type_of t) q.0
  type_of (code_type.NonMemberFunction' c s r w p t) = function (convention_of c) (types_of r) w.0 (type_of t)
  type_of (code_type.MemberFunction' f c s r w p t) =
      member_function f.0 (convention_of c) (types_of r) w.0 (type_of t)
  type_of (code_type.MemberFunctionPointer' n s r f c s' r' w p t) =
      member_pointer (name_of n) (names_of r) f.0 (convention_of c) (types_of r') w.0 (type_of t)
  type_of (code_type.Var' p t k q) = variable (type_of t) k q.0
  type_of (code_type.CXXVFTable' s r q) = table table_kind.Functions (names_of r) q.0
  type_of (code_type.CXXVBTable' s r q) = table table_kind.Bases (names_of r) q.0
  type_of (code_type.VCallThunk n c) = vcall_thunk n (convention_of c)

  -- the names of a row that a type or a name holds
  pub names_of : {m : _} → Row_of-Name m → NameTrees
  names_of end_of-Name = no_names
  names_of (more_of-Name n r) = names (name_of n) (names_of r)

  -- the types of a row that a type or a name holds
  pub types_of : {m : _} → Row_of-Type m → TypeTrees
  types_of end_of-Type = no_types
  types_of (more_of-Type t r) = types (type_of t) (types_of r)

-- the names of a list, seen as trees, in the order of the list
abbrev pub names_in : List Name → NameTrees
names_in [] = no_names
names_in (n ∷ ns) = names (name_of n) (names_in ns)

-- the types of a list, seen as trees, in the order of the list
abbrev pub types_in : List code_type.«Type» → TypeTrees
types_in [] = no_types
types_in (t ∷ ts) = types (type_of t) (types_in ts)

-- the names of a scope
abbrev pub scope_of : NameSequence → NameTrees
scope_of s = names_in s.names.items

-- the types of a list of parameters
abbrev pub params_of : Params → TypeTrees
params_of p = types_in p.types.items

-- the tree of what `parse` returns
abbrev pub tree_of : ParseResult → SymbolTree
tree_of r = record {
  name = name_of r.symbol.name;
  scope = scope_of r.symbol.scope;
  symbol_type = type_of r.symbol_type;
}
