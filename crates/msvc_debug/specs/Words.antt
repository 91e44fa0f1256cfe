-- The words, numbers and sets in the text of a tree.
use Rattle.std.specs.Prelude.{ℕ, ◌==◌, List, [], ◌∷◌, ◌++◌, Option, None, Some, bit_and, codes, cond}
use Rattle.std.specs.Fmt.{decimal}
use Rattle.std.specs.List.{flat_map}
use Rattle.msvc_nodes.specs.declared.kinds.Convention.{Convention}
use Rattle.msvc_nodes.specs.declared.kinds.Convention.TheVariants as convention
use Rattle.msvc_nodes.specs.declared.kinds.Guard.{Guard}
use Rattle.msvc_nodes.specs.declared.kinds.Guard.TheVariants as guard
use Rattle.msvc_nodes.specs.declared.kinds.NumberedType.{NumberedType}
use Rattle.msvc_nodes.specs.declared.kinds.NumberedType.TheVariants as number_kind
use Rattle.msvc_nodes.specs.declared.kinds.PlainOperator.{PlainOperator}
use Rattle.msvc_nodes.specs.declared.kinds.PlainOperator.TheVariants as operator
use Rattle.msvc_nodes.specs.declared.kinds.PlainType.{PlainType}
use Rattle.msvc_nodes.specs.declared.kinds.PlainType.TheVariants as plain_kind
use Rattle.msvc_nodes.specs.declared.kinds.PointerAffinity.{PointerAffinity}
use Rattle.msvc_nodes.specs.declared.kinds.PointerAffinity.TheVariants as mark_kind
use Rattle.msvc_nodes.specs.declared.kinds.PrimitiveKind.{PrimitiveKind}
use Rattle.msvc_nodes.specs.declared.kinds.PrimitiveKind.TheVariants as base
use Rattle.msvc_nodes.specs.declared.kinds.SpecialTableKind.{SpecialTableKind}
use Rattle.msvc_nodes.specs.declared.kinds.SpecialTableKind.TheVariants as table_kind
use Rattle.msvc_nodes.specs.declared.kinds.TagKind.{TagKind}
use Rattle.msvc_nodes.specs.declared.kinds.TagKind.TheVariants as tag_kind
use Rattle.msvc_nodes.specs.declared.kinds.VarStorageKind.{VarStorageKind}
use Rattle.msvc_nodes.specs.declared.kinds.VarStorageKind.TheVariants as variable
use Rattle.msvc_nodes.specs.declared.nodes.Number.{Number}

-- a word, and what is inside it in brackets
abbrev pub bracketed : List ℕ → List ℕ → List ℕ
bracketed word inside = word ++ codes "(" ++ inside ++ codes ")"

-- the name of each bit of a set that has a name, with a space after it
abbrev pub bit_names : List (ℕ × List ℕ) → ℕ → List ℕ
bit_names [] set = []
bit_names ((bit, name) ∷ rows) set = cond (bit_and set bit == bit) (name ++ codes " ") [] ++ bit_names rows set

-- the qualifiers of a type or of a member function
unfoldable pub qualifier_names : ℕ → List ℕ
qualifier_names = bit_names (
    (1, codes "CONST")
    ∷ (2, codes "VOLATILE")
    ∷ (4, codes "FAR")
    ∷ (8, codes "HUGE")
    ∷ (16, codes "UNALIGNED")
    ∷ (32, codes "RESTRICT")
    ∷ (64, codes "PTR64")
    ∷ (128, codes "LVALUE_QUAL")
    ∷ (256, codes "RVALUE_QUAL")
    ∷ [])

-- the access, the kind and the thunks of a member function
unfoldable pub class_names : ℕ → List ℕ
class_names = bit_names (
    (1, codes "PUBLIC")
    ∷ (2, codes "PROTECTED")
    ∷ (4, codes "PRIVATE")
    ∷ (8, codes "GLOBAL")
    ∷ (16, codes "STATIC")
    ∷ (32, codes "VIRTUAL")
    ∷ (64, codes "FAR")
    ∷ (128, codes "THUNK")
    ∷ [])

-- the word of what has nothing in it
abbrev pub plain_word : PlainType → List ℕ
plain_word plain_kind.None = codes "None"
plain_word plain_kind.EmptyPack = codes "EmptyParameterPack"
plain_word plain_kind.Rtti = codes "RTTIType"
plain_word plain_kind.Variadic = codes "VarArgs"
plain_word plain_kind.Nullptr = codes "Nullptr"

-- the word of what has one number
abbrev pub numbered_word : NumberedType → List ℕ
numbered_word number_kind.Constant = codes "Constant"
numbered_word number_kind.TemplateParameter = codes "TemplateParameterWithIndex"
numbered_word number_kind.ThreadSafeGuard = codes "ThreadSafeStaticGuard"

-- the word of a pointer or a reference
abbrev pub mark_word : PointerAffinity → List ℕ
mark_word mark_kind.Pointer = codes "Ptr"
mark_word mark_kind.Reference = codes "Ref"
mark_word mark_kind.RValueReference = codes "RValueRef"

-- the word of a table
abbrev pub table_word : SpecialTableKind → List ℕ
table_word table_kind.Functions = codes "CXXVFTable"
table_word table_kind.Bases = codes "CXXVBTable"

-- the word of a guard
abbrev pub guard_word : Guard → List ℕ
guard_word guard.Static = codes "LocalStaticGuard"
guard_word guard.Thread = codes "LocalStaticThreadGuard"

-- the word of the kind of a named type
abbrev pub tag_word : TagKind → List ℕ
tag_word tag_kind.Class = codes "Class"
tag_word tag_kind.Struct = codes "Struct"
tag_word tag_kind.Union = codes "Union"
tag_word tag_kind.Enum = codes "Enum"
tag_word tag_kind.Alias = codes "Alias"

-- the word of who may name a variable, and where it lives
abbrev pub variable_word : VarStorageKind → List ℕ
variable_word variable.PrivateStatic = codes "PrivateStatic"
variable_word variable.ProtectedStatic = codes "ProtectedStatic"
variable_word variable.PublicStatic = codes "PublicStatic"
variable_word variable.Global = codes "Global"
variable_word variable.FunctionLocalStatic = codes "FunctionLocalStatic"

-- the name of a calling convention
abbrev pub convention_word : Convention → List ℕ
convention_word convention.Cdecl = codes "Cdecl"
convention_word convention.Pascal = codes "Pascal"
convention_word convention.Thiscall = codes "Thiscall"
convention_word convention.Stdcall = codes "Stdcall"
convention_word convention.Fastcall = codes "Fastcall"
convention_word convention._Regcall = codes "_Regcall"
convention_word convention.Clrcall = codes "Clrcall"
convention_word convention.Eabi = codes "Eabi"
convention_word convention.Vectorcall = codes "Vectorcall"
convention_word convention.Swift = codes "Swift"
convention_word convention.SwiftAsync = codes "SwiftAsync"
convention_word convention.PreserveMost = codes "PreserveMost"
convention_word convention.PreserveNone = codes "PreserveNone"
convention_word convention.Regcall4 = codes "Regcall4"

-- the name of a base type
unfoldable pub base_word : PrimitiveKind → List ℕ
base_word base.Void = codes "Void"
base_word base.Char = codes "Char"
base_word base.Schar = codes "Schar"
base_word base.Uchar = codes "Uchar"
base_word base.Short = codes "Short"
base_word base.Ushort = codes "Ushort"
base_word base.Int = codes "Int"
base_word base.Uint = codes "Uint"
base_word base.Long = codes "Long"
base_word base.Ulong = codes "Ulong"
base_word base.Float = codes "Float"
base_word base.Double = codes "Double"
base_word base.Ldouble = codes "Ldouble"
base_word base.Bool = codes "Bool"
base_word base.Wchar = codes "Wchar"
base_word base.Char8 = codes "Char8"
base_word base.Char16 = codes "Char16"
base_word base.Char32 = codes "Char32"
base_word base.Int64 = codes "Int64"
base_word base.Uint64 = codes "Uint64"
base_word base.Int128 = codes "Int128"
base_word base.Uint128 = codes "Uint128"

-- the name of an operator with nothing in it
unfoldable pub operator_word : PlainOperator → List ℕ
operator_word operator.Ctor = codes "Ctor"
operator_word operator.Dtor = codes "Dtor"
operator_word operator.New = codes "New"
operator_word operator.Delete = codes "Delete"
operator_word operator.Equal = codes "Equal"
operator_word operator.RShift = codes "RShift"
operator_word operator.LShift = codes "LShift"
operator_word operator.Bang = codes "Bang"
operator_word operator.EqualEqual = codes "EqualEqual"
operator_word operator.BangEqual = codes "BangEqual"
operator_word operator.Subscript = codes "Subscript"
operator_word operator.Conversion = codes "Conversion"
operator_word operator.Arrow = codes "Arrow"
operator_word operator.Star = codes "Star"
operator_word operator.PlusPlus = codes "PlusPlus"
operator_word operator.MinusMinus = codes "MinusMinus"
operator_word operator.Minus = codes "Minus"
operator_word operator.Plus = codes "Plus"
operator_word operator.Amp = codes "Amp"
operator_word operator.ArrowStar = codes "ArrowStar"
operator_word operator.Slash = codes "Slash"
operator_word operator.Percent = codes "Percent"
operator_word operator.Less = codes "Less"
operator_word operator.LessEqual = codes "LessEqual"
operator_word operator.Greater = codes "Greater"
operator_word operator.GreaterEqual = codes "GreaterEqual"
operator_word operator.Comma = codes "Comma"
operator_word operator.Call = codes "Call"
operator_word operator.Tilde = codes "Tilde"
operator_word operator.Caret = codes "Caret"
operator_word operator.Pipe = codes "Pipe"
operator_word operator.AmpAmp = codes "AmpAmp"
operator_word operator.PipePipe = codes "PipePipe"
operator_word operator.StarEqual = codes "StarEqual"
operator_word operator.PlusEqual = codes "PlusEqual"
operator_word operator.MinusEqual = codes "MinusEqual"
operator_word operator.SlashEqual = codes "SlashEqual"
operator_word operator.PercentEqual = codes "PercentEqual"
operator_word operator.GreaterGreaterEqual = codes "GreaterGreaterEqual"
operator_word operator.LessLessEqual = codes "LessLessEqual"
operator_word operator.AmpEqual = codes "AmpEqual"
operator_word operator.PipeEqual = codes "PipeEqual"
operator_word operator.CaretEqual = codes "CaretEqual"
operator_word operator.VFTable = codes "VFTable"
operator_word operator.VBTable = codes "VBTable"
operator_word operator.VCall = codes "VCall"
operator_word operator.Typeof = codes "Typeof"
operator_word operator.String = codes "String"
operator_word operator.VBaseDtor = codes "VBaseDtor"
operator_word operator.VectorDeletingDtor = codes "VectorDeletingDtor"
operator_word operator.DefaultCtorClosure = codes "DefaultCtorClosure"
operator_word operator.ScalarDeletingDtor = codes "ScalarDeletingDtor"
operator_word operator.VectorCtorIterator = codes "VectorCtorIterator"
operator_word operator.VectorDtorIterator = codes "VectorDtorIterator"
operator_word operator.VectorVBaseCtorIterator = codes "VectorVBaseCtorIterator"
operator_word operator.VirtualDisplacementMap = codes "VirtualDisplacementMap"
operator_word operator.EHVectorCtorIterator = codes "EHVectorCtorIterator"
operator_word operator.EHVectorDtorIterator = codes "EHVectorDtorIterator"
operator_word operator.EHVectorVBaseCtorIterator = codes "EHVectorVBaseCtorIterator"
operator_word operator.CopyCtorClosure = codes "CopyCtorClosure"
operator_word operator.LocalVFTable = codes "LocalVFTable"
operator_word operator.LocalVFTableCtorClosure = codes "LocalVFTableCtorClosure"
operator_word operator.ArrayNew = codes "ArrayNew"
operator_word operator.ArrayDelete = codes "ArrayDelete"
operator_word operator.PlacementDeleteClosure = codes "PlacementDeleteClosure"
operator_word operator.PlacementArrayDeleteClosure = codes "PlacementArrayDeleteClosure"
operator_word operator.RTTIBaseClassArray = codes "RTTIBaseClassArray"
operator_word operator.RTTIClassHierarchyDescriptor = codes "RTTIClassHierarchyDescriptor"
operator_word operator.RTTIClassCompleteObjectLocator = codes "RTTIClassCompleteObjectLocator"
operator_word operator.DynamicInitializer = codes "DynamicInitializer"
operator_word operator.DynamicAtexitDtor = codes "DynamicAtexitDtor"
operator_word operator.LiteralOperatorName = codes "LiteralOperatorName"
operator_word operator.CoroutineAwait = codes "CoroutineAwait"

-- a number that may be missing
abbrev pub index_text : Option ℕ → List ℕ
index_text None = codes "None"
index_text (Some n) = codes "Some(" ++ decimal n ++ codes ")"

-- a number with its sign, and a space after it
abbrev pub signed_text : Number → List ℕ
signed_text number = cond number.is_negative (codes "-") [] ++ decimal number.value ++ codes " "

-- numbers in their order
abbrev pub numbers_text : List Number → List ℕ
numbers_text numbers = flat_map signed_text numbers
