-- What the letters of a symbol of Full stand for, and the texts that types, operators and encodings begin with: the
-- tables that the productions of Grammar go by. A row has a letter, or a text, and what it stands for.
use Rattle.std.specs.Prelude.{ℕ, List, [], ◌∷◌, ◌++◌, ◌+◌, codes}
use Prim.Native.Char.{code}
use Rattle.msvc_nodes.specs.declared.kinds.Convention.{Convention}
use Rattle.msvc_nodes.specs.declared.kinds.Convention.TheVariants as convention_kind
use Rattle.msvc_nodes.specs.declared.kinds.VarStorageKind.{VarStorageKind}
use Rattle.msvc_nodes.specs.declared.kinds.VarStorageKind.TheVariants as storage_kind
use Rattle.msvc_nodes.specs.declared.kinds.TagKind.TheVariants as tag_kind
use Rattle.msvc_nodes.specs.declared.kinds.PrimitiveKind.{PrimitiveKind}
use Rattle.msvc_nodes.specs.declared.kinds.PointerAffinity.TheVariants as mark_kind
use Rattle.msvc_nodes.specs.declared.kinds.PlainOperator.TheVariants as operator_kind
use Rattle.msvc_nodes.specs.declared.kinds.Guard.TheVariants as guard_kind
use Rattle.msvc_nodes.specs.BaseTypes.{BaseRow, basic_types, under_types}
use Rattle.msvc_nodes.specs.PlainOperators.{OperatorRow, basic_operators}
use Rattle.msvc_full_grammar.specs.Forms.{OperatorForm, plain_operator, operator_word, operator_by_row, base_class}
use Rattle.msvc_full_grammar.specs.Forms.{EncodingForm, encoding_by_row, free_function, function_of, thunk_of}
use Rattle.msvc_full_grammar.specs.Forms.{c_function, managed_function, table_of_class, type_information, virtual_call}
use Rattle.msvc_full_grammar.specs.Forms.{displaced, adjustor, vtordisp, bits_of, value_word, volatile_reference}
use Rattle.msvc_full_grammar.specs.Forms.{vtordispex, ValueForm, value_by_row, of_symbol, offsets, member_offsets}
use Rattle.msvc_full_grammar.specs.Forms.{typed}
use Rattle.msvc_full_grammar.specs.Forms.{SymbolForm, hashed, string, descriptor, guard_of, stub_of}
use Rattle.msvc_full_grammar.specs.Forms.{initializer, destructor, template_object}
use Rattle.msvc_full_grammar.specs.Forms.{aggregate, elements, subobject, member, element, union_value, member_of}
use Rattle.msvc_full_grammar.specs.Forms.{absent, present}
use Rattle.msvc_full_grammar.specs.Forms.{TypeForm, named, pointer_with, reference_by, arrayed, function_with, the_same}
use Rattle.msvc_full_grammar.specs.Forms.{qualified, type_by_row, extended}
use Rattle.msvc_full_grammar.specs.Forms.{ArgumentForm, empty_pack, alias, argument_value}
use Rattle.msvc_full_grammar.specs.Rows.{integer, custom, nullptr, address_row, object_row, literal_operator}
use Rattle.msvc_full_grammar.specs.Rows.{spaceship_row, auto_row, decltype_auto_row, tracking_row, catch_row}
use Rattle.msvc_full_grammar.specs.Rows.{destructor_row, filter_row, finally_row, float_row, double_row, float16_row}
use Rattle.msvc_full_grammar.specs.Rows.{bfloat16_row, float80_row, float128_row, ibm128_row, null_member_row, pin_row}
use Rattle.msvc_full_grammar.specs.Rows.{static_guard_row, thread_guard_row, managed_vector_ctor_iterator}
use Rattle.msvc_full_grammar.specs.Rows.{managed_vector_dtor_iterator, eh_vector_copy_ctor_iterator}
use Rattle.msvc_full_grammar.specs.Rows.{eh_vector_vbase_copy_ctor_iterator, vector_copy_ctor_iterator}
use Rattle.msvc_full_grammar.specs.Rows.{vector_vbase_copy_ctor_iterator, managed_vector_vbase_copy_ctor_iterator}
use Rattle.msvc_full_grammar.specs.Rows as row

-- How tables are written

-- letters, and what each stands for in its turn
abbrev pub rows : {A : Type 0} → List ℕ → List A → List (ℕ × A)
rows [] values = []
rows (b ∷ bs) [] = []
rows (b ∷ bs) (v ∷ values) = (b, v) ∷ rows bs values

-- rows in which each of some letters stands for one value, and another table after them
abbrev pub each_for : {A : Type 0} → List ℕ → A → List (ℕ × A) → List (ℕ × A)
each_for [] value others = others
each_for (b ∷ bs) value others = (b, value) ∷ each_for bs value others

-- rows of some letters and what each of them stands for
abbrev pub by_letter : {A : Type 0} → List (List ℕ × A) → List (ℕ × A)
by_letter [] = []
by_letter (row ∷ table) = each_for row.0 row.1 (by_letter table)

-- Letters that stand by themselves

-- the @ that ends a name, a list or a number
abbrev pub at_sign : ℕ
at_sign = code "@"

-- Digits

-- the digits, which stand for entries of tables
abbrev pub digits : List (ℕ × ℕ)
digits = rows (codes "0123456789") (0 ∷ 1 ∷ 2 ∷ 3 ∷ 4 ∷ 5 ∷ 6 ∷ 7 ∷ 8 ∷ 9 ∷ [])

-- the letters that are digits to base 16
abbrev pub hexadecimal : List (ℕ × ℕ)
hexadecimal = rows (codes "ABCDEFGHIJKLMNOP")
    (0 ∷ 1 ∷ 2 ∷ 3 ∷ 4 ∷ 5 ∷ 6 ∷ 7 ∷ 8 ∷ 9 ∷ 10 ∷ 11 ∷ 12 ∷ 13 ∷ 14 ∷ 15 ∷ [])

-- the base of these digits
abbrev pub hexadecimal_base : ℕ
hexadecimal_base = 16

-- the capitals among the digits of an anonymous namespace
abbrev pub capitals : List ℕ
capitals = codes "ABCDEF"

-- the digits of an anonymous namespace, each for itself
abbrev pub hexadecimal_codes : List (ℕ × ℕ)
hexadecimal_codes = rows (codes "0123456789abcdefABCDEF") (codes "0123456789abcdefABCDEF")

-- Qualifiers, by their bits: a sum has the bits of its parts

abbrev pub unqualified : ℕ
unqualified = 0

abbrev pub const : ℕ
const = 1

abbrev pub volatile : ℕ
volatile = 2

abbrev pub unaligned : ℕ
unaligned = 16

abbrev pub restrict : ℕ
restrict = 32

abbrev pub ptr64 : ℕ
ptr64 = 64

abbrev pub lvalue : ℕ
lvalue = 128

abbrev pub rvalue : ℕ
rvalue = 256

-- among a function's own qualifiers alone
abbrev pub noexcept : ℕ
noexcept = 512

-- the qualifier that stands before what is pointed to and after a function's marks and a variable
abbrev pub qualifiers : List (ℕ × ℕ)
qualifiers = by_letter (
    (codes "AQ", unqualified)
    ∷ (codes "BR", const)
    ∷ (codes "CS", volatile)
    ∷ (codes "DT", const + volatile) ∷ [])

-- the qualifier of a member that is pointed to, before its class
abbrev pub member_qualifiers : List (ℕ × ℕ)
member_qualifiers = by_letter (
    (codes "Q", unqualified)
    ∷ (codes "R", const)
    ∷ (codes "S", volatile)
    ∷ (codes "T", const + volatile) ∷ [])

abbrev pub pointer_sizes : List (ℕ × ℕ)
pointer_sizes = by_letter ((codes "E", ptr64) ∷ [])

abbrev pub restricts : List (ℕ × ℕ)
restricts = by_letter ((codes "I", restrict) ∷ [])

abbrev pub alignments : List (ℕ × ℕ)
alignments = by_letter ((codes "F", unaligned) ∷ [])

abbrev pub reference_qualifiers : List (ℕ × ℕ)
reference_qualifiers = by_letter ((codes "G", lvalue) ∷ (codes "H", rvalue) ∷ [])

-- Types

-- the base types of a table, by their letters
abbrev pub types_of : List BaseRow → List (ℕ × PrimitiveKind)
types_of [] = []
types_of (row ∷ table) = (row.0, row.1) ∷ types_of table

abbrev pub base_types : List (ℕ × PrimitiveKind)
base_types = types_of basic_types

-- the base types of a second letter, after _
abbrev pub extended_types : List (ℕ × PrimitiveKind)
extended_types = types_of under_types

-- The texts that types begin with, but for the base types of one letter. None begins another.
abbrev pub type_texts : List (List ℕ × TypeForm)
type_texts =
    (codes "T", named tag_kind.Union)
    ∷ (codes "U", named tag_kind.Struct)
    ∷ (codes "V", named tag_kind.Class)
    ∷ (codes "W4", named tag_kind.Enum)
    ∷ (codes "P", pointer_with unqualified)
    ∷ (codes "Q", pointer_with const)
    ∷ (codes "R", pointer_with volatile)
    ∷ (codes "S", pointer_with (const + volatile))
    ∷ (codes "A", reference_by mark_kind.Reference)
    ∷ (codes "B", volatile_reference)
    ∷ (codes "$$Q", reference_by mark_kind.RValueReference)
    ∷ (codes "Y", arrayed)
    ∷ (codes "$$A6", function_with absent)
    ∷ (codes "$$A8@@", function_with present)
    ∷ (codes "$$B", the_same)
    ∷ (codes "$$C", qualified)
    ∷ (codes "$$T", type_by_row nullptr)
    ∷ (codes "?", type_by_row custom)
    ∷ (codes "_", extended)
    ∷ []

-- the rows of pointers and references of managed code, by their letters behind a $; one is that of the pointer's or the
-- reference's own
abbrev pub managed_rows : ℕ → List (ℕ × ℕ)
managed_rows own_row = rows (codes "ABC") (own_row ∷ pin_row ∷ tracking_row ∷ [])

-- the rows of the types that stand for a type which is deduced, by their letters, after _
abbrev pub deduced_types : List (ℕ × ℕ)
deduced_types = rows (codes "PT") (auto_row ∷ decltype_auto_row ∷ [])

-- The texts that values begin with, after a $. None begins another.
abbrev pub value_texts : List (List ℕ × ValueForm)
value_texts =
    (codes "0", value_by_row integer)
    ∷ (codes "1", of_symbol address_row)
    ∷ (codes "E", of_symbol object_row)
    ∷ (codes "F", offsets 2)
    ∷ (codes "G", offsets 3)
    ∷ (codes "H", member_offsets 1)
    ∷ (codes "I", member_offsets 2)
    ∷ (codes "J", member_offsets 3)
    ∷ (codes "A", bits_of float_row)
    ∷ (codes "B", bits_of double_row)
    ∷ (codes "V", bits_of float16_row)
    ∷ (codes "W", bits_of bfloat16_row)
    ∷ (codes "X", bits_of float80_row)
    ∷ (codes "Y", bits_of float128_row)
    ∷ (codes "Z", bits_of ibm128_row)
    ∷ (codes "N", value_word null_member_row)
    ∷ (codes "2", aggregate)
    ∷ (codes "3", elements)
    ∷ (codes "5", subobject)
    ∷ (codes "6", member)
    ∷ (codes "C", element)
    ∷ (codes "7", union_value)
    ∷ (codes "8", member_of)
    ∷ []

-- The texts of values without a type before them, among the members of a class. None begins another, and none a type.
abbrev pub member_texts : List (List ℕ × ValueForm)
member_texts =
    (codes "0", value_by_row integer)
    ∷ (codes "2", aggregate)
    ∷ (codes "3", elements)
    ∷ (codes "7", union_value)
    ∷ []

-- values as arguments of templates, after other texts
abbrev pub values_of : List (List ℕ × ValueForm) → List (List ℕ × ArgumentForm)
values_of [] = []
values_of (row ∷ table) = (code "$" ∷ row.0, argument_value row.1) ∷ values_of table

-- The texts that arguments of templates begin with where they are no types. None begins another, and none a type.
abbrev pub argument_texts : List (List ℕ × ArgumentForm)
argument_texts =
    (codes "$S", empty_pack)
    ∷ (codes "$$V", empty_pack)
    ∷ (codes "$$$V", empty_pack)
    ∷ (codes "$$Z", empty_pack)
    ∷ (codes "$$Y", alias)
    ∷ (codes "$M", typed)
    ∷ values_of value_texts

-- Functions and symbols

abbrev pub conventions : List (ℕ × Convention)
conventions = by_letter (
    (codes "AB", convention_kind.Cdecl)
    ∷ (codes "CD", convention_kind.Pascal)
    ∷ (codes "EF", convention_kind.Thiscall)
    ∷ (codes "GH", convention_kind.Stdcall)
    ∷ (codes "IJ", convention_kind.Fastcall)
    ∷ (codes "MN", convention_kind.Clrcall)
    ∷ (codes "OP", convention_kind.Eabi)
    ∷ (codes "Q", convention_kind.Vectorcall)
    ∷ (codes "S", convention_kind.Swift)
    ∷ (codes "U", convention_kind.PreserveMost)
    ∷ (codes "V", convention_kind.PreserveNone)
    ∷ (codes "W", convention_kind.SwiftAsync)
    ∷ (codes "w", convention_kind._Regcall)
    ∷ (codes "x", convention_kind.Regcall4) ∷ [])

-- the classes of functions, by their bits

abbrev pub public : ℕ
public = 1

abbrev pub protected : ℕ
protected = 2

abbrev pub private : ℕ
private = 4

abbrev pub global : ℕ
global = 8

abbrev pub static : ℕ
static = 16

abbrev pub virtual : ℕ
virtual = 32

abbrev pub far : ℕ
far = 64

abbrev pub thunk : ℕ
thunk = 128

-- of a function of C
abbrev pub c_linkage : ℕ
c_linkage = 256

-- the classes of functions, by one letter, and other texts after them
abbrev pub function_letters : List (List ℕ × EncodingForm) → List (List ℕ × EncodingForm)
function_letters others =
    (codes "A", function_of private)
    ∷ (codes "B", function_of (private + far))
    ∷ (codes "C", function_of (private + static))
    ∷ (codes "D", function_of (private + static + far))
    ∷ (codes "E", function_of (private + virtual))
    ∷ (codes "F", function_of (private + virtual + far))
    ∷ (codes "G", thunk_of adjustor (private + thunk))
    ∷ (codes "H", thunk_of adjustor (private + far + thunk))
    ∷ (codes "I", function_of protected)
    ∷ (codes "J", function_of (protected + far))
    ∷ (codes "K", function_of (protected + static))
    ∷ (codes "L", function_of (protected + static + far))
    ∷ (codes "M", function_of (protected + virtual))
    ∷ (codes "N", function_of (protected + virtual + far))
    ∷ (codes "O", thunk_of adjustor (protected + virtual + thunk))
    ∷ (codes "P", thunk_of adjustor (protected + virtual + far + thunk))
    ∷ (codes "Q", function_of public)
    ∷ (codes "R", function_of (public + far))
    ∷ (codes "S", function_of (public + static))
    ∷ (codes "T", function_of (public + static + far))
    ∷ (codes "U", function_of (public + virtual))
    ∷ (codes "V", function_of (public + virtual + far))
    ∷ (codes "W", thunk_of adjustor (public + virtual + thunk))
    ∷ (codes "X", thunk_of adjustor (public + virtual + far + thunk))
    ∷ (codes "Y", free_function)
    ∷ (codes "Z", function_of (global + far))
    ∷ others

-- the classes of functions that move their this by an offset of the object
abbrev pub dollar_functions : List (List ℕ × EncodingForm)
dollar_functions =
    (codes "$0", thunk_of vtordisp (private + virtual + thunk))
    ∷ (codes "$1", thunk_of vtordisp (private + virtual + far + thunk))
    ∷ (codes "$2", thunk_of vtordisp (protected + virtual + thunk))
    ∷ (codes "$3", thunk_of vtordisp (protected + virtual + far + thunk))
    ∷ (codes "$4", thunk_of vtordisp (public + virtual + thunk))
    ∷ (codes "$5", thunk_of vtordisp (public + virtual + far + thunk))
    ∷ (codes "$R0", thunk_of vtordispex (private + virtual + thunk))
    ∷ (codes "$R1", thunk_of vtordispex (private + virtual + far + thunk))
    ∷ (codes "$R2", thunk_of vtordispex (protected + virtual + thunk))
    ∷ (codes "$R3", thunk_of vtordispex (protected + virtual + far + thunk))
    ∷ (codes "$R4", thunk_of vtordispex (public + virtual + thunk))
    ∷ (codes "$R5", thunk_of vtordispex (public + virtual + far + thunk))
    ∷ []

-- The texts that the class of a function begins with. None begins another.
abbrev pub function_texts : List (List ℕ × EncodingForm)
function_texts = function_letters dollar_functions

-- the texts before the class of a function of C or of managed code, and other texts after them
abbrev pub before_functions : List (List ℕ × EncodingForm) → List (List ℕ × EncodingForm)
before_functions others =
    (codes "$$J0", c_function)
    ∷ (codes "$$F", managed_function)
    ∷ (codes "$$H", managed_function)
    ∷ (codes "$$h", managed_function)
    ∷ others

-- The texts that a function begins with, after its name. None begins another.
abbrev pub code_texts : List (List ℕ × EncodingForm)
code_texts = function_letters (before_functions dollar_functions)

-- The texts that the type of a symbol begins with where it is no variable. None begins another.
abbrev pub encoding_texts : List (List ℕ × EncodingForm)
encoding_texts =
    (codes "6", table_of_class)
    ∷ (codes "7", table_of_class)
    ∷ (codes "8", type_information)
    ∷ (codes "9", encoding_by_row row.extern_c)
    ∷ function_letters (
    (codes "$B", virtual_call)
    ∷ (codes "$C", displaced)
    ∷ before_functions dollar_functions)

-- the texts that the type of a variable begins with, and where the variable lives
abbrev pub variable_texts : List (List ℕ × VarStorageKind)
variable_texts =
    (codes "0", storage_kind.PrivateStatic)
    ∷ (codes "1", storage_kind.ProtectedStatic)
    ∷ (codes "2", storage_kind.PublicStatic)
    ∷ (codes "3", storage_kind.Global)
    ∷ (codes "4", storage_kind.FunctionLocalStatic)
    ∷ []

-- The texts that the names of funclets begin with, and the row of each. None begins another.
abbrev pub funclet_texts : List (List ℕ × ℕ)
funclet_texts =
    (codes "?catch$", catch_row)
    ∷ (codes "?dtor$", destructor_row)
    ∷ (codes "?filt$", filter_row)
    ∷ (codes "?fin$", finally_row)
    ∷ []

-- The texts that a symbol begins with, after its ??, which has no name of the source. None begins another.
abbrev pub symbol_texts : List (List ℕ × SymbolForm)
symbol_texts =
    (codes "@", hashed)
    ∷ (codes "_C", string)
    ∷ (codes "_R0", descriptor)
    ∷ (codes "_B", guard_of guard_kind.Static)
    ∷ (codes "__J", guard_of guard_kind.Thread)
    ∷ (codes "__E", stub_of initializer)
    ∷ (codes "__F", stub_of destructor)
    ∷ (codes "__N", template_object)
    ∷ []

-- Strings

-- the widths of the characters of a string, by their letters: 1 of wide characters
abbrev pub widths : List (ℕ × ℕ)
widths = rows (codes "01") (0 ∷ 1 ∷ [])

-- letters, each of which stands for its byte and 128
abbrev pub raised : List ℕ → List (ℕ × ℕ)
raised [] = []
raised (b ∷ bs) = (b, b + 128) ∷ raised bs

-- the bytes of a string that a ? and one more byte stand for
abbrev pub escapes : List (ℕ × ℕ)
escapes = rows (codes "0123456789") (codes ",/\\:. \n\t'-")
    ++ (raised (codes "abcdefghijklmnopqrstuvwxyz") ++ raised (codes "ABCDEFGHIJKLMNOPQRSTUVWXYZ"))

-- Operators

-- the operators of a table, by the texts of their letters, and the rows of another table after them
abbrev pub operators_of : List OperatorRow → List (List ℕ × OperatorForm) → List (List ℕ × OperatorForm)
operators_of [] others = others
operators_of (row ∷ table) others = (row.0 ∷ [], plain_operator row.1) ∷ operators_of table others

-- the codes of operators, of which none begins another
abbrev pub operator_texts : List (List ℕ × OperatorForm)
operator_texts = operators_of basic_operators (
    (codes "_0", plain_operator operator_kind.SlashEqual)
    ∷ (codes "_1", plain_operator operator_kind.PercentEqual)
    ∷ (codes "_2", plain_operator operator_kind.GreaterGreaterEqual)
    ∷ (codes "_3", plain_operator operator_kind.LessLessEqual)
    ∷ (codes "_4", plain_operator operator_kind.AmpEqual)
    ∷ (codes "_5", plain_operator operator_kind.PipeEqual)
    ∷ (codes "_6", plain_operator operator_kind.CaretEqual)
    ∷ (codes "_7", plain_operator operator_kind.VFTable)
    ∷ (codes "_8", plain_operator operator_kind.VBTable)
    ∷ (codes "_9", plain_operator operator_kind.VCall)
    ∷ (codes "_A", plain_operator operator_kind.Typeof)
    ∷ (codes "_B", operator_word static_guard_row)
    ∷ (codes "_D", plain_operator operator_kind.VBaseDtor)
    ∷ (codes "_E", plain_operator operator_kind.VectorDeletingDtor)
    ∷ (codes "_F", plain_operator operator_kind.DefaultCtorClosure)
    ∷ (codes "_G", plain_operator operator_kind.ScalarDeletingDtor)
    ∷ (codes "_H", plain_operator operator_kind.VectorCtorIterator)
    ∷ (codes "_I", plain_operator operator_kind.VectorDtorIterator)
    ∷ (codes "_J", plain_operator operator_kind.VectorVBaseCtorIterator)
    ∷ (codes "_K", plain_operator operator_kind.VirtualDisplacementMap)
    ∷ (codes "_L", plain_operator operator_kind.EHVectorCtorIterator)
    ∷ (codes "_M", plain_operator operator_kind.EHVectorDtorIterator)
    ∷ (codes "_N", plain_operator operator_kind.EHVectorVBaseCtorIterator)
    ∷ (codes "_O", plain_operator operator_kind.CopyCtorClosure)
    ∷ (codes "_S", plain_operator operator_kind.LocalVFTable)
    ∷ (codes "_T", plain_operator operator_kind.LocalVFTableCtorClosure)
    ∷ (codes "_U", plain_operator operator_kind.ArrayNew)
    ∷ (codes "_V", plain_operator operator_kind.ArrayDelete)
    ∷ (codes "_X", plain_operator operator_kind.PlacementDeleteClosure)
    ∷ (codes "_Y", plain_operator operator_kind.PlacementArrayDeleteClosure)
    ∷ (codes "_R1", base_class)
    ∷ (codes "_R2", plain_operator operator_kind.RTTIBaseClassArray)
    ∷ (codes "_R3", plain_operator operator_kind.RTTIClassHierarchyDescriptor)
    ∷ (codes "_R4", plain_operator operator_kind.RTTIClassCompleteObjectLocator)
    ∷ (codes "__A", operator_word managed_vector_ctor_iterator)
    ∷ (codes "__B", operator_word managed_vector_dtor_iterator)
    ∷ (codes "__C", operator_word eh_vector_copy_ctor_iterator)
    ∷ (codes "__D", operator_word eh_vector_vbase_copy_ctor_iterator)
    ∷ (codes "__G", operator_word vector_copy_ctor_iterator)
    ∷ (codes "__H", operator_word vector_vbase_copy_ctor_iterator)
    ∷ (codes "__I", operator_word managed_vector_vbase_copy_ctor_iterator)
    ∷ (codes "__J", operator_word thread_guard_row)
    ∷ (codes "__K", operator_by_row literal_operator)
    ∷ (codes "__L", plain_operator operator_kind.CoroutineAwait)
    ∷ (codes "__M", operator_word spaceship_row)
    ∷ [])
