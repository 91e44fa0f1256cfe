-- What the letters of a symbol stand for, and the texts that types and special names begin with: the tables that the
-- productions of Grammar go by. A row has a letter, or some letters, and what each of them stands for.
use Rattle.std.specs.Prelude.{ℕ, List, [], ◌∷◌, ◌++◌, ◌+◌, Some, None, codes}
use Prim.Native.Char.{code}
use Rattle.msvc_nodes.specs.declared.kinds.Convention.{Convention}
use Rattle.msvc_nodes.specs.declared.kinds.Convention.TheVariants.{Cdecl, Pascal, Thiscall, Stdcall, Fastcall}
use Rattle.msvc_nodes.specs.declared.kinds.VarStorageKind.TheVariants.{PrivateStatic, ProtectedStatic, PublicStatic}
use Rattle.msvc_nodes.specs.declared.kinds.VarStorageKind.TheVariants.{Global, FunctionLocalStatic}
use Rattle.msvc_nodes.specs.declared.kinds.TagKind.TheVariants as tag_kind
use Rattle.msvc_nodes.specs.declared.kinds.PrimitiveKind.{PrimitiveKind}
use Rattle.msvc_nodes.specs.declared.kinds.Guard.TheVariants as guard_kind
use Rattle.msvc_nodes.specs.declared.kinds.PointerAffinity.TheVariants as mark_kind
use Rattle.msvc_nodes.specs.declared.kinds.SpecialTableKind.TheVariants as table_kind
use Rattle.msvc_nodes.specs.BaseTypes.{BaseRow, basic_types, under_types}
use Rattle.msvc_nodes.specs.PlainOperators.{OperatorRow, basic_operators, under_operators, double_under_operators}
use Rattle.msvc_nodes.specs.PlainOperators.{type_information_operators}
use Rattle.msvc_rules.specs.Sorts.{TypeLetter, based, extended, named, points, arrayed, indexed, referred}
use Rattle.msvc_rules.specs.Sorts.{EncodingLetter, variable_of, table_of, type_information, untyped, encoded_string}
use Rattle.msvc_rules.specs.Sorts.{virtual_call, plain_function, member_of}
use Rattle.msvc_grammar.specs.declared.forms.TypePrefix.{TypePrefix}
use Rattle.msvc_grammar.specs.declared.forms.TypePrefix.TheVariants as form
use Rattle.msvc_grammar.specs.declared.forms.SpecialForm.{SpecialForm}
use Rattle.msvc_grammar.specs.declared.forms.SpecialForm.TheVariants as special

-- How tables are written

-- letters, and what each stands for in its turn
abbrev pub rows : {A : Type 0} → List ℕ → List A → List (ℕ × A)
rows [] values = []
rows (b ∷ bs) [] = []
rows (b ∷ bs) (v ∷ values) = (b, v) ∷ rows bs values

-- rows in which each of some letters stands for one value, and another table after them
abbrev pub each_for : {A : Type 0} → List ℕ → A → List (ℕ × A) → List (ℕ × A)
each_for [] value others = others
each_for (b ∷ bs) value others = (b, value) ∷ each_for bs value others

-- rows of some letters and what each of them stands for
abbrev pub by_letter : {A : Type 0} → List (List ℕ × A) → List (ℕ × A)
by_letter [] = []
by_letter (row ∷ table) = each_for row.0 row.1 (by_letter table)

-- the rows of a table with f applied to their values, and the rows of another table after them
abbrev pub rows_of : {A B : Type 0} → (A → B) → List (ℕ × A) → List (ℕ × B) → List (ℕ × B)
rows_of f [] others = others
rows_of f (row ∷ table) others = (row.0, f row.1) ∷ rows_of f table others

-- a text and each letter of a table after it, then the texts of another table
abbrev pub texts_after : {A : Type 0} → List ℕ → List (ℕ × A) → List (List ℕ × A) → List (List ℕ × A)
texts_after text [] others = others
texts_after text (row ∷ table) others = (text ++ row.0 ∷ [], row.1) ∷ texts_after text table others

-- Letters that stand by themselves

-- the @ that ends a name, a list or a number
abbrev pub at_sign : ℕ
at_sign = code "@"

-- the $ that begins the texts of many types
abbrev pub dollar_sign : ℕ
dollar_sign = code "$"

-- the _ that stands before the last letters of special names
abbrev pub underscore : ℕ
underscore = code "_"

-- the R that stands, after a _, before the last letters of type information
abbrev pub type_information_letter : ℕ
type_information_letter = code "R"

-- the Z that ends parameters with an ellipsis
abbrev pub ellipsis_letter : ℕ
ellipsis_letter = code "Z"

-- Digits

-- the base of decimal digits
abbrev pub decimal_base : ℕ
decimal_base = 10

-- the base of hexadecimal digits
abbrev pub hexadecimal_base : ℕ
hexadecimal_base = 16

-- the digits, which stand for entries of tables
abbrev pub digits : List (ℕ × ℕ)
digits = rows (codes "0123456789") (0 ∷ 1 ∷ 2 ∷ 3 ∷ 4 ∷ 5 ∷ 6 ∷ 7 ∷ 8 ∷ 9 ∷ [])

-- the digits to base 16
abbrev pub hexadecimal : List (ℕ × ℕ)
hexadecimal = rows (codes "ABCDEFGHIJKLMNOP")
    (0 ∷ 1 ∷ 2 ∷ 3 ∷ 4 ∷ 5 ∷ 6 ∷ 7 ∷ 8 ∷ 9 ∷ 10 ∷ 11 ∷ 12 ∷ 13 ∷ 14 ∷ 15 ∷ [])

-- the digits of a hash and of the number of an anonymous namespace, each for itself
abbrev pub hexadecimal_codes : List (ℕ × ℕ)
hexadecimal_codes = rows (codes "0123456789abcdefABCDEF") (codes "0123456789abcdefABCDEF")

-- Qualifiers, by their bits: a sum has the bits of its parts

abbrev pub unqualified : ℕ
unqualified = 0

abbrev pub const : ℕ
const = 1

abbrev pub volatile : ℕ
volatile = 2

abbrev pub far : ℕ
far = 4

abbrev pub unaligned : ℕ
unaligned = 16

abbrev pub restrict : ℕ
restrict = 32

abbrev pub ptr64 : ℕ
ptr64 = 64

abbrev pub lvalue : ℕ
lvalue = 128

abbrev pub rvalue : ℕ
rvalue = 256

-- qualifiers of the object of a member function
abbrev pub qualifiers : List (ℕ × ℕ)
qualifiers = by_letter (
    (codes "AQ", unqualified)
    ∷ (codes "BR", const)
    ∷ (codes "CS", volatile)
    ∷ (codes "DT", const + volatile) ∷ [])

-- qualifiers of a variable, and of what is pointed to
abbrev pub storage_classes : List (ℕ × ℕ)
storage_classes = by_letter (
    (codes "AQ", unqualified)
    ∷ (codes "BR", const)
    ∷ (codes "CS", volatile)
    ∷ (codes "DT", const + volatile)
    ∷ (codes "E", far)
    ∷ (codes "F", const + far)
    ∷ (codes "G", volatile + far)
    ∷ (codes "H", const + volatile + far) ∷ [])

-- qualifiers of what a function returns
abbrev pub qualifiers_of_returns : List (ℕ × ℕ)
qualifiers_of_returns = by_letter (
    (codes "A", unqualified)
    ∷ (codes "B", const)
    ∷ (codes "C", volatile)
    ∷ (codes "D", const + volatile) ∷ [])

-- qualifiers of the elements of an array, which are never volatile alone
abbrev pub qualifiers_of_arrays : List (ℕ × ℕ)
qualifiers_of_arrays = by_letter (
    (codes "A", unqualified)
    ∷ (codes "B", const)
    ∷ (codes "CD", const + volatile) ∷ [])

abbrev pub pointer_sizes : List (ℕ × ℕ)
pointer_sizes = by_letter ((codes "E", ptr64) ∷ [])

abbrev pub restricts : List (ℕ × ℕ)
restricts = by_letter ((codes "I", restrict) ∷ [])

abbrev pub alignments : List (ℕ × ℕ)
alignments = by_letter ((codes "F", unaligned) ∷ [])

abbrev pub reference_qualifiers : List (ℕ × ℕ)
reference_qualifiers = by_letter ((codes "G", lvalue) ∷ (codes "H", rvalue) ∷ [])

-- Types

-- the base types of a table, by their letters
abbrev pub types_of : List BaseRow → List (ℕ × PrimitiveKind)
types_of [] = []
types_of (row ∷ table) = (row.0, row.1) ∷ types_of table

abbrev pub base_types : List (ℕ × PrimitiveKind)
base_types = types_of basic_types

-- the base types of a second letter, after _
abbrev pub extended_types : List (ℕ × PrimitiveKind)
extended_types = types_of under_types

-- the first letters of types that are no base type of one letter
abbrev pub compound_letters : List (ℕ × TypeLetter)
compound_letters = by_letter (
    (codes "_", extended)
    ∷ (codes "T", named tag_kind.Union)
    ∷ (codes "U", named tag_kind.Struct)
    ∷ (codes "V", named tag_kind.Class)
    ∷ (codes "A", points mark_kind.Reference None)
    ∷ (codes "B", points mark_kind.Reference (Some volatile))
    ∷ (codes "P", points mark_kind.Pointer None)
    ∷ (codes "Q", points mark_kind.Pointer (Some const))
    ∷ (codes "R", points mark_kind.Pointer (Some volatile))
    ∷ (codes "S", points mark_kind.Pointer (Some (const + volatile)))
    ∷ (codes "Y", arrayed)
    ∷ (codes "?", indexed)
    ∷ [])
    ++ rows_of referred digits []

abbrev pub type_letters : List (ℕ × TypeLetter)
type_letters = rows_of based base_types compound_letters

-- The texts that are tried before a plain type, and the form that each stands for. None begins another.
abbrev pub type_texts : List (List ℕ × TypePrefix)
type_texts =
    (codes "W4", form.Enumeration)
    ∷ (codes "A6", form.ReferenceToFunction)
    ∷ (codes "P6", form.PointerToFunction)
    ∷ (codes "P8", form.QualifiedMemberPointer)
    ∷ (codes "$0", form.Constant)
    ∷ (codes "$D", form.TemplateParameter)
    ∷ (codes "$$BY", form.Array)
    ∷ (codes "$$Q", form.RValueReference)
    ∷ (codes "$S", form.EmptyPack)
    ∷ (codes "$$V", form.EmptyPack)
    ∷ (codes "$$Z", form.EmptyPack)
    ∷ (codes "$$$V", form.EmptyPack)
    ∷ (codes "$$T", form.Nullptr)
    ∷ (codes "$$A6", form.Function)
    ∷ (codes "$$A8@@", form.QualifiedFunction)
    ∷ (codes "$$Y", form.Alias)
    ∷ (codes "$$C", form.CvQualified)
    ∷ (codes "$1", form.MemberPointer)
    ∷ (codes "$H", form.MemberPointer)
    ∷ (codes "$I", form.MemberPointer)
    ∷ (codes "$J", form.MemberPointer)
    ∷ []

-- Functions and symbols

abbrev pub conventions : List (ℕ × Convention)
conventions = by_letter (
    (codes "AB", Cdecl)
    ∷ (codes "C", Pascal)
    ∷ (codes "E", Thiscall)
    ∷ (codes "G", Stdcall)
    ∷ (codes "I", Fastcall) ∷ [])

-- the classes of member functions, by their bits

abbrev pub public : ℕ
public = 1

abbrev pub protected : ℕ
protected = 2

abbrev pub private : ℕ
private = 4

abbrev pub global : ℕ
global = 8

abbrev pub static : ℕ
static = 16

abbrev pub virtual : ℕ
virtual = 32

abbrev pub far_function : ℕ
far_function = 64

abbrev pub thunk : ℕ
thunk = 128

-- Y is read in a pointer to a member function alone: as the first byte of a symbol's type it stands for a plain
-- function. D and F are not far, as the second letter of any other pair is.
abbrev pub function_classes : List (ℕ × ℕ)
function_classes = by_letter (
    (codes "A", private)
    ∷ (codes "B", private + far_function)
    ∷ (codes "CD", private + static)
    ∷ (codes "EF", private + virtual)
    ∷ (codes "G", private + virtual + thunk)
    ∷ (codes "H", private + virtual + far_function + thunk)
    ∷ (codes "I", protected)
    ∷ (codes "J", protected + far_function)
    ∷ (codes "K", protected + static)
    ∷ (codes "L", protected + static + far_function)
    ∷ (codes "M", protected + virtual)
    ∷ (codes "N", protected + virtual + far_function)
    ∷ (codes "O", protected + virtual + thunk)
    ∷ (codes "P", protected + virtual + far_function + thunk)
    ∷ (codes "Q", public)
    ∷ (codes "R", public + far_function)
    ∷ (codes "S", public + static)
    ∷ (codes "T", public + static + far_function)
    ∷ (codes "U", public + virtual)
    ∷ (codes "V", public + virtual + far_function)
    ∷ (codes "W", public + virtual + thunk)
    ∷ (codes "X", public + virtual + far_function + thunk)
    ∷ (codes "Y", global)
    ∷ (codes "Z", global + far_function)
    ∷ [])

abbrev pub encoding_letters : List (ℕ × EncodingLetter)
encoding_letters = by_letter (
    (codes "0", variable_of PrivateStatic)
    ∷ (codes "1", variable_of ProtectedStatic)
    ∷ (codes "2", variable_of PublicStatic)
    ∷ (codes "3", variable_of Global)
    ∷ (codes "4", variable_of FunctionLocalStatic)
    ∷ (codes "6", table_of table_kind.Functions)
    ∷ (codes "7", table_of table_kind.Bases)
    ∷ (codes "8", type_information)
    ∷ (codes "9", untyped)
    ∷ (codes "Y", plain_function)
    ∷ (codes "_", encoded_string)
    ∷ (codes "$", virtual_call)
    ∷ [])
    ++ rows_of member_of function_classes []

-- Special names, by their codes: a letter, alone or after _, _R or __

-- the operators of a table, by their letters, and the rows of another table after them
abbrev pub operators_of : List OperatorRow → List (ℕ × SpecialForm) → List (ℕ × SpecialForm)
operators_of [] others = others
operators_of (row ∷ table) others = (row.0, special.Plain row.1) ∷ operators_of table others

abbrev pub basic_special_letters : List (ℕ × SpecialForm)
basic_special_letters = operators_of basic_operators []

-- the last letters of special names, after _
abbrev pub under_special_letters : List (ℕ × SpecialForm)
under_special_letters = operators_of under_operators (by_letter ((codes "B", special.Guard guard_kind.Static) ∷ []))

-- the last letters of special names of run-time type information, after _R
abbrev pub type_information_letters : List (ℕ × SpecialForm)
type_information_letters = operators_of type_information_operators
    (by_letter ((codes "0", special.TypeDescriptor) ∷ (codes "1", special.BaseClass) ∷ []))

-- the last letters of special names, after __
abbrev pub double_under_special_letters : List (ℕ × SpecialForm)
double_under_special_letters = operators_of double_under_operators (by_letter ((
  codes "J",
  special.Guard
      guard_kind.Thread,
) ∷ []))

-- the texts of all special names, of which none begins another
abbrev pub special_texts : List (List ℕ × SpecialForm)
special_texts =
    texts_after [] basic_special_letters
    (texts_after (codes "_") under_special_letters
    (texts_after (codes "_R") type_information_letters
    (texts_after (codes "__") double_under_special_letters [])))

-- Strings

-- how many bytes a character has
abbrev pub character_sizes : List (ℕ × ℕ)
character_sizes = by_letter ((codes "0", 1) ∷ (codes "1", 2) ∷ [])

-- the characters that stand for themselves in a string
abbrev pub plain_characters : List (ℕ × ℕ)
plain_characters = rows (codes "0123456789abcdefghijklmnopqrstuvwxyzABCDEFGHIJKLMNOPQRSTUVWXYZ_$")
    (codes "0123456789abcdefghijklmnopqrstuvwxyzABCDEFGHIJKLMNOPQRSTUVWXYZ_$")

-- the byte past ASCII that a small letter stands for
abbrev pub past_ascii : ℕ → ℕ
past_ascii letter = letter + 128

-- the bytes past ASCII that letters stand for after ?: a capital letter stands for the same byte as its small one
abbrev pub escaped_letters : List (ℕ × ℕ)
escaped_letters = by_letter (
    (codes "aA", past_ascii (code "a"))
    ∷ (codes "bB", past_ascii (code "b"))
    ∷ (codes "cC", past_ascii (code "c"))
    ∷ (codes "dD", past_ascii (code "d"))
    ∷ (codes "eE", past_ascii (code "e"))
    ∷ (codes "fF", past_ascii (code "f"))
    ∷ (codes "gG", past_ascii (code "g"))
    ∷ (codes "hH", past_ascii (code "h"))
    ∷ (codes "iI", past_ascii (code "i"))
    ∷ (codes "jJ", past_ascii (code "j"))
    ∷ (codes "kK", past_ascii (code "k"))
    ∷ (codes "lL", past_ascii (code "l"))
    ∷ (codes "mM", past_ascii (code "m"))
    ∷ (codes "nN", past_ascii (code "n"))
    ∷ (codes "oO", past_ascii (code "o"))
    ∷ (codes "pP", past_ascii (code "p"))
    ∷ (codes "qQ", past_ascii (code "q"))
    ∷ (codes "rR", past_ascii (code "r"))
    ∷ (codes "sS", past_ascii (code "s"))
    ∷ (codes "tT", past_ascii (code "t"))
    ∷ (codes "uU", past_ascii (code "u"))
    ∷ (codes "vV", past_ascii (code "v"))
    ∷ (codes "wW", past_ascii (code "w"))
    ∷ (codes "xX", past_ascii (code "x"))
    ∷ (codes "yY", past_ascii (code "y"))
    ∷ (codes "zZ", past_ascii (code "z"))
    ∷ [])

-- the signs that digits stand for after ?
abbrev pub escaped_signs : List (ℕ × ℕ)
escaped_signs = by_letter (
    (codes "0", code ",")
    ∷ (codes "1", code "/")
    ∷ (codes "2", code "\\")
    ∷ (codes "3", code ":")
    ∷ (codes "4", code ".")
    ∷ (codes "5", code " ")
    ∷ (codes "6", code "\n")
    ∷ (codes "7", code "\t")
    ∷ (codes "8", code "'")
    ∷ (codes "9", code "-")
    ∷ [])

-- the characters that stand for another byte after ?
abbrev pub escaped_characters : List (ℕ × ℕ)
escaped_characters = escaped_letters ++ escaped_signs
