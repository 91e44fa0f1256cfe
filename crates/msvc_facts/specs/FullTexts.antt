-- Declarations in Full's style, of trees that both grammars have and of shapes.
use Rattle.std.specs.Prelude.{ℕ, List, [], ◌∷◌, ◌+◌, ◌≡◌, true, false, codes}
use Prim.Native.String.{String}
use Rattle.msvc_nodes.specs.Trees.{NameTree, NameTrees, TypeTree, TypeTrees, spelled, operator, template, nested, names}
use Rattle.msvc_nodes.specs.Trees.{no_names, types, no_types, base, tagged, pointing, function, member_function}
use Rattle.msvc_nodes.specs.Trees.{variable}
use Rattle.msvc_nodes.specs.Trees.{plain, shape, shaped}
use Rattle.msvc_nodes.specs.declared.kinds.PlainType.TheVariants as plain_kind
use Rattle.msvc_nodes.specs.declared.kinds.PrimitiveKind.TheVariants.{Int, Void, Char}
use Rattle.msvc_nodes.specs.declared.kinds.Convention.TheVariants.{Cdecl, Thiscall, Swift}
use Rattle.msvc_nodes.specs.declared.kinds.PointerAffinity.TheVariants.{Pointer}
use Rattle.msvc_nodes.specs.declared.kinds.TagKind.TheVariants.{Alias, Struct, Union}
use Rattle.msvc_nodes.specs.declared.kinds.VarStorageKind.TheVariants.{Global, PublicStatic}
use Rattle.msvc_nodes.specs.declared.kinds.Spelling.TheVariants.{Source}
use Rattle.msvc_nodes.specs.declared.kinds.PlainOperator.TheVariants as op
use Rattle.msvc_nodes.specs.declared.nodes.Number.{Number}
use Rattle.msvc_shapes.specs.Rows as rows
use Rattle.msvc_print.specs.Declaration.{declaration}
use Rattle.msvc_print.specs.Flags.{full_style}
use Rattle.msvc_print.specs.Flags as flags
use Rattle.msvc_print.specs.NamePlaces.{name_place}

-- the declaration of a symbol of this name, scope and type in Full's style, under these flags, is this text
abbrev pub IsFullText : ℕ → NameTree → NameTrees → TypeTree → String → Type 0
IsFullText flags n scope t text =
    declaration (record { name = n; scope = scope; symbol_type = t }) (flags + full_style) ≡ codes text

-- in this declaration the name of the symbol stands at this place
abbrev pub IsPlaced : ℕ → NameTree → NameTrees → TypeTree → (start end : ℕ) → Type 0
IsPlaced flags n scope t start end =
    name_place (record { name = n; scope = scope; symbol_type = t }) (flags + full_style)
    ≡ record { start = start; end = end }

-- a source name
abbrev pub source : String → NameTree
source text = spelled Source (codes text)

-- `int`
abbrev pub int : TypeTree
int = base Int 0

-- the parameters of a function that is given nothing
abbrev pub void : TypeTrees
void = types (base Void 0) no_types

-- a pointer with qualifiers
abbrev pub pointer : TypeTree → ℕ → TypeTree
pointer t q = pointing Pointer t q

-- a function that returns nothing
abbrev pub function_of : TypeTrees → TypeTree
function_of ts = function Cdecl ts 0 (base Void 0)

-- `int *`
abbrev pub int_pointer : TypeTree
int_pointer = pointer int 0

-- a pointer to a function that returns `int *`
abbrev pub pointer_to_function : TypeTrees → TypeTree
pointer_to_function ts = pointer (function Cdecl ts 0 int_pointer) 0

-- a number with and without a minus
abbrev pub plus : ℕ → Number
plus n = record { is_negative = false; value = n }

abbrev pub minus : ℕ → Number
minus n = record { is_negative = true; value = n }

-- the class C as a symbol without a type
abbrev pub class_c : NameTree
class_c = nested (source "C") no_names (plain plain_kind.None)

-- an array of `int` with these lengths
abbrev pub levels : List Number → TypeTree
levels lengths = shape rows.arrays 0 lengths [] no_names (types int no_types)

-- A with one argument, in place of a type
abbrev pub alias_of : TypeTree → TypeTree
alias_of t = tagged Alias (template (source "A") (types t no_types)) no_names 0

-- a number as a value
abbrev pub number_of : ℕ → TypeTree
number_of n = shape rows.integer 0 (plus n ∷ []) [] no_names no_types

-- values in braces, and a value of the class S with these members
abbrev pub values_of : TypeTrees → TypeTree
values_of ts = shape rows.values 0 [] [] no_names ts

abbrev pub value_of : TypeTrees → TypeTree
value_of ts =
    shape rows.aggregate 0 [] [] no_names (types (tagged Struct (source "S") no_names 0) (types (values_of ts)
    no_types))

-- a member function of this class that returns `int`, in a shape of a row with these numbers
abbrev pub around_function : ℕ → ℕ → List Number → TypeTree
around_function row class zs = shape row 0 zs [] no_names (types (member_function class Cdecl void 0 int) no_types)

pub record AreFullTexts : Type 0 where
  pub pointer_to_pointer : IsFullText 0xe00400 (source "f") no_names
      (function_of (types (pointer (pointer (base Char 1) 0) 0) no_types)) "void __cdecl f(char const **)"
  pub spaced_pointers : IsFullText 0x800000 (source "f") no_names
      (function_of (types (pointer (pointer (base Char 1) 0) 0) no_types)) "void __cdecl f(char const * *)"
  pub hugged_pointers : IsFullText 0x400000 (source "f") no_names
      (function_of (types (pointer (pointer (base Char 1) 0) 0) no_types)) "void __cdecl f(char const**)"
  pub restrict_apart : IsFullText 0x0 (source "f") no_names (function_of (types (pointer (base Int 1) 97) no_types))
      "void __cdecl f(int const * const __restrict)"
  pub restrict : IsFullText 0xe00400 (source "f") no_names (function_of (types (pointer (base Int 1) 97) no_types))
      "void __cdecl f(int const *const __restrict)"
  pub unaligned : IsFullText 0xe00400 (source "f") no_names (function_of (types (pointer (pointer int 16) 16) no_types))
      "void __cdecl f(int __unaligned *__unaligned *)"
  pub pointer_to_swift : IsFullText 0xe00400 (source "p") no_names
      (variable (pointer (function Swift void 0 (base Void 0)) 0) Global 0)
      "void (__attribute__((__swiftcall__))  *p)(void)"
  pub swift : IsFullText 0xe00400 (source "f") no_names (function Swift void 0 (base Void 0))
      "void __attribute__((__swiftcall__)) f(void)"
  pub no_convention : IsFullText 0x2 (source "f") no_names (function Swift void 0 (base Void 0)) "void f(void)"
  pub pointer_without_convention : IsFullText 0x2 (source "p") no_names
      (variable (pointer (function Swift void 0 (base Void 0)) 0) Global 0) "void (*p)(void)"
  pub noexcept_stays : IsFullText 0x60 (source "f") (names (source "C") no_names) (member_function 1 Cdecl void 705 int)
      "public: int __cdecl C::f(void) noexcept"
  pub llvm_no_convention : IsFullText (0xe00400 + flags.llvm_no_convention) (source "f") no_names (function_of void)
      "void f(void)"
  pub pointer_keeps_its_convention : IsFullText (0xe00400 + flags.llvm_no_convention) (source "p") no_names
      (variable (pointer (function_of void) 0) Global 0) "void (__cdecl *p)(void)"
  pub llvm_no_return : IsFullText (0xe00400 + flags.llvm_no_return) (source "f") no_names
      (function Cdecl void 0 (pointer (function_of void) 0)) "__cdecl f(void)"
  pub local_name_keeps_its_function : IsFullText (0xe00400 + flags.llvm_no_return) (source "x")
      (names (nested (source "f") no_names (function_of void)) no_names) (variable int Global 0)
      "int `void __cdecl f(void)'::x"
  pub llvm_no_access : IsFullText (0xe00400 + flags.llvm_no_access) (source "x") (names (source "C") no_names)
      (variable int PublicStatic 0) "static int C::x"
  pub llvm_no_member : IsFullText (0xe00400 + flags.llvm_no_member) (source "x") (names (source "C") no_names)
      (variable int PublicStatic 0) "public: int C::x"
  pub llvm_no_variable : IsFullText (0xe00400 + flags.llvm_no_variable) (source "x") (names (source "C") no_names)
      (variable int PublicStatic 0) "public: static C::x"
  pub const_before_reference : IsFullText 0xe00400 (source "f") (names (source "C") no_names)
      (member_function 1 Cdecl void 193 int) "public: int __cdecl C::f(void) const &"
  pub unaligned_last : IsFullText 0xe00400 (source "f") (names (source "C") no_names)
      (member_function 1 Thiscall void 18 (base Void 0)) "public: void __thiscall C::f(void) volatile __unaligned"
  pub wide : IsFullText 0x1e00400 (source "f") (names (source "C") no_names)
      (member_function 1 Cdecl void 97 (base Void 0)) "public: void __cdecl C::f(void) const __ptr64 __restrict"
  pub pointer_to_noexcept : IsFullText 0xe00400 (source "f") no_names
      (function_of (types (pointer (function Cdecl void 512 int) 0) no_types))
      "void __cdecl f(int (__cdecl *)(void) noexcept)"
  pub extern_c_function : IsFullText 0xe00400 (source "f") no_names (member_function 264 Cdecl void 0 (base Void 0))
      "extern \"C\" void __cdecl f(void)"
  pub function_argument : IsFullText 0xe00400 (source "x") no_names
      (variable (tagged Struct (template (source "S") (types (function Cdecl void 0 int) no_types)) no_names 0) Global
      0) "struct S<int __cdecl(void)> x"
  pub argument_without_convention : IsFullText 0x2 (source "x") no_names
      (variable (tagged Struct (template (source "S") (types (function Cdecl void 0 int) no_types)) no_names 0) Global
      0) "struct S<int (void)> x"
  pub qualified_function_argument : IsFullText 0xe00400 (source "x") no_names
      (variable (tagged Struct (template (source "S") (types (function Cdecl void 193 int) no_types)) no_names 0)
      Global 0) "struct S<int __cdecl(void) const &> x"
  pub templates_close_alone : IsFullText 0x0 (source "x") no_names
      (variable
      (tagged Struct
      (template (source "A")
      (types (tagged Struct (template (source "B") (types int no_types)) no_names 0) no_types))
      no_names 0)
      Global 0) "struct A<struct B<int>> x"
  pub variable_qualifiers : IsFullText 0xe00400 (source "x") no_names
      (variable (tagged Struct (source "A") no_names 0) Global 3) "struct A const volatile x"
  pub digit_before_space : IsFullText 0xe00400 (source "x") no_names
      (variable (tagged Struct (source "A1") no_names 0) Global 0) "struct A1 x"
  pub const_pointer : IsFullText 0xe00400 (source "x") no_names (variable (pointer (base Int 1) 1) Global 0)
      "int const *const x"
  pub constructor_template : IsFullText 0xe00400 (template (operator op.Ctor) (types int no_types))
      (names (source "S") no_names) (member_function 1 Cdecl void 64 (plain plain_kind.None))
      "public: __cdecl S::S<int>(void)"
  pub destructor_without_class : IsFullText 0xe00400 (template (operator op.Dtor) (types int no_types)) no_names
      (member_function 1 Cdecl void 64 (plain plain_kind.None)) "public: __cdecl [invalid]<int>(void)"
  pub conversion_template : IsFullText 0xe00400 (template (operator op.Conversion) (types int no_types))
      (names (source "S") no_names) (member_function 1 Cdecl void 64 int)
      "public: int __cdecl S::operator<int> int(void)"
  pub conversion_operator : IsFullText 0xe00400 (operator op.Conversion) (names (source "S") no_names)
      (member_function 1 Cdecl void 64 int) "public: int __cdecl S::operator int(void)"
  pub conversion_to_nothing : IsFullText 0xe00400 (operator op.Conversion) (names (source "S") no_names)
      (member_function 1 Cdecl void 64 (plain plain_kind.None)) "public: __cdecl S::operatorcast(void)"
  pub member_operator : IsFullText 0xe00400 (operator op.EqualEqual) (names (source "S") no_names)
      (member_function 1 Cdecl void 64 int) "public: int __cdecl S::operator==(void)"
  pub free_operator : IsFullText 0xe00400 (operator op.EqualEqual) no_names (function Cdecl void 0 int)
      "int __cdecl operator==(void)"
  pub co_await : IsFullText 0xe00400 (operator op.CoroutineAwait) no_names (function Cdecl void 0 int)
      "int __cdecl operator co_await(void)"
  pub base_table : IsFullText 0xe00400 (operator op.VBTable) (names (source "S") no_names) (plain plain_kind.None)
      "S::`vbtable'"
  pub returned_pointers : IsFullText 0xe00400 (source "h3") no_names
      (function Cdecl
      (types (pointer_to_function (types int_pointer (types int_pointer no_types)))
      (types (pointer_to_function (types int_pointer (types int_pointer no_types)))
      (types int_pointer no_types)))
      0 (pointer_to_function (types int_pointer (types int_pointer no_types))))
      "int * (__cdecl * __cdecl h3(int * (__cdecl *)(int *, int *), int * (__cdecl *)(int *, int *), int *))(int *, int *)"
  pub no_words : IsFullText 0x82 (operator op.Ctor) (names (source "klass") no_names)
      (member_function 1 Cdecl void 0 (plain plain_kind.None)) "klass::klass(void)"
  pub member_pointer : IsFullText 0x600000 (source "x") no_names
      (variable (shape rows.member_pointer 0 [] [] (names class_c no_names) (types int no_types)) Global 0) "int C::*x"
  pub array_levels : IsFullText 0x600000 (source "x") no_names (variable (levels (plus 3 ∷ plus 0 ∷ [])) Global 0)
      "int x[3][]"
  pub pointer_to_array : IsFullText 0x600000 (source "x") no_names
      (variable (pointer (levels (plus 3 ∷ plus 6 ∷ [])) 0) Global 0) "int (*x)[3][6]"
  pub number : IsFullText 0 (source "x") no_names (alias_of (shape rows.integer 0 (plus 5 ∷ []) [] no_names no_types))
      "A<5> x"
  pub minus_nothing : IsFullText 0 (source "x") no_names
      (alias_of (shape rows.integer 0 (minus 0 ∷ []) [] no_names no_types)) "A<-0> x"
  pub placeholder : IsFullText 0 (source "x") no_names
      (alias_of (shape rows.custom 1 [] [] (names (source "B") no_names) no_types)) "A<B const> x"
  pub null_pointer : IsFullText 0 (source "x") no_names (alias_of (shape rows.nullptr 0 [] [] no_names no_types))
      "A<std::nullptr_t> x"
  pub extern_c : IsFullText 0 (source "f") no_names (shape rows.extern_c 0 [] [] no_names no_types) "extern \"C\" f"
  pub extern_c_dropped : IsFullText 0x200 (source "f") no_names (shape rows.extern_c 0 [] [] no_names no_types) "f"
  pub frame : IsFullText 0 (source "x")
      (names
      (shaped rows.frame 0 (plus 2 ∷ []) []
      (names (nested (source "f") no_names (function Cdecl void 0 int)) no_names) no_types)
      no_names)
      (variable int Global 0) "int `int __cdecl f(void)'::`2'::x"
  pub operators_of_shapes : IsFullText 0 (source "x") (names (shaped rows.spaceship 0 [] [] no_names no_types) no_names)
      (tagged Alias (shaped rows.literal_operator 0 [] [] (names (source "_a") no_names) no_types) no_names 0)
      "operator \"\"_a operator<=>::x"
  pub adjustor : IsFullText 0xe00400 (source "f") (names (source "C") no_names)
      (around_function rows.adjustor 161 (plus 4 ∷ [])) "[thunk]: public: virtual int __cdecl C::f`adjustor{4}'(void)"
  pub conversion_of_thunk : IsFullText 0xe00400 (operator op.Conversion) (names (source "C") no_names)
      (around_function rows.adjustor 161 (plus 4 ∷ []))
      "[thunk]: public: virtual int __cdecl C::operator int`adjustor{4}'(void)"
  pub vtordispex : IsFullText 0 (source "f") no_names
      (around_function rows.vtordispex 128 (plus 8 ∷ minus 4 ∷ plus 8 ∷ plus 0 ∷ []))
      "[thunk]: int __cdecl f`vtordispex{8,-4,8,0}'(void)"
  pub table_of_none : IsFullText 0xe00400 (operator op.VFTable) (names (source "A") no_names)
      (shape rows.tables 3 [] [] no_names no_types) "const volatile A::`vftable'"
  pub table_of_two : IsFullText 0xe00400 (operator op.VFTable) (names (source "A") no_names)
      (shape rows.tables 1 [] [] (names class_c (names class_c no_names)) no_types) "const A::`vftable'{for `C's `C'}"
  pub address : IsFullText 0 (source "x") no_names
      (alias_of
      (shape rows.address 0 [] [] (names (nested (source "y") no_names (variable int Global 0)) no_names) no_types))
      "A<&int y> x"
  pub object : IsFullText 0 (source "x") no_names
      (alias_of (shape rows.object 0 [] [] (names class_c no_names) no_types)) "A<C> x"
  pub offsets : IsFullText 0xe00400 (source "x") no_names
      (alias_of (shape rows.offsets 0 (plus 0 ∷ minus 1 ∷ []) [] no_names no_types)) "A<{0, -1}> x"
  pub symbol_offsets : IsFullText 0 (source "x") no_names
      (alias_of (shape rows.symbol_offsets 0 (plus 0 ∷ plus 4 ∷ []) [] (names class_c no_names) no_types))
      "A<{C,0,4}> x"
  pub typed_value : IsFullText 0 (source "x") no_names
      (alias_of
      (shape rows.typed 0 [] [] no_names
      (types (shape rows.integer 0 (plus 5 ∷ []) [] no_names no_types) (types int no_types))))
      "A<5> x"
  pub type_descriptor : IsFullText 0xe00400 (shaped rows.type_descriptor 0 [] [] no_names no_types) no_names
      (variable (pointer int 0) Global 0) "int *`RTTI Type Descriptor'"
  pub locator_hash : IsFullText 0 (shaped rows.md5_locator 0 [] (codes "ab") no_names no_types) no_names
      (plain plain_kind.None) "??@ab@??_R4@"
  pub guard : IsFullText 0 (shaped rows.static_guard 0 (plus 2 ∷ []) [] no_names no_types) (names (source "f") no_names)
      (plain plain_kind.None) "f::`local static guard'{2}"
  pub first_guard : IsFullText 0 (shaped rows.thread_guard 0 (plus 0 ∷ []) [] no_names no_types)
      (names (source "f") no_names) (plain plain_kind.None) "f::`local static thread guard'"
  pub string : IsFullText 0
      (shaped rows.string_literal 0 (plus 3 ∷ plus 104 ∷ plus 105 ∷ plus 0 ∷ []) [] no_names no_types) no_names
      (plain plain_kind.None) "\"hi\""
  pub member_pointer_unaligned : IsFullText 0x600000 (source "x") no_names
      (variable (shape rows.member_pointer 16 [] [] (names class_c no_names) (types int no_types)) Global 0)
      "int __unaligned C::*x"
  pub unaligned_to_array : IsFullText 0xe00400 (source "x") no_names
      (variable (pointer (levels (plus 14 ∷ [])) 16) Global 0) "int __unaligned (*x)[14]"
  pub unaligned_to_function : IsFullText 0xe00400 (source "x") no_names
      (variable (pointer (function Cdecl void 0 (base Void 0)) 16) Global 0) "void __unaligned (__cdecl *x)(void)"
  -- where the name stands: in `void __cdecl A::f(void)`, in `int __unaligned (*x)[14]`, and alone
  pub place_in_a_function : IsPlaced 0xe00400 (source "f") (names (source "A") no_names) (function_of void) 13 17
  pub place_in_a_pointer : IsPlaced 0xe00400 (source "x") no_names
      (variable (pointer (levels (plus 14 ∷ [])) 16) Global 0) 18 19
  pub place_of_a_name_alone : IsPlaced 0x1000 (source "x") (names (source "A") no_names) (variable int Global 0) 0 4
  pub unaligned_member_to_array : IsFullText 0xe00400 (source "x") no_names
      (variable (shape rows.member_pointer 16 [] [] (names class_c no_names) (types (levels (plus 14 ∷ [])) no_types))
      Global 0) "int __unaligned (C::*x)[14]"
  pub descriptor_name : IsFullText 0 (shaped rows.type_descriptor_name 0 [] [] no_names no_types) no_names
      (plain plain_kind.None) "`RTTI Type Descriptor Name'"
  pub displacement : IsFullText 0 (source "m") (names (source "A") no_names)
      (shape rows.displacement 0 [] [] (names class_c no_names) no_types) "A::m{for `C'}"
  pub auto : IsFullText 0xe00400 (source "x") no_names (variable (shape rows.auto 1 [] [] no_names no_types) Global 0)
      "auto const x"
  pub decltype_auto : IsFullText 0 (source "x") no_names
      (variable (shape rows.decltype_auto 0 [] [] no_names no_types) Global 0) "decltype(auto) x"
  pub handle : IsFullText 0xe00400 (source "x") no_names
      (variable (shape rows.handle 1 [] [] no_names (types (tagged Struct (source "A") no_names 0) no_types)) Global 0)
      "struct A ^const x"
  pub unaligned_handle : IsFullText 0 (source "x") no_names
      (variable (shape rows.handle 16 [] [] no_names (types int no_types)) Global 0) "int __unaligned ^x"
  pub handle_to_array : IsFullText 0x600000 (source "x") no_names
      (variable (shape rows.handle 0 [] [] no_names (types (levels (plus 3 ∷ [])) no_types)) Global 0) "int (^x)[3]"
  pub block : IsFullText 0xe00400 (source "x") no_names
      (variable (shape rows.block 0 [] [] no_names (types (function Cdecl void 0 (base Void 0)) no_types)) Global 0)
      "void (__cdecl ^x)(void)"
  pub tracking_reference : IsFullText 0xe00400 (source "x") no_names
      (variable (shape rows.tracking 0 [] [] no_names (types int no_types)) Global 0) "int %x"
  pub interface : IsFullText 0 (source "f")
      (names (shaped rows.interface 0 [] [] (names class_c no_names) no_types) (names (source "A") no_names))
      (plain plain_kind.None) "A::[C]::f"
  pub null_member : IsFullText 0 (source "x") no_names (alias_of (shape rows.null_member 0 [] [] no_names no_types))
      "A<nullptr> x"
  pub absent : IsFullText 0 (source "x") no_names (alias_of (shape rows.absent 0 [] [] no_names no_types)) "A<{}> x"
  pub member_of : IsFullText 0 (source "x") no_names
      (alias_of
      (shape rows.member_of 0 [] [] (names (source "N") (names (source "C") (names (source "m") no_names)))
      no_types))
      "A<&N::C::m> x"
  pub member_of_none : IsFullText 0 (source "x") no_names
      (alias_of (shape rows.member_of 0 [] [] (names (source "m") no_names) no_types)) "A<&m> x"
  pub explicit_this : IsFullText 0xe00400 (source "f") no_names
      (function_of (types (shape rows.explicit_this 0 [] [] no_names (types int_pointer no_types))
      (types int no_types)))
      "void __cdecl f(this int *, int)"
  pub bits : IsFullText 0 (source "x") no_names
      (alias_of (shape rows.float 0 (plus 0x3fa00000 ∷ []) [] no_names no_types)) "A<float{0x3FA00000}> x"
  pub bits_of_nothing : IsFullText 0 (source "x") no_names
      (alias_of (shape rows.bfloat16 0 (plus 0 ∷ []) [] no_names no_types)) "A<__bf16{0x0}> x"
  pub all_bits : IsFullText 0 (source "x") no_names
      (alias_of (shape rows.float128 0 (plus 0xffffffffffffffff ∷ []) [] no_names no_types))
      "A<__float128{0xFFFFFFFFFFFFFFFF}> x"
  pub pin : IsFullText 0xe00400 (source "x") no_names
      (variable (shape rows.pin 1 [] [] no_names (types int_pointer no_types)) Global 0) "cli::pin_ptr<int *> const x"
  pub vector : IsFullText 0xe00400 (source "x") no_names
      (variable (shape rows.cli_array 0 (plus 1 ∷ []) [] no_names (types int no_types)) Global 0) "cli::array<int>^x"
  pub matrix : IsFullText 0xe00400 (source "x") no_names
      (variable (shape rows.cli_array 1 (plus 2 ∷ []) [] no_names (types int no_types)) Global 0)
      "cli::array<int, 2>^ const x"
  pub template_object : IsFullText 0 (source "f")
      (names (shaped rows.template_object 0 [] [] no_names (types (value_of (types (number_of 1) no_types)) no_types))
      no_names)
      (plain plain_kind.None) "struct S{1}::f"
  pub subobject : IsFullText 0xe00400 (source "x") no_names
      (alias_of
      (shape rows.subobject 0 [] [] no_names
      (types
      (shape rows.element 0 (plus 2 ∷ []) [] no_names
      (types
      (shape rows.member 0 [] [] (names (source "m") no_names)
      (types (shape rows.object 0 [] [] (names class_c no_names) no_types) no_types))
      no_types))
      no_types)))
      "A<&C.m[2]> x"
  pub aggregate : IsFullText 0 (source "x") no_names
      (alias_of
      (value_of
      (types (number_of 1)
      (types (values_of (types (number_of 2) (types (number_of 3) no_types)))
      (types (shape rows.absent 0 [] [] no_names no_types) no_types)))))
      "A<struct S{1,{2,3},{}}> x"
  pub spaced_aggregate : IsFullText 0x200000 (source "x") no_names
      (alias_of (value_of (types (number_of 1) (types (number_of 2) no_types)))) "A<struct S{1, 2}> x"
  pub empty_aggregate : IsFullText 0 (source "x") no_names (alias_of (value_of no_types)) "A<struct S{}> x"
  pub empty_union : IsFullText 0 (source "x") no_names
      (alias_of (shape rows.empty_union 0 [] [] no_names (types (tagged Union (source "U") no_names 0) no_types)))
      "A<union U{}> x"
  pub union_value : IsFullText 0 (source "x") no_names
      (alias_of
      (shape rows.union_value 0 [] [] (names (source "m") no_names)
      (types (tagged Union (source "U") no_names 0) (types (number_of 5) no_types))))
      "A<union U{.m = 5}> x"
