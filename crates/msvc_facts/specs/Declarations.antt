-- Symbols and the declarations of their trees, under the flags that each group is about.
use Rattle.std.specs.Prelude.{ℕ, List, [], ◌∷◌, ◌≡◌, codes, false, map, true, Bool}
use Prim.Native.String.{String}
use Rattle.msvc_nodes.specs.Trees.{TypeTree, base, function, member_function, no_names, no_types, pointing, spelled}
use Rattle.msvc_nodes.specs.Trees.{types}
use Rattle.msvc_nodes.specs.declared.kinds.PrimitiveKind.TheVariants.{Int, Void}
use Rattle.msvc_nodes.specs.declared.kinds.Convention.TheVariants.{Cdecl, _Regcall}
use Rattle.msvc_nodes.specs.declared.kinds.PointerAffinity.TheVariants.{Pointer}
use Rattle.msvc_nodes.specs.declared.kinds.Spelling.TheVariants.{Source}
use Rattle.msvc_print.specs.Declaration.{declaration}
use Rattle.msvc_print.specs.Pieces.{is_written_after, resolve, space, text}
use Rattle.msvc_print.specs.declared.spaces.Space.{Space}
use Rattle.msvc_print.specs.declared.spaces.Space.TheVariants.{AfterAngle, AfterPointer, AfterReference, AfterWord}
use Rattle.msvc_print.specs.declared.spaces.Space.TheVariants.{UnlessOpen}
use Rattle.msvc_facts.specs.Symbols.{IsShown}

-- whether the space is written after each of a letter, `>`, `)`, `&`, `*`, a space, `(` and a digit
abbrev IsAfter : Space → List Bool → Type 0
IsAfter s answers = map (is_written_after s) (codes "a>)&* (1") ≡ answers

pub record AreSpaces : Type 0 where
  pub after_pointer :
      IsAfter AfterPointer (true ∷ true ∷ true ∷ true ∷ true ∷ false ∷ false ∷ false ∷ [])
  pub after_reference :
      IsAfter AfterReference (true ∷ true ∷ true ∷ true ∷ false ∷ false ∷ false ∷ false ∷ [])
  pub after_word : IsAfter AfterWord (true ∷ true ∷ true ∷ false ∷ false ∷ false ∷ false ∷ false ∷ [])
  pub unless_open : IsAfter UnlessOpen (true ∷ true ∷ true ∷ true ∷ true ∷ false ∷ false ∷ true ∷ [])
  pub after_angle : IsAfter AfterAngle (false ∷ true ∷ false ∷ false ∷ false ∷ false ∷ false ∷ false ∷ [])
  -- at the start there is no byte that a space could stand after
  pub at_the_start : resolve (space AfterPointer ∷ text (codes "x") ∷ []) ≡ codes "x"
  pub opens_at_the_start : resolve (space UnlessOpen ∷ text (codes "x") ∷ []) ≡ codes " x"
  -- a space depends on the byte before it, whatever piece has this byte
  pub once : resolve (text (codes "a") ∷ space AfterWord ∷ space AfterPointer ∷ text [] ∷ space AfterWord
      ∷ text (codes "b") ∷ []) ≡ codes "a b"

-- the declaration of a symbol without a scope, under no flag
abbrev declaration_of : String → TypeTree → List ℕ
declaration_of name t =
    declaration (record { name = spelled Source (codes name); scope = no_names; symbol_type = t }) 0

-- trees that no text gives: a convention without a letter, and a pointer to a member function without a class
pub record AreDeclarations : Type 0 where
  pub register_call :
      declaration_of "f" (function _Regcall no_types 0 (base Void 0)) ≡ codes "void __regcall f()"
  pub classless :
      declaration_of "x" (pointing Pointer (member_function 1 Cdecl (types (base Void 0) no_types) 1 (base Int 0)) 0)
      ≡ codes "int (__cdecl *x)(void) const"

pub record AreNames : Type 0 where
  -- no space stands between a digit and a name
  pub digit : IsShown 0 "?x@@3VA1@@A" "class A1x"
  pub empty : IsShown 0 "?@@3HA" "int "
  pub template : IsShown 0 "?x@@3V?$A@V?$B@H@@@@A" "class A<class B<int> > x"
  pub interface : IsShown 0x800 "?b@a@?QNs@@@YA?DDJ@Z" "char const volatile __cdecl [Ns]::a::b(long)"
  pub constructor : IsShown 0 "??0klass@@QEAA@XZ" "public: __cdecl klass::klass(void)"
  pub without_a_class : IsShown 0 "??0@" "[invalid]"
  pub destructor : IsShown 0 "??1?$nsAutoPtr@$$CBVtxXPathNode@@@@QAE@XZ"
      "public: __thiscall nsAutoPtr<class txXPathNode const>::~nsAutoPtr<class txXPathNode const>(void)"
  pub conversion : IsShown 0 "??BA@@QEAAHXZ" "public: int __cdecl A::operator int(void)"
  pub operator : IsShown 0 "??_0klass@@QEAAHH@Z" "public: int __cdecl klass::operator/=(int)"
  pub no_conversion : IsShown 0 "??B@" "operatorcast"
  pub literal : IsShown 0 "??__K_deg@ns@@YAHO@Z" "int __cdecl operator \"\"ns::_deg(long double)"
  pub await : IsShown 0 "??__L@YAXXZ" "void __cdecl  co_await(void)"
  pub guard : IsShown 0 "??_B?1??f@@YAXXZ@51" "`void __cdecl f(void)'::`2'::`local static guard'{2}"
  pub numbered_guard : IsShown 0 "?$TSS0@x@ns@@4HA" "TSS0ns::x"
  pub last_guard : IsShown 0 "?$TSS2147483647@x@@4HA" "TSS2147483647x"
  pub thread_guard : IsShown 0 "??__J?A@??f@@YAAAUS@@XZ@5BB@"
      "`struct S & __cdecl f(void)'::`anonymous namespace'::`local static thread guard'{17}"
  pub no_index : IsShown 0 "??_B?1??f@@YAXXZ@5" "`void __cdecl f(void)'::`2'::`local static guard'"
  pub alone : IsShown 0 "?$f@PAHPAH" "f<int *,int *>"
  pub static_member : IsShown 0 "?cached@?1??GetLong@BinaryPath@mozilla@@SA?AW4nsresult@@QA_W@Z@4_NA"
      "bool `public: static enum nsresult __cdecl mozilla::BinaryPath::GetLong(wchar_t * const)'::`2'::cached"
  pub type_descriptor : IsShown 0 "??_R0?AH@8" "int::`RTTI Type Descriptor'"
  pub base_class : IsShown 0xE00400 "??_R1A@?0A@EA@U@i@@8" "i::U::`RTTI Base Class Descriptor at (0, -1, 0, 64)'"
  pub hash : IsShown 0xFFFFFFFF "??@8ba8d245c9eca390356129098dbe9f73@?x" "??@8ba8d245c9eca390356129098dbe9f73@"

pub record AreTypes : Type 0 where
  pub arrays : IsShown 0 "?x@@3PEAY1NKM@5HEA" "int (*x)[3500][6]"
  -- each level of an array has the qualifiers of the whole array
  pub levels : IsShown 0 "?x@@3PAY123$$CBHA" "int const const (*x)[3][4]"
  pub array_of_parameters : IsShown 0 "?g@@YAHQAY0EA@$$CBH@Z" "int __cdecl g(int const (* const)[64])"
  pub reference : IsShown 0 "?x@@3$$QAY02HA" "int (&& x)[3]"
  pub negative : IsShown 0 "?x@@3PAY0?0HA" "int (*x)[-1]"
  pub wraps : IsShown 0 "?x@@3?IAAAAAAA@A" "`template-parameter-2147483648'x"
  pub functions : IsShown 0 "?x@@3P6AHP6AHM@Z0@ZEA" "int (__cdecl *x)(int (__cdecl *)(float),int (__cdecl *)(float))"
  pub member_pointer : IsShown 0 "?x@@3P8A@@EBAXXZA" "void (__cdecl A::*x)(void) const"
  -- a digit prints its entry unchanged, whatever qualifiers stand before the digit
  pub digit : IsShown 0 "?f@@YAXPAHPB0@Z" "void __cdecl f(int *,int * *)"
  -- a type of one byte enters no table
  pub one_byte : IsShown 0 "?f@@YAXHPAH0@Z" "void __cdecl f(int,int *,int *)"
  -- a $ is dropped, and counts as a byte
  pub dollar : IsShown 0 "?f@@YAX$X0@Z" "void __cdecl f(void,void)"
  pub ellipsis : IsShown 0 "?f@@YAXHZZ" "void __cdecl f(int,...)"
  pub none : IsShown 0 "?f@@YAX@Z" "void __cdecl f()"
  pub of_return : IsShown 0 "?f@@YA?BHXZ" "int const __cdecl f(void)"
  pub thunk : IsShown 0 "?f@A@@GBA@AEHXZ" "[thunk]: private: virtual int __thiscall A::f(void)"
  pub qualifiers : IsShown 0 "?foo@A@PR19361@@QIHAEXXZ" "public: void __thiscall PR19361::A::foo(void) __restrict &&"
  pub more_qualifiers : IsShown 0 "?f@A@@QEGDAXXZ" "public: void __cdecl A::f(void) const volatile &"
  pub table : IsShown 0 "??_7A@@6BB@C@@" "const A::`vftable'{for `C::B'}"
  pub bases : IsShown 0 "??_8A@@7BB@@" "const A::`vbtable'{for `B'}}"
  pub virtual_call : IsShown 0 "??_9nsDocument@@$BDMI@AE" "[thunk]: __thiscall nsDocument::`vcall'{968,{flat}}"
  pub union : IsShown 0 "?x@@3TA@@A" "union A x"
  pub private : IsShown 0 "?x@A@@0HA" "private: static int A::x"
  pub protected : IsShown 0 "?f@A@@KAXXZ" "protected: static void __cdecl A::f(void)"
  pub pointers : IsShown 0 "?f@@YAXBAHQAHRAHSAH@Z"
      "void __cdecl f(int & volatile,int * const,int * volatile,int * const volatile)"
  pub stdcall : IsShown 0 "??_I@YGXPAXIIP6EX0@Z@Z"
      "void __stdcall `vector destructor iterator'(void *,unsigned int,unsigned int,void (__thiscall *)(void *))"
  -- the return type of a function that is pointed to may have any storage class after its ?, or none
  pub pointed_return : IsShown 0 "?x@@3P6A?RHXZA" "int const (__cdecl *x)(void)"
  pub no_class : IsShown 0 "?x@@3P6A?MXZA" "float (__cdecl *x)(void)"

-- types that stand among the arguments of a template
pub record AreTemplateArguments : Type 0 where
  pub reference_to_function : IsShown 0 "??$?RA6AXXZ$$V@SkOnce@@QAEXA6AXXZ@Z"
      "public: void __thiscall SkOnce::operator()<void (__cdecl &)(void)>(void (__cdecl &)(void))"
  pub function : IsShown 0 "??B?$function@$$A6AXXZ@std@@QBE_NXZ"
      "public: bool __thiscall std::function<void __cdecl (void)>::operator bool(void) const"
  pub qualified_function : IsShown 0 "??$f@$$A8@@GDAXXZ@@YAXXZ"
      "void __cdecl f<void __cdecl (void) const volatile &>(void)"
  pub member_pointer : IsShown 0 "??$f@$1?g@A@@QEAAXXZ@@YAXXZ"
      "void __cdecl f<void & (__thiscall A::g::*)(void)>(void)"
  pub alias : IsShown 0 "??$f@$$YA@B@@@@YAXXZ" "void __cdecl f<B::A>(void)"
  pub array : IsShown 0 "??$f@$$BY02H@@YAXXZ" "void __cdecl f<int[3]>(void)"
  pub parameter : IsShown 0 "??$f@$D0@@YAXXZ" "void __cdecl f<`template-parameter1'>(void)"
  -- numbers are those of 32 bits with a sign
  pub constants : IsShown 0 "??$f@$00$0?0$0BAAAAAAAB@$0PPPPPPPP@@@YAXXZ" "void __cdecl f<1,-1,1,-1>(void)"
  pub nullptr : IsShown 0 "??4?$RefPtr@VnsRange@@@@QAEAAV0@$$T@Z"
      "public: class RefPtr<class nsRange> & __thiscall RefPtr<class nsRange>::operator=(std::nullptr_t)"
  -- an empty pack is left out before commas are written
  pub empty_pack : IsShown 0 "??$func@H$$ZH@@YAHAEBU?$Foo@H@@0@Z"
      "int __cdecl func<int,int>(struct Foo<int> const &,struct Foo<int> const &)"
  pub empty_packs : IsShown 0 "?$f@$SH$$VI$$ZJ$$$V@" "f<int,unsigned int,long>"

pub record AreFlags : Type 0 where
  pub none : IsShown 0 "?x@@3QEBHEB" "int const * const x"
  pub of_lines : IsShown 0xE00400 "?x@@3QEBHEB" "int const *const x"
  pub hug : IsShown 0x400000 "?x@@3QEBHEB" "int const* const x"
  pub before_pointer : IsShown 0x800000 "?x@@3QEBHEB" "int const *const x"
  pub words : IsShown 0xE00400 "?x@@3PEA_JEA" "__int64*x"
  pub no_words : IsShown 0 "?x@@3_JA" "int64_t x"
  pub comma : IsShown 0xE00400 "?f@@YAXVA@@H@Z" "void __cdecl f(class A, int)"
  pub no_conventions : IsShown 0x2 "?x1@T@@YE$$QEC_UZZ" "char32_t volatile && T::x1(...)"
  pub no_returns : IsShown 0x4 "?x@?1??f@@YAXXZ@3HA" "`f(void)'::`2'::x"
  pub half_of_this : IsShown 0x20 "?foo@A@PR19361@@QIHAEXXZ"
      "public: void __thiscall PR19361::A::foo(void) __restrict &&"
  pub no_this : IsShown 0x60 "?foo@A@PR19361@@QIHAEXXZ" "public: void __thiscall PR19361::A::foo(void)"
  pub no_access : IsShown 0x80 "?f@A@@SAHXZ" "static int __cdecl A::f(void)"
  pub no_member_type : IsShown 0x200 "?f@A@@SAHXZ" "public: int __cdecl A::f(void)"
  pub neither : IsShown 0x280 "?f@A@@SAHXZ" "int __cdecl A::f(void)"
  pub no_words_before : IsShown 0x82 "??0klass@@QEAA@XZ" " klass::klass(void)"
  pub of_a_variable : IsShown 0x280 "?x@A@@2HA" "public: static int A::x"
  pub decoding : IsShown 0x800 "?T@@4P6BNXZC" "double (__cdecl * volatile T)(void)"
  pub name_only : IsShown 0x1000 "?x@?1??f@@YAXXZ@3HA" "`f'::`2'::x"
  pub conversion : IsShown 0x1000 "??BA@@QEAAHXZ" "A::operator int"
  pub no_class : IsShown 0x300000 "?f@@YAXVA@@H@Z" "void __cdecl f(A, int)"
  pub ptr64 : IsShown 0x1000000 "?fn@A@@QEBAHXZ" "public: int __cdecl A::fn(void) const __ptr64"
