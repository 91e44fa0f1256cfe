-- What digits refer to: what enters the tables of names and of types, which begin with the entry 0.
use Rattle.std.specs.Prelude.{ℕ, List, ◌≡◌, codes, replicate}
use Prim.Native.String.{String}
use Rattle.msvc_nodes.specs.Trees.{NameTree, base, spelled}
use Rattle.msvc_nodes.specs.declared.kinds.PrimitiveKind.{PrimitiveKind}
use Rattle.msvc_nodes.specs.declared.kinds.PrimitiveKind.TheVariants.{Char, Int}
use Rattle.msvc_nodes.specs.declared.kinds.Spelling.TheVariants.{Source}
use Rattle.msvc_rules.specs.State.{Entry, with_name, with_type}
use Rattle.msvc_rules.specs.Written.{written_out}
use Rattle.msvc_facts.specs.Symbols.{IsRefused, IsShown}

abbrev Shows : String → String → Type 0
Shows text declared = IsShown 0 text declared

abbrev named : String → NameTree
named text = spelled Source (codes text)

abbrev entry_of : PrimitiveKind → Entry
entry_of kind = record { entered = base kind 0; start = 0; end = 2 }

-- a table of ten entries
abbrev ten : {A : Type 0} → A → List A
ten entry = replicate 10 entry

pub record AreNameReferences : Type 0 where
  -- a name that is equal to an entry does not enter again; any other name does
  pub equal : Shows "?a@a@b@1@3HA" "int b::b::a::a"
  -- a source name and an interface with the same text are two names
  pub interface : Shows "?a@?Qa@@1@3HA" "int [a]::[a]::a"
  pub eleventh : Shows "?a@b@c@d@e@f@g@h@i@j@k@09@3HA" "int j::a::k::j::i::h::g::f::e::d::c::b::a"
  pub full : with_name (named "b") (ten (named "a")) ≡ ten (named "a")
  pub anonymous : Shows "?x@?A0xab@1@3HA" "int `anonymous namespace'::`anonymous namespace'::x"
  pub without_0x : Shows "?x@?A@y@1@3HA" "int y::y::`anonymous namespace'::x"
  -- a template in a scope enters whole; a template that is the symbol's name does not enter
  pub template : Shows "?x@?$A@H@1@3HA" "int A<int>::A<int>::x"
  pub own_template : Shows "??$f@H@a@0@YAXXZ" "void __cdecl a::a::f<int>(void)"
  -- a template begins with an empty table; after it the table is that from before it
  pub in_template : Shows "?x@y@?$A@VB@@V1@@1@3HA" "int y::A<class B,class B>::y::x"
  pub outside : IsRefused "?x@y@?$A@V1@@@3HA"
  pub own_name : Shows "?x@y@?$A@V0@@0@3HA" "int x::A<class A>::y::x"
  pub special_name : Shows "??0a@0@QAE@XZ" "public: __thiscall a::a::a(void)"
  -- a symbol inside a scope has no table of its own
  pub nested : Shows "?x@?1??f@@YAXXZ1@3HA" "int f::`void __cdecl f(void)'::`2'::x"

pub record AreTypeReferences : Type 0 where
  -- a type that is equal to an entry does not enter again; any other type does
  pub equal : Shows "?f@@YAXPAHPAHPAD1@Z" "void __cdecl f(int *,int *,char *,char *)"
  -- types are equal if their trees are, whatever their bytes
  pub other_bytes : Shows "?f@@YAXPAVa@@PAV1@PAD1@Z" "void __cdecl f(class a *,class a *,char *,char *)"
  pub qualifiers : Shows "?f@@YAXPAHPBH1@Z" "void __cdecl f(int *,int const *,int const *)"
  pub mark : Shows "?f@@YAX$$QAHAAH1@Z" "void __cdecl f(int &&,int &,int &)"
  pub eleventh : Shows "?f@@YAXPADPAFPAHPAJPAMPANPAX_N_J_W_K09@Z"
      "void __cdecl f(char *,short *,int *,long *,float *,double *,void *,bool,int64_t,wchar_t,uint64_t,char *,wchar_t)"
  pub full : with_type (entry_of Char) (ten (entry_of Int)) ≡ ten (entry_of Int)
  pub one_byte : Shows "?f@@YAXHPADI0@Z" "void __cdecl f(int,char *,unsigned int,char *)"
  pub digit : Shows "?f@@YAXPAH0PAD1@Z" "void __cdecl f(int *,int *,char *,char *)"
  -- what is returned or pointed to is no parameter
  pub returned : Shows "?f@@YAPAHPAD0@Z" "int * __cdecl f(char *,char *)"
  pub pointee : Shows "?f@@YAXPAPAHPAD1@Z" "void __cdecl f(int * *,char *,char *)"
  -- a parameter of a function type that is a parameter enters before this function type
  pub inner : Shows "?f@@YAXP6AXPAH@Z0@Z" "void __cdecl f(void (__cdecl *)(int *),int *)"
  pub whole : Shows "?f@@YAXP6AXPAH@Z1@Z" "void __cdecl f(void (__cdecl *)(int *),void (__cdecl *)(int *))"
  -- a template begins with an empty table; after it the table is that from before it
  pub in_template : Shows "?f@@YAXPAHV?$A@PAD0@@01@Z"
      "void __cdecl f(int *,class A<char *,char *>,int *,class A<char *,char *>)"
  pub outside : IsRefused "?f@@YAXPAHV?$A@0@@@Z"

-- the text in which the digit at a place is written out, by the bytes from start to end
abbrev IsWrittenOut : (text : String) (at start end : ℕ) (written : String) → Type 0
IsWrittenOut text at start end written =
    written_out (codes text) (record { at = at; start = start; end = end }) ≡ codes written

pub record AreWrittenOut : Type 0 where
  pub pointer : IsWrittenOut "?f@@YAXPAH0@Z" 10 7 10 "?f@@YAXPAHPAH@Z"
  pub function : IsWrittenOut "?x@@3P6AHP6AHM@Z0@ZEA" 16 9 16 "?x@@3P6AHP6AHM@ZP6AHM@Z@ZEA"
  pub last : IsWrittenOut "?$f@PAH0" 7 4 7 "?$f@PAHPAH"
