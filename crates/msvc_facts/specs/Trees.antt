-- Trees of symbols, each with the bytes that are left after it and the digits that stand for whole parameters.
use Rattle.std.specs.Prelude.{ℕ, pos, negsuc, List, [], ◌∷◌, None, Some, codes, replicate}
use Prim.Native.String.{String}
use Rattle.msvc_nodes.specs.Trees.{NameTree, SymbolTree, TypeTree, md5_symbol, name_trees, no_names, type_trees}
use Rattle.msvc_nodes.specs.Trees.{base_class_descriptor, discriminator, guard, nested, operator, spelled, template}
use Rattle.msvc_nodes.specs.Trees.{array, base, constant_string, function, member_function, member_pointer, numbered}
use Rattle.msvc_nodes.specs.Trees.{plain, pointing, variable}
use Rattle.msvc_nodes.specs.declared.kinds.PrimitiveKind.TheVariants.{Int, Void}
use Rattle.msvc_nodes.specs.declared.kinds.Convention.TheVariants.{Cdecl, Thiscall}
use Rattle.msvc_nodes.specs.declared.kinds.Guard.TheVariants.{Static}
use Rattle.msvc_nodes.specs.declared.kinds.PointerAffinity.TheVariants.{Pointer}
use Rattle.msvc_nodes.specs.declared.kinds.NumberedType.TheVariants.{ThreadSafeGuard}
use Rattle.msvc_nodes.specs.declared.kinds.PlainOperator.TheVariants as plain_operator
use Rattle.msvc_nodes.specs.declared.kinds.PlainType.TheVariants as plain_kind
use Rattle.msvc_nodes.specs.declared.kinds.Spelling.TheVariants.{Source}
use Rattle.msvc_nodes.specs.declared.kinds.VarStorageKind.TheVariants.{Global}
use Rattle.msvc_rules.specs.State.{Note}
use Rattle.msvc_facts.specs.Symbols.{IsCounted, IsRefused, IsTree}

-- a source name
abbrev named : String → NameTree
named text = spelled Source (codes text)

-- a symbol with this name, this scope and this type
abbrev symbol_of : NameTree → List NameTree → TypeTree → SymbolTree
symbol_of n scope t = record { name = n; scope = name_trees scope; symbol_type = t }

-- a pointer without qualifiers
abbrev pointer_to : TypeTree → TypeTree
pointer_to t = pointing Pointer t 0

-- the note of a digit at this place, which stands for the bytes from start to end
abbrev note_of : (at start end : ℕ) → Note
note_of at start end = record { at = at; start = start; end = end }

-- the symbol of a string of these bytes
abbrev string_of : List ℕ → SymbolTree
string_of bytes = symbol_of (operator plain_operator.String) [] (constant_string bytes)

-- a function without parameters that returns nothing
abbrev procedure : TypeTree
procedure = function Cdecl (type_trees (base Void 0 ∷ [])) 0 (base Void 0)

pub record AreTrees : Type 0 where
  -- E is read before the qualifiers of what is pointed to (64), and after the type it is a storage class (4)
  pub pointer : IsTree "?x@@3PEBHEB"
      (symbol_of (named "x") [] (variable (pointer_to (base Int 65)) Global 4)) "B" []
  -- a digit stands for the type of a whole parameter, and is noted with the bytes of this type
  pub parameters : IsTree "?f@@YAXPAH0@Z"
      (symbol_of (named "f") []
      (function Cdecl (type_trees (pointer_to (base Int 0) ∷ pointer_to (base Int 0) ∷ [])) 0 (base Void 0)))
      "" (note_of 10 7 10 ∷ [])
  -- a digit is noted with the bytes of the first of two equal types
  pub again : IsTree "?f@@YAXPAHPAH0@Z"
      (symbol_of (named "f") [] (function Cdecl (type_trees (pointer_to (base Int 0) ∷ pointer_to (base Int 0)
      ∷ pointer_to (base Int 0) ∷ [])) 0 (base Void 0)))
      "" (note_of 13 7 10 ∷ [])
  -- each level of an array has the qualifiers of the whole array
  pub arrays : IsTree "?x@@3PAY01$$CCHA"
      (symbol_of (named "x") [] (variable (pointer_to (array (pos 2) (base Int 0) 3)) Global 0)) "" []
  -- a thunk has a number, which is dropped
  pub thunk : IsTree "?f@A@@GBA@AEHXZ"
      (symbol_of (named "f") (named "A" ∷ [])
      (member_function 164 Thiscall (type_trees (base Void 0 ∷ [])) 0 (base Int 0))) "" []
  -- a digit stands for the number that is one larger; letters are digits to base 16
  pub descriptor : IsTree "??_R1A@?0A@EA@U@i@@8"
      (symbol_of (base_class_descriptor (pos 0) (negsuc 0) (pos 0) (pos 64)) (named "U" ∷ named "i" ∷ [])
      (plain plain_kind.Rtti)) "" []
  -- the index of a guard stands after its marker, and is absent at the end of the text
  pub no_index : IsTree "??_B?1??f@@YAXXZ@4IA"
      (symbol_of (guard Static None) (discriminator (pos 2) ∷ nested (named "f") no_names procedure ∷ [])
      (plain plain_kind.None)) "" []
  pub guard : IsTree "??_B?1??f@@YAXXZ@51"
      (symbol_of (guard Static (Some 2)) (discriminator (pos 2) ∷ nested (named "f") no_names procedure ∷ [])
      (plain plain_kind.None)) "" []
  pub numbered_guard : IsTree "?$TSS0@x@ns@@4HA"
      (symbol_of (named "x") (named "ns" ∷ []) (numbered ThreadSafeGuard (pos 0))) "" []
  pub last_guard : IsTree "?$TSS2147483647@x@@4HA"
      (symbol_of (named "x") [] (numbered ThreadSafeGuard (pos 2147483647))) "" []
  pub hash : IsTree "??@8ba8d245c9eca390356129098dbe9f73@?x" (md5_symbol (codes "8ba8d245c9eca390356129098dbe9f73"))
      "?x" []
  -- a pointer to a member function has the size of the pointer among its qualifiers
  pub member_pointer : IsTree "?x@@3P8A@@EBAXXZA"
      (symbol_of (named "x") []
      (variable (member_pointer (named "A") no_names 0 Cdecl (type_trees (base Void 0 ∷ [])) 65 (base Void 0))
      Global 0)) "" []
  -- the first number is that of the characters to read; the second number is dropped
  pub string : IsTree "??_C@_02PCEFGMJL@hi?$AA@" (string_of (104 ∷ 105 ∷ 0 ∷ [])) "@" []
  -- at most 32 characters are read, of one byte or of two
  pub long_string : IsTree "??_C@_0CF@A@aaaaaaaaaaaaaaaaaaaaaaaaaaaaaaaaaaaaaaaaaaaaaaaaaaaaaaaaaaaaaaaa"
      (string_of (replicate 32 97)) "aaaaaaaaaaaaaaaaaaaaaaaaaaaaaaaa" []
  pub wide_string : IsTree "??_C@_1EK@A@aaaaaaaaaaaaaaaaaaaaaaaaaaaaaaaaaaaaaaaaaaaaaaaaaaaaaaaaaaaaaaaa"
      (string_of (replicate 64 97)) "" []
  pub no_string : IsTree "??_C@_0?0A@hi" (string_of []) "hi" []
  -- two letters after ?$ are the halves of a byte
  pub bytes : IsTree "??_C@_01A@?$OB?$AA@" (string_of (0xE1 ∷ 0 ∷ [])) "@" []
  -- a template and nothing else is a symbol, and its parameters may end with the text
  pub template : IsTree "?$f@PAH0"
      (symbol_of (template (named "f") (type_trees (pointer_to (base Int 0) ∷ pointer_to (base Int 0) ∷ []))) []
      (plain plain_kind.None)) "" (note_of 7 4 7 ∷ [])

pub record AreCounted : Type 0 where
  pub no_type : IsCounted "?f@@" 2 ""
  pub pointer : IsCounted "?x@@3PEBHEB" 4 "B"
  -- each level of an array is a node
  pub arrays : IsCounted "?x@@3PEAY1NKM@5HEA" 6 "A"
  -- a digit counts for all nodes of its entry
  pub digit : IsCounted "?x@@3P6AHP6AHM@Z0@ZEA" 13 "A"
  pub written_out : IsCounted "?x@@3P6AHP6AHM@ZP6AHM@Z@ZEA" 13 "A"
  pub numbered_guard : IsCounted "?$TSS0@x@ns@@4HA" 3 ""
  pub hash : IsCounted "??@8ba8d245c9eca390356129098dbe9f73@?x" 2 "?x"

pub record AreRefused : Type 0 where
  pub no_question_mark : IsRefused "x"
  pub no_at_sign : IsRefused "?x@"
  pub no_type : IsRefused "?x@@3"
  -- a digit without an entry
  pub no_name : IsRefused "?x@@3V1@A"
  pub no_parameter : IsRefused "?f@@YAX0@Z"
  pub no_dimension : IsRefused "?x@@3PAY?0HA"
  -- the text of a type is not looked for after a $
  pub enumeration : IsRefused "?x@@3$W4a@@A"
  pub marker : IsRefused "?f@@5"
  pub convention : IsRefused "?f@@YDHXZ"
  pub far_array : IsRefused "?x@@3PAY01$$CEHA"
  pub no_end : IsRefused "?f@@YAXHZ"
  pub operator : IsRefused "??_P"
  pub escape : IsRefused "??_C@_02PCEFGMJL@hi?$AQ@"
  pub negative_guard : IsRefused "??__J@5?0"
  pub large_guard : IsRefused "?$TSS2147483648@x@@4HA"
  pub short_hash : IsRefused "??@8ba8d245c9eca390356129098dbe9f7@"
