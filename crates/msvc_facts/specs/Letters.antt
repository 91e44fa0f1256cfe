-- What the tables have. Each fact pins a table whole: its letters or texts in their order, what each stands for, and
-- where that prints words, these words.
use Rattle.std.specs.Prelude.{ℕ, List, [], ◌∷◌, ◌≡◌, None, Some, codes, map}
use Prim.Native.String.{String}
use Rattle.msvc_nodes.specs.declared.kinds.Convention.TheVariants as convention
use Rattle.msvc_nodes.specs.declared.kinds.Guard.TheVariants as guards
use Rattle.msvc_nodes.specs.declared.kinds.PlainOperator.{PlainOperator}
use Rattle.msvc_nodes.specs.declared.kinds.PlainOperator.TheVariants as o
use Rattle.msvc_nodes.specs.declared.kinds.PointerAffinity.TheVariants as mark
use Rattle.msvc_nodes.specs.declared.kinds.PrimitiveKind.{PrimitiveKind}
use Rattle.msvc_nodes.specs.declared.kinds.PrimitiveKind.TheVariants as base
use Rattle.msvc_nodes.specs.declared.kinds.SpecialTableKind.TheVariants as table_kind
use Rattle.msvc_nodes.specs.declared.kinds.TagKind.TheVariants as tag
use Rattle.msvc_nodes.specs.declared.kinds.VarStorageKind.TheVariants as variables
use Rattle.msvc_rules.specs.Sorts.{TypeLetter, arrayed, encoded_string, extended, indexed, member_of, named}
use Rattle.msvc_rules.specs.Sorts.{plain_function, points, referred, table_of, type_information, untyped, variable_of}
use Rattle.msvc_rules.specs.Sorts.{virtual_call}
use Rattle.msvc_grammar.specs.Letters.{alignments, base_types, character_sizes, compound_letters, conventions, digits}
use Rattle.msvc_grammar.specs.Letters.{encoding_letters, escaped_characters, extended_types, function_classes}
use Rattle.msvc_grammar.specs.Letters.{hexadecimal, hexadecimal_codes, plain_characters, pointer_sizes, qualifiers}
use Rattle.msvc_grammar.specs.Letters.{qualifiers_of_arrays, qualifiers_of_returns, reference_qualifiers, restricts}
use Rattle.msvc_grammar.specs.Letters.{special_texts, storage_classes, type_letters, type_texts}
use Rattle.msvc_grammar.specs.declared.forms.SpecialForm.{SpecialForm}
use Rattle.msvc_grammar.specs.declared.forms.SpecialForm.TheVariants as special
use Rattle.msvc_grammar.specs.declared.forms.TypePrefix.TheVariants as form
use Rattle.msvc_print.specs.Functions.{spaced_convention, member_words}
use Rattle.msvc_print.specs.declared.pointed.Pointed.TheVariants.{No}
use Rattle.msvc_print.specs.Operators.{guard_word, operator_word}
use Rattle.msvc_print.specs.Pieces.{resolve}
use Rattle.msvc_print.specs.Words.{base_word, mark_word, tag_word, variable_word}

-- the table has these letters, in this order and no others, and they stand for these values
abbrev IsTable : {A : Type 0} → List (ℕ × A) → String → List A → Type 0
IsTable {A} table letters values =
    (map (λ (r : ℕ × A). r.0) table ≡ codes letters) × (map (λ (r : ℕ × A). r.1) table ≡ values)

-- a text, what it stands for, and the words that this prints
abbrev row : {A : Type 0} → String → A → String → List ℕ × A × List ℕ
row text value words = (codes text, value, codes words)

-- the rows of a table of letters, each with the words that its value prints
abbrev with_words : {A : Type 0} → (A → List ℕ) → List (ℕ × A) → List (List ℕ × A × List ℕ)
with_words {A} word table = map (λ (r : ℕ × A). (r.0 ∷ [], r.1, word r.1)) table

-- each value prints these words
abbrev AreWords : {A : Type 0} → (A → List ℕ) → List A → List String → Type 0
AreWords word values words = map word values ≡ map codes words

-- a letter, a base type, and its words without flags and under MS_TYPENAMES
abbrev type_row : String → PrimitiveKind → String → String → List ℕ × PrimitiveKind × List ℕ × List ℕ
type_row letter kind word microsoft = (codes letter, kind, codes word, codes microsoft)

-- the rows of a table of base types, each with its words without flags and under MS_TYPENAMES
abbrev both_words : List (ℕ × PrimitiveKind) → List (List ℕ × PrimitiveKind × List ℕ × List ℕ)
both_words = map (λ (r : ℕ × PrimitiveKind). (r.0 ∷ [], r.1, base_word r.1 0, base_word r.1 0x400))

-- what a special name prints inside a scope, if that is the same in all symbols
abbrev special_word : SpecialForm → List ℕ
special_word (special.Plain operator) = operator_word operator
special_word (special.Guard guard) = guard_word guard
special_word _ = []

abbrev plain : PlainOperator → SpecialForm
plain operator = special.Plain operator

pub record AreTables : Type 0 where
  -- the words are those inside a scope; a descriptor has none of its own
  pub special_codes : map (λ (r : List ℕ × SpecialForm). (r.0, r.1, special_word r.1)) special_texts ≡
      row "0" (plain o.Ctor) "ctor"
      ∷ row "1" (plain o.Dtor) "dtor"
      ∷ row "2" (plain o.New) "operator new"
      ∷ row "3" (plain o.Delete) "operator delete"
      ∷ row "4" (plain o.Equal) "operator="
      ∷ row "5" (plain o.RShift) "operator>>"
      ∷ row "6" (plain o.LShift) "operator<<"
      ∷ row "7" (plain o.Bang) "operator!"
      ∷ row "8" (plain o.EqualEqual) "operator=="
      ∷ row "9" (plain o.BangEqual) "operator!="
      ∷ row "A" (plain o.Subscript) "operator[]"
      ∷ row "B" (plain o.Conversion) "operatorcast"
      ∷ row "C" (plain o.Arrow) "operator->"
      ∷ row "D" (plain o.Star) "operator*"
      ∷ row "E" (plain o.PlusPlus) "operator++"
      ∷ row "F" (plain o.MinusMinus) "operator--"
      ∷ row "G" (plain o.Minus) "operator-"
      ∷ row "H" (plain o.Plus) "operator+"
      ∷ row "I" (plain o.Amp) "operator&"
      ∷ row "J" (plain o.ArrowStar) "operator->*"
      ∷ row "K" (plain o.Slash) "operator/"
      ∷ row "L" (plain o.Percent) "operator%"
      ∷ row "M" (plain o.Less) "operator<"
      ∷ row "N" (plain o.LessEqual) "operator<="
      ∷ row "O" (plain o.Greater) "operator>"
      ∷ row "P" (plain o.GreaterEqual) "operator>="
      ∷ row "Q" (plain o.Comma) "operator,"
      ∷ row "R" (plain o.Call) "operator()"
      ∷ row "S" (plain o.Tilde) "operator~"
      ∷ row "T" (plain o.Caret) "operator^"
      ∷ row "U" (plain o.Pipe) "operator|"
      ∷ row "V" (plain o.AmpAmp) "operator&&"
      ∷ row "W" (plain o.PipePipe) "operator||"
      ∷ row "X" (plain o.StarEqual) "operator*="
      ∷ row "Y" (plain o.PlusEqual) "operator+="
      ∷ row "Z" (plain o.MinusEqual) "operator-="
      ∷ row "_0" (plain o.SlashEqual) "operator/="
      ∷ row "_1" (plain o.PercentEqual) "operator%="
      ∷ row "_2" (plain o.GreaterGreaterEqual) "operator>>="
      ∷ row "_3" (plain o.LessLessEqual) "operator<<="
      ∷ row "_4" (plain o.AmpEqual) "operator&="
      ∷ row "_5" (plain o.PipeEqual) "operator|="
      ∷ row "_6" (plain o.CaretEqual) "operator^="
      ∷ row "_7" (plain o.VFTable) "`vftable'"
      ∷ row "_8" (plain o.VBTable) "`vbtable'"
      ∷ row "_9" (plain o.VCall) "`vcall'"
      ∷ row "_A" (plain o.Typeof) "`typeof'"
      ∷ row "_C" (plain o.String) "`string'"
      ∷ row "_D" (plain o.VBaseDtor) "`vbase destructor'"
      ∷ row "_E" (plain o.VectorDeletingDtor) "`vector deleting destructor'"
      ∷ row "_F" (plain o.DefaultCtorClosure) "`default constructor closure'"
      ∷ row "_G" (plain o.ScalarDeletingDtor) "`scalar deleting destructor'"
      ∷ row "_H" (plain o.VectorCtorIterator) "`vector constructor iterator'"
      ∷ row "_I" (plain o.VectorDtorIterator) "`vector destructor iterator'"
      ∷ row "_J" (plain o.VectorVBaseCtorIterator) "`vector vbase constructor iterator'"
      ∷ row "_K" (plain o.VirtualDisplacementMap) "`virtual displacement map'"
      ∷ row "_L" (plain o.EHVectorCtorIterator) "`eh vector constructor iterator'"
      ∷ row "_M" (plain o.EHVectorDtorIterator) "`eh vector destructor iterator'"
      ∷ row "_N" (plain o.EHVectorVBaseCtorIterator) "`eh vector vbase constructor iterator'"
      ∷ row "_O" (plain o.CopyCtorClosure) "`copy constructor closure'"
      ∷ row "_S" (plain o.LocalVFTable) "`local vftable'"
      ∷ row "_T" (plain o.LocalVFTableCtorClosure) "`local vftable constructor closure'"
      ∷ row "_U" (plain o.ArrayNew) "operator new[]"
      ∷ row "_V" (plain o.ArrayDelete) "operator delete[]"
      ∷ row "_X" (plain o.PlacementDeleteClosure) "`placement delete closure'"
      ∷ row "_Y" (plain o.PlacementArrayDeleteClosure) "`placement delete[] closure'"
      ∷ row "_B" (special.Guard guards.Static) "`local static guard'"
      ∷ row "_R2" (plain o.RTTIBaseClassArray) "`RTTI Base Class Array'"
      ∷ row "_R3" (plain o.RTTIClassHierarchyDescriptor) "`RTTI Class Hierarchy Descriptor'"
      ∷ row "_R4" (plain o.RTTIClassCompleteObjectLocator) "`RTTI Complete Object Locator'"
      ∷ row "_R0" special.TypeDescriptor ""
      ∷ row "_R1" special.BaseClass ""
      ∷ row "__E" (plain o.DynamicInitializer) "`dynamic initializer'"
      ∷ row "__F" (plain o.DynamicAtexitDtor) "`dynamic atexit destructor'"
      ∷ row "__K" (plain o.LiteralOperatorName) "operator \"\""
      ∷ row "__L" (plain o.CoroutineAwait) " co_await"
      ∷ row "__J" (special.Guard guards.Thread) "`local static thread guard'"
      ∷ []
  pub forms : type_texts ≡ (codes "W4", form.Enumeration) ∷ (codes "A6", form.ReferenceToFunction)
      ∷ (codes "P6", form.PointerToFunction) ∷ (codes "P8", form.QualifiedMemberPointer)
      ∷ (codes "$0", form.Constant) ∷ (codes "$D", form.TemplateParameter) ∷ (codes "$$BY", form.Array)
      ∷ (codes "$$Q", form.RValueReference) ∷ (codes "$S", form.EmptyPack) ∷ (codes "$$V", form.EmptyPack)
      ∷ (codes "$$Z", form.EmptyPack) ∷ (codes "$$$V", form.EmptyPack) ∷ (codes "$$T", form.Nullptr)
      ∷ (codes "$$A6", form.Function) ∷ (codes "$$A8@@", form.QualifiedFunction) ∷ (codes "$$Y", form.Alias)
      ∷ (codes "$$C", form.CvQualified) ∷ (codes "$1", form.MemberPointer) ∷ (codes "$H", form.MemberPointer)
      ∷ (codes "$I", form.MemberPointer) ∷ (codes "$J", form.MemberPointer) ∷ []
  -- alone, static, virtual, and thunks: the second of each pair is far (64), but for D and F
  pub classes : with_words (λ class. resolve (member_words No class 0)) function_classes ≡
      row "A" 4 "private: " ∷ row "B" 68 "private: "
      ∷ row "C" 20 "private: static " ∷ row "D" 20 "private: static "
      ∷ row "E" 36 "private: virtual " ∷ row "F" 36 "private: virtual "
      ∷ row "G" 164 "[thunk]: private: virtual " ∷ row "H" 228 "[thunk]: private: virtual "
      ∷ row "I" 2 "protected: " ∷ row "J" 66 "protected: "
      ∷ row "K" 18 "protected: static " ∷ row "L" 82 "protected: static "
      ∷ row "M" 34 "protected: virtual " ∷ row "N" 98 "protected: virtual "
      ∷ row "O" 162 "[thunk]: protected: virtual " ∷ row "P" 226 "[thunk]: protected: virtual "
      ∷ row "Q" 1 "public: " ∷ row "R" 65 "public: "
      ∷ row "S" 17 "public: static " ∷ row "T" 81 "public: static "
      ∷ row "U" 33 "public: virtual " ∷ row "V" 97 "public: virtual "
      ∷ row "W" 161 "[thunk]: public: virtual " ∷ row "X" 225 "[thunk]: public: virtual "
      ∷ row "Y" 8 "" ∷ row "Z" 72 "" ∷ []
  -- const is 1, volatile 2, far 4
  pub storage : IsTable storage_classes "AQBRCSDTEFGH" (0 ∷ 0 ∷ 1 ∷ 1 ∷ 2 ∷ 2 ∷ 3 ∷ 3 ∷ 4 ∷ 5 ∷ 6 ∷ 7 ∷ [])
  pub on_this : IsTable qualifiers "AQBRCSDT" (0 ∷ 0 ∷ 1 ∷ 1 ∷ 2 ∷ 2 ∷ 3 ∷ 3 ∷ [])
  pub of_returns : IsTable qualifiers_of_returns "ABCD" (0 ∷ 1 ∷ 2 ∷ 3 ∷ [])
  -- none is volatile alone
  pub of_arrays : IsTable qualifiers_of_arrays "ABCD" (0 ∷ 1 ∷ 3 ∷ 3 ∷ [])
  pub of_pointers : IsTable pointer_sizes "E" (64 ∷ [])
  pub of_restricted : IsTable restricts "I" (32 ∷ [])
  pub of_unaligned : IsTable alignments "F" (16 ∷ [])
  pub of_references : IsTable reference_qualifiers "GH" (128 ∷ 256 ∷ [])
  pub calls : with_words spaced_convention conventions ≡ row "A" convention.Cdecl "__cdecl "
      ∷ row "B" convention.Cdecl "__cdecl " ∷ row "C" convention.Pascal "__pascal "
      ∷ row "E" convention.Thiscall "__thiscall " ∷ row "G" convention.Stdcall "__stdcall "
      ∷ row "I" convention.Fastcall "__fastcall " ∷ []
  pub types_of_one_letter : both_words base_types ≡
      type_row "X" base.Void "void" "void"
      ∷ type_row "C" base.Schar "signed char" "signed char"
      ∷ type_row "D" base.Char "char" "char"
      ∷ type_row "E" base.Uchar "unsigned char" "unsigned char"
      ∷ type_row "F" base.Short "short" "short"
      ∷ type_row "G" base.Ushort "unsigned short" "unsigned short"
      ∷ type_row "H" base.Int "int" "int"
      ∷ type_row "I" base.Uint "unsigned int" "unsigned int"
      ∷ type_row "J" base.Long "long" "long"
      ∷ type_row "K" base.Ulong "unsigned long" "unsigned long"
      ∷ type_row "M" base.Float "float" "float"
      ∷ type_row "N" base.Double "double" "double"
      ∷ type_row "O" base.Ldouble "long double" "long double" ∷ []
  -- the flag for Microsoft's names changes the last four alone
  pub types_of_two_letters : both_words extended_types ≡
      type_row "N" base.Bool "bool" "bool"
      ∷ type_row "W" base.Wchar "wchar_t" "wchar_t"
      ∷ type_row "Q" base.Char8 "char8_t" "char8_t"
      ∷ type_row "S" base.Char16 "char16_t" "char16_t"
      ∷ type_row "U" base.Char32 "char32_t" "char32_t"
      ∷ type_row "J" base.Int64 "int64_t" "__int64"
      ∷ type_row "K" base.Uint64 "uint64_t" "unsigned __int64"
      ∷ type_row "L" base.Int128 "int128_t" "__int128"
      ∷ type_row "M" base.Uint128 "uint128_t" "unsigned __int128" ∷ []
  pub compound_types : IsTable compound_letters "_TUVABPQRSY?0123456789" (extended ∷ named tag.Union
      ∷ named tag.Struct ∷ named tag.Class ∷ points mark.Reference None ∷ points mark.Reference (Some 2)
      ∷ points mark.Pointer None ∷ points mark.Pointer (Some 1) ∷ points mark.Pointer (Some 2)
      ∷ points mark.Pointer (Some 3) ∷ arrayed ∷ indexed ∷ map referred (0 ∷ 1 ∷ 2 ∷ 3 ∷ 4 ∷ 5 ∷ 6 ∷ 7 ∷ 8 ∷ 9 ∷ []))
  pub all_types : map (λ (r : ℕ × TypeLetter). r.0) type_letters ≡ codes "XCDEFGHIJKMNO_TUVABPQRSY?0123456789"
  pub tags : AreWords (λ kind. tag_word kind 0) (tag.Union ∷ tag.Struct ∷ tag.Class ∷ tag.Enum ∷ tag.Alias ∷ [])
      ("union " ∷ "struct " ∷ "class " ∷ "enum " ∷ "" ∷ [])
  pub marks : AreWords mark_word (mark.Pointer ∷ mark.Reference ∷ mark.RValueReference ∷ []) ("*" ∷ "&" ∷ "&&" ∷ [])
  -- Y is a plain function before it is a class of member functions
  pub encodings : IsTable encoding_letters "012346789Y_$ABCDEFGHIJKLMNOPQRSTUVWXYZ" (variable_of variables.PrivateStatic
      ∷ variable_of variables.ProtectedStatic ∷ variable_of variables.PublicStatic ∷ variable_of variables.Global
      ∷ variable_of variables.FunctionLocalStatic ∷ table_of table_kind.Functions ∷ table_of table_kind.Bases
      ∷ type_information ∷ untyped ∷ plain_function ∷ encoded_string ∷ virtual_call
      ∷ map (λ (r : ℕ × ℕ). member_of r.1) function_classes)
  pub of_variables : AreWords variable_word (variables.PrivateStatic ∷ variables.ProtectedStatic
      ∷ variables.PublicStatic ∷ variables.Global ∷ variables.FunctionLocalStatic ∷ [])
      ("private: static " ∷ "protected: static " ∷ "public: static " ∷ "" ∷ "" ∷ [])
  pub decimal_digits : IsTable digits "0123456789" (0 ∷ 1 ∷ 2 ∷ 3 ∷ 4 ∷ 5 ∷ 6 ∷ 7 ∷ 8 ∷ 9 ∷ [])
  pub halves : IsTable hexadecimal "ABCDEFGHIJKLMNOP"
      (0 ∷ 1 ∷ 2 ∷ 3 ∷ 4 ∷ 5 ∷ 6 ∷ 7 ∷ 8 ∷ 9 ∷ 10 ∷ 11 ∷ 12 ∷ 13 ∷ 14 ∷ 15 ∷ [])
  pub of_hashes : IsTable hexadecimal_codes "0123456789abcdefABCDEF" (codes "0123456789abcdefABCDEF")
  -- a small letter and a capital for the same byte, and signs
  pub escaped : IsTable escaped_characters "aAbBcCdDeEfFgGhHiIjJkKlLmMnNoOpPqQrRsStTuUvVwWxXyYzZ0123456789"
      (0xE1 ∷ 0xE1 ∷ 0xE2 ∷ 0xE2 ∷ 0xE3 ∷ 0xE3 ∷ 0xE4 ∷ 0xE4 ∷ 0xE5 ∷ 0xE5 ∷ 0xE6 ∷ 0xE6 ∷ 0xE7 ∷ 0xE7
      ∷ 0xE8 ∷ 0xE8 ∷ 0xE9 ∷ 0xE9 ∷ 0xEA ∷ 0xEA ∷ 0xEB ∷ 0xEB ∷ 0xEC ∷ 0xEC ∷ 0xED ∷ 0xED ∷ 0xEE ∷ 0xEE
      ∷ 0xEF ∷ 0xEF ∷ 0xF0 ∷ 0xF0 ∷ 0xF1 ∷ 0xF1 ∷ 0xF2 ∷ 0xF2 ∷ 0xF3 ∷ 0xF3 ∷ 0xF4 ∷ 0xF4 ∷ 0xF5 ∷ 0xF5
      ∷ 0xF6 ∷ 0xF6 ∷ 0xF7 ∷ 0xF7 ∷ 0xF8 ∷ 0xF8 ∷ 0xF9 ∷ 0xF9 ∷ 0xFA ∷ 0xFA ∷ codes ",/\\:. \n\t'-")
  pub plain_bytes : IsTable plain_characters "0123456789abcdefghijklmnopqrstuvwxyzABCDEFGHIJKLMNOPQRSTUVWXYZ_$"
      (codes "0123456789abcdefghijklmnopqrstuvwxyzABCDEFGHIJKLMNOPQRSTUVWXYZ_$")
  pub sizes : IsTable character_sizes "01" (1 ∷ 2 ∷ [])
