-- The words and marks of a declaration that depend on no other type or name.
use Rattle.std.specs.Prelude.{ℕ, List, [], ◌∷◌, ◌++◌, Bool, false, Option, Some, None, cond, codes, if◌then◌else◌}
use denote.Enum.Bare.{sameb}
use Rattle.msvc_nodes.specs.BaseTypes.{BaseRow, basic_types, under_types}
use Rattle.msvc_nodes.specs.contracts.kinds.PrimitiveKind.{the_type as bases}
use Rattle.msvc_nodes.specs.declared.kinds.PrimitiveKind.{PrimitiveKind}
use Rattle.msvc_nodes.specs.declared.kinds.PointerAffinity.{PointerAffinity}
use Rattle.msvc_nodes.specs.declared.kinds.TagKind.{TagKind}
use Rattle.msvc_nodes.specs.declared.kinds.PointerAffinity.TheVariants as mark_kind
use Rattle.msvc_nodes.specs.declared.kinds.TagKind.TheVariants as tag_kind
use Rattle.msvc_nodes.specs.declared.kinds.VarStorageKind.{VarStorageKind}
use Rattle.msvc_nodes.specs.declared.kinds.VarStorageKind.TheVariants.{PrivateStatic, ProtectedStatic, PublicStatic}
use Rattle.msvc_nodes.specs.declared.kinds.VarStorageKind.TheVariants.{Global, FunctionLocalStatic}
use Rattle.msvc_print.specs.Flags.{full_style, has, hug_type, ms_type_names, no_class_type, space_before_pointer}
use Rattle.msvc_print.specs.Flags.{llvm_no_access, llvm_no_member}
use Rattle.msvc_print.specs.Pointed.{is_pointed, is_unaligned, leaves_out}
use Rattle.msvc_print.specs.declared.pointed.Pointed.{Pointed}
use Rattle.msvc_print.specs.Pieces.{Piece, text, space}
use Rattle.msvc_print.specs.declared.spaces.Space.{Space}
use Rattle.msvc_print.specs.declared.spaces.Space.TheVariants.{AfterAngle, AfterPointer, AfterReference, AfterWord}
use Rattle.msvc_print.specs.declared.spaces.Space.TheVariants.{AfterFullPointer, AfterFullReference, AfterFullWord}

-- the words in the row of a base type: its word, and the one that MS_TYPENAMES chooses, if it is another
abbrev pub base_words : PrimitiveKind → List BaseRow → List ℕ × Option (List ℕ)
base_words b [] = ([], None)
base_words b (row ∷ table) = if sameb bases b row.1 then (row.2, row.3) else base_words b table

-- which of the words of a row the flags choose
abbrev pub chosen_word : ℕ → List ℕ × Option (List ℕ) → List ℕ
chosen_word flags (word, None) = word
chosen_word flags (word, Some other) = cond (has flags ms_type_names) other word

-- the word of a base type
unfoldable pub base_word : PrimitiveKind → ℕ → List ℕ
base_word b flags = chosen_word flags (base_words b (basic_types ++ under_types))

-- the words before a variable, which say who may name the variable
abbrev pub variable_word : VarStorageKind → List ℕ
variable_word PrivateStatic = codes "private: static "
variable_word ProtectedStatic = codes "protected: static "
variable_word PublicStatic = codes "public: static "
variable_word Global = []
variable_word FunctionLocalStatic = []

-- the word for who may use a variable, alone
abbrev pub access_word : VarStorageKind → List ℕ
access_word PrivateStatic = codes "private: "
access_word ProtectedStatic = codes "protected: "
access_word PublicStatic = codes "public: "
access_word Global = []
access_word FunctionLocalStatic = []

-- `static` of a variable, alone
abbrev pub static_word : VarStorageKind → List ℕ
static_word PrivateStatic = codes "static "
static_word ProtectedStatic = codes "static "
static_word PublicStatic = codes "static "
static_word Global = []
static_word FunctionLocalStatic = []

-- the words of a variable, of which flags may drop those for who may use it, and `static`
abbrev pub shown_variable_word : Pointed → VarStorageKind → ℕ → List ℕ
shown_variable_word pointed kind flags = cond (leaves_out pointed llvm_no_access flags)
    (cond (leaves_out pointed llvm_no_member flags) [] (static_word kind))
    (cond (leaves_out pointed llvm_no_member flags) (access_word kind) (variable_word kind))

-- the space before the name of a symbol
abbrev pub name_space : ℕ → Space
name_space flags = cond (has flags full_style)
    (cond (has flags space_before_pointer) AfterFullWord AfterFullReference)
    (cond (has flags space_before_pointer) AfterWord AfterReference)

-- the space before `const` and `volatile`
abbrev pub qualifier_space : ℕ → Space
qualifier_space flags = cond (has flags space_before_pointer) AfterWord AfterPointer

-- the space before a qualifier of a pointer and before the parenthesis before its mark, in the second grammar's style
abbrev pub full_space : ℕ → Space
full_space flags = cond (has flags space_before_pointer) AfterFullWord AfterFullPointer

-- a qualifier after a space, where `set` has its bit
abbrev pub qualifier : Space → ℕ → List ℕ → ℕ → List Piece
qualifier s bit word set = cond (has set bit) (space s ∷ text word ∷ []) []

-- a word, where `set` has its bit
abbrev pub set_word : ℕ → List ℕ → ℕ → List Piece
set_word bit word set = cond (has set bit) (text word ∷ []) []

-- the qualifiers of a type that is no pointer, in the second grammar's style: each after one space
unfoldable pub full_qualifiers : ℕ → List Piece
full_qualifiers set = set_word 1 (codes " const") set
    ++ (set_word 2 (codes " volatile") set ++ set_word 32 (codes " __restrict") set)

-- the qualifiers of a table, with one space between them
unfoldable pub table_qualifiers : ℕ → List Piece
table_qualifiers set = set_word 1 (codes "const") set
    ++ set_word 2 (cond (has set 1) (codes " volatile") (codes "volatile")) set

-- the `const` and the `volatile` of a set of qualifiers
unfoldable pub qualifiers : ℕ → ℕ → List Piece
qualifiers set flags = cond (has flags full_style) (full_qualifiers set)
    (qualifier (qualifier_space flags) 1 (codes "const") set
    ++ qualifier (qualifier_space flags) 2 (codes "volatile") set)

-- the word for the kind of a named type
abbrev pub kind_word : TagKind → List ℕ
kind_word tag_kind.Class = codes "class "
kind_word tag_kind.Struct = codes "struct "
kind_word tag_kind.Union = codes "union "
kind_word tag_kind.Enum = codes "enum "
kind_word tag_kind.Alias = []

-- the word before a name that stands for a type, which NO_CLASS_TYPE drops
abbrev pub tag_word : TagKind → ℕ → List ℕ
tag_word tag flags = cond (has flags no_class_type) [] (kind_word tag)

-- the mark of a pointer or a reference
abbrev pub mark_word : PointerAffinity → List ℕ
mark_word mark_kind.Pointer = codes "*"
mark_word mark_kind.Reference = codes "&"
mark_word mark_kind.RValueReference = codes "&&"

-- the space before the mark of a pointer or a reference, if flags keep one
abbrev pub mark_space : ℕ → List Piece
mark_space flags = cond (has flags hug_type)
    (cond (has flags space_before_pointer) (space AfterWord ∷ []) [])
    (space AfterPointer ∷ [])

-- the same in the second grammar's style
abbrev pub full_mark_space : ℕ → List Piece
full_mark_space flags = cond (has flags hug_type)
    (cond (has flags space_before_pointer) (space AfterFullWord ∷ []) [])
    (space AfterFullPointer ∷ [])

-- the qualifiers of a pointer in the second grammar's style, each after the space `s`
unfoldable pub mark_qualifiers : Space → ℕ → List Piece
mark_qualifiers s set = qualifier s 1 (codes "const") set
    ++ (qualifier s 2 (codes "volatile") set ++ qualifier s 32 (codes "__restrict") set)

-- the `__unaligned` of a pointer, if it has one
abbrev pub unaligned : Bool → ℕ → List Piece
unaligned has_it flags = cond has_it (space (full_space flags) ∷ text (codes "__unaligned ") ∷ []) []

-- the mark of a pointer or a reference in the second grammar's style, with its qualifiers: `__unaligned` before the
-- mark, the others after it
unfoldable pub full_marked : Bool → List ℕ → ℕ → ℕ → List Piece
full_marked is_unaligned word set flags = unaligned is_unaligned flags
    ++ (full_mark_space flags ++ (text word ∷ mark_qualifiers (full_space flags) set))

-- the mark of a pointer or a reference, with its qualifiers
unfoldable pub marked : Bool → List ℕ → ℕ → ℕ → List Piece
marked is_unaligned word set flags = cond (has flags full_style) (full_marked is_unaligned word set flags)
    (mark_space flags ++ (text word ∷ qualifiers set flags))

-- the space before the parenthesis before the mark of a pointer
abbrev pub opening_space : ℕ → Space
opening_space flags = cond (has flags full_style) (full_space flags) AfterPointer

-- a parenthesis before the mark of a pointer
abbrev pub parenthesis : ℕ → List Piece
parenthesis flags = space (opening_space flags) ∷ text (codes "(") ∷ []

-- the parenthesis before the mark of a pointer to an array or a function, and the `__unaligned` of that pointer, which
-- the second grammar's style shows
unfoldable pub opening : Pointed → ℕ → List Piece
opening pointed flags = cond (is_pointed pointed)
    (unaligned (cond (has flags full_style) (is_unaligned pointed) false) flags ++ parenthesis flags) []

-- the parenthesis after the name of a pointer to an array or a function
unfoldable pub closing : Pointed → List Piece
closing pointed = cond (is_pointed pointed) (text (codes ")") ∷ []) []

-- the end of the arguments of a template
unfoldable pub angle_end : ℕ → List Piece
angle_end flags = cond (has flags full_style) (text (codes ">") ∷ []) (space AfterAngle ∷ text (codes ">") ∷ [])
