-- The words, qualifiers and commas that the declaration of a function has beside its types.
use Rattle.std.specs.Prelude.{ℕ, List, [], ◌∷◌, ◌++◌, ◌||◌, Bool, cond, codes}
use Rattle.msvc_nodes.specs.declared.kinds.Convention.{Convention}
use Rattle.msvc_nodes.specs.declared.kinds.Convention.TheVariants.{Cdecl, Pascal, Thiscall, Stdcall, Fastcall}
use Rattle.msvc_nodes.specs.declared.kinds.Convention.TheVariants.{_Regcall, Clrcall, Eabi, Vectorcall, Swift}
use Rattle.msvc_nodes.specs.declared.kinds.Convention.TheVariants.{SwiftAsync, PreserveMost, PreserveNone, Regcall4}
use Rattle.msvc_print.specs.Flags.{full_style, has, no_access_specifiers, no_member_type, no_ms_keywords}
use Rattle.msvc_print.specs.Flags.{llvm_no_access, llvm_no_convention, llvm_no_member}
use Rattle.msvc_print.specs.Flags.{no_this_type}
use Rattle.msvc_print.specs.Flags.{space_after_comma, with_ptr64}
use Rattle.msvc_print.specs.Pointed.{is_pointed, leaves_out}
use Rattle.msvc_print.specs.declared.pointed.Pointed.{Pointed}
use Rattle.msvc_print.specs.Pieces.{Piece, text, space}
use Rattle.msvc_print.specs.Words.{opening, closing, qualifier, set_word}
use Rattle.msvc_print.specs.declared.spaces.Space.TheVariants.{AfterFullWord, AfterPointer, UnlessOpen}

-- the word of a calling convention
abbrev pub convention_word : Convention → List ℕ
convention_word Cdecl = codes "__cdecl"
convention_word Pascal = codes "__pascal"
convention_word Thiscall = codes "__thiscall"
convention_word Stdcall = codes "__stdcall"
convention_word Fastcall = codes "__fastcall"
convention_word _Regcall = codes "__regcall"
convention_word Clrcall = codes "__clrcall"
convention_word Eabi = codes "__eabi"
convention_word Vectorcall = codes "__vectorcall"
convention_word Swift = codes "__attribute__((__swiftcall__)) "
convention_word SwiftAsync = codes "__attribute__((__swiftasynccall__)) "
convention_word PreserveMost = codes "__attribute__((__preserve_most__)) "
convention_word PreserveNone = codes "__attribute__((__preserve_none__)) "
convention_word Regcall4 = codes "__regcall4"

-- a word of a member function, where the set `class` has its bit
abbrev pub member_word : ℕ → List ℕ → ℕ → List Piece
member_word bit word class = cond (has class bit) (text word ∷ []) []

-- whether a flag drops the word for who may call a member function
abbrev pub hides_access : Pointed → ℕ → Bool
hides_access pointed flags = leaves_out pointed llvm_no_access flags || has flags no_access_specifiers

-- the word for who may call a member function
unfoldable pub access_words : Pointed → ℕ → ℕ → List Piece
access_words pointed class flags = cond (hides_access pointed flags) []
    (member_word 4 (codes "private: ") class
    ++ (member_word 2 (codes "protected: ") class
    ++ member_word 1 (codes "public: ") class))

-- the bit of `extern "C"` in the class of a function; only the second grammar gives it
abbrev pub extern_c : ℕ
extern_c = 256

-- `extern "C"` of a function, which only the second grammar's style shows
unfoldable pub extern_words : ℕ → ℕ → List Piece
extern_words class flags = cond (has flags full_style) (member_word extern_c (codes "extern \"C\" ") class) []

-- whether a flag drops `static` and the like
abbrev pub hides_kind : Pointed → ℕ → Bool
hides_kind pointed flags = leaves_out pointed llvm_no_member flags || has flags no_member_type

-- `static`, `virtual` and `extern "C"` of a member function
unfoldable pub kind_words : Pointed → ℕ → ℕ → List Piece
kind_words pointed class flags = cond (hides_kind pointed flags) []
    (member_word 16 (codes "static ") class
    ++ (member_word 32 (codes "virtual ") class ++ extern_words class flags))

-- all words of a member function
unfoldable pub member_words : Pointed → ℕ → ℕ → List Piece
member_words pointed class flags =
    member_word 128 (codes "[thunk]: ") class ++ (access_words pointed class flags ++ kind_words pointed class flags)

-- the words before a member function; a pointer to the function has none
unfoldable pub member_start : Pointed → ℕ → ℕ → List Piece
member_start pointed class flags = cond (is_pointed pointed) [] (member_words pointed class flags)

-- a qualifier of a function itself, where `set` has its bit
abbrev pub function_qualifier : ℕ → List ℕ → ℕ → List Piece
function_qualifier bit word set = qualifier AfterPointer bit word set

-- `__ptr64` among the qualifiers of a function itself, which only WITH_PTR64 shows
unfoldable pub wide_qualifier : ℕ → ℕ → List Piece
wide_qualifier set flags = cond (has flags with_ptr64) (function_qualifier 64 (codes "__ptr64") set) []

-- the qualifiers of a function itself, where no flag drops them
unfoldable pub each_function_qualifier : ℕ → ℕ → List Piece
each_function_qualifier set flags =
    function_qualifier 1 (codes "const") set
    ++ (function_qualifier 2 (codes "volatile") set
    ++ (wide_qualifier set flags
    ++ (function_qualifier 32 (codes "__restrict") set
    ++ (function_qualifier 128 (codes "&") set
    ++ function_qualifier 256 (codes "&&") set))))

-- the bit of `noexcept` in the qualifiers of a function itself; only the second grammar gives it
abbrev pub noexcept : ℕ
noexcept = 512

-- `__ptr64` after one space, which only WITH_PTR64 shows
unfoldable pub full_wide_word : ℕ → ℕ → List Piece
full_wide_word set flags = cond (has flags with_ptr64) (set_word 64 (codes " __ptr64") set) []

-- what the second grammar's style shows of the qualifiers of a function itself before `noexcept`, each after one space
unfoldable pub full_this_words : ℕ → ℕ → List Piece
full_this_words set flags = cond (has flags no_this_type) []
    (set_word 1 (codes " const") set
    ++ (set_word 2 (codes " volatile") set
    ++ (full_wide_word set flags
    ++ (set_word 32 (codes " __restrict") set ++ set_word 16 (codes " __unaligned") set))))

-- what it shows of them after `noexcept`
unfoldable pub full_reference_words : ℕ → ℕ → List Piece
full_reference_words set flags = cond (has flags no_this_type) []
    (set_word 128 (codes " &") set ++ set_word 256 (codes " &&") set)

-- the qualifiers of a function itself in the second grammar's style; NO_THISTYPE leaves `noexcept`
unfoldable pub full_function_qualifiers : ℕ → ℕ → List Piece
full_function_qualifiers set flags = full_this_words set flags
    ++ (set_word noexcept (codes " noexcept") set ++ full_reference_words set flags)

-- the qualifiers of a function itself, which NO_THISTYPE drops
unfoldable pub function_qualifiers : ℕ → ℕ → List Piece
function_qualifiers set flags = cond (has flags full_style) (full_function_qualifiers set flags)
    (cond (has flags no_this_type) [] (each_function_qualifier set flags))

-- the word of a calling convention, with one space after it
abbrev pub spaced_convention : Convention → List ℕ
spaced_convention convention = convention_word convention ++ codes " "

-- the word of a calling convention with one space after it, which NO_MS_KEYWORDS drops
unfoldable pub convention_pieces : Convention → ℕ → List Piece
convention_pieces convention flags = cond (has flags no_ms_keywords) [] (text (spaced_convention convention) ∷ [])

-- whether a flag drops the calling convention of a function in the second grammar's style
abbrev pub hides_convention : Pointed → ℕ → Bool
hides_convention pointed flags = leaves_out pointed llvm_no_convention flags || has flags no_ms_keywords

-- the calling convention of a function in the second grammar's style: that of a function that is pointed to has one
-- space after it, any other has a space before it
unfoldable pub full_calling : Pointed → Convention → ℕ → List Piece
full_calling pointed convention flags = opening pointed flags ++ cond (hides_convention pointed flags) []
    (cond (is_pointed pointed) (text (spaced_convention convention) ∷ [])
    (space AfterFullWord ∷ text (convention_word convention) ∷ []))

-- the calling convention of a function, after the parenthesis before the mark of a pointer to the function
unfoldable pub calling : Pointed → Convention → ℕ → List Piece
calling pointed convention flags = cond (has flags full_style) (full_calling pointed convention flags)
    (opening pointed flags ++ (space UnlessOpen ∷ convention_pieces convention flags))

-- the pieces on the right of the name of a function: its parameters, and the qualifiers of the function itself
abbrev pub parameter_list : Pointed → List Piece → ℕ → ℕ → List Piece
parameter_list pointed parameters set flags = closing pointed
    ++ (text (codes "(") ∷ (parameters ++ (text (codes ")") ∷ function_qualifiers set flags)))

-- the comma between two parameters
abbrev pub comma : ℕ → List ℕ
comma flags = cond (has flags space_after_comma) (codes ", ") (codes ",")

-- the comma before a parameter that is not the first
unfoldable pub separator : Bool → ℕ → List Piece
separator first flags = cond first [] (text (comma flags) ∷ [])
