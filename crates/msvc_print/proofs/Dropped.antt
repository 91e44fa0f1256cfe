-- What the flags leave of the pieces that they may drop.
use Rattle.std.proofs.Common.{◌≡◌, ℕ, List, [], ◌++◌, Bool, true, false, cond, refl, ap, ◌∙◌, codes}
use Rattle.msvc_print.specs.Flags.{full_style, has, name_only, no_function_returns, no_this_type}
use Rattle.msvc_print.specs.Functions.{access_words, each_function_qualifier, extern_c, extern_words}
use Rattle.msvc_print.specs.Functions.{full_function_qualifiers}
use Rattle.msvc_print.specs.Functions.{full_reference_words, full_this_words, full_wide_word, function_qualifiers}
use Rattle.msvc_print.specs.Functions.{hides_access, hides_kind, kind_words, member_word, wide_qualifier}
use Rattle.msvc_print.specs.Pieces.{Piece}
use Rattle.msvc_print.specs.Sides.{kept_left, kept_right}
use Rattle.msvc_print.specs.declared.pointed.Pointed.{Pointed}
use Rattle.msvc_print.specs.Words.{full_qualifiers, qualifier, qualifier_space, qualifiers, set_word}

pub kept_right-dropped : (pieces : List Piece) (flags : ℕ) → has flags name_only ≡ true → kept_right pieces flags ≡ []
unfolding kept_right
kept_right-dropped pieces flags e = ap (λ b. cond b [] pieces) e

pub kept_left-name_only : (pieces : List Piece) (flags : ℕ) → has flags name_only ≡ true →
    kept_left pieces flags ≡ []
unfolding kept_left
kept_left-name_only pieces flags e = ap (λ b. cond b [] (cond (has flags no_function_returns) [] pieces)) e

pub access_words-kept : (pointed : Pointed) (class flags : ℕ) → hides_access pointed flags ≡ false →
    access_words pointed class flags
    ≡ member_word 4 (codes "private: ") class ++ (member_word 2 (codes "protected: ") class
    ++ member_word 1 (codes "public: ") class)
unfolding access_words
access_words-kept pointed class flags e = ap (λ b. cond b [] (member_word 4 (codes "private: ") class
    ++ (member_word 2 (codes "protected: ") class ++ member_word 1 (codes "public: ") class))) e

either : (b : Bool) (pieces : List Piece) → cond b pieces pieces ≡ pieces
either true pieces = refl
either false pieces = refl

pub kind_words-kept : (pointed : Pointed) (class flags : ℕ) → hides_kind pointed flags ≡ false →
    kind_words pointed class flags
    ≡ member_word 16 (codes "static ") class ++ (member_word 32 (codes "virtual ") class ++ extern_words class flags)
unfolding kind_words
kind_words-kept pointed class flags e = ap (λ b. cond b [] (member_word 16 (codes "static ") class
    ++ (member_word 32 (codes "virtual ") class ++ extern_words class flags))) e

pub extern_words-full : (class flags : ℕ) → has flags full_style ≡ true →
    extern_words class flags ≡ member_word extern_c (codes "extern \"C\" ") class
unfolding extern_words
extern_words-full class flags e = ap (λ b. cond b (member_word extern_c (codes "extern \"C\" ") class) []) e

pub qualifiers-full : (set flags : ℕ) → has flags full_style ≡ true → qualifiers set flags ≡ full_qualifiers set
unfolding qualifiers
qualifiers-full set flags e = ap (λ b. cond b (full_qualifiers set) (qualifier (qualifier_space flags) 1
    (codes "const") set ++ qualifier (qualifier_space flags) 2 (codes "volatile") set)) e

pub qualifiers-plain : (set flags : ℕ) → has flags full_style ≡ false →
    qualifiers set flags ≡ qualifier (qualifier_space flags) 1 (codes "const") set
    ++ qualifier (qualifier_space flags) 2 (codes "volatile") set
unfolding qualifiers
qualifiers-plain set flags e = ap (λ b. cond b (full_qualifiers set) (qualifier (qualifier_space flags) 1
    (codes "const") set ++ qualifier (qualifier_space flags) 2 (codes "volatile") set)) e

-- a type without qualifiers shows none
pub qualifiers-none : (flags : ℕ) → qualifiers 0 flags ≡ []
unfolding qualifiers full_qualifiers
qualifiers-none flags = either (has flags full_style) []

pub function_qualifiers-full : (set flags : ℕ) → has flags full_style ≡ true →
    function_qualifiers set flags ≡ full_function_qualifiers set flags
unfolding function_qualifiers
function_qualifiers-full set flags e = ap (λ b. cond b (full_function_qualifiers set flags)
    (cond (has flags no_this_type) [] (each_function_qualifier set flags))) e

pub function_qualifiers-kept : (set flags : ℕ) → has flags full_style ≡ false → has flags no_this_type ≡ false →
    function_qualifiers set flags ≡ each_function_qualifier set flags
unfolding function_qualifiers
function_qualifiers-kept set flags e e' =
    ap (λ b. cond b (full_function_qualifiers set flags)
    (cond (has flags no_this_type) [] (each_function_qualifier set flags))) e
    ∙ ap (λ b. cond b [] (each_function_qualifier set flags)) e'

-- a function without qualifiers shows none
each_function_qualifier-none : (flags : ℕ) → each_function_qualifier 0 flags ≡ []
unfolding each_function_qualifier wide_qualifier
each_function_qualifier-none flags = ap (λ pieces. pieces ++ []) (either _ [])

pub full_this_words-kept : (set flags : ℕ) → has flags no_this_type ≡ false →
    full_this_words set flags ≡ set_word 1 (codes " const") set
    ++ (set_word 2 (codes " volatile") set
    ++ (full_wide_word set flags
    ++ (set_word 32 (codes " __restrict") set ++ set_word 16 (codes " __unaligned") set)))
unfolding full_this_words
full_this_words-kept set flags e = ap (λ b. cond b [] (set_word 1 (codes " const") set
    ++ (set_word 2 (codes " volatile") set
    ++ (full_wide_word set flags
    ++ (set_word 32 (codes " __restrict") set ++ set_word 16 (codes " __unaligned") set))))) e

pub full_this_words-dropped : (set flags : ℕ) → has flags no_this_type ≡ true → full_this_words set flags ≡ []
unfolding full_this_words
full_this_words-dropped set flags e = ap (λ b. cond b [] (set_word 1 (codes " const") set
    ++ (set_word 2 (codes " volatile") set
    ++ (full_wide_word set flags
    ++ (set_word 32 (codes " __restrict") set ++ set_word 16 (codes " __unaligned") set))))) e

pub full_reference_words-dropped : (set flags : ℕ) → has flags no_this_type ≡ true → full_reference_words set flags ≡ []
unfolding full_reference_words
full_reference_words-dropped set flags e =
    ap (λ b. cond b [] (set_word 128 (codes " &") set ++ set_word 256 (codes " &&") set)) e

pub full_reference_words-kept : (set flags : ℕ) → has flags no_this_type ≡ false →
    full_reference_words set flags ≡ set_word 128 (codes " &") set ++ set_word 256 (codes " &&") set
unfolding full_reference_words
full_reference_words-kept set flags e =
    ap (λ b. cond b [] (set_word 128 (codes " &") set ++ set_word 256 (codes " &&") set)) e

full_this_words-none : (flags : ℕ) → full_this_words 0 flags ≡ []
unfolding full_this_words full_wide_word
full_this_words-none flags = ap (λ pieces. cond (has flags no_this_type) [] (pieces ++ [])) (either _ []) ∙ either _ []

full_function_qualifiers-none : (flags : ℕ) → full_function_qualifiers 0 flags ≡ []
unfolding full_function_qualifiers full_reference_words
full_function_qualifiers-none flags =
    ap (λ pieces. pieces ++ full_reference_words 0 flags) (full_this_words-none flags) ∙ either _ []

pub function_qualifiers-none : (flags : ℕ) → function_qualifiers 0 flags ≡ []
unfolding function_qualifiers
function_qualifiers-none flags =
    ap (λ pieces. cond (has flags full_style) pieces
    (cond (has flags no_this_type) [] (each_function_qualifier 0 flags)))
    (full_function_qualifiers-none flags)
    ∙ ap (λ pieces. cond (has flags full_style) [] (cond (has flags no_this_type) [] pieces))
    (each_function_qualifier-none flags)
    ∙ ap (λ pieces. cond (has flags full_style) [] pieces) (either _ []) ∙ either _ []
