-- The pieces of words, functions, names and scopes are UTF-8 if the names in them are.
use Rattle.std.proofs.Common.{ℕ, zero, suc, ◌+◌, ◌<◌, ◌/◌, ◌%◌, ℤ, pos, negsuc, List, [], ◌∷◌, ◌++◌, Bool, true}
use Rattle.std.proofs.Common.{false, cond, ◌==◌, Option, Some, None, unwrap_or, refl, arith, codes}
use Rattle.std.proofs.lemmas.Str.{IsUtf8-append, IsUtf8-from_ascii, IsUtf8-nil}
use Rattle.std.proofs.lemmas.Str.Ascii.{IsAscii-cons, IsAscii-nil}
use Rattle.std.specs.Fmt.{decimal, digit_glyph, digits, digits_onto, signed_decimal}
use Rattle.std.specs.Str.{IsAscii, IsUtf8}
use Rattle.msvc_nodes.specs.BaseTypes.{basic_types, under_types}
use Rattle.msvc_nodes.specs.declared.kinds.PrimitiveKind.{PrimitiveKind}
use Rattle.msvc_nodes.specs.declared.kinds.PointerAffinity.{PointerAffinity}
use Rattle.msvc_nodes.specs.declared.kinds.TagKind.{TagKind}
use Rattle.msvc_nodes.specs.declared.kinds.PrimitiveKind.TheVariants as base_kind
use Rattle.msvc_nodes.specs.declared.kinds.PointerAffinity.TheVariants as mark_kind
use Rattle.msvc_nodes.specs.declared.kinds.Spelling.{Spelling}
use Rattle.msvc_nodes.specs.declared.kinds.Spelling.TheVariants as spelling_kind
use Rattle.msvc_nodes.specs.declared.kinds.TagKind.TheVariants as tag_kind
use Rattle.msvc_nodes.specs.declared.kinds.Guard.{Guard}
use Rattle.msvc_nodes.specs.declared.kinds.Guard.TheVariants as guard_kind
use Rattle.msvc_nodes.specs.declared.kinds.PlainOperator.{PlainOperator}
use Rattle.msvc_nodes.specs.declared.kinds.PlainOperator.TheVariants as plain_operator
use Rattle.msvc_nodes.specs.declared.kinds.SpecialTableKind.{SpecialTableKind}
use Rattle.msvc_nodes.specs.declared.kinds.SpecialTableKind.TheVariants as table_kind
use Rattle.msvc_nodes.specs.Trees.{NameTrees, TypeTree}
use Rattle.msvc_nodes.specs.Trees.{no_names, names}
use Rattle.msvc_nodes.specs.declared.kinds.Convention.{Convention}
use Rattle.msvc_nodes.specs.declared.kinds.Convention.TheVariants.{Cdecl}
use Rattle.msvc_nodes.specs.declared.kinds.VarStorageKind.{VarStorageKind}
use Rattle.msvc_nodes.specs.declared.kinds.VarStorageKind.TheVariants.{PrivateStatic}
use Rattle.msvc_print.specs.Declaration.{ScopePieces, angled, class_after, conversion}
use Rattle.msvc_print.specs.Declaration.{length_pieces, named, pointed_class}
use Rattle.msvc_print.specs.Declaration.{arguments, full_conversion, returned_end}
use Rattle.msvc_print.specs.Declaration.{quoted, quoted_unless, spelled_name, table_end}
use Rattle.msvc_print.specs.Declaration.{thunk_end, tilde, with_inner}
use Rattle.msvc_print.specs.Operators.{base_class_pieces, guard_number, guard_pieces, guard_word, listed, operator_word}
use Rattle.msvc_print.specs.Operators.{full_operator_word, operator_pieces, unqualified_name, scoped, spaced}
use Rattle.msvc_print.specs.declared.operators.NameKind.{NameKind}
use Rattle.msvc_print.specs.declared.operators.NameKind.TheVariants as name_kinds
use Rattle.msvc_print.specs.Flags.{full_style, has, llvm_no_access, llvm_no_member, no_this_type, with_ptr64}
use Rattle.msvc_print.specs.Functions.{access_words, calling, convention_pieces, convention_word}
use Rattle.msvc_print.specs.Functions.{each_function_qualifier, extern_words, full_calling, full_function_qualifiers}
use Rattle.msvc_print.specs.Functions.{full_reference_words, full_this_words, full_wide_word, spaced_convention}
use Rattle.msvc_print.specs.Functions.{kind_words, member_start, member_words, function_qualifier, function_qualifiers}
use Rattle.msvc_print.specs.Functions.{parameter_list, separator, wide_qualifier}
use Rattle.msvc_print.specs.Pieces.{Piece, blank, text, space, settle, settle_all}
use Rattle.msvc_print.specs.Pieces.{is_written_after, last_byte}
use Rattle.msvc_print.specs.Sides.{Sides, alone, around, between, kept, kept_left, kept_right}
use Rattle.msvc_print.specs.Words.{angle_end, full_mark_space, full_marked, full_qualifiers, full_space}
use Rattle.msvc_print.specs.Words.{mark_qualifiers}
use Rattle.msvc_print.specs.Words.{base_word, base_words, chosen_word, closing, kind_word, mark_space, mark_word}
use Rattle.msvc_print.specs.Words.{marked, name_space, opening, qualifiers, table_qualifiers, tag_word, unaligned}
use Rattle.msvc_print.specs.Words.{access_word, parenthesis, shown_variable_word, static_word, variable_word}
use Rattle.msvc_print.specs.declared.spaces.Space.{Space}
use Rattle.msvc_print.specs.declared.spaces.Space.TheVariants.{AfterPointer}
use Rattle.msvc_print.specs.Pointed.{is_pointed, leaves_out}
use Rattle.msvc_print.specs.declared.pointed.Pointed.{Pointed}

-- the bytes of a piece, if it has some, are UTF-8
abbrev IsText : Piece → Type 0
IsText (text bytes) = IsUtf8 bytes
IsText (space s) = Unit {0}

abbrev EachIsText : List Piece → Type 0
EachIsText [] = Unit {0}
EachIsText (x ∷ xs) = IsText x × EachIsText xs

EachIsText-append : (xs ys : List Piece) → EachIsText xs → EachIsText ys → EachIsText (xs ++ ys)
EachIsText-append [] ys h h' = h'
EachIsText-append (x ∷ xs) ys h h' = (h.0, EachIsText-append xs ys h.1 h')

-- EachIsText as a record, which the lemmas below state
pub record AreTexts (xs : List Piece) : Type 0 where
  pub each : EachIsText xs

pub AreTexts-none : AreTexts []
AreTexts-none = record { each = tt }

pub AreTexts-text : (bytes : List ℕ) (xs : List Piece) → IsUtf8 bytes → AreTexts xs → AreTexts (text bytes ∷ xs)
AreTexts-text bytes xs h hs = record { each = (h, hs.each) }

pub AreTexts-space : (s : Space) (xs : List Piece) → AreTexts xs → AreTexts (space s ∷ xs)
AreTexts-space s xs hs = record { each = (tt, hs.each) }

pub AreTexts-append : (xs ys : List Piece) → AreTexts xs → AreTexts ys → AreTexts (xs ++ ys)
AreTexts-append xs ys h h' = record { each = EachIsText-append xs ys h.each h'.each }

pub AreTexts-choice : (b : Bool) (xs ys : List Piece) → AreTexts xs → AreTexts ys → AreTexts (cond b xs ys)
AreTexts-choice true xs ys h h' = h
AreTexts-choice false xs ys h h' = h'

IsUtf8-choice : (b : Bool) (xs ys : List ℕ) → IsUtf8 xs → IsUtf8 ys → IsUtf8 (cond b xs ys)
IsUtf8-choice true xs ys h h' = h
IsUtf8-choice false xs ys h h' = h'

-- texts settle to a text
settle-utf8 : (out : List ℕ) (x : Piece) → IsUtf8 out → IsText x → IsUtf8 (settle out x)
unfolding lib.Utf8.encode
settle-utf8 out (text bytes) h h' = IsUtf8-append out bytes h h'
settle-utf8 out (space s) h h' = IsUtf8-choice (is_written_after s (last_byte out)) (out ++ blank ∷ []) out
    (IsUtf8-append out (blank ∷ []) h (blank ∷ [], (refl, refl))) h

pub settle_all-utf8 : (out : List ℕ) (xs : List Piece) → IsUtf8 out → EachIsText xs → IsUtf8 (settle_all out xs)
unfolding settle_all
settle_all-utf8 out [] h hs = h
settle_all-utf8 out (x ∷ xs) h hs = settle_all-utf8 (settle out x) xs (settle-utf8 out x h hs.0) hs.1

-- a number of any length is written in ASCII
digit_choice-ascii : (b upper : Bool) (d : ℕ) → d < 16 → cond b (48 + d) (cond upper (55 + d) (87 + d)) < 128
digit_choice-ascii true upper d h = omega arith
digit_choice-ascii false true d h = omega arith
digit_choice-ascii false false d h = omega arith

digit-ascii : (upper : Bool) (d : ℕ) → d < 16 → digit_glyph upper d < 128
digit-ascii upper d h = digit_choice-ascii _ upper d h

pub hex_choice-ascii : (b : Bool) (d : ℕ) → d < 16 → cond b (48 + d) (55 + d) < 128
hex_choice-ascii true d h = omega arith
hex_choice-ascii false d h = omega arith

pub IsAscii-choice : (b : Bool) (xs ys : List ℕ) → IsAscii xs → IsAscii ys → IsAscii (cond b xs ys)
IsAscii-choice true xs ys h h' = h
IsAscii-choice false xs ys h h' = h'

digits_onto-ascii : (k radix n : ℕ) (upper : Bool) (later : List ℕ) → ((m : ℕ) → m % radix < 16) → IsAscii later →
    IsAscii (digits_onto k radix upper n later)
digits_onto-ascii zero radix n upper later small h = h
digits_onto-ascii (suc k) radix n upper later small h =
    let more : IsAscii (digit_glyph upper (n % radix) ∷ later) = IsAscii-cons (digit_glyph upper (n % radix)) later
    (digit-ascii upper (n % radix) (small n)) h in
    IsAscii-choice (n / radix == 0) (digit_glyph upper (n % radix) ∷ later)
    (digits_onto k radix upper (n / radix) (digit_glyph upper (n % radix) ∷ later))
    more (digits_onto-ascii k radix (n / radix) upper (digit_glyph upper (n % radix) ∷ later) small more)

decimal-ascii : (n : ℕ) → IsAscii (decimal n)
unfolding digits
decimal-ascii n = digits_onto-ascii 64 10 n false [] (λ m. omega arith) IsAscii-nil

pub hexadecimal-ascii : (n : ℕ) → IsAscii (digits 16 true n)
unfolding digits
hexadecimal-ascii n = digits_onto-ascii 64 16 n true [] (λ m. omega arith) IsAscii-nil

pub signed_decimal-utf8 : (z : ℤ) → IsUtf8 (signed_decimal z)
signed_decimal-utf8 (pos n) = IsUtf8-from_ascii (decimal n) (decimal-ascii n)
signed_decimal-utf8 (negsuc n) =
    IsUtf8-from_ascii (45 ∷ decimal (suc n)) (IsAscii-cons 45 (decimal (suc n)) (omega arith) (decimal-ascii (suc n)))

-- words
chosen_word-utf8 : (flags : ℕ) (ws : List ℕ × Option (List ℕ)) → IsUtf8 ws.0 → IsUtf8 (unwrap_or ws.1 [])
    → IsUtf8 (chosen_word flags ws)
chosen_word-utf8 flags (word, None) h h' = h
chosen_word-utf8 flags (word, Some other) h h' = IsUtf8-choice _ other word h' h

pub base_word-utf8 : (b : PrimitiveKind) (flags : ℕ) → IsUtf8 (base_word b flags)
unfolding base_word lib.Utf8.encode
base_word-utf8 base_kind.Void flags =
    chosen_word-utf8 flags (codes "void", None) (codes "void", (refl, refl)) ([], (refl, refl))
base_word-utf8 b flags =
    let ws = base_words b (basic_types ++ under_types) in
    chosen_word-utf8 flags ws (ws.0, (refl, refl)) (unwrap_or ws.1 [], (refl, refl))

variable_word-utf8 : (kind : VarStorageKind) → IsUtf8 (variable_word kind)
unfolding lib.Utf8.encode
variable_word-utf8 PrivateStatic = (variable_word PrivateStatic, (refl, refl))
variable_word-utf8 kind = (variable_word kind, (refl, refl))

access_word-utf8 : (kind : VarStorageKind) → IsUtf8 (access_word kind)
unfolding lib.Utf8.encode
access_word-utf8 PrivateStatic = (access_word PrivateStatic, (refl, refl))
access_word-utf8 kind = (access_word kind, (refl, refl))

static_word-utf8 : (kind : VarStorageKind) → IsUtf8 (static_word kind)
unfolding lib.Utf8.encode
static_word-utf8 PrivateStatic = (static_word PrivateStatic, (refl, refl))
static_word-utf8 kind = (static_word kind, (refl, refl))

pub shown_variable_word-utf8 : (pointed : Pointed) (kind : VarStorageKind) (flags : ℕ) →
    IsUtf8 (shown_variable_word pointed kind flags)
shown_variable_word-utf8 pointed kind flags =
    let without_kind = leaves_out pointed llvm_no_member flags in
    IsUtf8-choice (leaves_out pointed llvm_no_access flags) _ _
    (IsUtf8-choice without_kind [] (static_word kind) IsUtf8-nil (static_word-utf8 kind))
    (IsUtf8-choice without_kind (access_word kind) (variable_word kind) (access_word-utf8 kind)
    (variable_word-utf8 kind))

kind_word-utf8 : (tag : TagKind) → IsUtf8 (kind_word tag)
unfolding lib.Utf8.encode
kind_word-utf8 tag_kind.Alias = (kind_word tag_kind.Alias, (refl, refl))
kind_word-utf8 tag = (kind_word tag, (refl, refl))

pub tag_word-utf8 : (tag : TagKind) (flags : ℕ) → IsUtf8 (tag_word tag flags)
tag_word-utf8 tag flags = IsUtf8-choice _ [] (kind_word tag) IsUtf8-nil (kind_word-utf8 tag)

pub mark_word-utf8 : (mark : PointerAffinity) → IsUtf8 (mark_word mark)
unfolding lib.Utf8.encode
mark_word-utf8 mark_kind.Pointer = (mark_word mark_kind.Pointer, (refl, refl))
mark_word-utf8 mark = (mark_word mark, (refl, refl))

convention_word-utf8 : (convention : Convention) → IsUtf8 (convention_word convention)
unfolding lib.Utf8.encode
convention_word-utf8 Cdecl = (convention_word Cdecl, (refl, refl))
convention_word-utf8 convention = (convention_word convention, (refl, refl))

spaced_convention-utf8 : (convention : Convention) → IsUtf8 (spaced_convention convention)
unfolding lib.Utf8.encode
spaced_convention-utf8 convention =
    IsUtf8-append (convention_word convention) (codes " ") (convention_word-utf8 convention) (codes " ", (refl, refl))

-- a word with its space, or nothing
AreTexts-spaced : (b : Bool) (s : Space) (word : List ℕ) → IsUtf8 word → AreTexts (cond b (space s ∷ text word ∷ []) [])
AreTexts-spaced b s word h = AreTexts-choice b (space s ∷ text word ∷ []) []
    (AreTexts-space s (text word ∷ []) (AreTexts-text word [] h AreTexts-none)) AreTexts-none

-- a word, or nothing
pub AreTexts-word : (b : Bool) (word : List ℕ) → IsUtf8 word → AreTexts (cond b (text word ∷ []) [])
AreTexts-word b word h = AreTexts-choice b (text word ∷ []) [] (AreTexts-text word [] h AreTexts-none) AreTexts-none

full_qualifiers-texts : (set : ℕ) → AreTexts (full_qualifiers set)
unfolding full_qualifiers lib.Utf8.encode
full_qualifiers-texts set = AreTexts-append _ _ (AreTexts-word _ (codes " const") (codes " const", (refl, refl)))
    (AreTexts-append _ _ (AreTexts-word _ (codes " volatile") (codes " volatile", (refl, refl)))
    (AreTexts-word _ (codes " __restrict") (codes " __restrict", (refl, refl))))

pub qualifiers-texts : (set flags : ℕ) → AreTexts (qualifiers set flags)
unfolding qualifiers lib.Utf8.encode
qualifiers-texts set flags = AreTexts-choice (has flags full_style) _ _ (full_qualifiers-texts set)
    (AreTexts-append _ _
    (AreTexts-spaced _ _ (codes "const") (codes "const", (refl, refl)))
    (AreTexts-spaced _ _ (codes "volatile") (codes "volatile", (refl, refl))))

pub table_qualifiers-texts : (set : ℕ) → AreTexts (table_qualifiers set)
unfolding table_qualifiers lib.Utf8.encode
table_qualifiers-texts set = AreTexts-append _ _ (AreTexts-word _ (codes "const") (codes "const", (refl, refl)))
    (AreTexts-word _ _ (IsUtf8-choice _ (codes " volatile") (codes "volatile") (codes " volatile", (refl, refl))
    (codes "volatile", (refl, refl))))

mark_space-texts : (flags : ℕ) → AreTexts (mark_space flags)
mark_space-texts flags = AreTexts-choice _ _ _
    (AreTexts-choice _ _ _ (AreTexts-space _ _ AreTexts-none) AreTexts-none)
    (AreTexts-space _ _ AreTexts-none)

full_mark_space-texts : (flags : ℕ) → AreTexts (full_mark_space flags)
full_mark_space-texts flags = AreTexts-choice _ _ _
    (AreTexts-choice _ _ _ (AreTexts-space _ _ AreTexts-none) AreTexts-none)
    (AreTexts-space _ _ AreTexts-none)

pub mark_qualifiers-texts : (s : Space) (set : ℕ) → AreTexts (mark_qualifiers s set)
unfolding mark_qualifiers lib.Utf8.encode
mark_qualifiers-texts s set = AreTexts-append _ _ (AreTexts-spaced _ s (codes "const") (codes "const", (refl, refl)))
    (AreTexts-append _ _ (AreTexts-spaced _ s (codes "volatile") (codes "volatile", (refl, refl)))
    (AreTexts-spaced _ s (codes "__restrict") (codes "__restrict", (refl, refl))))

pub unaligned-texts : (has_it : Bool) (flags : ℕ) → AreTexts (unaligned has_it flags)
unfolding lib.Utf8.encode
unaligned-texts has_it flags = AreTexts-spaced _ _ (codes "__unaligned ") (codes "__unaligned ", (refl, refl))

full_marked-texts : (is : Bool) (word : List ℕ) (set flags : ℕ) → IsUtf8 word →
    AreTexts (full_marked is word set flags)
unfolding full_marked lib.Utf8.encode
full_marked-texts is word set flags h =
    AreTexts-append _ _ (unaligned-texts is flags)
    (AreTexts-append _ _ (full_mark_space-texts flags)
    (AreTexts-text word _ h (mark_qualifiers-texts (full_space flags) set)))

pub marked-texts : (is : Bool) (word : List ℕ) (set flags : ℕ) → IsUtf8 word → AreTexts (marked is word set flags)
unfolding marked
marked-texts is word set flags h = AreTexts-choice (has flags full_style) _ _ (full_marked-texts is word set flags h)
    (AreTexts-append _ _ (mark_space-texts flags) (AreTexts-text word _ h (qualifiers-texts set flags)))

parenthesis-texts : (flags : ℕ) → AreTexts (parenthesis flags)
unfolding lib.Utf8.encode
parenthesis-texts flags = AreTexts-space _ _ (AreTexts-text (codes "(") [] (codes "(", (refl, refl)) AreTexts-none)

pub opening-texts : (pointed : Pointed) (flags : ℕ) → AreTexts (opening pointed flags)
unfolding opening
opening-texts pointed flags = AreTexts-choice (is_pointed pointed) _ []
    (AreTexts-append _ _ (unaligned-texts _ flags) (parenthesis-texts flags)) AreTexts-none

pub closing-texts : (pointed : Pointed) → AreTexts (closing pointed)
unfolding closing lib.Utf8.encode
closing-texts pointed = AreTexts-word (is_pointed pointed) (codes ")") (codes ")", (refl, refl))

angle_end-texts : (flags : ℕ) → AreTexts (angle_end flags)
unfolding angle_end lib.Utf8.encode
angle_end-texts flags = AreTexts-choice (has flags full_style) _ _
    (AreTexts-text (codes ">") [] (codes ">", (refl, refl)) AreTexts-none)
    (AreTexts-space _ _ (AreTexts-text (codes ">") [] (codes ">", (refl, refl)) AreTexts-none))

-- pieces that a flag drops
pub AreTexts-unless : (b : Bool) (xs : List Piece) → AreTexts xs → AreTexts (cond b [] xs)
AreTexts-unless b xs h = AreTexts-choice b [] xs AreTexts-none h

access_words-texts : (pointed : Pointed) (class flags : ℕ) → AreTexts (access_words pointed class flags)
unfolding access_words lib.Utf8.encode
access_words-texts pointed class flags = AreTexts-unless _ _
    (AreTexts-append _ _ (AreTexts-word _ (codes "private: ") (codes "private: ", (refl, refl)))
    (AreTexts-append _ _ (AreTexts-word _ (codes "protected: ") (codes "protected: ", (refl, refl)))
    (AreTexts-word _ (codes "public: ") (codes "public: ", (refl, refl)))))

extern_words-texts : (class flags : ℕ) → AreTexts (extern_words class flags)
unfolding extern_words lib.Utf8.encode
extern_words-texts class flags = AreTexts-choice (has flags full_style) _ _
    (AreTexts-word _ (codes "extern \"C\" ") (codes "extern \"C\" ", (refl, refl))) AreTexts-none

kind_words-texts : (pointed : Pointed) (class flags : ℕ) → AreTexts (kind_words pointed class flags)
unfolding kind_words lib.Utf8.encode
kind_words-texts pointed class flags = AreTexts-unless _ _
    (AreTexts-append _ _ (AreTexts-word _ (codes "static ") (codes "static ", (refl, refl)))
    (AreTexts-append _ _ (AreTexts-word _ (codes "virtual ") (codes "virtual ", (refl, refl)))
    (extern_words-texts class flags)))

member_words-texts : (pointed : Pointed) (class flags : ℕ) → AreTexts (member_words pointed class flags)
unfolding member_words lib.Utf8.encode
member_words-texts pointed class flags =
    AreTexts-append _ _ (AreTexts-word _ (codes "[thunk]: ") (codes "[thunk]: ", (refl, refl)))
    (AreTexts-append _ _ (access_words-texts pointed class flags) (kind_words-texts pointed class flags))

pub member_start-texts : (pointed : Pointed) (class flags : ℕ) → AreTexts (member_start pointed class flags)
unfolding member_start
member_start-texts pointed class flags = AreTexts-unless (is_pointed pointed) (member_words pointed class flags)
    (member_words-texts pointed class flags)

pub function_qualifier-texts : (bit : ℕ) (word : List ℕ) (set : ℕ) → IsUtf8 word →
    AreTexts (function_qualifier bit word set)
function_qualifier-texts bit word set h = AreTexts-spaced (has set bit) AfterPointer word h

wide_qualifier-texts : (set flags : ℕ) → AreTexts (wide_qualifier set flags)
unfolding wide_qualifier lib.Utf8.encode
wide_qualifier-texts set flags = AreTexts-choice _ _ []
    (function_qualifier-texts 64 (codes "__ptr64") set (codes "__ptr64", (refl, refl))) AreTexts-none

each_function_qualifier-texts : (set flags : ℕ) → AreTexts (each_function_qualifier set flags)
unfolding each_function_qualifier lib.Utf8.encode
each_function_qualifier-texts set flags =
    AreTexts-append _ _ (function_qualifier-texts 1 (codes "const") set (codes "const", (refl, refl)))
    (AreTexts-append _ _ (function_qualifier-texts 2 (codes "volatile") set (codes "volatile", (refl, refl)))
    (AreTexts-append _ _ (wide_qualifier-texts set flags)
    (AreTexts-append _ _ (function_qualifier-texts 32 (codes "__restrict") set (codes "__restrict", (refl, refl)))
    (AreTexts-append _ _ (function_qualifier-texts 128 (codes "&") set (codes "&", (refl, refl)))
    (function_qualifier-texts 256 (codes "&&") set (codes "&&", (refl, refl)))))))

full_function_qualifiers-texts : (set flags : ℕ) → AreTexts (full_function_qualifiers set flags)
unfolding full_function_qualifiers full_this_words full_wide_word full_reference_words lib.Utf8.encode
full_function_qualifiers-texts set flags =
    AreTexts-append _ _ (AreTexts-unless (has flags no_this_type) _
    (AreTexts-append _ _ (AreTexts-word _ (codes " const") (codes " const", (refl, refl)))
    (AreTexts-append _ _ (AreTexts-word _ (codes " volatile") (codes " volatile", (refl, refl)))
    (AreTexts-append _ _ (AreTexts-choice (has flags with_ptr64) _ []
    (AreTexts-word _ (codes " __ptr64") (codes " __ptr64", (refl, refl))) AreTexts-none)
    (AreTexts-append _ _ (AreTexts-word _ (codes " __restrict") (codes " __restrict", (refl, refl)))
    (AreTexts-word _ (codes " __unaligned") (codes " __unaligned", (refl, refl))))))))
    (AreTexts-append _ _ (AreTexts-word _ (codes " noexcept") (codes " noexcept", (refl, refl)))
    (AreTexts-unless (has flags no_this_type) _
    (AreTexts-append _ _ (AreTexts-word _ (codes " &") (codes " &", (refl, refl)))
    (AreTexts-word _ (codes " &&") (codes " &&", (refl, refl))))))

function_qualifiers-texts : (set flags : ℕ) → AreTexts (function_qualifiers set flags)
unfolding function_qualifiers
function_qualifiers-texts set flags = AreTexts-choice (has flags full_style) _ _
    (full_function_qualifiers-texts set flags) (AreTexts-unless _ _ (each_function_qualifier-texts set flags))

convention-texts : (convention : Convention) (flags : ℕ) → AreTexts (convention_pieces convention flags)
unfolding convention_pieces
convention-texts convention flags =
    AreTexts-unless _ _ (AreTexts-text _ _ (spaced_convention-utf8 convention) AreTexts-none)

full_calling-texts : (pointed : Pointed) (convention : Convention) (flags : ℕ) →
    AreTexts (full_calling pointed convention flags)
unfolding full_calling
full_calling-texts pointed convention flags = AreTexts-append _ _ (opening-texts pointed flags)
    (AreTexts-unless _ _ (AreTexts-choice (is_pointed pointed) _ _
    (AreTexts-text _ _ (spaced_convention-utf8 convention) AreTexts-none)
    (AreTexts-space _ _ (AreTexts-text _ _ (convention_word-utf8 convention) AreTexts-none))))

pub calling-texts : (pointed : Pointed) (convention : Convention) (flags : ℕ) →
    AreTexts (calling pointed convention flags)
unfolding calling
calling-texts pointed convention flags = AreTexts-choice (has flags full_style) _ _
    (full_calling-texts pointed convention flags)
    (AreTexts-append _ _ (opening-texts pointed flags) (AreTexts-space _ _ (convention-texts convention flags)))

returned_end-texts : (t : TypeTree) (flags : ℕ) → AreTexts (returned_end t flags)
unfolding returned_end lib.Utf8.encode
returned_end-texts t flags = AreTexts-choice (has flags full_style) _ []
    (AreTexts-unless _ _ (AreTexts-text (codes " ") [] (codes " ", (refl, refl)) AreTexts-none)) AreTexts-none

pub returned-texts : (t : TypeTree) (pointed : Pointed) (convention : Convention) (flags : ℕ) →
    AreTexts (returned_end t flags ++ calling pointed convention flags)
returned-texts t pointed convention flags =
    AreTexts-append _ _ (returned_end-texts t flags) (calling-texts pointed convention flags)

kept_left-texts : (pieces : List Piece) (flags : ℕ) → AreTexts pieces → AreTexts (kept_left pieces flags)
unfolding kept_left
kept_left-texts pieces flags h = AreTexts-unless _ _ (AreTexts-unless _ pieces h)

kept_right-texts : (pieces : List Piece) (flags : ℕ) → AreTexts pieces → AreTexts (kept_right pieces flags)
unfolding kept_right
kept_right-texts pieces flags h = AreTexts-unless _ pieces h

pub parameter_list-texts : (pointed : Pointed) (inside : List Piece) (set flags : ℕ) → AreTexts inside →
    AreTexts (parameter_list pointed inside set flags)
unfolding lib.Utf8.encode
parameter_list-texts pointed inside set flags h = AreTexts-append _ _ (closing-texts pointed)
    (AreTexts-text (codes "(") _ (codes "(", (refl, refl)) (AreTexts-append _ _ h
    (AreTexts-text (codes ")") _ (codes ")", (refl, refl)) (function_qualifiers-texts set flags))))

pub separator-texts : (first : Bool) (flags : ℕ) → AreTexts (separator first flags)
unfolding separator lib.Utf8.encode
separator-texts first flags = AreTexts-choice first [] _ AreTexts-none
    (AreTexts-text _ _ (IsUtf8-choice _ (codes ", ") (codes ",") (codes ", ", (refl, refl)) (codes ",", (refl, refl)))
    AreTexts-none)

-- names
pub spelled_name-texts : (how : Spelling) (bytes : List ℕ) → IsUtf8 bytes → AreTexts (spelled_name how bytes)
unfolding lib.Utf8.encode
spelled_name-texts spelling_kind.Source bytes h = AreTexts-text bytes [] h AreTexts-none
spelled_name-texts spelling_kind.Interface bytes h = AreTexts-text (codes "[") _ (codes "[", (refl, refl))
    (AreTexts-text bytes _ h (AreTexts-text (codes "]") [] (codes "]", (refl, refl)) AreTexts-none))
spelled_name-texts spelling_kind.Md5 bytes h = AreTexts-text (codes "??@") _ (codes "??@", (refl, refl))
    (AreTexts-text bytes _ h (AreTexts-text (codes "@") [] (codes "@", (refl, refl)) AreTexts-none))

pub quoted-texts : (inside : List Piece) → AreTexts inside → AreTexts (quoted inside)
unfolding lib.Utf8.encode
quoted-texts inside h = AreTexts-text (codes "`") _ (codes "`", (refl, refl))
    (AreTexts-append _ _ h (AreTexts-text (codes "'") [] (codes "'", (refl, refl)) AreTexts-none))

pub quoted_unless-texts : (of_symbol : Bool) (inside : List Piece) → AreTexts inside →
    AreTexts (quoted_unless of_symbol inside)
unfolding quoted_unless
quoted_unless-texts of_symbol inside h = AreTexts-choice of_symbol inside (quoted inside) h (quoted-texts inside h)

operator_word-utf8 : (o : PlainOperator) → IsUtf8 (operator_word o)
unfolding operator_word lib.Utf8.encode
operator_word-utf8 plain_operator.Ctor = (codes "ctor", (refl, refl))
operator_word-utf8 o = (operator_word o, (refl, refl))

full_operator_word-utf8 : (o : PlainOperator) → IsUtf8 (full_operator_word o)
unfolding full_operator_word operator_word lib.Utf8.encode
full_operator_word-utf8 plain_operator.Ctor = (codes "ctor", (refl, refl))
full_operator_word-utf8 o = (full_operator_word o, (refl, refl))

guard_word-utf8 : (g : Guard) → IsUtf8 (guard_word g)
unfolding lib.Utf8.encode
guard_word-utf8 guard_kind.Static = (guard_word guard_kind.Static, (refl, refl))
guard_word-utf8 g = (guard_word g, (refl, refl))

spaced-texts : (word : List ℕ) → IsUtf8 word → AreTexts (spaced word)
spaced-texts word h = AreTexts-space _ _ (AreTexts-text word [] h AreTexts-none)

pub operator_pieces-texts : (o : PlainOperator) (flags : ℕ) → AreTexts (operator_pieces o flags)
unfolding operator_pieces
operator_pieces-texts o flags = AreTexts-choice (has flags full_style) _ _
    (AreTexts-text (full_operator_word o) [] (full_operator_word-utf8 o) AreTexts-none)
    (spaced-texts (operator_word o) (operator_word-utf8 o))

guard_number-texts : (n : Option ℕ) → AreTexts (guard_number n)
unfolding guard_number lib.Utf8.encode
guard_number-texts None = AreTexts-none
guard_number-texts (Some n) = AreTexts-text (codes "{") _ (codes "{", (refl, refl))
    (AreTexts-text (decimal n) _ (IsUtf8-from_ascii (decimal n) (decimal-ascii n))
    (AreTexts-text (codes "}") [] (codes "}", (refl, refl)) AreTexts-none))

pub guard_pieces-texts : (g : Guard) (n : Option ℕ) → AreTexts (guard_pieces g n)
unfolding guard_pieces
guard_pieces-texts g n = AreTexts-space _ _ (AreTexts-text (guard_word g) _ (guard_word-utf8 g) (guard_number-texts n))

listed-texts : (z : ℤ) (flags : ℕ) → AreTexts (listed z flags)
listed-texts z flags =
    AreTexts-append _ _ (separator-texts false flags) (AreTexts-text _ [] (signed_decimal-utf8 z) AreTexts-none)

pub base_class_pieces-texts : (a b c d : ℤ) (flags : ℕ) → AreTexts (base_class_pieces a b c d flags)
unfolding base_class_pieces lib.Utf8.encode
base_class_pieces-texts a b c d flags = AreTexts-space _ _
    (AreTexts-text (codes "`RTTI Base Class Descriptor at (") _
    (codes "`RTTI Base Class Descriptor at (", (refl, refl)) (AreTexts-text _ _ (signed_decimal-utf8 a)
    (AreTexts-append _ _ (listed-texts b flags) (AreTexts-append _ _ (listed-texts c flags)
    (AreTexts-append _ _ (listed-texts d flags) (AreTexts-text (codes ")'") [] (codes ")'", (refl, refl))
    AreTexts-none))))))

unqualified_name-texts : (kind : NameKind) (constructor destructor conversion name : List Piece) →
    AreTexts constructor → AreTexts destructor → AreTexts conversion → AreTexts name →
    AreTexts (unqualified_name kind constructor destructor conversion name)
unfolding lib.Utf8.encode
unqualified_name-texts name_kinds.Constructor _ _ _ _ a b c d = a
unqualified_name-texts name_kinds.Destructor _ _ _ _ a b c d = b
unqualified_name-texts name_kinds.Conversion _ _ _ _ a b c d = c
unqualified_name-texts name_kinds.BaseTable _ _ _ _ a b c d =
    AreTexts-text (codes "`vbtable'{for `") [] (codes "`vbtable'{for `", (refl, refl)) AreTexts-none
unqualified_name-texts name_kinds.Literal _ _ _ _ a b c d = AreTexts-none
unqualified_name-texts name_kinds.Ordinary _ _ _ _ a b c d = d

after_scope-texts : (prefix name : List Piece) (flags : ℕ) → AreTexts prefix → AreTexts name →
    AreTexts (space (name_space flags) ∷ (prefix ++ name))
after_scope-texts prefix name flags h h' = AreTexts-space _ _ (AreTexts-append prefix name h h')

scoped-texts : (kind : NameKind) (prefix path name : List Piece) (flags : ℕ) → AreTexts prefix → AreTexts path →
    AreTexts name → AreTexts (scoped kind prefix path name flags)
unfolding scoped lib.Utf8.encode
scoped-texts name_kinds.Literal prefix path name flags a b c = AreTexts-space _ _ (AreTexts-space _ _
    (AreTexts-text (codes "operator \"\"") path (codes "operator \"\"", (refl, refl)) b))
scoped-texts name_kinds.Ordinary prefix path name flags a b c = after_scope-texts prefix name flags a c
scoped-texts _ prefix path name flags a b c = after_scope-texts prefix name flags a c

pub table_end-texts : (k : SpecialTableKind) (scope : NameTrees) (path : List Piece) → AreTexts path →
    AreTexts (table_end k scope path)
unfolding table_end lib.Utf8.encode
table_end-texts table_kind.Functions no_names path h = AreTexts-none
table_end-texts table_kind.Functions (names n ns) path h = AreTexts-text (codes "{for `") _
    (codes "{for `", (refl, refl)) (AreTexts-append _ _ h (AreTexts-text (codes "'}") [] (codes "'}", (refl, refl))
    AreTexts-none))
table_end-texts table_kind.Bases scope path h =
    AreTexts-append _ _ h (AreTexts-text (codes "'}}") [] (codes "'}}", (refl, refl)) AreTexts-none)

pub thunk_end-texts : (n : ℤ) (flags : ℕ) → AreTexts (thunk_end n flags)
unfolding lib.Utf8.encode
thunk_end-texts n flags = AreTexts-text (codes "{") _ (codes "{", (refl, refl))
    (AreTexts-text _ _ (signed_decimal-utf8 n) (AreTexts-append _ _ (separator-texts false flags)
    (AreTexts-text (codes "{flat}}") [] (codes "{flat}}", (refl, refl)) AreTexts-none)))

pub length_pieces-texts : (n : ℤ) → AreTexts (length_pieces n)
unfolding lib.Utf8.encode
length_pieces-texts n = AreTexts-text (codes "[") _ (codes "[", (refl, refl)) (AreTexts-text _ _ (signed_decimal-utf8 n)
    (AreTexts-text (codes "]") [] (codes "]", (refl, refl)) AreTexts-none))

pub pointed_class-texts : (class : List Piece) → AreTexts class → AreTexts (pointed_class class)
unfolding lib.Utf8.encode
pointed_class-texts class h = AreTexts-space _ _ (AreTexts-append _ _ h
    (AreTexts-text (codes "::*") [] (codes "::*", (refl, refl)) AreTexts-none))

-- what a scope prints
pub record ScopeIsText (s : ScopePieces) : Type 0 where
  pub prefix : AreTexts s.prefix
  pub path : AreTexts s.path
  pub innermost : (word : List Piece) → AreTexts word → AreTexts (class_after word s.innermost)

pub no_scope-texts : ScopeIsText (record { prefix = []; path = []; innermost = None })
unfolding lib.Utf8.encode
no_scope-texts = record {
  prefix = AreTexts-none;
  path = AreTexts-none;
  innermost = λ word h. AreTexts-text (codes "[invalid]") [] (codes "[invalid]", (refl, refl)) AreTexts-none;
}

pub with_inner-texts : (outer : ScopePieces) (name : List Piece) → ScopeIsText outer → AreTexts name →
    ScopeIsText (with_inner outer name)
unfolding lib.Utf8.encode
with_inner-texts outer name h h' = record {
  prefix = AreTexts-append _ _ h.prefix (AreTexts-append _ _ h'
      (AreTexts-text (codes "::") [] (codes "::", (refl, refl)) AreTexts-none));
  path = AreTexts-append _ _ h.prefix h';
  innermost = λ word e. AreTexts-append _ _ e h';
}

pub named-texts : (kind : NameKind) (scope : ScopePieces) (list conversion name : List Piece) (flags : ℕ) →
    ScopeIsText scope → AreTexts list → AreTexts conversion → AreTexts name →
    AreTexts (named kind scope list conversion name flags)
unfolding lib.Utf8.encode
named-texts kind scope list conversion name flags h hl h' h'' = scoped-texts kind _ _ _ flags h.prefix h.path
    (unqualified_name-texts kind _ _ _ _ (AreTexts-append _ list (h.innermost [] AreTexts-none) hl)
    (AreTexts-append _ list
    (h.innermost tilde (AreTexts-text (codes "~") [] (codes "~", (refl, refl)) AreTexts-none)) hl) h' h'')

pub full_conversion-texts : (none : Bool) (list value name : List Piece) → AreTexts list → AreTexts value →
    AreTexts name →
    AreTexts (full_conversion none list value name)
unfolding full_conversion lib.Utf8.encode
full_conversion-texts none list value name h h' h'' = AreTexts-choice none _ _ h''
    (AreTexts-text (codes "operator") _ (codes "operator", (refl, refl))
    (AreTexts-append _ _ h (AreTexts-text (codes " ") _ (codes " ", (refl, refl)) h')))

-- both sides of a name
pub record SidesAreTexts (s : Sides) : Type 0 where
  pub left : AreTexts s.left
  pub right : AreTexts s.right

-- sides that a flag decides about
pub SidesAreTexts-choice : (b : Bool) (s s' : Sides) → SidesAreTexts s → SidesAreTexts s' → SidesAreTexts (cond b s s')
SidesAreTexts-choice true s s' h h' = h
SidesAreTexts-choice false s s' h h' = h'

pub alone-texts : SidesAreTexts alone
alone-texts = record { left = AreTexts-none; right = AreTexts-none }

pub between-texts : (x : List Piece) (s : Sides) (y : List Piece) → AreTexts x → SidesAreTexts s → AreTexts y →
    SidesAreTexts (between x s y)
between-texts x s y h hs h' = record {
  left = AreTexts-append x s.left h hs.left;
  right = AreTexts-append s.right y hs.right h';
}

-- more on the left alone
pub before-texts : (x : List Piece) (s : Sides) → AreTexts x → SidesAreTexts s → SidesAreTexts (between x s [])
before-texts x s h hs = between-texts x s [] h hs AreTexts-none

pub around-texts : (s : Sides) (inside : List Piece) → SidesAreTexts s → AreTexts inside → AreTexts (around s inside)
around-texts s inside hs h = AreTexts-append _ _ hs.left (AreTexts-append _ _ h hs.right)

pub kept-texts : (s : Sides) (flags : ℕ) → SidesAreTexts s → SidesAreTexts (kept s flags)
kept-texts s flags h =
    record { left = kept_left-texts s.left flags h.left; right = kept_right-texts s.right flags h.right }

pub angled-texts : (arguments : List Piece) (flags : ℕ) → AreTexts arguments → AreTexts (angled arguments flags)
unfolding lib.Utf8.encode
angled-texts arguments flags h =
    AreTexts-text (codes "<") _ (codes "<", (refl, refl)) (AreTexts-append _ _ h (angle_end-texts flags))
