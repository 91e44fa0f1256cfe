-- What flags do not change: bits that no definition asks for, and under NAME_ONLY the type of a symbol.
use Rattle.std.proofs.Common.{◌≡◌, ℕ, ℤ, List, [], ◌∷◌, ◌++◌, Bool, true, false, cond, refl, ap, sym, ◌∙◌, bit_and}
use Rattle.std.proofs.Common.{◌==◌, ◌||◌, ◌<◌, append_assoc, arith, codes, drop, zero, suc, not, Option, Some, None}
use Rattle.std.proofs.lemmas.Bool.{ne_eqb}
use Rattle.std.proofs.lemmas.Nat.{and_assoc, and_le_l}
use Rattle.std.specs.Fmt.{signed_decimal}
use Rattle.msvc_nodes.specs.BaseTypes.{basic_types, under_types}
use Rattle.msvc_nodes.specs.Trees.{NameTree, NameTrees, TypeTree, TypeTrees, spelled, operator, guard}
use Rattle.msvc_nodes.specs.Trees.{type_descriptor, base_class_descriptor, template, discriminator, nested, anonymous}
use Rattle.msvc_nodes.specs.Trees.{no_names, names, no_types, types, base, tagged, pointing, array, function}
use Rattle.msvc_nodes.specs.Trees.{member_function, member_pointer, plain, numbered, variable, table, vcall_thunk}
use Rattle.msvc_nodes.specs.Trees.{SymbolTree, shape, shaped}
use Rattle.msvc_nodes.specs.declared.nodes.Number.{Number}
use Rattle.msvc_nodes.specs.declared.kinds.PrimitiveKind.{PrimitiveKind}
use Rattle.msvc_nodes.specs.declared.kinds.NumberedType.TheVariants as number_kind
use Rattle.msvc_nodes.specs.declared.kinds.PlainType.TheVariants as plain_kind
use Rattle.msvc_nodes.specs.declared.kinds.PlainOperator.TheVariants as plain_operator
use Rattle.msvc_nodes.specs.declared.kinds.Spelling.TheVariants as spelling_kind
use Rattle.msvc_nodes.specs.declared.kinds.TagKind.{TagKind}
use Rattle.msvc_nodes.specs.declared.kinds.Convention.{Convention}
use Rattle.msvc_nodes.specs.declared.kinds.VarStorageKind.{VarStorageKind}
use Rattle.msvc_print.proofs.Dropped.{kept_left-name_only, kept_right-dropped}
use Rattle.msvc_print.specs.Declaration.{ScopePieces, angled, arguments, conversion, declaration, full_conversion}
use Rattle.msvc_print.specs.Declaration.{grown, is_empty_pack, is_none}
use Rattle.msvc_print.specs.Declaration.{length_pieces, name_pieces, named, parameters, pointed_class, quoted_unless}
use Rattle.msvc_print.specs.Declaration.{returned_end}
use Rattle.msvc_print.specs.Declaration.{scope_path, scope_pieces, scope_prefix, symbol_name, symbol_pieces, table_end}
use Rattle.msvc_print.specs.Declaration.{each_name, grown_around, with_inner}
use Rattle.msvc_print.specs.Flags.{has, hug_type, ms_type_names, name_only, no_access_specifiers, no_class_type}
use Rattle.msvc_print.specs.Flags.{full_style, llvm_no_access, llvm_no_convention, llvm_no_member, llvm_no_return}
use Rattle.msvc_print.specs.Flags.{llvm_flags, llvm_no_variable}
use Rattle.msvc_print.specs.Flags.{no_function_returns, no_member_type, no_ms_keywords, no_this_type}
use Rattle.msvc_print.specs.Flags.{space_after_comma, space_before_pointer, with_ptr64}
use Rattle.msvc_print.specs.Functions.{access_words, calling, convention_pieces, extern_words, full_calling}
use Rattle.msvc_print.specs.Functions.{full_function_qualifiers, full_reference_words, full_this_words}
use Rattle.msvc_print.specs.Functions.{full_wide_word, hides_access, hides_convention, hides_kind, noexcept}
use Rattle.msvc_print.specs.Functions.{each_function_qualifier, kind_words, member_start, member_word, member_words}
use Rattle.msvc_print.specs.Functions.{parameter_list}
use Rattle.msvc_print.specs.Functions.{function_qualifier, function_qualifiers, separator, wide_qualifier}
use Rattle.msvc_print.specs.Laws.{Agree, HashIsItsText, NameOnlyAsksNoType, OtherBitsChangeNothing, obeyed_flags}
use Rattle.msvc_nodes.specs.declared.kinds.PlainOperator.{PlainOperator}
use Rattle.msvc_print.specs.Operators.{base_class_pieces, name_kind, operator_pieces, unqualified_name, scoped}
use Rattle.msvc_print.specs.Operators.{template_kind}
use Rattle.msvc_print.specs.Pieces.{Piece, resolve, settle_all, space, text}
use Rattle.msvc_print.specs.Shapes.{Parts, each_number, laid, number_pieces, parted, parts, rank_at, slot_pieces}
use Rattle.msvc_print.specs.Declaration.{each_type}
use Rattle.msvc_print.specs.Functions.{comma}
use Rattle.msvc_print.specs.Sides.{Sides, alone, around, between, kept, kept_left, kept_right}
use Rattle.msvc_print.specs.Words.{base_word, base_words, chosen_word, closing, kind_word, mark_space, mark_word}
use Rattle.msvc_print.specs.Words.{marked, name_space, opening, qualifier, qualifier_space, qualifiers, tag_word}
use Rattle.msvc_print.specs.Words.{angle_end, full_mark_space, full_marked, full_space, mark_qualifiers, set_word}
use Rattle.msvc_print.specs.Words.{access_word, parenthesis, shown_variable_word, static_word, unaligned, variable_word}
use Rattle.msvc_print.specs.declared.operators.NameKind.{NameKind}
use Rattle.msvc_print.specs.declared.operators.NameKind.TheVariants as name_kinds
use Rattle.msvc_print.specs.declared.spaces.Space.TheVariants.{AfterPointer, AfterReference, AfterWord, UnlessOpen}
use Rattle.msvc_shapes.specs.Layouts.{Slot, layout_of, slots}
use Rattle.msvc_print.specs.declared.spaces.Space.TheVariants.{AfterFullPointer, AfterFullReference, AfterFullWord}
use Rattle.msvc_shapes.specs.Layouts as slot
use Rattle.msvc_shapes.specs.declared.layouts.Side.TheVariants as side
use Rattle.msvc_print.specs.Pointed.{is_pointed, is_unaligned, opens, pointed_by, unaligned_mark, unaligned_shape}
use Rattle.msvc_print.specs.Pointed.{drops, leaves_out, passed_on, under}
use Rattle.msvc_print.specs.declared.pointed.Pointed.{Pointed}
use Rattle.msvc_print.specs.declared.pointed.Pointed.TheVariants.{No, Inner, Yes, Unaligned}

-- two words give the same answer to each question that a definition asks
record Same (a b : ℕ) : Type 0 where
  keywords : has a no_ms_keywords ≡ has b no_ms_keywords
  returns : has a no_function_returns ≡ has b no_function_returns
  this_type : has a no_this_type ≡ has b no_this_type
  access : has a no_access_specifiers ≡ has b no_access_specifiers
  member : has a no_member_type ≡ has b no_member_type
  type_names : has a ms_type_names ≡ has b ms_type_names
  only : has a name_only ≡ has b name_only
  class_type : has a no_class_type ≡ has b no_class_type
  comma : has a space_after_comma ≡ has b space_after_comma
  hug : has a hug_type ≡ has b hug_type
  pointer : has a space_before_pointer ≡ has b space_before_pointer
  wide : has a with_ptr64 ≡ has b with_ptr64
  style : has a full_style ≡ has b full_style
  llvm_convention : drops llvm_no_convention a ≡ drops llvm_no_convention b
  llvm_return : drops llvm_no_return a ≡ drops llvm_no_return b
  llvm_access : drops llvm_no_access a ≡ drops llvm_no_access b
  llvm_member : drops llvm_no_member a ≡ drops llvm_no_member b
  llvm_variable : drops llvm_no_variable a ≡ drops llvm_no_variable b

-- words that agree on some bits agree on fewer
fewer : (a b many few : ℕ) → bit_and many few ≡ few → Agree many a b → Agree few a b
fewer a b many few within e =
    ap (bit_and a) (sym within) ∙ sym (and_assoc few a many) ∙ ap (λ x. bit_and x few) e ∙ and_assoc few b many
    ∙ ap (bit_and b) within

has-same : (a b many bits : ℕ) → bit_and many bits ≡ bits → Agree many a b → has a bits ≡ has b bits
has-same a b many bits within e = ap (λ x. x == bits) (fewer a b many bits within e)

-- an answer that counts only where the same question is answered with yes
both-same : (c c' d d' : Bool) → c ≡ c' → (c ≡ true → d ≡ d') → cond c d false ≡ cond c' d' false
both-same true c' d d' e h = h refl ∙ ap (λ x. cond x d' false) e
both-same false c' d d' e h = ap (λ x. cond x d' false) e

drops-same : (a b bits : ℕ) → bit_and llvm_flags bits ≡ bits → has a full_style ≡ has b full_style →
    (has a full_style ≡ true → Agree llvm_flags a b) → drops bits a ≡ drops bits b
drops-same a b bits within e h =
    both-same (has a full_style) (has b full_style) (has a bits) (has b bits) e
    (λ full. has-same a b llvm_flags bits within (h full))

all-same : (a b : ℕ) → Agree obeyed_flags a b → (has a full_style ≡ true → Agree llvm_flags a b) → Same a b
all-same a b e h = let style = has-same a b obeyed_flags full_style refl e in record {
  keywords = has-same a b obeyed_flags no_ms_keywords refl e;
  returns = has-same a b obeyed_flags no_function_returns refl e;
  this_type = has-same a b obeyed_flags no_this_type refl e;
  access = has-same a b obeyed_flags no_access_specifiers refl e;
  member = has-same a b obeyed_flags no_member_type refl e;
  type_names = has-same a b obeyed_flags ms_type_names refl e;
  only = has-same a b obeyed_flags name_only refl e;
  class_type = has-same a b obeyed_flags no_class_type refl e;
  comma = has-same a b obeyed_flags space_after_comma refl e;
  hug = has-same a b obeyed_flags hug_type refl e;
  pointer = has-same a b obeyed_flags space_before_pointer refl e;
  wide = has-same a b obeyed_flags with_ptr64 refl e;
  style = style;
  llvm_convention = drops-same a b llvm_no_convention refl style h;
  llvm_return = drops-same a b llvm_no_return refl style h;
  llvm_access = drops-same a b llvm_no_access refl style h;
  llvm_member = drops-same a b llvm_no_member refl style h;
  llvm_variable = drops-same a b llvm_no_variable refl style h;
}

-- lists of the same parts are the same
same-append : (xs xs' ys ys' : List Piece) → xs ≡ xs' → ys ≡ ys' → xs ++ ys ≡ xs' ++ ys'
same-append xs xs' ys ys' e e' = ap (λ x. x ++ ys) e ∙ ap (λ y. xs' ++ y) e'

same-choice : (c : Bool) (xs xs' ys ys' : List Piece) → xs ≡ xs' → ys ≡ ys' → cond c xs ys ≡ cond c xs' ys'
same-choice c xs xs' ys ys' e e' = ap (λ x. cond c x ys) e ∙ ap (λ y. cond c xs' y) e'

-- pieces that one question decides about
same-unless : (c c' : Bool) (xs xs' : List Piece) → c ≡ c' → xs ≡ xs' → cond c [] xs ≡ cond c' [] xs'
same-unless c c' xs xs' e e' = ap (λ x. cond x [] xs) e ∙ ap (λ x. cond c' [] x) e'

-- pieces that the style decides about
same-style : (xs xs' ys ys' : List Piece) (a b : ℕ) → Same a b → xs ≡ xs' → ys ≡ ys' →
    cond (has a full_style) xs ys ≡ cond (has b full_style) xs' ys'
same-style xs xs' ys ys' a b e h h' =
    ap (λ c. cond c xs ys) e.style ∙ same-choice (has b full_style) xs xs' ys ys' h h'

-- words and spaces
chosen_word-same : (ws : List ℕ × Option (List ℕ)) (a b : ℕ) → Same a b → chosen_word a ws ≡ chosen_word b ws
chosen_word-same (word, None) a b e = refl
chosen_word-same (word, Some other) a b e = ap (λ c. cond c other word) e.type_names

base_word-same : (w : PrimitiveKind) (a b : ℕ) → Same a b → base_word w a ≡ base_word w b
unfolding base_word
base_word-same w a b e = chosen_word-same (base_words w (basic_types ++ under_types)) a b e

tag_word-same : (tag : TagKind) (a b : ℕ) → Same a b → tag_word tag a ≡ tag_word tag b
tag_word-same tag a b e = ap (λ c. cond c [] (kind_word tag)) e.class_type

name_space-same : (a b : ℕ) → Same a b → name_space a ≡ name_space b
name_space-same a b e =
    ap (λ c. cond (has a full_style) (cond c AfterFullWord AfterFullReference) (cond c AfterWord AfterReference))
    e.pointer
    ∙ ap (λ c. cond c (cond (has b space_before_pointer) AfterFullWord AfterFullReference)
    (cond (has b space_before_pointer) AfterWord AfterReference)) e.style

qualifier_space-same : (a b : ℕ) → Same a b → qualifier_space a ≡ qualifier_space b
qualifier_space-same a b e = ap (λ c. cond c AfterWord AfterPointer) e.pointer

qualifiers-same : (set a b : ℕ) → Same a b → qualifiers set a ≡ qualifiers set b
unfolding qualifiers
qualifiers-same set a b e = same-style _ _ _ _ a b e refl
    (ap (λ s. qualifier s 1 (codes "const") set ++ qualifier s 2 (codes "volatile") set) (qualifier_space-same a b e))

full_space-same : (a b : ℕ) → Same a b → full_space a ≡ full_space b
full_space-same a b e = ap (λ c. cond c AfterFullWord AfterFullPointer) e.pointer

full_mark_space-same : (a b : ℕ) → Same a b → full_mark_space a ≡ full_mark_space b
full_mark_space-same a b e =
    ap (λ c. cond c (cond (has a space_before_pointer) (space AfterFullWord ∷ []) []) (space AfterFullPointer ∷ []))
    e.hug
    ∙ ap (λ c. cond (has b hug_type) (cond c (space AfterFullWord ∷ []) []) (space AfterFullPointer ∷ [])) e.pointer

unaligned-same : (has_it : Bool) (a b : ℕ) → Same a b → unaligned has_it a ≡ unaligned has_it b
unaligned-same has_it a b e =
    ap (λ s. cond has_it (space s ∷ text (codes "__unaligned ") ∷ []) []) (full_space-same a b e)

full_marked-same : (is : Bool) (word : List ℕ) (set a b : ℕ) → Same a b →
    full_marked is word set a ≡ full_marked is word set b
unfolding full_marked
full_marked-same is word set a b e = same-append _ _ _ _ (unaligned-same is a b e)
    (same-append _ _ _ _ (full_mark_space-same a b e)
    (ap (λ s. text word ∷ mark_qualifiers s set) (full_space-same a b e)))

parenthesis-same : (a b : ℕ) → Same a b → parenthesis a ≡ parenthesis b
parenthesis-same a b e =
    ap (λ s. space (cond (has a full_style) s AfterPointer) ∷ text (codes "(") ∷ []) (full_space-same a b e)
    ∙ ap (λ c. space (cond c (full_space b) AfterPointer) ∷ text (codes "(") ∷ []) e.style

opening-same : (pointed : Pointed) (a b : ℕ) → Same a b → opening pointed a ≡ opening pointed b
unfolding opening
opening-same pointed a b e = ap (λ x. cond (is_pointed pointed) x []) (same-append _ _ _ _
    (ap (λ c. unaligned (cond c (is_unaligned pointed) false) a) e.style
    ∙ unaligned-same (cond (has b full_style) (is_unaligned pointed) false) a b e) (parenthesis-same a b e))

pointed_by-same : (set a b : ℕ) → Same a b → pointed_by set a ≡ pointed_by set b
pointed_by-same set a b e = ap (λ c. cond c (cond (has set 16) Unaligned Yes) Yes) e.style

under-same : (pointed : Pointed) (is_mark : Bool) (set a b : ℕ) → Same a b →
    under pointed is_mark set a ≡ under pointed is_mark set b
under-same pointed is_mark set a b e = ap (λ p. cond is_mark p (passed_on pointed)) (pointed_by-same set a b e)

-- what flags of llvm-undname drop
leaves_out-same : (pointed : Pointed) (bit a b : ℕ) → drops bit a ≡ drops bit b →
    leaves_out pointed bit a ≡ leaves_out pointed bit b
leaves_out-same No bit a b e = e
leaves_out-same Inner bit a b e = refl
leaves_out-same Yes bit a b e = refl
leaves_out-same Unaligned bit a b e = refl

either-same : (pointed : Pointed) (bit flag a b : ℕ) → drops bit a ≡ drops bit b → has a flag ≡ has b flag →
    (leaves_out pointed bit a || has a flag) ≡ (leaves_out pointed bit b || has b flag)
either-same pointed bit flag a b e h =
    ap (λ c. c || has a flag) (leaves_out-same pointed bit a b e) ∙ ap (λ c. leaves_out pointed bit b || c) h

hides_kind-same : (pointed : Pointed) (a b : ℕ) → Same a b → hides_kind pointed a ≡ hides_kind pointed b
hides_kind-same pointed a b e = either-same pointed llvm_no_member no_member_type a b e.llvm_member e.member

unaligned_mark-same : (set : ℕ) (t : TypeTree) (a b : ℕ) → Same a b → unaligned_mark set t a ≡ unaligned_mark set t b
unaligned_mark-same set t a b e = ap (λ c. cond c (cond (has set 16) (not (opens t)) false) false) e.style

unaligned_shape-same : (set : ℕ) (ts : TypeTrees) (a b : ℕ) → Same a b →
    unaligned_shape set ts a ≡ unaligned_shape set ts b
unfolding unaligned_shape
unaligned_shape-same set no_types a b e = refl
unaligned_shape-same set (types t ts) a b e = unaligned_mark-same set t a b e

angle_end-same : (a b : ℕ) → Same a b → angle_end a ≡ angle_end b
unfolding angle_end
angle_end-same a b e = same-style _ _ _ _ a b e refl refl

mark_space-same : (a b : ℕ) → Same a b → mark_space a ≡ mark_space b
mark_space-same a b e =
    ap (λ c. cond c (cond (has a space_before_pointer) (space AfterWord ∷ []) []) (space AfterPointer ∷ [])) e.hug
    ∙ ap (λ c. cond (has b hug_type) (cond c (space AfterWord ∷ []) []) (space AfterPointer ∷ [])) e.pointer

marked-same : (is is' : Bool) (word : List ℕ) (set a b : ℕ) → is ≡ is' → Same a b →
    marked is word set a ≡ marked is' word set b
unfolding marked
marked-same is is' word set a b h e =
    ap (λ x. marked x word set a) h
    ∙ same-style _ _ _ _ a b e (full_marked-same is' word set a b e)
    (same-append (mark_space a) (mark_space b) (text word ∷ qualifiers set a) (text word ∷ qualifiers set b)
    (mark_space-same a b e) (ap (λ x. text word ∷ x) (qualifiers-same set a b e)))

separator-same : (first : Bool) (a b : ℕ) → Same a b → separator first a ≡ separator first b
unfolding separator
separator-same first a b e =
    ap (λ c. cond first [] (text (cond c (codes ", ") (codes ",")) ∷ [])) e.comma

kept_left-same : (xs ys : List Piece) (a b : ℕ) → xs ≡ ys → Same a b → kept_left xs a ≡ kept_left ys b
unfolding kept_left
kept_left-same xs ys a b h e = same-unless (has a name_only) (has b name_only) _ _ e.only
    (same-unless (has a no_function_returns) (has b no_function_returns) xs ys e.returns h)

kept_right-same : (xs ys : List Piece) (a b : ℕ) → xs ≡ ys → Same a b → kept_right xs a ≡ kept_right ys b
unfolding kept_right
kept_right-same xs ys a b h e = same-unless (has a name_only) (has b name_only) xs ys e.only h

-- functions
access_words-same : (pointed : Pointed) (class a b : ℕ) → Same a b →
    access_words pointed class a ≡ access_words pointed class b
unfolding access_words
access_words-same pointed class a b e =
    same-unless (hides_access pointed a) (hides_access pointed b) _ _
    (either-same pointed llvm_no_access no_access_specifiers a b e.llvm_access e.access) refl

extern_words-same : (class a b : ℕ) → Same a b → extern_words class a ≡ extern_words class b
unfolding extern_words
extern_words-same class a b e = same-style _ _ _ _ a b e refl refl

kind_words-same : (pointed : Pointed) (class a b : ℕ) → Same a b →
    kind_words pointed class a ≡ kind_words pointed class b
unfolding kind_words
kind_words-same pointed class a b e = same-unless (hides_kind pointed a) (hides_kind pointed b) _ _
    (hides_kind-same pointed a b e)
    (ap (λ x. member_word 16 (codes "static ") class ++ (member_word 32 (codes "virtual ") class ++ x))
    (extern_words-same class a b e))

member_start-same : (pointed : Pointed) (class a b : ℕ) → Same a b →
    member_start pointed class a ≡ member_start pointed class b
unfolding member_start member_words
member_start-same pointed class a b e =
    ap (λ x. cond (is_pointed pointed) [] (member_word 128 (codes "[thunk]: ") class ++ x))
    (same-append _ _ _ _ (access_words-same pointed class a b e) (kind_words-same pointed class a b e))

wide_qualifier-same : (set a b : ℕ) → Same a b → wide_qualifier set a ≡ wide_qualifier set b
unfolding wide_qualifier
wide_qualifier-same set a b e = ap (λ c. cond c (function_qualifier 64 (codes "__ptr64") set) []) e.wide

full_this_words-same : (set a b : ℕ) → Same a b → full_this_words set a ≡ full_this_words set b
unfolding full_this_words full_wide_word
full_this_words-same set a b e = same-unless (has a no_this_type) (has b no_this_type) _ _ e.this_type
    (ap (λ c. set_word 1 (codes " const") set ++ (set_word 2 (codes " volatile") set
    ++ (cond c (set_word 64 (codes " __ptr64") set) []
    ++ (set_word 32 (codes " __restrict") set ++ set_word 16 (codes " __unaligned") set)))) e.wide)

full_reference_words-same : (set a b : ℕ) → Same a b → full_reference_words set a ≡ full_reference_words set b
unfolding full_reference_words
full_reference_words-same set a b e =
    same-unless (has a no_this_type) (has b no_this_type) _ _ e.this_type refl

full_function_qualifiers-same : (set a b : ℕ) → Same a b →
    full_function_qualifiers set a ≡ full_function_qualifiers set b
unfolding full_function_qualifiers
full_function_qualifiers-same set a b e = same-append _ _ _ _ (full_this_words-same set a b e)
    (ap (λ x. set_word noexcept (codes " noexcept") set ++ x) (full_reference_words-same set a b e))

function_qualifiers-same : (set a b : ℕ) → Same a b → function_qualifiers set a ≡ function_qualifiers set b
unfolding function_qualifiers each_function_qualifier
function_qualifiers-same set a b e = same-style _ _ _ _ a b e (full_function_qualifiers-same set a b e)
    (same-unless (has a no_this_type) (has b no_this_type)
    (each_function_qualifier set a) (each_function_qualifier set b) e.this_type
    (ap (λ x. function_qualifier 1 (codes "const") set ++ (function_qualifier 2 (codes "volatile") set
    ++ (x ++ (function_qualifier 32 (codes "__restrict") set
    ++ (function_qualifier 128 (codes "&") set ++ function_qualifier 256 (codes "&&") set)))))
    (wide_qualifier-same set a b e)))

calling-same : (pointed : Pointed) (convention : Convention) (a b : ℕ) → Same a b →
    calling pointed convention a ≡ calling pointed convention b
unfolding calling full_calling convention_pieces
calling-same pointed convention a b e = same-style _ _ _ _ a b e
    (same-append _ _ _ _ (opening-same pointed a b e)
    (same-unless (hides_convention pointed a) (hides_convention pointed b) _ _
    (either-same pointed llvm_no_convention no_ms_keywords a b e.llvm_convention e.keywords) refl))
    (same-append _ _ _ _ (opening-same pointed a b e) (ap (λ x. space UnlessOpen ∷ x)
    (same-unless (has a no_ms_keywords) (has b no_ms_keywords) _ _ e.keywords refl)))

returned_end-same : (t : TypeTree) (a b : ℕ) → Same a b → returned_end t a ≡ returned_end t b
unfolding returned_end
returned_end-same t a b e = same-style _ _ _ _ a b e refl refl

returned-same : (t : TypeTree) (pointed : Pointed) (convention : Convention) (a b : ℕ) → Same a b →
    returned_end t a ++ calling pointed convention a ≡ returned_end t b ++ calling pointed convention b
returned-same t pointed convention a b e =
    same-append _ _ _ _ (returned_end-same t a b e) (calling-same pointed convention a b e)

angled-same : (xs ys : List Piece) (a b : ℕ) → xs ≡ ys → Same a b → angled xs a ≡ angled ys b
angled-same xs ys a b h e =
    ap (λ x. text (codes "<") ∷ x) (same-append xs ys (angle_end a) (angle_end b) h (angle_end-same a b e))

parameter_list-same : (pointed : Pointed) (xs ys : List Piece) (set a b : ℕ) → xs ≡ ys → Same a b →
    parameter_list pointed xs set a ≡ parameter_list pointed ys set b
parameter_list-same pointed xs ys set a b h e = ap (λ x. closing pointed ++ (text (codes "(") ∷ x))
    (same-append xs ys (text (codes ")") ∷ function_qualifiers set a) (text (codes ")") ∷ function_qualifiers set b) h
    (ap (λ x. text (codes ")") ∷ x) (function_qualifiers-same set a b e)))

-- names
base_class-same : (k l m n : ℤ) (a b : ℕ) → Same a b → base_class_pieces k l m n a ≡ base_class_pieces k l m n b
unfolding base_class_pieces
base_class-same k l m n a b e = ap (λ s. space AfterPointer ∷ text (codes "`RTTI Base Class Descriptor at (")
    ∷ text (signed_decimal k) ∷ ((s ++ text (signed_decimal l) ∷ []) ++ ((s ++ text (signed_decimal m) ∷ [])
    ++ ((s ++ text (signed_decimal n) ∷ []) ++ text (codes ")'") ∷ [])))) (separator-same false a b e)

scoped-flags : (kind : NameKind) (prefix path name : List Piece) (a b : ℕ) → Same a b →
    scoped kind prefix path name a ≡ scoped kind prefix path name b
unfolding scoped
scoped-flags name_kinds.Literal prefix path name a b e =
    ap (λ s. space s ∷ space AfterPointer ∷ text (codes "operator \"\"") ∷ path) (name_space-same a b e)
scoped-flags name_kinds.Ordinary prefix path name a b e = ap (λ s. space s ∷ (prefix ++ name)) (name_space-same a b e)
scoped-flags _ prefix path name a b e = ap (λ s. space s ∷ (prefix ++ name)) (name_space-same a b e)

named-same : (kind kind' : NameKind) (scope scope' : ScopePieces) (l l' v v' n n' : List Piece) (a b : ℕ) →
    kind ≡ kind' → scope ≡ scope' → l ≡ l' → v ≡ v' → n ≡ n' → Same a b →
    named kind scope l v n a ≡ named kind' scope' l' v' n' b
named-same kind kind' scope scope' l l' v v' n n' a b hk hs hl hv hn e =
    ap (λ x. named x scope l v n a) hk ∙ ap (λ x. named kind' x l v n a) hs ∙ ap (λ x. named kind' scope' x v n a) hl
    ∙ ap (λ x. named kind' scope' l' x n a) hv ∙ ap (λ x. named kind' scope' l' v' x a) hn
    ∙ scoped-flags kind' scope'.prefix scope'.path _ a b e

operator_pieces-same : (o : PlainOperator) (a b : ℕ) → Same a b → operator_pieces o a ≡ operator_pieces o b
unfolding operator_pieces
operator_pieces-same o a b e = same-style _ _ _ _ a b e refl refl

name_kind-same : (n : NameTree) (a b : ℕ) → Same a b → name_kind n a ≡ name_kind n b
unfolding name_kind
name_kind-same (operator plain_operator.Ctor) a b e = refl
name_kind-same (operator plain_operator.Dtor) a b e = refl
name_kind-same (operator plain_operator.Conversion) a b e = refl
name_kind-same (operator plain_operator.VBTable) a b e =
    ap (λ c. cond c name_kinds.Ordinary name_kinds.BaseTable) e.style
name_kind-same (operator plain_operator.LiteralOperatorName) a b e = refl
name_kind-same (operator o) a b e = refl
name_kind-same (template n ts) a b e = ap (λ c. cond c (template_kind n) name_kinds.Ordinary) e.style
name_kind-same _ a b e = refl

full_conversion-same : (none : Bool) (l l' v v' n n' : List Piece) → l ≡ l' → v ≡ v' → n ≡ n' →
    full_conversion none l v n ≡ full_conversion none l' v' n'
full_conversion-same none l l' v v' n n' hl hv hn =
    ap (λ x. full_conversion none x v n) hl ∙ ap (λ x. full_conversion none l' x n) hv
    ∙ ap (λ x. full_conversion none l' v' x) hn

-- sides
between-same : (x x' : List Piece) (s s' : Sides) (y y' : List Piece) → x ≡ x' → s ≡ s' → y ≡ y' →
    between x s y ≡ between x' s' y'
between-same x x' s s' y y' hx hs hy =
    ap (λ z. between z s y) hx ∙ ap (λ z. between x' z y) hs ∙ ap (λ z. between x' s' z) hy

around_kept-same : (s s' : Sides) (x x' : List Piece) (a b : ℕ) → s ≡ s' → x ≡ x' → Same a b →
    around (kept s a) x ≡ around (kept s' b) x'
around_kept-same s s' x x' a b hs hx e = same-append _ _ _ _
    (kept_left-same s.left s'.left a b (ap (λ z. z.left) hs) e)
    (same-append _ _ _ _ hx (kept_right-same s.right s'.right a b (ap (λ z. z.right) hs) e))

same-sides : (c c' : Bool) (s s' t t' : Sides) → c ≡ c' → s ≡ s' → t ≡ t' → cond c s t ≡ cond c' s' t'
same-sides c c' s s' t t' hc hs ht =
    ap (λ x. cond x s t) hc ∙ ap (λ x. cond c' x t) hs ∙ ap (λ x. cond c' s' x) ht

-- the words of a variable
shown_variable_word-same : (pointed : Pointed) (kind : VarStorageKind) (a b : ℕ) → Same a b →
    shown_variable_word pointed kind a ≡ shown_variable_word pointed kind b
shown_variable_word-same pointed kind a b e =
    ap (λ c. cond c (cond (leaves_out pointed llvm_no_member a) [] (static_word kind))
    (cond (leaves_out pointed llvm_no_member a) (access_word kind) (variable_word kind)))
    (leaves_out-same pointed llvm_no_access a b e.llvm_access)
    ∙ ap (λ c. cond (leaves_out pointed llvm_no_access b) (cond c [] (static_word kind))
    (cond c (access_word kind) (variable_word kind))) (leaves_out-same pointed llvm_no_member a b e.llvm_member)

-- shapes
each_number-same : (ns : List Number) (first : Bool) (a b : ℕ) → Same a b →
    each_number ns first a ≡ each_number ns first b
each_number-same [] first a b e = refl
each_number-same (n ∷ ns) first a b e = same-append _ _ _ _ (separator-same first a b e)
    (ap (λ x. number_pieces n ++ x) (each_number-same ns false a b e))

comma-same : (a b : ℕ) → Same a b → comma a ≡ comma b
comma-same a b e = ap (λ c. cond c (codes ", ") (codes ",")) e.comma

rank_at-same : (ns : List Number) (i a b : ℕ) → Same a b → rank_at ns i a ≡ rank_at ns i b
rank_at-same [] i a b e = refl
rank_at-same (n ∷ ns) zero a b e =
    ap (λ w. cond (n.value == 1) [] (text w ∷ number_pieces n)) (comma-same a b e)
rank_at-same (n ∷ ns) (suc i) a b e = rank_at-same ns i a b e

slot_pieces-same : (s : Slot) (pointed : Pointed) (p : Parts) (a b : ℕ) → Same a b →
    slot_pieces s pointed p a ≡ slot_pieces s pointed p b
unfolding slot_pieces
slot_pieces-same (slot.kind_word w) pointed p a b e =
    same-unless (hides_kind pointed a) (hides_kind pointed b) _ _ (hides_kind-same pointed a b e) refl
slot_pieces-same slot.qualifiers pointed p a b e = qualifiers-same p.set a b e
slot_pieces-same slot.pointer_qualifiers pointed p a b e =
    ap (λ s. mark_qualifiers s p.set) (full_space-same a b e)
slot_pieces-same slot.unaligned pointed p a b e = unaligned-same p.unaligned a b e
slot_pieces-same (slot.mark w) pointed p a b e = marked-same p.unaligned p.unaligned w p.set a b refl e
slot_pieces-same slot.opening pointed p a b e = opening-same pointed a b e
slot_pieces-same slot.numbers pointed p a b e = each_number-same p.numbers true a b e
slot_pieces-same (slot.rank i) pointed p a b e = rank_at-same p.numbers i a b e
slot_pieces-same (slot.types_from i) pointed p a b e =
    ap (λ w. parted w (drop i p.types) true) (comma-same a b e)
slot_pieces-same slot.comma pointed p a b e = separator-same false a b e
slot_pieces-same _ pointed p a b e = refl

laid-flags : (ss : List Slot) (pointed : Pointed) (p : Parts) (a b : ℕ) → Same a b →
    laid ss pointed p a ≡ laid ss pointed p b
unfolding laid
laid-flags [] pointed p a b e = refl
laid-flags (s ∷ ss) pointed p a b e =
    same-append _ _ _ _ (slot_pieces-same s pointed p a b e) (laid-flags ss pointed p a b e)

laid-same : (ss : List Slot) (pointed : Pointed) (p p' : Parts) (a b : ℕ) → p ≡ p' → Same a b →
    laid ss pointed p a ≡ laid ss pointed p' b
laid-same ss pointed p p' a b h e = ap (λ z. laid ss pointed z a) h ∙ laid-flags ss pointed p' a b e

parts-same : (is is' : Bool) (set : ℕ) (zs : List Number) (bytes : List ℕ)
    (ns ns' os os' ts ts' : List (List Piece)) → is ≡ is' → ns ≡ ns' → os ≡ os' → ts ≡ ts' →
    parts is set zs bytes ns os ts ≡ parts is' set zs bytes ns' os' ts'
parts-same is is' set zs bytes ns ns' os os' ts ts' e h h' h'' = ap (λ z. parts z set zs bytes ns os ts) e
    ∙ ap (λ z. parts is' set zs bytes z os ts) h ∙ ap (λ z. parts is' set zs bytes ns' z ts) h'
    ∙ ap (λ z. parts is' set zs bytes ns' os' z) h''

same-cons : (x x' : List Piece) (xs xs' : List (List Piece)) → x ≡ x' → xs ≡ xs' →
    Path (List (List Piece)) (x ∷ xs) (x' ∷ xs')
same-cons x x' xs xs' h hs = ap (λ z. z ∷ xs) h ∙ ap (λ z. x' ∷ z) hs

-- names, scopes, types and their lists
mutual
  unfolding name_pieces scope_pieces arguments conversion grown grown_around each_name each_type parameters

  name_pieces-same : (n : NameTree) (of_symbol : Bool) (a b : ℕ) → Same a b →
      name_pieces n of_symbol a ≡ name_pieces n of_symbol b
  name_pieces-same (spelled how bytes) of_symbol a b e = refl
  name_pieces-same (template n ts) of_symbol a b e = same-append (name_pieces n false a) (name_pieces n false b)
      (angled (parameters ts true a) a) (angled (parameters ts true b) b) (name_pieces-same n false a b e)
      (angled-same _ _ a b (parameters-same ts true a b e) e)
  name_pieces-same (discriminator z) of_symbol a b e = refl
  name_pieces-same (nested n ns t) of_symbol a b e = ap (quoted_unless of_symbol) (around_kept-same _ _ _ _ a b
      (grown-same t Inner alone alone a b refl e)
      (named-same _ _ _ _ _ _ _ _ _ _ a b (name_kind-same n a b e) (scope_pieces-same ns a b e)
      (arguments-same n a b e)
      (conversion-same t _ _ _ _ a b (arguments-same n a b e) (name_pieces-same n true a b e) e)
      (name_pieces-same n true a b e) e) e)
  name_pieces-same (anonymous digits) of_symbol a b e = refl
  name_pieces-same (operator o) of_symbol a b e = operator_pieces-same o a b e
  name_pieces-same (guard g n) of_symbol a b e = refl
  name_pieces-same (type_descriptor set t) of_symbol a b e =
      ap (λ s. space AfterPointer ∷ (s.left ++ text (codes "::`RTTI Type Descriptor'") ∷ []))
      (grown-same t No alone alone a b refl e)
  name_pieces-same (base_class_descriptor k l m n) of_symbol a b e = base_class-same k l m n a b e
  name_pieces-same (shaped row set zs bytes ns ts) of_symbol a b e = laid-same (slots row side.Left) No _ _ a b
      (parts-same _ _ set zs bytes _ _ _ _ _ _ (unaligned_shape-same set ts a b e)
      (each_name-same ns true a b e) (each_name-same ns false a b e)
      (each_type-same ts a b e)) e

  each_name-same : (ns : NameTrees) (of_symbol : Bool) (a b : ℕ) → Same a b →
      each_name ns of_symbol a ≡ each_name ns of_symbol b
  each_name-same no_names of_symbol a b e = refl
  each_name-same (names n ns) of_symbol a b e =
      same-cons _ _ _ _ (name_pieces-same n of_symbol a b e) (each_name-same ns of_symbol a b e)

  scope_pieces-same : (ns : NameTrees) (a b : ℕ) → Same a b → scope_pieces ns a ≡ scope_pieces ns b
  scope_pieces-same no_names a b e = refl
  scope_pieces-same (names n ns) a b e =
      ap (λ x. with_inner x (name_pieces n false a)) (scope_pieces-same ns a b e)
      ∙ ap (λ x. with_inner (scope_pieces ns b) x) (name_pieces-same n false a b e)

  arguments-same : (n : NameTree) (a b : ℕ) → Same a b → arguments n a ≡ arguments n b
  arguments-same (template n ts) a b e = angled-same _ _ a b (parameters-same ts true a b e) e
  arguments-same _ a b e = refl

  conversion-same : (t : TypeTree) (list list' name name' : List Piece) (a b : ℕ) → list ≡ list' → name ≡ name' →
      Same a b → conversion t list name a ≡ conversion t list' name' b
  conversion-same (function convention ts set t) list list' name name' a b h h' e = same-style _ _ _ _ a b e
      (full_conversion-same (is_none t) _ _ _ _ _ _ h
      (ap (λ s. around s []) (grown-same t No alone alone a b refl e)) h') h'
  conversion-same (member_function class convention ts set t) list list' name name' a b h h' e =
      same-style _ _ _ _ a b e
      (full_conversion-same (is_none t) _ _ _ _ _ _ h
      (ap (λ s. around s []) (grown-same t No alone alone a b refl e)) h')
      (ap (λ s. text (codes "operator ") ∷ around s []) (grown-same t No alone alone a b refl e))
  conversion-same (shape row q zs bytes ns (types (member_function class convention ts set t) us)) list list'
      name name' a b h h' e =
      same-style _ _ _ _ a b e
      (full_conversion-same (is_none t) _ _ _ _ _ _ h
      (ap (λ s. around s []) (grown-same t No alone alone a b refl e)) h') h'
  conversion-same _ list list' name name' a b h h' e = h'

  grown-same : (t : TypeTree) (pointed : Pointed) (s s' : Sides) (a b : ℕ) → s ≡ s' → Same a b →
      grown t pointed s a ≡ grown t pointed s' b
  grown-same (base w set) pointed s s' a b h e = between-same _ _ s s' [] [] (same-append _ _ _ _
      (ap (λ x. text x ∷ []) (base_word-same w a b e)) (qualifiers-same set a b e)) h refl
  grown-same (tagged tag n scope set) pointed s s' a b h e = between-same _ _ s s' [] [] (same-append _ _ _ _
      (ap (λ x. text x ∷ []) (tag_word-same tag a b e)) (same-append _ _ _ _
      (named-same _ _ _ _ _ _ _ _ _ _ a b (name_kind-same n a b e) (scope_pieces-same scope a b e)
      (arguments-same n a b e) (name_pieces-same n true a b e) (name_pieces-same n true a b e) e)
      (qualifiers-same set a b e))) h refl
  grown-same (pointing m t set) pointed s s' a b h e =
      ap (λ p. grown t p (between (marked (unaligned_mark set t a) (mark_word m) set a) s []) a)
      (pointed_by-same set a b e)
      ∙ grown-same t (pointed_by set b) _ _ a b (between-same _ _ s s' [] []
      (marked-same _ _ (mark_word m) set a b (unaligned_mark-same set t a b e) e) h refl) e
  grown-same (array n t set) pointed s s' a b h e =
      let end : List Piece = closing pointed ++ length_pieces n in
      grown-same t No _ _ a b (between-same _ _ s s' end end
      (same-append _ _ _ _ (qualifiers-same set a b e) (opening-same pointed a b e)) h refl) e
  grown-same (function convention ts set t) pointed s s' a b h e =
      let end = parameter_list-same pointed _ _ set a b (parameters-same ts true a b e) e in
      same-sides _ _ _ _ _ _ (leaves_out-same pointed llvm_no_return a b e.llvm_return)
      (between-same _ _ s s' _ _ (calling-same pointed convention a b e) h end)
      (grown-same t No _ _ a b (between-same _ _ s s' _ _ (returned-same t pointed convention a b e) h end) e)
  grown-same (member_function class convention ts set t) pointed s s' a b h e =
      let end = parameter_list-same pointed _ _ set a b (parameters-same ts true a b e) e in
      between-same _ _ _ _ [] [] (member_start-same pointed class a b e)
      (same-sides _ _ _ _ _ _ (leaves_out-same pointed llvm_no_return a b e.llvm_return)
      (between-same _ _ s s' _ _ (calling-same pointed convention a b e) h end)
      (grown-same t No _ _ a b (between-same _ _ s s' _ _ (returned-same t pointed convention a b e) h end) e)) refl
  grown-same (member_pointer n scope class convention ts set t) pointed s s' a b h e =
      let const : List Piece = function_qualifier 1 (codes "const") set in
      between-same [] [] _ _ const const refl (grown-same t No _ _ a b
      (between-same _ _ s s' _ _ (same-append _ _ _ _ (returned-same t Yes convention a b e) (ap pointed_class
      (named-same _ _ _ _ _ _ _ _ _ _ a b (name_kind-same n a b e) (scope_pieces-same scope a b e)
      (arguments-same n a b e) (name_pieces-same n true a b e) (name_pieces-same n true a b e) e))) h
      (ap (λ x. text (codes ")(") ∷ (x ++ text (codes ")") ∷ [])) (parameters-same ts true a b e))) e) refl
  grown-same (variable t kind set) pointed s s' a b h e =
      between-same _ _ _ _ [] [] (ap (λ w. text w ∷ []) (shown_variable_word-same pointed kind a b e))
      (same-sides _ _ _ _ _ _ (leaves_out-same pointed llvm_no_variable a b e.llvm_variable) h (grown-same t No _ _ a b
      (between-same _ _ s s' [] [] (qualifiers-same set a b e) h refl) e)) refl
  grown-same (table k scope set) pointed s s' a b h e = between-same _ _ s s' _ _ (qualifiers-same set a b e) h
      (ap (λ x. table_end k scope x.path) (scope_pieces-same scope a b e))
  grown-same (vcall_thunk n convention) pointed s s' a b h e = between-same _ _ s s' _ _
      (ap (λ x. text (codes "[thunk]: ") ∷ x) (calling-same (passed_on pointed) convention a b e)) h
      (ap (λ x. text (codes "{") ∷ text (signed_decimal n) ∷ (x ++ text (codes "{flat}}") ∷ []))
      (separator-same false a b e))
  grown-same (numbered number_kind.Constant n) pointed s s' a b h e =
      ap (λ x. between (text (signed_decimal n) ∷ []) x []) h
  grown-same (numbered number_kind.TemplateParameter n) pointed s s' a b h e = ap (λ x. between
      (text (codes "`template-parameter") ∷ text (signed_decimal n) ∷ text (codes "'") ∷ []) x []) h
  grown-same (numbered number_kind.ThreadSafeGuard n) pointed s s' a b h e =
      ap (λ x. between (text (codes "TSS") ∷ text (signed_decimal n) ∷ []) x []) h
  grown-same (plain plain_kind.Variadic) pointed s s' a b h e = ap (λ x. between (text (codes "...") ∷ []) x []) h
  grown-same (plain plain_kind.Nullptr) pointed s s' a b h e =
      ap (λ x. between (text (codes "std::nullptr_t") ∷ []) x []) h
  grown-same (shape row set zs bytes ns ts) pointed s s' a b h e =
      let p = parts-same _ _ set zs bytes _ _ _ _ _ _ (unaligned_shape-same set ts a b e)
      (each_name-same ns true a b e) (each_name-same ns false a b e)
      (each_type-same ts a b e) in
      grown_around-same ts (layout_of row).around set pointed _ _ a b (between-same _ _ s s' _ _
      (laid-same (slots row side.Left) pointed _ _ a b p e) h (laid-same (slots row side.Right) pointed _ _ a b p e)) e
  grown-same _ pointed s s' a b h e = h

  each_type-same : (ts : TypeTrees) (a b : ℕ) → Same a b → each_type ts a ≡ each_type ts b
  each_type-same no_types a b e = refl
  each_type-same (types t ts) a b e =
      same-cons _ _ _ _ (ap (λ s. around s []) (grown-same t No alone alone a b refl e))
      (each_type-same ts a b e)

  grown_around-same : (ts : TypeTrees) (w : Option Bool) (set : ℕ) (pointed : Pointed) (s s' : Sides) (a b : ℕ) →
      s ≡ s' → Same a b → grown_around ts w set pointed s a ≡ grown_around ts w set pointed s' b
  grown_around-same (types t ts) (Some is_mark) set pointed s s' a b h e =
      ap (λ p. grown t p s a) (under-same pointed is_mark set a b e)
      ∙ grown-same t (under pointed is_mark set b) s s' a b h e
  grown_around-same _ _ set pointed s s' a b h e = h

  parameters-same : (ts : TypeTrees) (first : Bool) (a b : ℕ) → Same a b → parameters ts first a ≡ parameters ts first b
  parameters-same no_types first a b e = refl
  parameters-same (types t ts) first a b e = same-choice (is_empty_pack t) _ _ _ _ (parameters-same ts first a b e)
      (same-append _ _ _ _ (separator-same first a b e) (same-append _ _ _ _
      (ap (λ s. around s []) (grown-same t No alone alone a b refl e)) (parameters-same ts false a b e)))

symbol_pieces-same : (n : NameTree) (ns : NameTrees) (t : TypeTree) (a b : ℕ) → Same a b →
    symbol_pieces n ns t No a ≡ symbol_pieces n ns t No b
symbol_pieces-same n ns t a b e = around_kept-same _ _ _ _ a b (grown-same t No alone alone a b refl e)
    (named-same _ _ _ _ _ _ _ _ _ _ a b (name_kind-same n a b e) (scope_pieces-same ns a b e)
    (arguments-same n a b e) (conversion-same t _ _ _ _ a b (arguments-same n a b e) (name_pieces-same n true a b e) e)
    (name_pieces-same n true a b e) e) e

-- no word of 32 bits has the bit of the style
plain-style : (flags : ℕ) → flags < full_style → has flags full_style ≡ false
plain-style flags small = ne_eqb (bit_and flags full_style) full_style
    (λ e. absurd (omega (arith, and_le_l flags full_style, e, small)))

pub other_bits-change-nothing : OtherBitsChangeNothing
unfolding declaration
other_bits-change-nothing = λ s a b agree llvm.
    ap resolve (symbol_pieces-same s.name s.scope s.symbol_type a b (all-same a b agree llvm))

-- in the crate's style no flag of llvm-undname changes anything
pub other_bits-change-nothing-in-crate : (s : SymbolTree) (a b : ℕ) → a < full_style → Agree obeyed_flags a b →
    declaration s a ≡ declaration s b
other_bits-change-nothing-in-crate s a b small agree =
    other_bits-change-nothing s a b agree (λ full. let none = plain-style a small in absurd (cc))

-- under NAME_ONLY nothing but the name is left
name_only-pieces : (n : NameTree) (scope : NameTrees) (t : TypeTree) (flags : ℕ) → has flags name_only ≡ true →
    symbol_pieces n scope t No flags ≡ symbol_name n scope t flags ++ []
name_only-pieces n scope t flags only = same-append _ _ _ _
    (kept_left-name_only (grown t No alone flags).left flags only)
    (ap (λ x. symbol_name n scope t flags ++ x) (kept_right-dropped (grown t No alone flags).right flags only))

-- only a conversion operator prints what its symbol returns
unqualified_name-conversion : (kind : NameKind) (c d v v' name : List Piece) → (kind ≡ name_kinds.Conversion → ⊥) →
    unqualified_name kind c d v name ≡ unqualified_name kind c d v' name
unqualified_name-conversion name_kinds.Conversion c d v v' name other = absurd (other refl)
unqualified_name-conversion name_kinds.Constructor c d v v' name other = refl
unqualified_name-conversion name_kinds.Destructor c d v v' name other = refl
unqualified_name-conversion name_kinds.BaseTable c d v v' name other = refl
unqualified_name-conversion name_kinds.Literal c d v v' name other = refl
unqualified_name-conversion name_kinds.Ordinary c d v v' name other = refl

pub name_only-asks-no-type : NameOnlyAsksNoType
unfolding declaration
name_only-asks-no-type = λ n scope t other flags only no_conversion.
    ap resolve (name_only-pieces n scope t flags only
    ∙ ap (λ x. scoped (name_kind n flags) (scope_prefix scope flags) (scope_path scope flags) x flags ++ [])
    (unqualified_name-conversion (name_kind n flags) _ _ _ _ _ no_conversion)
    ∙ sym (name_only-pieces n scope other flags only))

-- in the style of the crate's grammar only the plain operator is a conversion
conversion-of-kind : (n : NameTree) (flags : ℕ) → has flags full_style ≡ false →
    (n ≡ operator plain_operator.Conversion → ⊥) → name_kind n flags ≡ name_kinds.Conversion → ⊥
unfolding name_kind
conversion-of-kind (operator plain_operator.Conversion) flags e other is = other refl
conversion-of-kind (operator plain_operator.VBTable) flags e other is =
    let table : name_kinds.BaseTable ≡ name_kinds.Conversion
    = sym (ap (λ c. cond c name_kinds.Ordinary name_kinds.BaseTable) e) ∙ is in
    absurd (cc)
conversion-of-kind (template n ts) flags e other is =
    let ordinary : name_kinds.Ordinary ≡ name_kinds.Conversion
    = sym (ap (λ c. cond c (template_kind n) name_kinds.Ordinary) e) ∙ is in
    absurd (cc)
conversion-of-kind _ flags e other is = absurd (cc)

pub no_conversion-of-kind : (n : NameTree) (flags : ℕ) → flags < full_style →
    (n ≡ operator plain_operator.Conversion → ⊥) → name_kind n flags ≡ name_kinds.Conversion → ⊥
no_conversion-of-kind n flags small = conversion-of-kind n flags (plain-style flags small)

-- no flag puts anything before nothing
none-before : (flags : ℕ) → kept_left [] flags ≡ []
unfolding kept_left
none-before flags = go (has flags name_only) (has flags no_function_returns)
  where
    go : (only returns : Bool) → cond {A = List Piece} only [] (cond returns [] []) ≡ []
    go true returns = refl
    go false true = refl
    go false false = refl

none-after : (flags : ℕ) → kept_right [] flags ≡ []
unfolding kept_right
none-after flags = go (has flags name_only)
  where
    go : (only : Bool) → cond {A = List Piece} only [] [] ≡ []
    go true = refl
    go false = refl

hash-pieces : (digits : List ℕ) (flags : ℕ) → symbol_pieces (spelled spelling_kind.Md5 digits) no_names
    (plain plain_kind.None) No flags
    ≡ space (name_space flags) ∷ text (codes "??@") ∷ text digits ∷ text (codes "@") ∷ []
unfolding grown scoped name_kind name_pieces scope_pieces
hash-pieces digits flags =
    ap (λ xs. xs ++ (symbol_name (spelled spelling_kind.Md5 digits) no_names (plain plain_kind.None) flags
    ++ kept_right [] flags)) (none-before flags)
    ∙ ap (λ xs. symbol_name (spelled spelling_kind.Md5 digits) no_names (plain plain_kind.None) flags ++ xs)
    (none-after flags)

hash-text : (style only : Bool) (digits : List ℕ)
    → resolve (space (cond style (cond only AfterFullWord AfterFullReference) (cond only AfterWord AfterReference))
    ∷ text (codes "??@") ∷ text digits ∷ text (codes "@") ∷ []) ≡ codes "??@" ++ (digits ++ codes "@")
unfolding settle_all
hash-text true true digits = append_assoc (codes "??@") digits (codes "@")
hash-text true false digits = append_assoc (codes "??@") digits (codes "@")
hash-text false true digits = append_assoc (codes "??@") digits (codes "@")
hash-text false false digits = append_assoc (codes "??@") digits (codes "@")

pub hash-is-its-text : HashIsItsText
unfolding declaration
hash-is-its-text = λ digits flags.
    ap resolve (hash-pieces digits flags) ∙ hash-text (has flags full_style) (has flags space_before_pointer) digits
