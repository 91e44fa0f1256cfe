-- The declaration of a tree whose names are UTF-8 is UTF-8, under any flags.
use Rattle.std.proofs.Common.{ℕ, List, [], Bool, true}
use Rattle.std.proofs.Common.{false, Option, Some, refl, codes}
use Rattle.std.proofs.lemmas.Str.{IsUtf8-nil}
use Rattle.std.specs.Fmt.{digits}
use Rattle.std.specs.Str.{IsUtf8}
use Rattle.msvc_nodes.specs.EachName.{EachName, EachNameOfName, EachNameOfNames, EachNameOfType, EachNameOfTypes}
use Rattle.msvc_nodes.specs.declared.kinds.NumberedType.TheVariants as number_kind
use Rattle.msvc_nodes.specs.declared.kinds.PlainType.TheVariants as plain_kind
use Rattle.msvc_nodes.specs.Trees.{NameTree, NameTrees, SymbolTree, TypeTree, TypeTrees, spelled, operator, guard}
use Rattle.msvc_nodes.specs.Trees.{type_descriptor, base_class_descriptor, template, discriminator, nested, anonymous}
use Rattle.msvc_nodes.specs.Trees.{no_names, names, no_types, types, plain, base, tagged, numbered, pointing, array}
use Rattle.msvc_nodes.specs.Trees.{function, member_function, member_pointer, variable, table, vcall_thunk}
use Rattle.msvc_nodes.specs.Trees.{shape, shaped}
use Rattle.msvc_print.specs.Declaration.{conversion, declaration, grown}
use Rattle.msvc_print.specs.Declaration.{is_empty_pack, name_pieces, parameters}
use Rattle.msvc_print.specs.Declaration.{arguments, is_none}
use Rattle.msvc_print.specs.Declaration.{scope_pieces, symbol_pieces}
use Rattle.msvc_print.specs.Declaration.{each_name, each_type, grown_around}
use Rattle.msvc_print.specs.Operators.{name_kind}
use Rattle.msvc_print.specs.Flags.{full_style, has, llvm_no_return, llvm_no_variable}
use Rattle.msvc_print.specs.Pieces.{Piece}
use Rattle.msvc_print.specs.Sides.{Sides, alone, kept}
use Rattle.msvc_shapes.specs.Layouts.{layout_of}
use Rattle.msvc_shapes.specs.declared.layouts.Side.TheVariants as side
use Rattle.msvc_print.proofs.PieceTexts.{AreTexts, AreTexts-append, AreTexts-choice, AreTexts-none, AreTexts-space}
use Rattle.msvc_print.proofs.PieceTexts.{AreTexts-text, ScopeIsText, SidesAreTexts, alone-texts, angled-texts}
use Rattle.msvc_print.proofs.PieceTexts.{around-texts, base_class_pieces-texts, base_word-utf8, before-texts}
use Rattle.msvc_print.proofs.PieceTexts.{between-texts, calling-texts, closing-texts, full_conversion-texts}
use Rattle.msvc_print.proofs.PieceTexts.{function_qualifier-texts, guard_pieces-texts, kept-texts, length_pieces-texts}
use Rattle.msvc_print.proofs.PieceTexts.{mark_word-utf8, marked-texts, member_start-texts, named-texts, no_scope-texts}
use Rattle.msvc_print.proofs.PieceTexts.{opening-texts, operator_pieces-texts, parameter_list-texts}
use Rattle.msvc_print.proofs.PieceTexts.{pointed_class-texts, qualifiers-texts, quoted-texts, quoted_unless-texts}
use Rattle.msvc_print.proofs.PieceTexts.{returned-texts, separator-texts, settle_all-utf8, signed_decimal-utf8}
use Rattle.msvc_print.proofs.PieceTexts.{spelled_name-texts, table_end-texts, tag_word-utf8, thunk_end-texts}
use Rattle.msvc_print.proofs.PieceTexts.{SidesAreTexts-choice, shown_variable_word-utf8, with_inner-texts}
use Rattle.msvc_print.proofs.ShapeTexts.{EachAreTexts, slots-texts}
use Rattle.msvc_print.specs.Pointed.{leaves_out, passed_on, pointed_by, under}
use Rattle.msvc_print.specs.declared.pointed.Pointed.{Pointed}
use Rattle.msvc_print.specs.declared.pointed.Pointed.TheVariants.{Inner, No, Yes}

-- names, scopes, types and their lists
mutual
  unfolding name_pieces scope_pieces arguments conversion grown grown_around each_name each_type parameters
      lib.Utf8.encode

  name_pieces-texts : (n : NameTree) (of_symbol : Bool) (flags : ℕ) → EachNameOfName IsUtf8 n →
      AreTexts (name_pieces n of_symbol flags)
  name_pieces-texts (spelled how bytes) of_symbol flags h = spelled_name-texts how bytes h
  name_pieces-texts (template n ts) of_symbol flags h = AreTexts-append _ _ (name_pieces-texts n false flags h.0)
      (angled-texts _ flags (parameters-texts ts true flags h.1))
  name_pieces-texts (discriminator z) of_symbol flags h =
      quoted-texts _ (AreTexts-text _ _ (signed_decimal-utf8 z) AreTexts-none)
  name_pieces-texts (nested n ns t) of_symbol flags h = quoted_unless-texts of_symbol _
      (around-texts (kept (grown t Inner alone flags) flags) _
      (kept-texts (grown t Inner alone flags) flags (grown-texts t Inner alone flags alone-texts h.2))
      (named-texts (name_kind n flags) _ _ _ _ flags (scope_pieces-texts ns flags h.1) (arguments-texts n flags h.0)
      (conversion-texts t _ _ flags h.2 (arguments-texts n flags h.0) (name_pieces-texts n true flags h.0))
      (name_pieces-texts n true flags h.0)))
  name_pieces-texts (anonymous digits) of_symbol flags h =
      AreTexts-text (codes "`anonymous namespace'") [] (codes "`anonymous namespace'", (refl, refl)) AreTexts-none
  name_pieces-texts (operator o) of_symbol flags h = operator_pieces-texts o flags
  name_pieces-texts (guard g n) of_symbol flags h = guard_pieces-texts g n
  name_pieces-texts (type_descriptor set t) of_symbol flags h =
      let whole = grown-texts t No alone flags alone-texts h in
      AreTexts-space _ _ (AreTexts-append _ _ whole.left (AreTexts-text (codes "::`RTTI Type Descriptor'") []
      (codes "::`RTTI Type Descriptor'", (refl, refl)) AreTexts-none))
  name_pieces-texts (base_class_descriptor a b c d) of_symbol flags h = base_class_pieces-texts a b c d flags
  name_pieces-texts (shaped row set zs bytes ns ts) of_symbol flags h =
      slots-texts row side.Left No _ set zs bytes _ _ _ flags h.0
      (each_name-texts ns true flags h.1) (each_name-texts ns false flags h.1)
      (each_type-texts ts flags h.2)

  each_name-texts : (ns : NameTrees) (of_symbol : Bool) (flags : ℕ) → EachNameOfNames IsUtf8 ns →
      EachAreTexts (each_name ns of_symbol flags)
  each_name-texts no_names of_symbol flags h = tt
  each_name-texts (names n ns) of_symbol flags h =
      (name_pieces-texts n of_symbol flags h.0, each_name-texts ns of_symbol flags h.1)

  scope_pieces-texts : (ns : NameTrees) (flags : ℕ) → EachNameOfNames IsUtf8 ns → ScopeIsText (scope_pieces ns flags)
  scope_pieces-texts no_names flags h = no_scope-texts
  scope_pieces-texts (names n ns) flags h =
      with_inner-texts _ _ (scope_pieces-texts ns flags h.1) (name_pieces-texts n false flags h.0)

  arguments-texts : (n : NameTree) (flags : ℕ) → EachNameOfName IsUtf8 n → AreTexts (arguments n flags)
  arguments-texts (template n ts) flags h = angled-texts _ flags (parameters-texts ts true flags h.1)
  arguments-texts _ flags h = AreTexts-none

  conversion-texts : (t : TypeTree) (list name : List Piece) (flags : ℕ) → EachNameOfType IsUtf8 t → AreTexts list →
      AreTexts name → AreTexts (conversion t list name flags)
  conversion-texts (function convention ts set t) list name flags h h' h'' = AreTexts-choice (has flags full_style) _ _
      (full_conversion-texts (is_none t) list _ name h'
      (around-texts _ [] (grown-texts t No alone flags alone-texts h.1) AreTexts-none) h'') h''
  conversion-texts (member_function class convention ts set t) list name flags h h' h'' =
      let value = around-texts _ [] (grown-texts t No alone flags alone-texts h.1) AreTexts-none in
      AreTexts-choice (has flags full_style) _ _ (full_conversion-texts (is_none t) list _ name h' value h'')
      (AreTexts-text (codes "operator ") _ (codes "operator ", (refl, refl)) value)
  conversion-texts (shape row q zs bytes ns (types (member_function class convention ts set t) us)) list name flags h
      h' h'' =
      AreTexts-choice (has flags full_style) _ _
      (full_conversion-texts (is_none t) list _ name h'
      (around-texts _ [] (grown-texts t No alone flags alone-texts h.2.0.1) AreTexts-none) h'') h''
  conversion-texts _ list name flags h h' h'' = h''

  grown-texts : (t : TypeTree) (pointed : Pointed) (s : Sides) (flags : ℕ) → SidesAreTexts s → EachNameOfType IsUtf8 t →
      SidesAreTexts (grown t pointed s flags)
  grown-texts (base b set) pointed s flags hs h =
      before-texts _ s (AreTexts-text _ _ (base_word-utf8 b flags) (qualifiers-texts set flags)) hs
  grown-texts (tagged tag n scope set) pointed s flags hs h = before-texts _ s
      (AreTexts-text _ _ (tag_word-utf8 tag flags) (AreTexts-append _ _
      (named-texts (name_kind n flags) _ _ _ _ flags (scope_pieces-texts scope flags h.1) (arguments-texts n flags h.0)
      (name_pieces-texts n true flags h.0) (name_pieces-texts n true flags h.0)) (qualifiers-texts set flags))) hs
  grown-texts (pointing m t set) pointed s flags hs h = grown-texts t (pointed_by set flags) _ flags
      (before-texts _ s (marked-texts _ _ set flags (mark_word-utf8 m)) hs) h
  grown-texts (array n t set) pointed s flags hs h = grown-texts t No _ flags (between-texts _ s _
      (AreTexts-append _ _ (qualifiers-texts set flags) (opening-texts pointed flags)) hs
      (AreTexts-append _ _ (closing-texts pointed) (length_pieces-texts n))) h
  grown-texts (function convention ts set t) pointed s flags hs h =
      let end = parameter_list-texts pointed _ set flags (parameters-texts ts true flags h.0) in
      SidesAreTexts-choice (leaves_out pointed llvm_no_return flags) _ _
      (between-texts _ s _ (calling-texts pointed convention flags) hs end)
      (grown-texts t No _ flags (between-texts _ s _ (returned-texts t pointed convention flags) hs end) h.1)
  grown-texts (member_function class convention ts set t) pointed s flags hs h =
      let end = parameter_list-texts pointed _ set flags (parameters-texts ts true flags h.0) in
      before-texts _ _ (member_start-texts pointed class flags)
      (SidesAreTexts-choice (leaves_out pointed llvm_no_return flags) _ _
      (between-texts _ s _ (calling-texts pointed convention flags) hs end)
      (grown-texts t No _ flags (between-texts _ s _ (returned-texts t pointed convention flags) hs end) h.1))
  grown-texts (member_pointer n scope class convention ts set t) pointed s flags hs h = between-texts [] _ _
      AreTexts-none (grown-texts t No _ flags (between-texts _ s _
      (AreTexts-append _ _ (returned-texts t Yes convention flags) (pointed_class-texts _
      (named-texts (name_kind n flags) _ _ _ _ flags (scope_pieces-texts scope flags h.1) (arguments-texts n flags h.0)
      (name_pieces-texts n true flags h.0) (name_pieces-texts n true flags h.0)))) hs
      (AreTexts-text (codes ")(") _ (codes ")(", (refl, refl)) (AreTexts-append _ _ (parameters-texts ts true flags h.2)
      (AreTexts-text (codes ")") [] (codes ")", (refl, refl)) AreTexts-none)))) h.3)
      (function_qualifier-texts 1 (codes "const") set (codes "const", (refl, refl)))
  grown-texts (variable t kind set) pointed s flags hs h = before-texts _ _
      (AreTexts-text _ [] (shown_variable_word-utf8 pointed kind flags) AreTexts-none)
      (SidesAreTexts-choice (leaves_out pointed llvm_no_variable flags) _ _ hs
      (grown-texts t No _ flags (before-texts _ s (qualifiers-texts set flags) hs) h))
  grown-texts (table k scope set) pointed s flags hs h =
      let whole = scope_pieces-texts scope flags h in
      between-texts _ s _ (qualifiers-texts set flags) hs (table_end-texts k scope _ whole.path)
  grown-texts (vcall_thunk n convention) pointed s flags hs h = between-texts _ s _
      (AreTexts-text (codes "[thunk]: ") _ (codes "[thunk]: ", (refl, refl))
      (calling-texts (passed_on pointed) convention flags)) hs
      (thunk_end-texts n flags)
  grown-texts (numbered number_kind.Constant n) pointed s flags hs h =
      before-texts _ s (AreTexts-text _ [] (signed_decimal-utf8 n) AreTexts-none) hs
  grown-texts (numbered number_kind.TemplateParameter n) pointed s flags hs h = before-texts _ s
      (AreTexts-text (codes "`template-parameter") _ (codes "`template-parameter", (refl, refl))
      (AreTexts-text _ _ (signed_decimal-utf8 n)
      (AreTexts-text (codes "'") [] (codes "'", (refl, refl)) AreTexts-none))) hs
  grown-texts (numbered number_kind.ThreadSafeGuard n) pointed s flags hs h = before-texts _ s
      (AreTexts-text (codes "TSS") _ (codes "TSS", (refl, refl))
      (AreTexts-text _ [] (signed_decimal-utf8 n) AreTexts-none)) hs
  grown-texts (plain plain_kind.Variadic) pointed s flags hs h =
      before-texts _ s (AreTexts-text (codes "...") [] (codes "...", (refl, refl)) AreTexts-none) hs
  grown-texts (plain plain_kind.Nullptr) pointed s flags hs h = before-texts _ s
      (AreTexts-text (codes "std::nullptr_t") [] (codes "std::nullptr_t", (refl, refl)) AreTexts-none) hs
  grown-texts (shape row set zs bytes ns ts) pointed s flags hs h =
      let symbols = each_name-texts ns true flags h.1 in
      let names = each_name-texts ns false flags h.1 in
      let values = each_type-texts ts flags h.2 in
      grown_around-texts ts (layout_of row).around set pointed _ flags (between-texts _ s _
      (slots-texts row side.Left pointed _ set zs bytes _ _ _ flags h.0 symbols names values) hs
      (slots-texts row side.Right pointed _ set zs bytes _ _ _ flags h.0 symbols names values)) h.2
  grown-texts _ pointed s flags hs h = hs

  each_type-texts : (ts : TypeTrees) (flags : ℕ) → EachNameOfTypes IsUtf8 ts → EachAreTexts (each_type ts flags)
  each_type-texts no_types flags h = tt
  each_type-texts (types t ts) flags h = (
    around-texts _ [] (grown-texts t No alone flags alone-texts h.0)
        AreTexts-none,
    each_type-texts ts flags h.1,
  )

  grown_around-texts : (ts : TypeTrees) (w : Option Bool) (set : ℕ) (pointed : Pointed) (s : Sides) (flags : ℕ) →
      SidesAreTexts s → EachNameOfTypes IsUtf8 ts → SidesAreTexts (grown_around ts w set pointed s flags)
  grown_around-texts (types t ts) (Some is_mark) set pointed s flags hs h =
      grown-texts t (under pointed is_mark set flags) s flags hs h.0
  grown_around-texts _ _ set pointed s flags hs h = hs

  parameters-texts : (ts : TypeTrees) (first : Bool) (flags : ℕ) → EachNameOfTypes IsUtf8 ts →
      AreTexts (parameters ts first flags)
  parameters-texts no_types first flags h = AreTexts-none
  parameters-texts (types t ts) first flags h =
      AreTexts-choice (is_empty_pack t) _ _ (parameters-texts ts first flags h.1)
      (AreTexts-append _ _ (separator-texts first flags) (AreTexts-append _ _
      (around-texts _ [] (grown-texts t No alone flags alone-texts h.0) AreTexts-none)
      (parameters-texts ts false flags h.1)))

pub declaration-utf8 : (tree : SymbolTree) (flags : ℕ) → EachName IsUtf8 tree → IsUtf8 (declaration tree flags)
unfolding declaration lib.Utf8.encode
declaration-utf8 tree flags h =
    let n = tree.name in
    let ns = tree.scope in
    let t = tree.symbol_type in
    let all : AreTexts (symbol_pieces n ns t No flags) = around-texts (kept (grown t No alone flags) flags) _
    (kept-texts (grown t No alone flags) flags (grown-texts t No alone flags alone-texts h.2))
    (named-texts (name_kind n flags) _ _ _ _ flags (scope_pieces-texts ns flags h.1) (arguments-texts n flags h.0)
    (conversion-texts t _ _ flags h.2 (arguments-texts n flags h.0) (name_pieces-texts n true flags h.0))
    (name_pieces-texts n true flags h.0)) in
    settle_all-utf8 [] (symbol_pieces n ns t No flags) IsUtf8-nil all.each
