-- Step lemmas of types and of arguments.
use Rattle.std.proofs.Common.{ℕ, List, [], ◌∷◌, ◌++◌, Option, Some, None, Bool, true, false, cond, not, ◌≡◌, refl, ap}
use Rattle.std.proofs.Common.{◌∙◌, append-nil, true≢false}
use Rattle.std.specs.Prelude.{bit_or, codes, is_some, reverse}
use Rattle.msvc_nodes.specs.Trees.{NameTree, SymbolTree, TypeTree, name_trees, names, nested, no_names, no_types, plain}
use Rattle.msvc_nodes.specs.Trees.{pointing, shape, tagged}
use Rattle.msvc_nodes.specs.Trees.{shaped, type_trees, types}
use Rattle.msvc_nodes.specs.declared.kinds.PlainType.TheVariants as plain_kind
use Rattle.msvc_nodes.specs.declared.kinds.PointerAffinity.{PointerAffinity}
use Rattle.msvc_nodes.specs.declared.kinds.PointerAffinity.TheVariants as mark_kind
use Rattle.msvc_nodes.specs.declared.kinds.TagKind.{TagKind}
use Rattle.msvc_nodes.specs.declared.kinds.TagKind.TheVariants as tag_kind
use Rattle.msvc_nodes.specs.declared.nodes.Number.{Number}
use Rattle.msvc_rules.specs.Readers.{Found, after_literal, and_then, counting, in_node, letter_here}
use Rattle.msvc_rules.specs.Readers.{only_if, or_else, read_by}
use Rattle.msvc_rules.specs.Rules.{Rule, after, begins, call, give, letter, letter_or, literal, literal_or, node, ◌>>=◌}
use Rattle.msvc_rules.specs.Rules.{◌>>◌}
use Rattle.msvc_rules.specs.Sorts.{bits, list, type_tree}
use Rattle.msvc_rules.specs.State.{State, counted, is_allowed, more}
use Rattle.msvc_grammar.specs.Reading.{read as crate_read}
use Rattle.msvc_full_grammar.specs.Forms.{arrayed, function_with, named, pointer_with, qualified, reference_by}
use Rattle.msvc_full_grammar.specs.Forms.{the_same, type_by_row, volatile_reference}
use Rattle.msvc_full_grammar.specs.Grammar.{grammar}
use Rattle.msvc_full_grammar.specs.Fragments.{managed_array, managed_type, nested_symbol, object_name, pointed}
use Rattle.msvc_full_grammar.specs.Fragments.{pointed_type, typed_member, values_of}
use Rattle.msvc_full_grammar.specs.Letters.{argument_texts, digits, managed_rows, member_qualifiers, qualifiers}
use Rattle.msvc_full_grammar.specs.Letters.{volatile}
use Rattle.msvc_full_grammar.specs.Productions.{Production, argument, argument_after, arrays, class_symbol, count}
use Rattle.msvc_full_grammar.specs.Productions.{listed}
use Rattle.msvc_full_grammar.specs.Productions.{member, member_value, one_listed}
use Rattle.msvc_full_grammar.specs.Productions.{dimensions, function_type, lengths, marks, number, pointer, reference}
use Rattle.msvc_full_grammar.specs.Productions.{numbers, scope, symbol, template_value, type_, type_after, type_name}
use Rattle.msvc_full_grammar.specs.Productions.{type_row}
use Rattle.msvc_full_grammar.specs.Productions.{type_symbol}
use Rattle.msvc_full_grammar.specs.Productions.{value_after}
use Rattle.msvc_full_grammar.specs.Reading.{read_name, read}
use Rattle.msvc_full_grammar.specs.Rows.{custom_row, extern_c_row, integer_row, nullptr_row, offsets_row}
use Rattle.msvc_full_grammar.specs.Rows.{absent_row, aggregate_row, block_row, cli_array_row}
use Rattle.msvc_full_grammar.specs.Rows.{element_row, member_of_row}
use Rattle.msvc_full_grammar.specs.Rows.{empty_union_row, handle_row, member_row, subobject_row, symbol_offsets_row}
use Rattle.msvc_full_grammar.specs.Rows.{template_object_row, tracking_row, typed_row, union_value_row, values_row}
use Rattle.msvc_full_grammar.specs.declared.forms.Listed.{Listed}
use Rattle.msvc_full_grammar.specs.declared.forms.Listed.TheVariants as kinds
use Rattle.msvc_full_grammar.specs.declared.forms.ArgumentForm.TheVariants as forms
use Rattle.msvc_full_grammar.specs.declared.forms.ValueForm.{ValueForm}
use Rattle.msvc_full_grammar.specs.declared.forms.ValueForm.TheVariants as values
use Rattle.msvc_full_grammar.specs.declared.forms.OwnQualifiers.{OwnQualifiers}
use Rattle.msvc_full_grammar.specs.declared.forms.OwnQualifiers.TheVariants as own
use Rattle.msvc_full_grammar.specs.declared.forms.TypeRow.{TypeRow}
use Rattle.msvc_full_grammar.specs.declared.forms.TypeRow.TheVariants.{Custom, ExternC, Integer, Nullptr}
use Rattle.msvc_cursor.specs.Rows.{with_front}
use Rattle.msvc_full_grammar.proofs.Laws.{read_name-is}
use Rattle.msvc_cursor.proofs.Choices.{choose, chosen}
use Rattle.msvc_cursor.proofs.RowSteps.{front_none, row_by, row_ends, row_more, row_rejected}
use Rattle.msvc_cursor.proofs.Choices.{by_text}
use Rattle.msvc_cursor.specs.Parser.{text_at}
use Rattle.msvc_full_letters.specs.Texts.{value_behind}
use Rattle.msvc_full_letters.proofs.Choices.{letter_or-is, literal_or-is}
use Rattle.msvc_full_letters.proofs.TextSteps.{argument_step, no_type_at_value}
use Rattle.msvc_full_readers.specs.Readings.{array_lengths, arrays_of, block, elements, managed, member_pointer}
use Rattle.msvc_full_readers.specs.Readings.{numbered_managed}
use Rattle.msvc_full_readers.specs.Readings.{pointed_function}
use Rattle.msvc_full_readers.specs.Readings.{pointed_member, pointed_member_function, symbol_body, tagged_type}

-- what follows the text of a type

pub named_step : (q : ℕ) (tag : TagKind) (left : List ℕ) (s : State)
    → read_name (type_after q (named tag)) left s ≡ read (tagged_type tag q) left s
unfolding grammar read read_by
named_step q tag left s = read_name-is (type_after q (named tag)) left s

pub pointer_with_step : (q more : ℕ) (left : List ℕ) (s : State)
    → read_name (type_after q (pointer_with more)) left s ≡ read_name (pointer (bit_or q more)) left s
unfolding grammar read read_by
pointer_with_step q more left s = read_name-is (type_after q (pointer_with more)) left s

pub reference_by_step : (q : ℕ) (mark : PointerAffinity) (left : List ℕ) (s : State)
    → read_name (type_after q (reference_by mark)) left s ≡ read_name (reference mark q) left s
unfolding grammar read read_by
reference_by_step q mark left s = read_name-is (type_after q (reference_by mark)) left s

pub volatile_reference_step : (q : ℕ) (left : List ℕ) (s : State)
    → read_name (type_after q volatile_reference) left s
    ≡ read_name (reference mark_kind.Reference (bit_or q volatile)) left s
unfolding grammar read read_by
volatile_reference_step q left s = read_name-is (type_after q volatile_reference) left s

pub arrayed_step : (q : ℕ) (left : List ℕ) (s : State)
    → read_name (type_after q arrayed) left s ≡ read_name (arrays q) left s
unfolding grammar read read_by
arrayed_step q left s = read_name-is (type_after q arrayed) left s

pub function_with_step : (q : ℕ) (o : OwnQualifiers) (left : List ℕ) (s : State)
    → read_name (type_after q (function_with o)) left s ≡ read_name (function_type o) left s
unfolding grammar read read_by
function_with_step q o left s = read_name-is (type_after q (function_with o)) left s

pub the_same_step : (q : ℕ) (left : List ℕ) (s : State)
    → read_name (type_after q the_same) left s ≡ read_name (type_ q) left s
unfolding grammar read read_by
the_same_step q left s = read_name-is (type_after q the_same) left s

pub qualified_step : (q : ℕ) (left : List ℕ) (s : State) → read_name (type_after q qualified) left s
    ≡ and_then (letter_here qualifiers left s) (λ more l t. read_name (type_ (bit_or q more)) l t)
unfolding grammar read read_by
qualified_step q left s = read_name-is (type_after q qualified) left s

pub type_by_row_step : (q : ℕ) (r : TypeRow) (left : List ℕ) (s : State)
    → read_name (type_after q (type_by_row r)) left s ≡ read_name (type_row q r) left s
unfolding grammar read read_by
type_by_row_step q r left s = read_name-is (type_after q (type_by_row r)) left s

-- by the text that is next

-- a mark changes the qualifiers of the type behind it alone

pub tagged_type_step : (tag : TagKind) (q : ℕ) (left : List ℕ) (s : State) → read (tagged_type tag q) left s
    ≡ in_node left s (λ j a. and_then (read_name type_symbol j a)
    (λ x l t. Some (tagged tag x.0 (name_trees x.1) q, l, t)))
unfolding read read_by
tagged_type_step tag q left s = refl

-- rows

pub integer_step : (q : ℕ) (left : List ℕ) (s : State) → read_name (type_row q Integer) left s
    ≡ in_node left s (λ j a. and_then (read_name number j a)
    (λ n l t. Some (shape integer_row q (n ∷ []) [] no_names no_types, l, t)))
unfolding grammar read read_by
integer_step q left s = read_name-is (type_row q Integer) left s

pub custom_step : (q : ℕ) (left : List ℕ) (s : State) → read_name (type_row q Custom) left s
    ≡ in_node left s (λ j a. and_then (read_name type_name j a)
    (λ n l t. and_then (crate_read (literal (codes "@")) l t)
    (λ _ k u. Some (shape custom_row q [] [] (names n no_names) no_types, k, u))))
unfolding grammar read read_by crate_read
custom_step q left s = read_name-is (type_row q Custom) left s

pub nullptr_step : (q : ℕ) (left : List ℕ) (s : State) → read_name (type_row q Nullptr) left s
    ≡ in_node left s (λ l t. Some (shape nullptr_row q [] [] no_names no_types, l, t))
unfolding grammar read read_by
nullptr_step q left s = read_name-is (type_row q Nullptr) left s

pub extern_c_step : (q : ℕ) (left : List ℕ) (s : State) → read_name (type_row q ExternC) left s
    ≡ in_node left s (λ l t. Some (shape extern_c_row q [] [] no_names no_types, l, t))
unfolding grammar read read_by
extern_c_step q left s = read_name-is (type_row q ExternC) left s

-- pointers

pub pointer_step : (q : ℕ) (left : List ℕ) (s : State) → read_name (pointer q) left s
    ≡ in_node left s (λ j a. chosen (after (codes "6") j)
    (λ rest. read (pointed_function mark_kind.Pointer q) rest a)
    (chosen (after (codes "8") j) (λ rest. read (pointed_member_function q) rest a)
    (chosen (after (codes "_E") j) (λ rest. read (block q) rest a)
    (and_then (read_name marks j a) (λ m l t. choose (letter_here member_qualifiers l t)
    (λ x. read (pointed_member x (bit_or q m))) (read (pointed handle_row mark_kind.Pointer (bit_or q m)) l t))))))
unfolding grammar read read_by
pointer_step q left s =
    read_name-is (pointer q) left s
    ∙ λ i. in_node left s (λ j a. inside j a i)
  where
    to_member : Rule Production type_tree
    to_member = do
      m ← call marks
      letter_or member_qualifiers (λ x. pointed_member x (bit_or q m))
          (pointed handle_row mark_kind.Pointer (bit_or q m))

    to_block : Rule Production type_tree
    to_block = literal_or (codes "_E") (block q) to_member

    to_function : Rule Production type_tree
    to_function = literal_or (codes "8") (pointed_member_function q) to_block

    of_member : List ℕ → State → Found TypeTree
    of_member j a = and_then (read_name marks j a) (λ m l t. choose (letter_here member_qualifiers l t)
        (λ x. read (pointed_member x (bit_or q m))) (read (pointed handle_row mark_kind.Pointer (bit_or q m)) l t))

    inside : (j : List ℕ) (a : State)
        → read (literal_or (codes "6") (pointed_function mark_kind.Pointer q) to_function) j a
        ≡ chosen (after (codes "6") j) (λ rest. read (pointed_function mark_kind.Pointer q) rest a)
        (chosen (after (codes "8") j) (λ rest. read (pointed_member_function q) rest a)
        (chosen (after (codes "_E") j) (λ rest. read (block q) rest a) (of_member j a)))
    inside j a =
        literal_or-is {a = type_tree} (codes "6") (pointed_function mark_kind.Pointer q) to_function j a
        ∙ ap (chosen (after (codes "6") j) (λ rest. read (pointed_function mark_kind.Pointer q) rest a))
        (literal_or-is {a = type_tree} (codes "8") (pointed_member_function q) to_block j a
        ∙ ap (chosen (after (codes "8") j) (λ rest. read (pointed_member_function q) rest a))
        (literal_or-is {a = type_tree} (codes "_E") (block q) to_member j a
        ∙ λ i. chosen (after (codes "_E") j) (λ rest. read (block q) rest a)
        (and_then (read_name marks j a) (λ m l t. letter_or-is member_qualifiers
        (λ x. pointed_member x (bit_or q m)) (pointed handle_row mark_kind.Pointer (bit_or q m)) l t i))))

pub reference_step : (mark : PointerAffinity) (q : ℕ) (left : List ℕ) (s : State)
    → read_name (reference mark q) left s
    ≡ in_node left s (λ j a. chosen (after (codes "6") j) (λ rest. read (pointed_function mark q) rest a)
    (and_then (read_name marks j a) (λ m l t. read (pointed tracking_row mark (bit_or q m)) l t)))
unfolding grammar read read_by
reference_step mark q left s =
    read_name-is (reference mark q) left s
    ∙ λ i. in_node left s (λ j a. literal_or-is {a = type_tree} (codes "6") (pointed_function mark q) to_type j a i)
  where
    to_type : Rule Production type_tree
    to_type = do m ← call marks; pointed tracking_row mark (bit_or q m)

pub pointed_step : (own_row : ℕ) (mark : PointerAffinity) (q : ℕ) (left : List ℕ) (s : State)
    → read (pointed own_row mark q) left s
    ≡ chosen (after (codes "$") left) (λ rest. read (managed own_row q) rest s) (read (pointed_type mark q) left s)
unfolding read read_by
pointed_step own_row mark q left s =
    literal_or-is {a = type_tree} (codes "$") (managed own_row q) (pointed_type mark q) left s

pub managed_step : (own_row q : ℕ) (left : List ℕ) (s : State) → read (managed own_row q) left s
    ≡ choose (letter_here (managed_rows own_row) left s) (λ row. read (managed_type row q))
    (read (numbered_managed q) left s)
unfolding read read_by
managed_step own_row q left s =
    letter_or-is {a = type_tree} (managed_rows own_row) (λ row. managed_type row q) (numbered_managed q) left s

-- a text, and what follows it
literal_then : (o : Option (List ℕ)) (s : State) (f : List ℕ → State → Found TypeTree)
    → and_then (after_literal o s) (λ _ l t. f l t) ≡ chosen o (λ rest. f rest s) None
literal_then None s f = refl
literal_then (Some rest) s f = refl

pub numbered_managed_step : (q : ℕ) (left : List ℕ) (s : State) → read (numbered_managed q) left s
    ≡ chosen (after (codes "0") left) (λ rest. read (managed_array q) rest s) None
unfolding read read_by
numbered_managed_step q left s = literal_then (after (codes "0") left) s (λ l t. read (managed_array q) l t)

pub managed_array_step : (q : ℕ) (left : List ℕ) (s : State) → read (managed_array q) left s
    ≡ and_then (letter_here digits left s) (λ d i a. and_then (letter_here qualifiers i a)
    (λ c l t. and_then (read_name (type_ c) l t)
    (λ x k u. Some (
      shape cli_array_row q (record { is_negative = false; value = d } ∷ []) [] no_names
          (types x no_types),
      k,
      u,
    ))))
unfolding read read_by
managed_array_step q left s = refl

pub managed_type_step : (row q : ℕ) (left : List ℕ) (s : State) → read (managed_type row q) left s
    ≡ and_then (letter_here qualifiers left s) (λ c l t. and_then (read_name (type_ c) l t)
    (λ x k u. Some (shape row q [] [] no_names (types x no_types), k, u)))
unfolding read read_by
managed_type_step row q left s = refl

pub block_step : (q : ℕ) (left : List ℕ) (s : State) → read (block q) left s
    ≡ and_then (read_name (function_type own.Absent) left s)
    (λ f l t. Some (shape block_row q [] [] no_names (types f no_types), l, t))
unfolding read read_by
block_step q left s = refl

pub pointed_function_step : (mark : PointerAffinity) (q : ℕ) (left : List ℕ) (s : State)
    → read (pointed_function mark q) left s
    ≡ and_then (read_name (function_type own.Absent) left s) (λ f l t. Some (pointing mark f q, l, t))
unfolding read read_by
pointed_function_step mark q left s = refl

pub pointed_type_step : (mark : PointerAffinity) (q : ℕ) (left : List ℕ) (s : State)
    → read (pointed_type mark q) left s
    ≡ and_then (letter_here qualifiers left s) (λ c l t. and_then (read_name (type_ c) l t)
    (λ x k u. Some (pointing mark x q, k, u)))
unfolding read read_by
pointed_type_step mark q left s = refl

pub pointed_member_function_step : (q : ℕ) (left : List ℕ) (s : State)
    → read (pointed_member_function q) left s
    ≡ and_then (read_name class_symbol left s) (λ c l t. and_then (read_name (function_type own.Present) l t)
    (λ f k u. Some (member_pointer c f q, k, u)))
unfolding read read_by
pointed_member_function_step q left s = refl

pub pointed_member_step : (r q : ℕ) (left : List ℕ) (s : State)
    → read (pointed_member r q) left s
    ≡ and_then (read_name class_symbol left s) (λ c l t. and_then (read_name (type_ r) l t)
    (λ x k u. Some (member_pointer c x q, k, u)))
unfolding read read_by
pointed_member_step r q left s = refl

-- arrays

pub array_lengths_step : (left : List ℕ) (s : State) → read array_lengths left s
    ≡ and_then (read_name dimensions left s) (λ n l t. read_name (lengths n) l t)
unfolding read read_by
array_lengths_step left s = refl

pub arrays_step : (q : ℕ) (left : List ℕ) (s : State) → read_name (arrays q) left s
    ≡ in_node left s (λ j a. and_then (read array_lengths j a) (λ zs l t. read (elements zs q) l t))
unfolding grammar read read_by
arrays_step q left s =
    read_name-is (arrays q) left s
    ∙ λ i. in_node left s (λ j a. together (read_name dimensions j a) i)
  where
    together : (o : Found ℕ)
        → and_then o (λ n l t. and_then (read_name (lengths n) l t) (λ zs k u. read (elements zs q) k u))
        ≡ and_then (and_then o (λ n l t. read_name (lengths n) l t)) (λ zs l t. read (elements zs q) l t)
    together None = refl
    together (Some n) = refl

pub elements_step : (zs : List Number) (q : ℕ) (left : List ℕ) (s : State) → read (elements zs q) left s
    ≡ chosen (after (codes "$$C") left)
    (λ rest. and_then (letter_here qualifiers rest s) (λ more l t. and_then (read_name (type_ 0) l t)
    (λ x k u. Some (arrays_of zs x (bit_or q more), k, u))))
    (and_then (read_name (type_ 0) left s) (λ x l t. Some (arrays_of zs x q, l, t)))
unfolding read read_by
elements_step zs q left s =
    literal_or-is {a = type_tree} (codes "$$C")
    (do more ← letter bits qualifiers; t ← call (type_ 0); give (arrays_of zs t (bit_or q more)))
    (do t ← call (type_ 0); give (arrays_of zs t q)) left s

-- arguments

pub empty_pack_step : (left : List ℕ) (s : State) → read_name (argument_after forms.EmptyPack) left s
    ≡ in_node left s (λ l t. Some (plain plain_kind.EmptyPack, l, t))
unfolding grammar read read_by
empty_pack_step left s = read_name-is (argument_after forms.EmptyPack) left s

pub alias_step : (left : List ℕ) (s : State)
    → read_name (argument_after forms.Alias) left s ≡ read (tagged_type tag_kind.Alias 0) left s
unfolding grammar read read_by
alias_step left s = read_name-is (argument_after forms.Alias) left s

pub argument_value_step : (v : ValueForm) (left : List ℕ) (s : State)
    → read_name (argument_after (forms.Value v)) left s ≡ read_name (value_after v) left s
unfolding grammar read read_by
argument_value_step v left s = read_name-is (argument_after (forms.Value v)) left s

pub typed_step : (left : List ℕ) (s : State) → read_name (argument_after forms.Typed) left s
    ≡ in_node left s (λ j a. and_then (read_name (type_ 0) j a) (λ x l t. and_then (read_name template_value l t)
    (λ y k u. Some (shape typed_row 0 [] [] no_names (types y (types x no_types)), k, u))))
unfolding grammar read read_by
typed_step left s = read_name-is (argument_after forms.Typed) left s

pub value_row_step : (r : TypeRow) (left : List ℕ) (s : State)
    → read_name (value_after (values.Row r)) left s ≡ read_name (type_row 0 r) left s
unfolding grammar read read_by
value_row_step r left s = read_name-is (value_after (values.Row r)) left s

pub value_symbol_step : (row : ℕ) (left : List ℕ) (s : State) → read_name (value_after (values.Symbol row)) left s
    ≡ in_node left s (λ j a. and_then (read nested_symbol j a)
    (λ x l t. Some (shape row 0 [] [] (names x no_names) no_types, l, t)))
unfolding grammar read read_by
value_symbol_step row left s = read_name-is (value_after (values.Symbol row)) left s

pub bits_step : (row : ℕ) (left : List ℕ) (s : State) → read_name (value_after (values.Bits row)) left s
    ≡ in_node left s (λ j a. and_then (read_name count j a)
    (λ n l t. Some (shape row 0 (record { is_negative = false; value = n } ∷ []) [] no_names no_types, l, t)))
unfolding grammar read read_by
bits_step row left s = read_name-is (value_after (values.Bits row)) left s

pub value_word_step : (row : ℕ) (left : List ℕ) (s : State) → read_name (value_after (values.Word row)) left s
    ≡ in_node left s (λ l t. Some (shape row 0 [] [] no_names no_types, l, t))
unfolding grammar read read_by
value_word_step row left s = read_name-is (value_after (values.Word row)) left s

pub aggregate_step : (left : List ℕ) (s : State) → read_name (value_after values.Aggregate) left s
    ≡ in_node left s (λ j a. and_then (read_name (type_ 0) j a) (λ x l t. and_then (read (values_of kinds.Member) l t)
    (λ y k u. Some (shape aggregate_row 0 [] [] no_names (types x (types y no_types)), k, u))))
unfolding grammar read read_by
aggregate_step left s = read_name-is (value_after values.Aggregate) left s

pub elements_value_step : (left : List ℕ) (s : State) → read_name (value_after values.Elements) left s
    ≡ in_node left s (λ j a. and_then (read_name (type_ 0) j a) (λ x l t. and_then (read (values_of kinds.Element) l t)
    (λ y k u. Some (shape typed_row 0 [] [] no_names (types y (types x no_types)), k, u))))
unfolding grammar read read_by
elements_value_step left s = read_name-is (value_after values.Elements) left s

pub values_step : (kind : Listed) (left : List ℕ) (s : State) → read (values_of kind) left s
    ≡ in_node left s (λ j a. and_then (read_name (listed kind) j a)
    (λ xs l t. Some (shape values_row 0 [] [] no_names (type_trees xs), l, t)))
unfolding read read_by
values_step kind left s = refl

pub subobject_step : (left : List ℕ) (s : State) → read_name (value_after values.Subobject) left s
    ≡ in_node left s (λ j a. and_then (read_name template_value j a)
    (λ x l t. and_then (crate_read (literal (codes "@")) l t)
    (λ _ k u. Some (shape subobject_row 0 [] [] no_names (types x no_types), k, u))))
unfolding grammar read read_by crate_read
subobject_step left s = read_name-is (value_after values.Subobject) left s

pub member_of_value_step : (left : List ℕ) (s : State) → read_name (value_after values.Member) left s
    ≡ in_node left s (λ j a. and_then (read_name template_value j a) (λ x i b. and_then (read_name type_name i b)
    (λ n l t. and_then (crate_read (literal (codes "@")) l t)
    (λ _ k u. Some (shape member_row 0 [] [] (names n no_names) (types x no_types), k, u)))))
unfolding grammar read read_by crate_read
member_of_value_step left s = read_name-is (value_after values.Member) left s

pub element_of_value_step : (left : List ℕ) (s : State) → read_name (value_after values.Element) left s
    ≡ in_node left s (λ j a. and_then (read_name template_value j a)
    (λ x i b. and_then (crate_read (literal (codes "0")) i b)
    (λ _ h c. and_then (read_name number h c)
    (λ n l t. and_then (crate_read (literal (codes "@")) l t)
    (λ _ k u. Some (shape element_row 0 (n ∷ []) [] no_names (types x no_types), k, u))))))
unfolding grammar read read_by crate_read
element_of_value_step left s = read_name-is (value_after values.Element) left s

pub union_value_step : (left : List ℕ) (s : State) → read_name (value_after values.Union) left s
    ≡ in_node left s (λ j a. and_then (read_name (type_ 0) j a) (λ x i b. chosen (after (codes "@") i)
    (λ rest. Some (shape empty_union_row 0 [] [] no_names (types x no_types), rest, b))
    (and_then (read_name type_name i b) (λ n h c. and_then (read_name template_value h c)
    (λ y l t. and_then (crate_read (literal (codes "@")) l t)
    (λ _ k u. Some (shape union_value_row 0 [] [] (names n no_names) (types x (types y no_types)), k, u)))))))
unfolding grammar read read_by crate_read
union_value_step left s =
    read_name-is (value_after values.Union) left s
    ∙ λ i. in_node left s (λ j a. and_then (read_name (type_ 0) j a) (λ x l t.
    literal_or-is {a = type_tree} (codes "@") (empty x) (with_member x) l t i))
  where
    empty : TypeTree → Rule Production type_tree
    empty x = give (shape empty_union_row 0 [] [] no_names (types x no_types))

    with_member : TypeTree → Rule Production type_tree
    with_member x = do
      n ← call type_name
      v ← call template_value
      literal (codes "@")
      give (shape union_value_row 0 [] [] (names n no_names) (types x (types v no_types)))

pub member_by_name_step : (left : List ℕ) (s : State) → read_name (value_after values.MemberOf) left s
    ≡ in_node left s (λ j a. and_then (read_name scope j a) (λ ns i b. and_then (read_name type_name i b)
    (λ n l t. and_then (crate_read (literal (codes "@")) l t)
    (λ _ k u. Some (shape member_of_row 0 [] [] (name_trees (reverse ns ++ n ∷ [])) no_types, k, u)))))
unfolding grammar read read_by crate_read
member_by_name_step left s = read_name-is (value_after values.MemberOf) left s

pub typed_member_step : (left : List ℕ) (s : State) → read typed_member left s
    ≡ in_node left s (λ j a. and_then (read_name (type_ 0) j a) (λ x l t. and_then (read_name member_value l t)
    (λ y k u. Some (shape typed_row 0 [] [] no_names (types y (types x no_types)), k, u))))
unfolding read read_by
typed_member_step left s = refl

pub member_value_step : (left : List ℕ) (s : State) → read_name member_value left s
    ≡ chosen (after (codes "@") left)
    (λ rest. in_node rest s (λ l t. Some (shape absent_row 0 [] [] no_names no_types, l, t)))
    (read_name template_value left s)
unfolding grammar read read_by
member_value_step left s =
    read_name-is member_value left s
    ∙ literal_or-is {a = type_tree} (codes "@") (node (give (shape absent_row 0 [] [] no_names no_types)))
    (call template_value) left s

pub object_name_step : (left : List ℕ) (s : State) → read object_name left s
    ≡ in_node left s (λ j a. and_then (read_name template_value j a)
    (λ x l t. and_then (crate_read (literal (codes "@")) l t)
    (λ _ k u. Some (shaped template_object_row 0 [] [] no_names (types x no_types), k, u))))
unfolding read read_by crate_read
object_name_step left s = refl

pub argument_listed_step : (left : List ℕ) (s : State)
    → read_name (one_listed kinds.Argument) left s ≡ read_name argument left s
unfolding grammar read read_by
argument_listed_step left s = read_name-is (one_listed kinds.Argument) left s

-- nothing begins with a $ that neither an argument nor a type has
pub argument_unknown : (left rest : List ℕ) (s : State) → text_at argument_texts left ≡ None
    → value_behind left ≡ Some rest → read_name (one_listed kinds.Argument) left s ≡ None
argument_unknown left rest s none e =
    argument_listed_step left s
    ∙ argument_step left s
    ∙ ap (λ o. by_text o (λ f l. read_name (argument_after f) l s) (read_name (type_ 0) left s)) none
    ∙ no_type_at_value 0 left rest s e

pub member_listed_step : (left : List ℕ) (s : State)
    → read_name (one_listed kinds.Member) left s ≡ read_name member left s
unfolding grammar read read_by
member_listed_step left s = read_name-is (one_listed kinds.Member) left s

pub element_listed_step : (left : List ℕ) (s : State) → read_name (one_listed kinds.Element) left s
    ≡ and_then (read_name template_value left s) (λ x l t. and_then (crate_read (literal (codes "@")) l t)
    (λ _ k u. Some (x, k, u)))
unfolding grammar read read_by crate_read
element_listed_step left s = read_name-is (one_listed kinds.Element) left s

pub offsets_step : (n : ℕ) (left : List ℕ) (s : State) → read_name (value_after (values.Offsets n)) left s
    ≡ in_node left s (λ j a. and_then (read_name (numbers n) j a)
    (λ zs l t. Some (shape offsets_row 0 zs [] no_names no_types, l, t)))
unfolding grammar read read_by
offsets_step n left s = read_name-is (value_after (values.Offsets n)) left s

-- offsets alone, and offsets after a function
abbrev only_offsets : ℕ → List ℕ → State → Found TypeTree
only_offsets n l t =
    and_then (read_name (numbers n) l t) (λ zs k u. Some (shape offsets_row 0 zs [] no_names no_types, k, u))

abbrev symbol_and_offsets : ℕ → List ℕ → State → Found TypeTree
symbol_and_offsets n l t = and_then (read nested_symbol l t) (λ x k u. and_then (read_name (numbers n) k u)
    (λ zs h v. Some (shape symbol_offsets_row 0 zs [] (names x no_names) no_types, h, v)))

-- no symbol is read where no ? stands
no_symbol : (n : ℕ) (l : List ℕ) (t : State) → begins l (codes "?") ≡ false → symbol_and_offsets n l t ≡ None
unfolding grammar read read_by counting
no_symbol n l t e = go (is_allowed (more t.count.weight t.count)) (counted t.count.weight t)
  where
    with_nested : SymbolTree → List ℕ → State → Found NameTree
    with_nested x h v = Some (nested x.name x.scope x.symbol_type, h, v)

    with_offsets : NameTree → List ℕ → State → Found TypeTree
    with_offsets x k u = and_then (read_name (numbers n) k u)
        (λ zs h v. Some (shape symbol_offsets_row 0 zs [] (names x no_names) no_types, h, v))

    at : (o : Option (List ℕ)) (u : State) → is_some o ≡ false
        → and_then (after_literal o u) (λ _ h v. read symbol_body h v) ≡ None
    at None u h = refl
    at (Some rest) u h = absurd (true≢false h)

    rejected : (u : State) → read_name symbol l u ≡ None
    rejected u = read_name-is symbol l u ∙ at (after (codes "?") l) u e

    go : (b : Bool) (u : State)
        → and_then (and_then (only_if b l u) (λ _ k v. and_then (read_name symbol k v) with_nested)) with_offsets ≡ None
    go true u = ap (λ o. and_then (and_then o with_nested) with_offsets) (rejected u)
    go false u = refl

pub member_offsets_step : (n : ℕ) (left : List ℕ) (s : State)
    → read_name (value_after (values.MemberOffsets n)) left s
    ≡ in_node left s (λ l t. cond (begins l (codes "?")) (symbol_and_offsets n l t) (only_offsets n l t))
unfolding grammar read read_by
member_offsets_step n left s =
    read_name-is (value_after (values.MemberOffsets n)) left s
    ∙ λ i. in_node left s (λ l t. go (begins l (codes "?")) l t refl i)
  where
    or_nothing : (o : Found TypeTree) → or_else o None ≡ o
    or_nothing None = refl
    or_nothing (Some x) = refl

    go : (b : Bool) (l : List ℕ) (t : State) → begins l (codes "?") ≡ b
        → or_else (cond (not (cond b true false)) (only_offsets n l t) None) (symbol_and_offsets n l t)
        ≡ cond b (symbol_and_offsets n l t) (only_offsets n l t)
    go true l t e = refl
    go false l t e = ap (or_else (only_offsets n l t)) (no_symbol n l t e) ∙ or_nothing (only_offsets n l t)

abbrev listed_stop : Option (List ℕ) → Option (List TypeTree × List ℕ)
listed_stop None = None
listed_stop (Some rest) = Some ([], rest)

listed_step : (kind : Listed) (left : List ℕ) (s : State)
    → read_name (listed kind) left s
    ≡ row_by (read_name (listed kind)) (listed_stop (after (codes "@") left)) (read_name (one_listed kind) left s) s
unfolding grammar read read_by
listed_step kind left s =
    read_name-is (listed kind) left s
    ∙ literal_or-is {a =
    list type_tree} (codes "@") (give []) (do t ← call (one_listed kind); ts ← call (listed kind); give (t ∷ ts)) left s
    ∙ go (after (codes "@") left)
  where
    go : (o : Option (List ℕ))
        → chosen o (λ rest. Some ([], rest, s))
        (and_then (read_name (one_listed kind) left s)
        (λ n l t. and_then (read_name (listed kind) l t) (λ ns k u. Some (n ∷ ns, k, u))))
        ≡ row_by (read_name (listed kind)) (listed_stop o) (read_name (one_listed kind) left s) s
    go None = refl
    go (Some rest) = refl

pub listed_start : (kind : Listed) (left : List ℕ) (s : State)
    → with_front [] (read_name (listed kind) left s) ≡ read_name (listed kind) left s
listed_start kind left s = front_none (read_name (listed kind) left s)

pub listed_end : (kind : Listed) (xs : List TypeTree) (left rest : List ℕ) (s : State)
    → after (codes "@") left ≡ Some rest
    → with_front xs (read_name (listed kind) left s) ≡ Some (xs, rest, s)
listed_end kind xs left rest s e =
    row_ends (read_name (listed kind)) (read_name (one_listed kind))
    (λ l. listed_stop (after (codes "@") l)) (listed_step kind) xs [] left rest s (ap listed_stop e)
    ∙ ap (λ z. Some (z, rest, s)) (append-nil xs)

pub listed_rejected : (kind : Listed) (xs : List TypeTree) (left : List ℕ) (s : State) → after (codes "@") left ≡ None
    → read_name (one_listed kind) left s ≡ None → with_front xs (read_name (listed kind) left s) ≡ None
listed_rejected kind xs left s e none =
    row_rejected (read_name (listed kind)) (read_name (one_listed kind))
    (λ l. listed_stop (after (codes "@") l)) (listed_step kind) xs left s (ap listed_stop e) none

pub listed_more : (kind : Listed) (xs : List TypeTree) (left l : List ℕ) (s t : State) (x : TypeTree)
    → after (codes "@") left ≡ None
    → read_name (one_listed kind) left s ≡ Some (x, l, t)
    → with_front xs (read_name (listed kind) left s) ≡ with_front (xs ++ x ∷ []) (read_name (listed kind) l t)
listed_more kind xs left l s t x e some =
    row_more (read_name (listed kind)) (read_name (one_listed kind))
    (λ m. listed_stop (after (codes "@") m)) (listed_step kind) xs left l s t x (ap listed_stop e) some

pub ruleset steps = (
  named_step,
  pointer_with_step,
  reference_by_step,
  volatile_reference_step,
  arrayed_step,
  function_with_step,
  the_same_step,
  qualified_step,
  type_by_row_step,
  tagged_type_step,
  integer_step,
  custom_step,
  nullptr_step,
  extern_c_step,
  pointer_step,
  reference_step,
  pointed_function_step,
  pointed_step,
  pointed_type_step,
  managed_step,
  numbered_managed_step,
  managed_array_step,
  managed_type_step,
  block_step,
  pointed_member_function_step,
  pointed_member_step,
  array_lengths_step,
  arrays_step,
  elements_step,
  empty_pack_step,
  alias_step,
  argument_value_step,
  typed_step,
  value_row_step,
  value_symbol_step,
  bits_step,
  value_word_step,
  aggregate_step,
  elements_value_step,
  values_step,
  subobject_step,
  member_of_value_step,
  element_of_value_step,
  union_value_step,
  member_by_name_step,
  typed_member_step,
  member_value_step,
  object_name_step,
  argument_listed_step,
  argument_unknown,
  member_listed_step,
  element_listed_step,
  offsets_step,
  member_offsets_step,
  listed_start,
  listed_end,
  listed_rejected,
)
