-- Step lemmas of types, by the text that a type begins with.
use Rattle.std.proofs.Common.{ℕ, ℤ, pos, negsuc, zero, suc, List, [], ◌∷◌, Option, Some, None}
use Rattle.std.proofs.Common.{◌≡◌, refl, sym, ap, ◌∙◌}
use Rattle.std.specs.Prelude.{slice_get, codes, bit_or, unwrap_or}
use Rattle.std.specs.Option.{option_map, option_map_or}
use Rattle.std.specs.Int.{int_wrapping_neg, w32}
use Rattle.msvc_nodes.specs.Trees as tree
use Rattle.msvc_nodes.specs.declared.kinds.PrimitiveKind.{PrimitiveKind}
use Rattle.msvc_nodes.specs.declared.kinds.PointerAffinity.{PointerAffinity}
use Rattle.msvc_nodes.specs.declared.kinds.TagKind.{TagKind}
use Rattle.msvc_nodes.specs.declared.kinds.NumberedType.TheVariants as number_kind
use Rattle.msvc_nodes.specs.declared.kinds.PlainType.TheVariants as plain_kind
use Rattle.msvc_nodes.specs.Trees.{TypeTree, name_trees, numbered, plain, pointing, tagged}
use Rattle.msvc_cursor.specs.Parser.{byte_here, found_or, text_at}
use Rattle.msvc_nodes.specs.declared.kinds.PointerAffinity.TheVariants as mark_kind
use Rattle.msvc_nodes.specs.declared.kinds.TagKind.TheVariants as tag_kind
use Rattle.msvc_rules.specs.Readers.{Found, read_by, letter_here, with_value, type_known, and_then, in_node}
use Rattle.msvc_rules.specs.Rules.{after, lookup, Rule, give, letter, literal, call, literal_or, optional, ◌>>=◌}
use Rattle.msvc_rules.specs.Sorts.{bits, type_tree, TypeLetter, arrayed, based, extended, indexed, named, points}
use Rattle.msvc_rules.specs.Sorts.{referred}
use Rattle.msvc_rules.specs.State.{State}
use Rattle.msvc_grammar.specs.Grammar.{grammar, array_class, arrays}
use Rattle.msvc_grammar.specs.Letters.{rows_of, digits, pointer_sizes, qualifiers, storage_classes}
use Rattle.msvc_grammar.specs.Letters.{qualifiers_of_arrays, base_types, extended_types, compound_letters, type_texts}
use Rattle.msvc_grammar.specs.Productions.{Production, type_, plain_type, type_after, pointee, array, dimension}
use Rattle.msvc_grammar.specs.Productions.{positive, lengths, qualified_name, number, function_type, member_pointer}
use Rattle.msvc_grammar.specs.Productions.{prefixed_type}
use Rattle.msvc_grammar.specs.Reading.{read_name, read}
use Rattle.msvc_grammar.proofs.Checks.{no_text_begins_another}
use Rattle.msvc_grammar.proofs.Laws.{read_name-is}
use Rattle.msvc_grammar.specs.declared.forms.TypePrefix.TheVariants as form
use Rattle.msvc_grammar.specs.declared.forms.ObjectQualifiers.TheVariants as object_qualifiers
use Rattle.msvc_grammar.specs.declared.forms.MemberPointerForm.TheVariants as pointer_form
use Rattle.msvc_grammar.specs.declared.forms.TemplateNames.TheVariants as templates
use Rattle.msvc_cursor.proofs.Choices.{chosen, literal_or-is, lookup-rows, letter_step, letter_following}
use Rattle.msvc_cursor.proofs.Choices.{by_text, text_or-is}

-- Types

pub type_step : (q : ℕ) (left : List ℕ) (s : State) → read_name (type_ q) left s
    ≡ by_text (text_at type_texts left) (λ f rest. read_name (prefixed_type q f) rest s)
    (chosen (after (codes "$") left) (λ rest. read_name (plain_type q) rest s) (read_name (plain_type q) left s))
unfolding grammar read read_by
type_step q left s =
    read_name-is (type_ q) left s
    ∙ text_or-is {a = type_tree} type_texts (λ f. call (prefixed_type q f)) dropped left s no_text_begins_another
    ∙ ap (by_text (text_at type_texts left) (λ f rest. read_name (prefixed_type q f) rest s))
    (literal_or-is {a = type_tree} (codes "$") (call (plain_type q)) (call (plain_type q)) left s)
  where
    dropped : Rule Production type_tree
    dropped = literal_or (codes "$") (call (plain_type q)) (call (plain_type q))

-- Forms of a type, after its text

pub enumeration_step : (q : ℕ) (left : List ℕ) (s : State) → read_name (prefixed_type q form.Enumeration) left s
    ≡ in_node left s (λ l t. and_then (read_name (qualified_name templates.Memorized) l t)
    (λ n k u. Some (tagged tag_kind.Enum n.0 (name_trees n.1) q, k, u)))
unfolding grammar read read_by
enumeration_step q left s = read_name-is (prefixed_type q form.Enumeration) left s

pub alias_step : (q : ℕ) (left : List ℕ) (s : State) → read_name (prefixed_type q form.Alias) left s
    ≡ in_node left s (λ l t. and_then (read_name (qualified_name templates.NotMemorized) l t)
    (λ n k u. Some (tagged tag_kind.Alias n.0 (name_trees n.1) q, k, u)))
unfolding grammar read read_by
alias_step q left s = read_name-is (prefixed_type q form.Alias) left s

pub reference_to_function_step : (q : ℕ) (left : List ℕ) (s : State)
    → read_name (prefixed_type q form.ReferenceToFunction) left s
    ≡ in_node left s (λ l t. and_then (read_name (function_type object_qualifiers.Absent) l t)
    (λ x k u. Some (pointing mark_kind.Reference x q, k, u)))
unfolding grammar read read_by
reference_to_function_step q left s = read_name-is (prefixed_type q form.ReferenceToFunction) left s

pub pointer_to_function_step : (q : ℕ) (left : List ℕ) (s : State)
    → read_name (prefixed_type q form.PointerToFunction) left s
    ≡ in_node left s (λ l t. and_then (read_name (function_type object_qualifiers.Absent) l t)
    (λ x k u. Some (pointing mark_kind.Pointer x q, k, u)))
unfolding grammar read read_by
pointer_to_function_step q left s = read_name-is (prefixed_type q form.PointerToFunction) left s

pub rvalue_reference_step : (q : ℕ) (left : List ℕ) (s : State)
    → read_name (prefixed_type q form.RValueReference) left s
    ≡ in_node left s (λ l t. and_then (read_name pointee l t)
    (λ x k u. Some (pointing mark_kind.RValueReference x q, k, u)))
unfolding grammar read read_by
rvalue_reference_step q left s = read_name-is (prefixed_type q form.RValueReference) left s

pub constant_step : (q : ℕ) (left : List ℕ) (s : State) → read_name (prefixed_type q form.Constant) left s
    ≡ in_node left s (λ l t. and_then (read_name number l t)
    (λ z k u. Some (numbered number_kind.Constant z, k, u)))
unfolding grammar read read_by
constant_step q left s = read_name-is (prefixed_type q form.Constant) left s

pub template_parameter_step : (q : ℕ) (left : List ℕ) (s : State)
    → read_name (prefixed_type q form.TemplateParameter) left s
    ≡ in_node left s (λ l t. and_then (read_name number l t)
    (λ z k u. Some (numbered number_kind.TemplateParameter z, k, u)))
unfolding grammar read read_by
template_parameter_step q left s = read_name-is (prefixed_type q form.TemplateParameter) left s

pub array_form_step : (q : ℕ) (left : List ℕ) (s : State)
    → read_name (prefixed_type q form.Array) left s ≡ read_name array left s
unfolding grammar read read_by
array_form_step q left s = read_name-is (prefixed_type q form.Array) left s

pub empty_pack_step : (q : ℕ) (left : List ℕ) (s : State)
    → read_name (prefixed_type q form.EmptyPack) left s ≡ in_node left s (λ l t. Some (
      plain plain_kind.EmptyPack,
      l,
      t,
    ))
unfolding grammar read read_by
empty_pack_step q left s = read_name-is (prefixed_type q form.EmptyPack) left s

pub nullptr_step : (q : ℕ) (left : List ℕ) (s : State)
    → read_name (prefixed_type q form.Nullptr) left s ≡ in_node left s (λ l t. Some (plain plain_kind.Nullptr, l, t))
unfolding grammar read read_by
nullptr_step q left s = read_name-is (prefixed_type q form.Nullptr) left s

pub function_form_step : (q : ℕ) (left : List ℕ) (s : State)
    → read_name (prefixed_type q form.Function) left s ≡ read_name (function_type object_qualifiers.Absent) left s
unfolding grammar read read_by
function_form_step q left s = read_name-is (prefixed_type q form.Function) left s

pub qualified_function_step : (q : ℕ) (left : List ℕ) (s : State)
    → read_name (prefixed_type q form.QualifiedFunction) left s
    ≡ read_name (function_type object_qualifiers.Present) left s
unfolding grammar read read_by
qualified_function_step q left s = read_name-is (prefixed_type q form.QualifiedFunction) left s

pub cv_type_step : (q : ℕ) (left : List ℕ) (s : State) → read_name (prefixed_type q form.CvQualified) left s
    ≡ and_then (read (optional qualifiers) left s) (λ q l t. read_name (plain_type q) l t)
unfolding grammar read read_by
cv_type_step q left s = read_name-is (prefixed_type q form.CvQualified) left s

pub qualified_member_step : (q : ℕ) (left : List ℕ) (s : State)
    → read_name (prefixed_type q form.QualifiedMemberPointer) left s
    ≡ read_name (member_pointer pointer_form.Qualified) left s
unfolding grammar read read_by
qualified_member_step q left s = read_name-is (prefixed_type q form.QualifiedMemberPointer) left s

pub member_form_step : (q : ℕ) (left : List ℕ) (s : State) → read_name (prefixed_type q form.MemberPointer) left s
    ≡ and_then (read (literal (codes "?")) left s) (λ _ l t. read_name (member_pointer pointer_form.OfClass) l t)
unfolding grammar read read_by
member_form_step q left s = read_name-is (prefixed_type q form.MemberPointer) left s

-- Plain types, and what follows their letters

-- what is read after the first letter of a type
unfoldable pub type_by : ℕ → Option TypeLetter → List ℕ → State → Found TypeTree
type_by q None left s = None
type_by q (Some l) left s = read_name (type_after q l) left s

pub plain_type_step : (q : ℕ) (left : List ℕ) (s : State) → read_name (plain_type q) left s
    ≡ and_then (byte_here left s) (λ b l t. found_or (option_map (λ x. tree.base x q) (lookup b base_types)) l t
    (type_by q (lookup b compound_letters) l t))
unfolding grammar read read_by byte_here type_by
plain_type_step q [] s = read_name-is (plain_type q) [] s
plain_type_step q (b ∷ bs) s =
    read_name-is (plain_type q) (b ∷ bs) s
    ∙ ap (λ o. and_then (with_value o bs s) (λ x. read_name (type_after q x)))
    (lookup-rows based b base_types compound_letters)
    ∙ go (lookup b base_types)
  where
    remaining : (o : Option TypeLetter) → and_then (with_value o bs s) (λ x. read_name (type_after q x))
        ≡ type_by q o bs s
    remaining None = refl
    remaining (Some x) = refl

    go : (o : Option PrimitiveKind)
        → and_then (with_value (option_map_or (λ x. Some (based x)) o (lookup b compound_letters)) bs s)
        (λ x. read_name (type_after q x))
        ≡ found_or (option_map (λ x. tree.base x q) o) bs s
        (type_by q (lookup b compound_letters) bs s)
    go None = remaining (lookup b compound_letters)
    go (Some x) = read_name-is (type_after q (based x)) bs s

-- what is read where the first letter is known
pub plain_letter : (q b : ℕ) (left l : List ℕ) (s t : State) → byte_here left s ≡ Some (b, l, t)
    → read_name (plain_type q) left s
    ≡ found_or (option_map (λ x. tree.base x q) (lookup b base_types)) l t (type_by q (lookup b compound_letters) l t)
plain_letter q b left l s t e =
    plain_type_step q left s
    ∙ ap (λ o. and_then o (λ c k u. found_or (option_map (λ x. tree.base x q) (lookup c base_types)) k u
    (type_by q (lookup c compound_letters) k u))) e

pub extended_step : (q : ℕ) (left : List ℕ) (s : State) → read_name (type_after q extended) left s
    ≡ in_node left s (λ l t. and_then (byte_here l t)
    (λ b k u. with_value (option_map (λ x. tree.base x q) (lookup b extended_types)) k u))
unfolding grammar read read_by byte_here
extended_step q left s =
    read_name-is (type_after q extended) left s
    ∙ λ i. in_node left s (λ l t. go l t i)
  where
    found : (o : Option PrimitiveKind) (l : List ℕ) (t : State)
        → and_then (with_value o l t) (λ x k u. Some (tree.base x q, k, u))
        ≡ with_value (option_map (λ x. tree.base x q) o) l t
    found None l t = refl
    found (Some x) l t = refl

    go : (l : List ℕ) (t : State)
        → and_then (letter_here extended_types l t) (λ x k u. Some (tree.base x q, k, u))
        ≡ and_then (byte_here l t)
        (λ b k u. with_value (option_map (λ x. tree.base x q) (lookup b extended_types)) k u)
    go [] t = refl
    go (b ∷ bs) t = found (lookup b extended_types) bs t

pub named_step : (q : ℕ) (tag : TagKind) (left : List ℕ) (s : State) → read_name (type_after q (named tag)) left s
    ≡ in_node left s (λ l t. and_then (read_name (qualified_name templates.Memorized) l t)
    (λ n k u. Some (tagged tag n.0 (name_trees n.1) q, k, u)))
unfolding grammar read read_by
named_step q tag left s = read_name-is (type_after q (named tag)) left s

pub points_step : (q : ℕ) (mark : PointerAffinity) (on_pointer : Option ℕ) (left : List ℕ) (s : State)
    → read_name (type_after q (points mark on_pointer)) left s
    ≡ in_node left s (λ l t. and_then (read_name pointee l t)
    (λ x k u. Some (pointing mark x (unwrap_or on_pointer q), k, u)))
unfolding grammar read read_by
points_step q mark on_pointer left s = read_name-is (type_after q (points mark on_pointer)) left s

pub arrayed_step : (q : ℕ) (left : List ℕ) (s : State)
    → read_name (type_after q arrayed) left s ≡ read_name array left s
unfolding grammar read read_by
arrayed_step q left s = read_name-is (type_after q arrayed) left s

pub indexed_step : (q : ℕ) (left : List ℕ) (s : State) → read_name (type_after q indexed) left s
    ≡ in_node left s (λ l t. and_then (read_name number l t)
    (λ z k u. Some (numbered number_kind.TemplateParameter (int_wrapping_neg w32 z), k, u)))
unfolding grammar read read_by
indexed_step q left s = read_name-is (type_after q indexed) left s

pub referred_step : (q b : ℕ) (left : List ℕ) (s : State)
    → type_by q (lookup b (rows_of referred digits [])) left s
    ≡ and_then (with_value (lookup b digits) left s) (λ i l t. type_known (slice_get t.types i) l t)
unfolding grammar read read_by type_by
referred_step q b left s =
    ap (λ o. type_by q o left s) (lookup-rows referred b digits [])
    ∙ go (lookup b digits)
  where
    go : (o : Option ℕ)
        → type_by q (option_map_or (λ i. Some (referred i)) o None) left s
        ≡ and_then (with_value o left s) (λ i l t. type_known (slice_get t.types i) l t)
    go None = refl
    go (Some i) = read_name-is (type_after q (referred i)) left s

pub pointee_step : (left : List ℕ) (s : State) → read_name pointee left s
    ≡ and_then (read (optional pointer_sizes) left s) (λ size l t. and_then (read (optional storage_classes) l t)
    (λ class. read_name (type_ (bit_or size class))))
unfolding grammar read read_by
pointee_step left s = read_name-is pointee left s

pub array_class_step : (left : List ℕ) (s : State) → read array_class left s
    ≡ chosen (after (codes "$$C") left) (λ rest. and_then (byte_here rest s)
    (λ b l t. with_value (lookup b qualifiers_of_arrays) l t)) (Some (0, left, s))
unfolding read read_by
array_class_step left s =
    literal_or-is {a = bits} (codes "$$C") (letter bits qualifiers_of_arrays) (give 0) left s
    ∙ letter_following qualifiers_of_arrays (after (codes "$$C") left) (Some (0, left, s)) s

abbrev elements : List ℤ → ℕ → List ℕ → State → Found TypeTree
elements zs q left s = and_then (read_name (type_ 0) left s) (λ x l t. Some (arrays zs x q, l, t))

pub array_step : (left : List ℕ) (s : State) → read_name array left s
    ≡ and_then (read_name dimension left s) (λ n l t. and_then (read_name (lengths n) l t)
    (λ zs k u. and_then (read array_class k u) (elements zs)))
unfolding grammar read read_by
array_step left s =
    read_name-is array left s
    ∙ λ i. and_then (read_name dimension left s) (λ n l t. and_then (read_name (lengths n) l t)
    (λ zs k u. (literal_or-is {a = type_tree} (codes "$$C")
    (do q ← letter bits qualifiers_of_arrays; t ← call (type_ 0); give (arrays zs t q))
    (do t ← call (type_ 0); give (arrays zs t 0)) k u
    ∙ go zs k u (after (codes "$$C") k) ∙ ap (λ o. and_then o (elements zs)) (sym (array_class_step k u))) i))
  where
    go : (zs : List ℤ) (k : List ℕ) (u : State) (o : Option (List ℕ))
        → chosen o (λ rest. and_then (letter_here qualifiers_of_arrays rest u) (elements zs)) (elements zs 0 k u)
        ≡ and_then (chosen o (λ rest. and_then (byte_here rest u)
        (λ b l t. with_value (lookup b qualifiers_of_arrays) l t)) (Some (0, k, u))) (elements zs)
    go zs k u None = refl
    go zs k u (Some rest) = ap (λ o. and_then o (elements zs)) (letter_step qualifiers_of_arrays rest u)

abbrev pub dimension_by : ℤ → List ℕ → State → Found ℕ
dimension_by (pos zero) left s = None
dimension_by (pos (suc n)) left s = Some (suc n, left, s)
dimension_by (negsuc n) left s = None

positive_step : (z : ℤ) (left : List ℕ) (s : State) → read_name (positive z) left s ≡ dimension_by z left s
unfolding grammar read read_by
positive_step (pos zero) [] s = read_name-is (positive (pos zero)) [] s
positive_step (pos zero) (b ∷ bs) s = read_name-is (positive (pos zero)) (b ∷ bs) s
positive_step (pos (suc n)) left s = read_name-is (positive (pos (suc n))) left s
positive_step (negsuc n) [] s = read_name-is (positive (negsuc n)) [] s
positive_step (negsuc n) (b ∷ bs) s = read_name-is (positive (negsuc n)) (b ∷ bs) s

pub dimension_step : (left : List ℕ) (s : State)
    → read_name dimension left s ≡ and_then (read_name number left s) dimension_by
unfolding grammar read read_by
dimension_step left s = read_name-is dimension left s
    ∙ λ i. and_then (read_name number left s) (λ z l t. positive_step z l t i)

pub ruleset plain_type_steps = (plain_type_step, arrayed_step, indexed_step, named_step, points_step, referred_step)

pub ruleset steps = (
  type_step,
  enumeration_step,
  alias_step,
  reference_to_function_step,
  pointer_to_function_step,
  rvalue_reference_step,
  constant_step,
  template_parameter_step,
  array_form_step,
  empty_pack_step,
  nullptr_step,
  function_form_step,
  qualified_function_step,
  cv_type_step,
  qualified_member_step,
  member_form_step,
  extended_step,
  pointee_step,
  array_class_step,
  array_step,
  dimension_step,
)
