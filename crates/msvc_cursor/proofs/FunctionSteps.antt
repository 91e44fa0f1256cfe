-- Step lemmas of functions, their parameters and pointers to member functions: each is an equation between a rule and
-- what its reader does.
use Rattle.std.proofs.Common.{ℕ, List, [], ◌∷◌, Option, Some, None, Bool, true, false, cond, ◌≡◌, refl, ap, ◌∙◌}
use Rattle.std.specs.Prelude.{slice_get, codes, bit_or}
use Rattle.msvc_nodes.specs.Trees as tree
use Rattle.msvc_nodes.specs.declared.kinds.PrimitiveKind.TheVariants as base_kind
use Rattle.msvc_nodes.specs.declared.kinds.PlainType.TheVariants as plain_kind
use Rattle.msvc_nodes.specs.Trees.{function, name_trees, plain, type_trees}
use Rattle.msvc_rules.specs.Readers.{read_by, letter_here, with_value, type_noted, noted_by, entered_by, and_then}
use Rattle.msvc_rules.specs.Readers.{in_node, or_else}
use Rattle.msvc_rules.specs.Rules.{holds, none_of, after, lookup, give, letter, literal, call, begins_of, optional}
use Rattle.msvc_rules.specs.Rules.{node, ◌>>=◌, ◌>>◌}
use Rattle.msvc_rules.specs.Sorts.{bits, type_tree, list}
use Rattle.msvc_rules.specs.State.{State}
use Rattle.msvc_grammar.specs.Grammar.{grammar, has, pointed_return_qualifiers}
use Rattle.msvc_grammar.specs.Letters.{digits, pointer_sizes, restricts, alignments, reference_qualifiers, qualifiers}
use Rattle.msvc_grammar.specs.Letters.{storage_classes, conventions, qualifiers_of_returns, function_classes, thunk}
use Rattle.msvc_grammar.specs.Productions.{thunk_number, this_qualifiers, function_qualifiers, signature}
use Rattle.msvc_grammar.specs.Productions.{return_qualifiers, returned, function_parameters, parameters, parameter}
use Rattle.msvc_grammar.specs.Productions.{type_, qualified_name, number, class_part, function_type, member_pointer}
use Rattle.msvc_grammar.specs.Reading.{read_name, read}
use Rattle.msvc_grammar.proofs.Laws.{read_name-is}
use Rattle.msvc_cursor.specs.Parser.{byte_here}
use Rattle.msvc_cursor.proofs.Choices.{or_none, choose, chosen, no_letter, literal_or-is, letter_following}
use Rattle.msvc_grammar.specs.declared.forms.ObjectQualifiers.{ObjectQualifiers}
use Rattle.msvc_grammar.specs.declared.forms.ObjectQualifiers.TheVariants as object_qualifiers
use Rattle.msvc_grammar.specs.declared.forms.FunctionKind.{FunctionKind}
use Rattle.msvc_grammar.specs.declared.forms.FunctionKind.TheVariants as function_kind
use Rattle.msvc_grammar.specs.declared.forms.MemberPointerForm.{MemberPointerForm}
use Rattle.msvc_grammar.specs.declared.forms.MemberPointerForm.TheVariants as pointer_form
use Rattle.msvc_grammar.specs.declared.forms.TemplateNames.TheVariants as templates

-- functions

pub thunk_number_there : (left : List ℕ) (s : State) → read_name (thunk_number true) left s
    ≡ and_then (read_name number left s) (λ z l t. Some (tt, l, t))
unfolding grammar read read_by
thunk_number_there left s = read_name-is (thunk_number true) left s

pub thunk_number_none : (left : List ℕ) (s : State) → read_name (thunk_number false) left s ≡ Some (tt, left, s)
unfolding grammar read read_by
thunk_number_none left s = read_name-is (thunk_number false) left s

pub this_qualifiers_none : (left : List ℕ) (s : State)
    → read_name (this_qualifiers object_qualifiers.Absent) left s ≡ Some (0, left, s)
unfolding grammar read read_by
this_qualifiers_none left s = read_name-is (this_qualifiers object_qualifiers.Absent) left s

pub this_qualifiers_there : (left : List ℕ) (s : State)
    → read_name (this_qualifiers object_qualifiers.Present) left s ≡ read_name function_qualifiers left s
unfolding grammar read read_by
this_qualifiers_there left s = read_name-is (this_qualifiers object_qualifiers.Present) left s

pub function_qualifiers_step : (left : List ℕ) (s : State) → read_name function_qualifiers left s
    ≡ and_then (read (optional pointer_sizes) left s) (λ size l t. and_then (read (optional restricts) l t)
    (λ restrict k u. and_then (read (optional alignments) k u)
    (λ alignment j v. and_then (read (optional reference_qualifiers) j v)
    (λ reference i w. and_then (read (optional qualifiers) i w) (λ qualifier h x.
    Some (bit_or size (bit_or restrict (bit_or alignment (bit_or reference qualifier))), h, x))))))
unfolding grammar read read_by
function_qualifiers_step left s = read_name-is function_qualifiers left s

pub signature_step : (kind : FunctionKind) (left : List ℕ) (s : State) → read_name (signature kind) left s
    ≡ and_then (letter_here conventions left s) (λ c l t. and_then (read_name return_qualifiers l t)
    (λ q k u. and_then (read_name (returned kind q) k u) (λ x j v. and_then (read_name function_parameters j v)
    (λ xs i w. Some ((c, (x, xs)), i, w)))))
unfolding grammar read read_by
signature_step kind left s = read_name-is (signature kind) left s

pub return_qualifiers_step : (left : List ℕ) (s : State) → read_name return_qualifiers left s
    ≡ chosen (after (codes "?") left) (λ rest. and_then (byte_here rest s)
    (λ b l t. with_value (lookup b qualifiers_of_returns) l t)) (Some (0, left, s))
unfolding grammar read read_by
return_qualifiers_step left s =
    read_name-is return_qualifiers left s
    ∙ literal_or-is {a = bits} (codes "?") (letter bits qualifiers_of_returns) (give 0) left s
    ∙ letter_following qualifiers_of_returns (after (codes "?") left) (Some (0, left, s)) s

pub returned_member : (q : ℕ) (left : List ℕ) (s : State) → read_name (returned function_kind.Member q) left s
    ≡ chosen (after (codes "@") left) (λ rest. in_node rest s (λ l t. Some (plain plain_kind.None, l, t)))
    (read_name (type_ q) left s)
unfolding grammar read read_by
returned_member q left s =
    read_name-is (returned function_kind.Member q) left s
    ∙ literal_or-is {a = type_tree} (codes "@") (node (give (plain plain_kind.None))) (call (type_ q)) left s

pub returned_other : (q : ℕ) (left : List ℕ) (s : State)
    → read_name (returned function_kind.Free q) left s ≡ read_name (type_ q) left s
unfolding grammar read read_by
returned_other q left s = read_name-is (returned function_kind.Free q) left s

-- parameters

pub function_parameters_step : (left : List ℕ) (s : State) → read_name function_parameters left s
    ≡ chosen (after (codes "X") left)
    (λ rest. and_then (read (literal (codes "Z")) rest s)
    (λ _ l t. in_node l t (λ k u. Some (tree.base base_kind.Void 0 ∷ [], k, u))))
    (and_then (read_name parameters left s) (λ xs l t. and_then (read (literal (codes "Z")) l t)
    (λ _ k u. Some (xs, k, u))))
unfolding grammar read read_by
function_parameters_step left s =
    read_name-is function_parameters left s
    ∙ literal_or-is {a = list type_tree} (codes "X")
    (do literal (codes "Z"); node (give (tree.base base_kind.Void 0 ∷ [])))
    (do ts ← call parameters; literal (codes "Z"); give ts) left s

pub parameter_step : (left : List ℕ) (s : State) → read_name parameter left s
    ≡ choose (letter_here digits left s) (λ i l t. type_noted (slice_get t.types i) left l t)
    (entered_by left (read_name (type_ 0) left s))
unfolding grammar read read_by
parameter_step [] s = read_name-is parameter [] s
parameter_step (b ∷ bs) s =
    read_name-is parameter (b ∷ bs) s
    ∙ go (lookup b digits) (holds (none_of (begins_of digits)) (b ∷ bs)) (no_letter digits b bs)
  where
    go : (o : Option ℕ) (t : Bool) → (o ≡ None → t ≡ true) × ((i : ℕ) → o ≡ Some i → t ≡ false)
        → or_else (noted_by o (b ∷ bs) bs s) (cond t (entered_by (b ∷ bs) (read_name (type_ 0) (b ∷ bs) s)) None)
        ≡ choose (with_value o bs s) (λ i l u. type_noted (slice_get u.types i) (b ∷ bs) l u)
        (entered_by (b ∷ bs) (read_name (type_ 0) (b ∷ bs) s))
    go None t h = ap (λ z. cond z (entered_by (b ∷ bs) (read_name (type_ 0) (b ∷ bs) s)) None) (h.0 refl)
    go (Some i) t h =
        ap (λ z. or_else (type_noted (slice_get s.types i) (b ∷ bs) bs s)
        (cond z (entered_by (b ∷ bs) (read_name (type_ 0) (b ∷ bs) s)) None)) (h.1 i refl)
        ∙ or_none (type_noted (slice_get s.types i) (b ∷ bs) bs s)

-- Function types and member pointers

pub pointed_return_qualifiers_step : (left : List ℕ) (s : State) → read pointed_return_qualifiers left s
    ≡ chosen (after (codes "?") left) (λ rest. read (optional storage_classes) rest s) (Some (0, left, s))
unfolding read read_by
pointed_return_qualifiers_step left s = literal_or-is {a = bits} (codes "?") (optional storage_classes) (give 0) left s

pub function_type_step : (object : ObjectQualifiers) (left : List ℕ) (s : State)
    → read_name (function_type object) left s
    ≡ in_node left s (λ m a. and_then (read_name (this_qualifiers object) m a)
    (λ on_this l t. and_then (letter_here conventions l t)
    (λ c k u. and_then (read pointed_return_qualifiers k u) (λ q j v. and_then (read_name (type_ q) j v)
    (λ x i w. and_then (read_name function_parameters i w)
    (λ xs h y. Some (function c (type_trees xs) on_this x, h, y)))))))
unfolding grammar read read_by
function_type_step object left s = read_name-is (function_type object) left s

pub member_pointer_step : (which : MemberPointerForm) (left : List ℕ) (s : State)
    → read_name (member_pointer which) left s
    ≡ in_node left s (λ h a. and_then (read_name (qualified_name templates.NotMemorized) h a)
    (λ n l t. and_then (read (optional pointer_sizes) l t)
    (λ size k u. and_then (read_name (class_part which) k u)
    (λ part j v. and_then (read_name (signature function_kind.Member) j v)
    (λ f i w. Some (
      tree.member_pointer n.0 (name_trees n.1) part.0 f.0 (type_trees f.1.1) (bit_or size part.1) f.1.0,
      i,
      w,
    ))))))
unfolding grammar read read_by
member_pointer_step which left s = read_name-is (member_pointer which) left s

pub class_part_qualified : (left : List ℕ) (s : State) → read_name (class_part pointer_form.Qualified) left s
    ≡ and_then (read (optional qualifiers) left s) (λ q l t. Some ((0, q), l, t))
unfolding grammar read read_by
class_part_qualified left s = read_name-is (class_part pointer_form.Qualified) left s

pub class_part_of : (left : List ℕ) (s : State) → read_name (class_part pointer_form.OfClass) left s
    ≡ and_then (letter_here function_classes left s) (λ class l t.
    and_then (read_name (thunk_number (has class thunk)) l t) (λ _ k u. Some ((class, 0), k, u)))
unfolding grammar read read_by
class_part_of left s = read_name-is (class_part pointer_form.OfClass) left s

pub ruleset steps = (
  thunk_number_there,
  thunk_number_none,
  this_qualifiers_none,
  this_qualifiers_there,
  function_qualifiers_step,
  signature_step,
  return_qualifiers_step,
  returned_member,
  returned_other,
  function_parameters_step,
  parameter_step,
  pointed_return_qualifiers_step,
  function_type_step,
  member_pointer_step,
  class_part_qualified,
  class_part_of,
)
