-- Step lemmas of functions and of their parameters.
use Rattle.std.proofs.Common.{ℕ, List, [], ◌∷◌, ◌++◌, Option, Some, None, Bool, true, false, cond, not, ◌≡◌, ◌==◌}
use Rattle.std.proofs.Common.{refl, ap, ◌∙◌}
use Rattle.std.specs.Prelude.{bit_or, codes, is_some, slice_get}
use Rattle.msvc_nodes.specs.Trees.{TypeTree, base, function, member_function, no_names, no_types, plain, shape, types}
use Rattle.msvc_nodes.specs.Trees.{type_trees}
use Rattle.msvc_nodes.specs.declared.kinds.Convention.{Convention}
use Rattle.msvc_nodes.specs.declared.kinds.PlainType.TheVariants as plain_kind
use Rattle.msvc_nodes.specs.declared.kinds.PrimitiveKind.TheVariants as base_kind
use Rattle.msvc_rules.specs.Readers.{Found, after_literal, and_then, counting, entered_by, in_node, letter_here}
use Rattle.msvc_rules.specs.Readers.{noted_by}
use Rattle.msvc_rules.specs.Readers.{or_else, read_by, type_noted, with_value}
use Rattle.msvc_rules.specs.Rules.{after, begins_of, call, give, holds, letter, literal, lookup, node}
use Rattle.msvc_rules.specs.Rules.{none_of, ◌>>=◌, ◌>>◌, ◌or◌}
use Rattle.msvc_rules.specs.Sorts.{bits, list, type_tree}
use Rattle.msvc_rules.specs.State.{State}
use Rattle.msvc_grammar.specs.Reading.{read as crate_read}
use Rattle.msvc_grammar.specs.declared.forms.Ellipsis.{Ellipsis}
use Rattle.msvc_grammar.specs.declared.forms.Ellipsis.TheVariants.{Absent, Present}
use Rattle.msvc_cursor.specs.Rows.{with_front}
use Rattle.msvc_rules.proofs.Soundness.{after-is}
use Rattle.msvc_full_grammar.specs.Forms.{function_of}
use Rattle.msvc_full_grammar.specs.Grammar.{grammar}
use Rattle.msvc_full_grammar.specs.Fragments.{no_type, own_of_class, parameter}
use Rattle.msvc_full_grammar.specs.Rows.{explicit_this_row}
use Rattle.msvc_full_grammar.specs.Letters.{at_sign, conventions, digits, noexcept, qualifiers}
use Rattle.msvc_full_grammar.specs.Productions.{encoding_after, function_parameters, function_type}
use Rattle.msvc_full_grammar.specs.Productions.{explicit_parameters, own_qualifiers, parameters, result_type, returned}
use Rattle.msvc_full_grammar.specs.Productions.{signature}
use Rattle.msvc_full_grammar.specs.Productions.{type_}
use Rattle.msvc_full_grammar.specs.Reading.{read_name, read}
use Rattle.msvc_full_grammar.specs.declared.forms.OwnQualifiers.{OwnQualifiers}
use Rattle.msvc_full_grammar.proofs.Laws.{read_name-is}
use Rattle.msvc_cursor.specs.Parser.{counting_ellipsis, ellipsis_types}
use Rattle.msvc_cursor.proofs.Choices.{choose, chosen, no_letter, or_none}
use Rattle.msvc_cursor.proofs.RowSteps.{front_first, front_none, stopped}
use Rattle.msvc_full_letters.proofs.Choices.{literal_or-is}
use Rattle.msvc_full_letters.proofs.TextSteps.{no_type_at_this}
use Rattle.msvc_full_readers.specs.Readings.{ellipsis_letter, parameters_stop, signature_end}
use Rattle.msvc_full_readers.proofs.Founds.{then_then}

pub function_type_step : (own : OwnQualifiers) (left : List ℕ) (s : State) → read_name (function_type own) left s
    ≡ in_node left s (λ j a. and_then (read_name (signature own) j a)
    (λ f l t. Some (function f.1.0 (type_trees f.1.1.1) f.0 f.1.1.0, l, t)))
unfolding grammar read read_by
function_type_step own left s = read_name-is (function_type own) left s

pub member_function_step : (class : ℕ) (left : List ℕ) (s : State)
    → read_name (encoding_after (function_of class)) left s
    ≡ in_node left s (λ j a. and_then (read_name (signature (own_of_class class)) j a)
    (λ f l t. Some (member_function class f.1.0 (type_trees f.1.1.1) f.0 f.1.1.0, l, t)))
unfolding grammar read read_by
member_function_step class left s = read_name-is (encoding_after (function_of class)) left s

pub signature_step : (own : OwnQualifiers) (left : List ℕ) (s : State) → read_name (signature own) left s
    ≡ and_then (read_name (own_qualifiers own) left s) (λ q l t. and_then (letter_here conventions l t)
    (λ c k u. and_then (read_name returned k u) (λ x j v. and_then (read_name function_parameters j v)
    (λ xs i w. read (signature_end q c x xs) i w))))
unfolding grammar read read_by
signature_step own left s = read_name-is (signature own) left s

pub signature_end_step : (q : ℕ) (c : Convention) (x : TypeTree) (xs : List TypeTree) (left : List ℕ) (s : State)
    → read (signature_end q c x xs) left s
    ≡ chosen (after (codes "_E") left) (λ rest. Some ((bit_or noexcept q, (c, (x, xs))), rest, s))
    (and_then (crate_read (literal (codes "Z")) left s) (λ _ l t. Some ((q, (c, (x, xs))), l, t)))
unfolding read read_by crate_read
signature_end_step q c x xs left s = go (after (codes "_E") left)
  where
    given : ℕ → List ℕ → State → Found (ℕ × (Convention × (TypeTree × List TypeTree)))
    given m l t = Some ((m, (c, (x, xs))), l, t)

    go : (o : Option (List ℕ))
        → or_else (and_then (after_literal o s) (λ _. given (bit_or noexcept q)))
        (and_then (after_literal (after (codes "Z") left) s) (λ _. given q))
        ≡ chosen o (λ rest. given (bit_or noexcept q) rest s)
        (and_then (after_literal (after (codes "Z") left) s) (λ _. given q))
    go None = refl
    go (Some rest) = refl

pub returned_step : (left : List ℕ) (s : State) → read_name returned left s
    ≡ chosen (after (codes "@") left) (λ rest. in_node rest s (λ l t. Some (plain plain_kind.None, l, t)))
    (read_name result_type left s)
unfolding grammar read read_by
returned_step left s =
    read_name-is returned left s ∙ literal_or-is {a = type_tree} (codes "@") no_type (call result_type) left s

pub result_type_step : (left : List ℕ) (s : State) → read_name result_type left s
    ≡ chosen (after (codes "?") left)
    (λ rest. and_then (letter_here qualifiers rest s) (λ q l t. read_name (type_ q) l t))
    (read_name (type_ 0) left s)
unfolding grammar read read_by
result_type_step left s =
    read_name-is result_type left s
    ∙ literal_or-is {a = type_tree} (codes "?") (do q ← letter bits qualifiers; call (type_ q)) (call (type_ 0)) left s

-- parameters

pub parameter_step : (left : List ℕ) (s : State) → read parameter left s
    ≡ choose (letter_here digits left s) (λ i l t. type_noted (slice_get t.types i) left l t)
    (entered_by left (read_name (type_ 0) left s))
unfolding read read_by
parameter_step [] s = refl
parameter_step (b ∷ bs) s =
    go (lookup b digits) (holds (none_of (begins_of digits)) (b ∷ bs)) (no_letter digits b bs)
  where
    go : (o : Option ℕ) (t : Bool) → (o ≡ None → t ≡ true) × ((i : ℕ) → o ≡ Some i → t ≡ false)
        → or_else (noted_by o (b ∷ bs) bs s) (cond t (entered_by (b ∷ bs) (read_name (type_ 0) (b ∷ bs) s)) None)
        ≡ choose (with_value o bs s) (λ i l u. type_noted (slice_get u.types i) (b ∷ bs) l u)
        (entered_by (b ∷ bs) (read_name (type_ 0) (b ∷ bs) s))
    go None t h = ap (λ z. cond z (entered_by (b ∷ bs) (read_name (type_ 0) (b ∷ bs) s)) None) (h.0 refl)
    go (Some i) t h =
        ap (λ z. or_else (type_noted (slice_get s.types i) (b ∷ bs) bs s)
        (cond z (entered_by (b ∷ bs) (read_name (type_ 0) (b ∷ bs) s)) None)) (h.1 i refl)
        ∙ or_none (type_noted (slice_get s.types i) (b ∷ bs) bs s)

-- the list stops here, or one more is read and then others
abbrev parameters_by : Option (Ellipsis × List ℕ) → Found TypeTree → State → Found (List TypeTree)
parameters_by (Some stop) first s = stopped stop.0 stop.1 s
parameters_by None first s =
    and_then first (λ x l t. and_then (read_name parameters l t) (λ xs k u. Some (x ∷ xs, k, u)))

parameters_step : (left : List ℕ) (s : State) → read_name parameters left s
    ≡ parameters_by (parameters_stop left) (read parameter left s) s
unfolding grammar read read_by parameters_stop
parameters_step [] s = read_name-is parameters [] s
parameters_step (b ∷ bs) s = read_name-is parameters (b ∷ bs) s ∙ go (b == at_sign) (b == ellipsis_letter)
  where
    others : Found (List TypeTree)
    others = and_then (read parameter (b ∷ bs) s)
        (λ x l t. and_then (read_name parameters l t) (λ xs k u. Some (x ∷ xs, k, u)))

    go : (t u : Bool)
        → or_else (and_then (after_literal (cond t (Some bs) None) s) (λ _ l v. Some ([], l, v)))
        (or_else (and_then (after_literal (cond u (Some bs) None) s)
        (λ _ l v. in_node l v (λ k w. Some (plain plain_kind.Variadic ∷ [], k, w))))
        (cond (not (cond (is_some (cond t (Some bs) None)) true (cond (is_some (cond u (Some bs) None)) true false)))
        others None))
        ≡ parameters_by (cond t (Some (Absent, bs)) (cond u (Some (Present, bs)) None))
        (read parameter (b ∷ bs) s) s
    go true u = refl
    go false true = or_none (in_node bs s (λ k w. Some (plain plain_kind.Variadic ∷ [], k, w)))
    go false false = refl

-- none begin with the _V of an explicit `this`
no_parameter_at_this : (rest : List ℕ) (s : State) → read parameter (codes "_V" ++ rest) s ≡ None
no_parameter_at_this rest s =
    parameter_step (codes "_V" ++ rest) s ∙ ap (entered_by (codes "_V" ++ rest)) (no_type_at_this 0 rest s)

no_parameters_at_this : (rest : List ℕ) (s : State) → read_name parameters (codes "_V" ++ rest) s ≡ None
unfolding parameters_stop
no_parameters_at_this rest s =
    parameters_step (codes "_V" ++ rest) s ∙ ap (λ o. parameters_by None o s) (no_parameter_at_this rest s)

-- so that what follows a _V is read of nothing else
this_or_others : (left : List ℕ) (s : State)
    → or_else (and_then (after_literal (after (codes "_V") left) s) (λ _. read_name explicit_parameters))
    (read_name parameters left s)
    ≡ chosen (after (codes "_V") left) (λ rest. read_name explicit_parameters rest s) (read_name parameters left s)
this_or_others left s = go (after (codes "_V") left) refl
  where
    go : (o : Option (List ℕ)) → after (codes "_V") left ≡ o
        → or_else (and_then (after_literal o s) (λ _. read_name explicit_parameters)) (read_name parameters left s)
        ≡ chosen o (λ rest. read_name explicit_parameters rest s) (read_name parameters left s)
    go None e = refl
    go (Some rest) e =
        ap (or_else (read_name explicit_parameters rest s))
        (ap (λ l. read_name parameters l s) (after-is (codes "_V") left rest e) ∙ no_parameters_at_this rest s)
        ∙ or_none (read_name explicit_parameters rest s)

pub function_parameters_step : (left : List ℕ) (s : State) → read_name function_parameters left s
    ≡ chosen (after (codes "X") left) (λ rest. in_node rest s (λ k u. Some (base base_kind.Void 0 ∷ [], k, u)))
    (chosen (after (codes "_V") left) (λ rest. read_name explicit_parameters rest s) (read_name parameters left s))
unfolding grammar read read_by
function_parameters_step left s =
    read_name-is function_parameters left s
    ∙ literal_or-is {a = list type_tree} (codes "X") (node (give (base base_kind.Void 0 ∷ [])))
    (literal (codes "_V") >> call explicit_parameters or call parameters) left s
    ∙ ap (chosen (after (codes "X") left) (λ rest. in_node rest s (λ k u. Some (base base_kind.Void 0 ∷ [], k, u))))
    (this_or_others left s)

pub explicit_parameters_step : (left : List ℕ) (s : State) → read_name explicit_parameters left s
    ≡ in_node left s (λ j a. and_then (read parameter j a)
    (λ x l t. with_front (shape explicit_this_row 0 [] [] no_names (types x no_types) ∷ []) (read_name parameters l t)))
unfolding grammar read read_by
explicit_parameters_step left s =
    read_name-is explicit_parameters left s
    ∙ then_then (counting s.count.weight left s)
    (λ _ j a. and_then (read parameter j a) (λ x l t. Some (this_of x, l, t))) behind
    ∙ λ i. in_node left s (λ j a. inside j a i)
  where
    this_of : TypeTree → TypeTree
    this_of x = shape explicit_this_row 0 [] [] no_names (types x no_types)

    behind : TypeTree → List ℕ → State → Found (List TypeTree)
    behind x l t = and_then (read_name parameters l t) (λ xs k u. Some (x ∷ xs, k, u))

    front : (x : TypeTree) (o : Found (List TypeTree))
        → and_then o (λ xs k u. Some (x ∷ xs, k, u)) ≡ with_front (x ∷ []) o
    front x None = refl
    front x (Some y) = refl

    inside : (j : List ℕ) (a : State)
        → and_then (and_then (read parameter j a) (λ x l t. Some (this_of x, l, t))) behind
        ≡ and_then (read parameter j a) (λ x l t. with_front (this_of x ∷ []) (read_name parameters l t))
    inside j a =
        then_then (read parameter j a) (λ x l t. Some (this_of x, l, t)) behind
        ∙ λ i. and_then (read parameter j a) (λ x l t. front (this_of x) (read_name parameters l t) i)

pub parameters_starts : (left : List ℕ) (s : State)
    → with_front [] (read_name parameters left s) ≡ read_name parameters left s
parameters_starts left s = front_none (read_name parameters left s)

parameters_ends : (xs : List TypeTree) (left rest : List ℕ) (more : Ellipsis) (s : State)
    → parameters_stop left ≡ Some (more, rest)
    → with_front xs (read_name parameters left s)
    ≡ and_then (counting_ellipsis more rest s) (λ _ l t. Some (xs ++ ellipsis_types more, l, t))
parameters_ends xs left rest more s e =
    ap (with_front xs) (parameters_step left s ∙ ap (λ o. parameters_by o (read parameter left s) s) e)
    ∙ go (counting_ellipsis more rest s)
  where
    go : (o : Found (Unit {0})) → with_front xs (and_then o (λ _ l t. Some (ellipsis_types more, l, t)))
        ≡ and_then o (λ _ l t. Some (xs ++ ellipsis_types more, l, t))
    go None = refl
    go (Some x) = refl

pub parameters_ended : (xs : List TypeTree) (left rest l : List ℕ) (more : Ellipsis) (s t : State)
    → parameters_stop left ≡ Some (more, rest) → counting_ellipsis more rest s ≡ Some (tt, l, t)
    → with_front xs (read_name parameters left s) ≡ Some (xs ++ ellipsis_types more, l, t)
parameters_ended xs left rest l more s t e counted =
    parameters_ends xs left rest more s e
    ∙ ap (λ o. and_then o (λ _ k u. Some (xs ++ ellipsis_types more, k, u))) counted

pub parameters_uncounted : (xs : List TypeTree) (left rest : List ℕ) (more : Ellipsis) (s : State)
    → parameters_stop left ≡ Some (more, rest) → counting_ellipsis more rest s ≡ None
    → with_front xs (read_name parameters left s) ≡ None
parameters_uncounted xs left rest more s e none =
    parameters_ends xs left rest more s e
    ∙ ap (λ o. and_then o (λ _ k u. Some (xs ++ ellipsis_types more, k, u))) none

pub parameters_rejected : (xs : List TypeTree) (left : List ℕ) (s : State) → parameters_stop left ≡ None
    → read parameter left s ≡ None
    → with_front xs (read_name parameters left s) ≡ None
parameters_rejected xs left s e none =
    ap (with_front xs) (parameters_step left s ∙ ap (λ o. parameters_by o (read parameter left s) s) e
    ∙ ap (λ o. parameters_by None o s) none)

pub parameters_more : (xs : List TypeTree) (left l : List ℕ) (s t : State) (x : TypeTree) → parameters_stop left ≡ None
    → read parameter left s ≡ Some (x, l, t)
    → with_front xs (read_name parameters left s) ≡ with_front (xs ++ x ∷ []) (read_name parameters l t)
parameters_more xs left l s t x e some =
    ap (with_front xs) (parameters_step left s ∙ ap (λ o. parameters_by o (read parameter left s) s) e
    ∙ ap (λ o. parameters_by None o s) some)
    ∙ front_first xs x (read_name parameters l t)

pub ruleset steps = (
  function_type_step,
  member_function_step,
  signature_step,
  returned_step,
  result_type_step,
  function_parameters_step,
  explicit_parameters_step,
  parameter_step,
  parameters_starts,
  parameters_ended,
  parameters_uncounted,
  parameters_rejected,
)
