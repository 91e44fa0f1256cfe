-- Names of operators, by their kinds, and types, by what a name of an operator asks of them.
use Rattle.std.proofs.Common.{◌≡◌, ℕ, ℤ, ◌≤◌, List, [], ◌∷◌, ◌++◌, refl, ap, ◌∙◌, arith, false, Option, Some, None}
use Rattle.std.proofs.Common.{codes, cond, Bool, true}
use Rattle.std.specs.Fmt.{signed_decimal}
use Rattle.msvc_nodes.specs.Trees.{TypeTree, operator, function, member_function, shape, types}
use Rattle.msvc_nodes.specs.declared.kinds.PlainOperator.{PlainOperator}
use Rattle.msvc_nodes.specs.declared.kinds.PlainOperator.TheVariants as plain_operator
use Rattle.msvc_print.proofs.Halves.{around-halves}
use Rattle.msvc_print.specs.Declaration.{conversion, full_conversion, grown, is_none}
use Rattle.msvc_print.specs.Flags.{full_style, has}
use Rattle.msvc_print.specs.Halves.{after, before}
use Rattle.msvc_print.specs.Operators.{base_class_pieces, full_operator_word, listed, name_kind, operator_word}
use Rattle.msvc_print.specs.Operators.{spaced, template_kind}
use Rattle.msvc_print.specs.Sides.{alone, around}
use Rattle.msvc_print.specs.Limited.{LimitedText, add_all}
use Rattle.msvc_print.specs.Pieces.{Piece, text}
use Rattle.msvc_print.proofs.Settling.{settled_two}
use Rattle.msvc_print.specs.Weights.{type_weight}
use Rattle.msvc_print.specs.Work.{full_conversion_to, full_return, member_return, moved_return, some_return}
use Rattle.msvc_print.specs.declared.operators.NameKind.TheVariants as name_kinds
use Rattle.msvc_print.specs.declared.pointed.Pointed.TheVariants.{No}

pub name_kind-other : (o : PlainOperator) → (o ≡ plain_operator.Ctor → ⊥) → (o ≡ plain_operator.Dtor → ⊥) →
    (o ≡ plain_operator.Conversion → ⊥) → (o ≡ plain_operator.VBTable → ⊥) →
    (o ≡ plain_operator.LiteralOperatorName → ⊥) → (flags : ℕ) → name_kind (operator o) flags ≡ name_kinds.Ordinary
unfolding name_kind
name_kind-other plain_operator.Ctor a b c d e flags = absurd (a refl)
name_kind-other plain_operator.Dtor a b c d e flags = absurd (b refl)
name_kind-other plain_operator.Conversion a b c d e flags = absurd (c refl)
name_kind-other plain_operator.VBTable a b c d e flags = absurd (d refl)
name_kind-other plain_operator.LiteralOperatorName a b c d e flags = absurd (e refl)
name_kind-other _ a b c d e flags = refl

pub template_kind-other : (o : PlainOperator) → (o ≡ plain_operator.Ctor → ⊥) → (o ≡ plain_operator.Dtor → ⊥) →
    (o ≡ plain_operator.Conversion → ⊥) → template_kind (operator o) ≡ name_kinds.Ordinary
unfolding template_kind
template_kind-other plain_operator.Ctor a b c = absurd (a refl)
template_kind-other plain_operator.Dtor a b c = absurd (b refl)
template_kind-other plain_operator.Conversion a b c = absurd (c refl)
template_kind-other _ a b c = refl

-- the operators that both styles print alike
pub full_operator_word-other : (o : PlainOperator) →
    (o ≡ plain_operator.VBaseDtor → ⊥) →
    (o ≡ plain_operator.VectorDeletingDtor → ⊥) →
    (o ≡ plain_operator.DefaultCtorClosure → ⊥) →
    (o ≡ plain_operator.ScalarDeletingDtor → ⊥) →
    (o ≡ plain_operator.VectorCtorIterator → ⊥) →
    (o ≡ plain_operator.VectorDtorIterator → ⊥) →
    (o ≡ plain_operator.VectorVBaseCtorIterator → ⊥) →
    (o ≡ plain_operator.EHVectorCtorIterator → ⊥) →
    (o ≡ plain_operator.EHVectorDtorIterator → ⊥) →
    (o ≡ plain_operator.EHVectorVBaseCtorIterator → ⊥) →
    (o ≡ plain_operator.CopyCtorClosure → ⊥) →
    (o ≡ plain_operator.LocalVFTableCtorClosure → ⊥) →
    (o ≡ plain_operator.CoroutineAwait → ⊥) →
    full_operator_word o ≡ operator_word o
unfolding full_operator_word
full_operator_word-other plain_operator.VBaseDtor a b c d e f g h i j k l m = absurd (a refl)
full_operator_word-other plain_operator.VectorDeletingDtor a b c d e f g h i j k l m = absurd (b refl)
full_operator_word-other plain_operator.DefaultCtorClosure a b c d e f g h i j k l m = absurd (c refl)
full_operator_word-other plain_operator.ScalarDeletingDtor a b c d e f g h i j k l m = absurd (d refl)
full_operator_word-other plain_operator.VectorCtorIterator a b c d e f g h i j k l m = absurd (e refl)
full_operator_word-other plain_operator.VectorDtorIterator a b c d e f g h i j k l m = absurd (f refl)
full_operator_word-other plain_operator.VectorVBaseCtorIterator a b c d e f g h i j k l m = absurd (g refl)
full_operator_word-other plain_operator.EHVectorCtorIterator a b c d e f g h i j k l m = absurd (h refl)
full_operator_word-other plain_operator.EHVectorDtorIterator a b c d e f g h i j k l m = absurd (i refl)
full_operator_word-other plain_operator.EHVectorVBaseCtorIterator a b c d e f g h i j k l m = absurd (j refl)
full_operator_word-other plain_operator.CopyCtorClosure a b c d e f g h i j k l m = absurd (k refl)
full_operator_word-other plain_operator.LocalVFTableCtorClosure a b c d e f g h i j k l m = absurd (l refl)
full_operator_word-other plain_operator.CoroutineAwait a b c d e f g h i j k l m = absurd (m refl)
full_operator_word-other _ a b c d e f g h i j k l m = refl

-- the pieces of a conversion operator, by the type that its function returns, or `name` if it is no member function
unfoldable pub conversion_to : Option TypeTree → List Piece → ℕ → List Piece
conversion_to None name flags = name
conversion_to (Some t) name flags = text (codes "operator ") ∷ (before t No flags ++ after t No flags)

-- the weight of the type that a function returns
unfoldable pub return_weight : Option TypeTree → ℕ
return_weight None = 0
return_weight (Some t) = type_weight t

pub conversion-return : (t : TypeTree) (list name : List Piece) (flags : ℕ) → has flags full_style ≡ false →
    conversion t list name flags ≡ conversion_to (member_return t) name flags
unfolding conversion conversion_to member_return
conversion-return (function c ts q t) list name flags e =
    ap (λ b. cond b (full_conversion (is_none t) list (around (grown t No alone flags) []) name) name) e
conversion-return (member_function f c ts q t) list name flags e =
    ap (λ b. cond b (full_conversion (is_none t) list (around (grown t No alone flags) []) name)
    (text (codes "operator ") ∷ around (grown t No alone flags) [])) e
    ∙ ap (λ x. text (codes "operator ") ∷ x) (around-halves t [] flags)
conversion-return (shape row p zs bytes ns (types (member_function f c ts q t) us)) list name flags e =
    ap (λ b. cond b (full_conversion (is_none t) list (around (grown t No alone flags) []) name) name) e
conversion-return _ list name flags e = refl

-- a conversion to a type, or the name if there is none
full_conversion-choice : (none : Bool) (t : TypeTree) (list name : List Piece) (flags : ℕ) →
    full_conversion none list (before t No flags ++ after t No flags) name
    ≡ full_conversion_to (cond none None (Some t)) list name flags
unfolding full_conversion full_conversion_to
full_conversion-choice true t list name flags = refl
full_conversion-choice false t list name flags = refl

pub full_conversion-return : (t : TypeTree) (list name : List Piece) (flags : ℕ) → has flags full_style ≡ true →
    conversion t list name flags ≡ full_conversion_to (full_return t) list name flags
unfolding conversion full_conversion_to full_return moved_return some_return
full_conversion-return (function c ts q t) list name flags e =
    ap (λ b. cond b (full_conversion (is_none t) list (around (grown t No alone flags) []) name) name) e
    ∙ ap (λ x. full_conversion (is_none t) list x name) (around-halves t [] flags)
    ∙ full_conversion-choice (is_none t) t list name flags
full_conversion-return (member_function f c ts q t) list name flags e =
    ap (λ b. cond b (full_conversion (is_none t) list (around (grown t No alone flags) []) name)
    (text (codes "operator ") ∷ around (grown t No alone flags) [])) e
    ∙ ap (λ x. full_conversion (is_none t) list x name) (around-halves t [] flags)
    ∙ full_conversion-choice (is_none t) t list name flags
full_conversion-return (shape row p zs bytes ns (types (member_function f c ts q t) us)) list name flags e =
    ap (λ b. cond b (full_conversion (is_none t) list (around (grown t No alone flags) []) name) name) e
    ∙ ap (λ x. full_conversion (is_none t) list x name) (around-halves t [] flags)
    ∙ full_conversion-choice (is_none t) t list name flags
full_conversion-return _ list name flags e = refl

pub return_weight-bound : (t : TypeTree) → return_weight (member_return t) ≤ type_weight t
unfolding return_weight member_return type_weight
return_weight-bound (member_function f c ts q t) = omega arith
return_weight-bound _ = omega arith

return_weight-choice : (none : Bool) (t : TypeTree) → return_weight (cond none None (Some t)) ≤ type_weight t
unfolding return_weight
return_weight-choice true t = omega arith
return_weight-choice false t = omega arith

pub full_return_weight-bound : (t : TypeTree) → return_weight (full_return t) ≤ type_weight t
unfolding return_weight full_return moved_return some_return type_weight
full_return_weight-bound (function c ts q t) = omega (arith, return_weight-choice (is_none t) t)
full_return_weight-bound (member_function f c ts q t) = omega (arith, return_weight-choice (is_none t) t)
full_return_weight-bound (shape row p zs bytes ns (types (member_function f c ts q t) us)) =
    omega (arith, return_weight-choice (is_none t) t)
full_return_weight-bound _ = omega arith

-- the place of a base class, from its parts
pub settled-base_class : (out out1 out2 out3 out4 out5 out6 : LimitedText) (a b c d a' b' c' d' : ℤ) (flags : ℕ) →
    out1 ≡ add_all out (spaced (codes "`RTTI Base Class Descriptor at (")) →
    out2 ≡ add_all out1 (text (signed_decimal a') ∷ []) →
    out3 ≡ add_all out2 (listed b' flags) → out4 ≡ add_all out3 (listed c' flags) →
    out5 ≡ add_all out4 (listed d' flags) → out6 ≡ add_all out5 (text (codes ")'") ∷ []) →
    a' ≡ a → b' ≡ b → c' ≡ c → d' ≡ d → out6 ≡ add_all out (base_class_pieces a b c d flags)
unfolding base_class_pieces
settled-base_class out out1 out2 out3 out4 out5 out6 a b c d a' b' c' d' flags e1 e2 e3 e4 e5 e6 ea eb ec ed =
    settled_two _ _ _ _ _ e1
    (settled_two _ _ _ _ _ (e2 ∙ ap (λ z. add_all out1 (text (signed_decimal z) ∷ [])) ea)
    (settled_two _ _ _ _ _ (e3 ∙ ap (λ z. add_all out2 (listed z flags)) eb)
    (settled_two _ _ _ _ _ (e4 ∙ ap (λ z. add_all out3 (listed z flags)) ec)
    (settled_two _ _ _ _ _ (e5 ∙ ap (λ z. add_all out4 (listed z flags)) ed) e6))))
