-- Flat types are written at once, as the items of the stack would print them.
use Rattle.std.proofs.Common.{◌≡◌, ℕ, suc, ◌+◌, ◌-◌, ◌<◌, ◌≤◌, List, [], ◌∷◌, ◌++◌, Bool, true, false, cond}
use Rattle.std.proofs.Common.{length, get_or, drop, take, refl, ap, sym, ◌∙◌, is_some, None, arith}
use Rattle.std.proofs.lemmas.List.{append_assoc, at_drop_more, drop_all, length-drop, take_all}
use Rattle.std.specs.Borrow.{Bor}
use Rattle.msvc_nodes.specs.NodeView.{type_of, types_in}
use Rattle.msvc_nodes.specs.Trees.{TypeTree, types}
use Rattle.msvc_nodes.specs.declared.nodes.Type.{«Type»}
use Rattle.msvc_print.proofs.Halves.{around-halves}
use Rattle.msvc_print.proofs.Longer.{add_all-left_out, none_left}
use Rattle.msvc_print.proofs.Settling.{add_all-append}
use Rattle.msvc_print.specs.Declaration.{grown, is_empty_pack, parameters}
use Rattle.msvc_print.specs.SimpleTypes.{begun}
use Rattle.msvc_print.specs.Functions.{separator}
use Rattle.msvc_print.specs.Halves.{after, before}
use Rattle.msvc_print.specs.Limited.{LimitedText, add_all}
use Rattle.msvc_print.specs.Pieces.{Piece}
use Rattle.msvc_print.specs.Sides.{alone, around}
use Rattle.msvc_print.specs.Work.{end_pieces, rest_of_parameters}
use Rattle.msvc_print.specs.declared.item.ListEnd.{ListEnd}
use Rattle.msvc_print.specs.declared.pointed.Pointed.TheVariants.{No}

-- a text that is not whole gets no more pieces
pub add_all-not_whole : (out : LimitedText) (pieces : List Piece) → is_some out.text ≡ false →
    out ≡ add_all out pieces
add_all-not_whole out pieces e =
    let none : out ≡ record { max = out.max; text = None }
    = ap (λ t. record { max = out.max; text = t }) (none_left out.text e) in
    none ∙ sym (add_all-left_out out.max pieces) ∙ ap (λ t. add_all t pieces) (sym none)

-- an empty pack is passed over
parameters-pack : (t : TypeTree) (ts : List (Bor «Type»)) (first : Bool) (flags : ℕ) → is_empty_pack t ≡ true →
    parameters (types t (types_in ts)) first flags ≡ parameters (types_in ts) first flags
unfolding parameters
parameters-pack t ts first flags pack =
    ap (λ b. cond b (parameters (types_in ts) first flags) (separator first flags
    ++ (around (grown t No alone flags) [] ++ parameters (types_in ts) false flags))) pack

-- any other type is printed on both sides of nothing, and then the rest
parameters-kept : (t : TypeTree) (ts : List (Bor «Type»)) (first : Bool) (flags : ℕ) → is_empty_pack t ≡ false →
    parameters (types t (types_in ts)) first flags ≡ separator first flags
    ++ (before t No flags ++ (after t No flags ++ parameters (types_in ts) false flags))
unfolding parameters
parameters-kept t ts first flags kept =
    let later : List Piece = parameters (types_in ts) false flags in
    ap (λ b. cond b (parameters (types_in ts) first flags) (separator first flags
    ++ (around (grown t No alone flags) [] ++ later))) kept
    ∙ ap (λ x. separator first flags ++ x) (ap (λ x. x ++ later) (around-halves t [] flags)
    ∙ append_assoc (before t No flags) (after t No flags) later)

pub passed-pack : (ts : List (Bor «Type»)) (at : ℕ) (d : Bor «Type») (first : Bool) (flags : ℕ) → at < length ts →
    is_empty_pack (type_of (get_or ts at d).now) ≡ true →
    parameters (types_in (drop at ts)) first flags ≡ parameters (types_in (drop (at + 1) ts)) first flags
passed-pack ts at d first flags within pack =
    at_drop_more (λ ys. parameters (types_in ys) first flags) ts at d within
    ∙ parameters-pack (type_of (get_or ts at d).now) (drop (at + 1) ts) first flags pack

pub passed-kept : (ts : List (Bor «Type»)) (at : ℕ) (d : Bor «Type») (first : Bool) (flags : ℕ) → at < length ts →
    is_empty_pack (type_of (get_or ts at d).now) ≡ false →
    parameters (types_in (drop at ts)) first flags ≡ separator first flags ++ begun (drop at ts) flags
passed-kept ts at d first flags within kept =
    at_drop_more (λ ys. parameters (types_in ys) first flags) ts at d within
    ∙ parameters-kept (type_of (get_or ts at d).now) (drop (at + 1) ts) first flags kept
    ∙ ap (λ x. separator first flags ++ x) (sym (at_drop_more (λ ys. begun ys flags) ts at d within))

begun-simple : (ts : List (Bor «Type»)) (at : ℕ) (d : Bor «Type») (flags : ℕ) → at < length ts →
    after (type_of (get_or ts at d).now) No flags ≡ [] →
    begun (drop at ts) flags
    ≡ before (type_of (get_or ts at d).now) No flags ++ parameters (types_in (drop (at + 1) ts)) false flags
begun-simple ts at d flags within none =
    at_drop_more (λ ys. begun ys flags) ts at d within
    ∙ ap (λ x. before (type_of (get_or ts at d).now) No flags ++ (x ++ parameters (types_in (drop (at + 1) ts)) false
    flags)) none

-- the comma before a type is written
pub written-separator : (ts : List (Bor «Type»)) (at : ℕ) (d : Bor «Type») (first : Bool) (flags : ℕ)
    (out out1 : LimitedText) → at < length ts → is_empty_pack (type_of (get_or ts at d).now) ≡ false →
    out1 ≡ add_all out (separator first flags) →
    add_all out1 (begun (drop at ts) flags) ≡ add_all out (parameters (types_in (drop at ts)) first flags)
written-separator ts at d first flags out out1 within kept e =
    ap (λ x. add_all x (begun (drop at ts) flags)) e ∙ sym (add_all-append out _ _)
    ∙ ap (add_all out) (sym (passed-kept ts at d first flags within kept))

-- and so is the type
pub written-simple : (ts : List (Bor «Type»)) (at : ℕ) (d : Bor «Type») (flags : ℕ) (out out1 : LimitedText) →
    at < length ts → after (type_of (get_or ts at d).now) No flags ≡ [] →
    out1 ≡ add_all out (before (type_of (get_or ts at d).now) No flags) →
    add_all out1 (parameters (types_in (drop (at + 1) ts)) false flags) ≡ add_all out (begun (drop at ts) flags)
written-simple ts at d flags out out1 within none e =
    ap (λ x. add_all x (parameters (types_in (drop (at + 1) ts)) false flags)) e ∙ sym (add_all-append out _ _)
    ∙ ap (add_all out) (sym (begun-simple ts at d flags within none))

-- nothing is left of the list, or the text gets no more pieces
pub written-end : (ts : List (Bor «Type»)) (at : ℕ) (first : Bool) (flags : ℕ) (out : LimitedText) → length ts ≤ at →
    add_all out (begun (drop at ts) flags) ≡ add_all out (parameters (types_in (drop at ts)) first flags)
unfolding parameters
written-end ts at first flags out end =
    ap (λ ys. add_all out (begun ys flags)) (drop_all at ts end)
    ∙ sym (ap (λ ys. add_all out (parameters (types_in ys) first flags)) (drop_all at ts end))

pub left_out-end : (ts : List (Bor «Type»)) (at : ℕ) (first : Bool) (flags : ℕ) (out : LimitedText) →
    is_some out.text ≡ false →
    add_all out (begun (drop at ts) flags) ≡ add_all out (parameters (types_in (drop at ts)) first flags)
left_out-end ts at first flags out e =
    sym (add_all-not_whole out _ e) ∙ add_all-not_whole out _ e

-- the types that are left of a list
pub types-left : (ts : List (Bor «Type»)) (at : ℕ) → take (length ts - at) (drop at ts) ≡ drop at ts
types-left ts at = take_all (length ts - at) (drop at ts) (omega (arith, length-drop at ts))

-- what stands after the last type of a list, once its first types are written
pub written-rest : (ts : List (Bor «Type»)) (at : ℕ) (first : Bool) (end : ListEnd) (flags : ℕ)
    (out out1 : LimitedText) →
    add_all out1 (begun (drop at ts) flags) ≡ add_all out (parameters (types_in ts) first flags) →
    add_all out1 (begun (take (length ts - at) (drop at ts)) flags ++ end_pieces end flags)
    ≡ add_all out (rest_of_parameters ts first end flags)
written-rest ts at first end flags out out1 e =
    ap (λ ys. add_all out1 (begun ys flags ++ end_pieces end flags)) (types-left ts at)
    ∙ add_all-append out1 (begun (drop at ts) flags) (end_pieces end flags)
    ∙ ap (λ x. add_all x (end_pieces end flags)) e
    ∙ sym (add_all-append out (parameters (types_in ts) first flags) (end_pieces end flags))

begun-none : (ts : List (Bor «Type»)) (flags : ℕ) → length ts < 1 → begun ts flags ≡ []
begun-none [] flags none = refl
begun-none (x ∷ xs) flags none = absurd (omega arith)

begun-first : (ts : List (Bor «Type»)) (d : Bor «Type») (flags : ℕ) → 1 ≤ length ts →
    begun ts flags ≡ before (type_of (get_or ts 0 d).now) No flags
    ++ (after (type_of (get_or ts 0 d).now) No flags
    ++ parameters (types_in (take (length ts - 1) (drop 1 ts))) false flags)
begun-first [] d flags some = absurd (omega arith)
begun-first (x ∷ xs) d flags some =
    let one : suc (length xs) - 1 ≡ length xs = omega arith in
    ap (λ ys. before (type_of x.now) No flags ++ (after (type_of x.now) No flags
    ++ parameters (types_in ys) false flags)) (sym (ap (λ k. take k xs) one ∙ take_all (length xs) xs (omega arith)))

pub rest-written : (ts : List (Bor «Type»)) (end : ListEnd) (flags : ℕ) (out : LimitedText) → length ts < 1 →
    add_all out (end_pieces end flags) ≡ add_all out (begun ts flags ++ end_pieces end flags)
rest-written ts end flags out none =
    ap (λ ps. add_all out (ps ++ end_pieces end flags)) (sym (begun-none ts flags none))

-- the first type that is left, and then the rest
pub rest-begun : (ts : List (Bor «Type»)) (d : Bor «Type») (end : ListEnd) (flags : ℕ) (out : LimitedText) →
    1 ≤ length ts →
    add_all (add_all out (before (type_of (get_or ts 0 d).now) No flags
    ++ after (type_of (get_or ts 0 d).now) No flags))
    (rest_of_parameters (take (length ts - 1) (drop 1 ts)) false end flags)
    ≡ add_all out (begun ts flags ++ end_pieces end flags)
rest-begun ts d end flags out some =
    let b : List Piece = before (type_of (get_or ts 0 d).now) No flags in
    let a : List Piece = after (type_of (get_or ts 0 d).now) No flags in
    let later : List Piece = parameters (types_in (take (length ts - 1) (drop 1 ts))) false flags in
    let last : List Piece = end_pieces end flags in
    sym (add_all-append out (b ++ a) (later ++ last))
    ∙ ap (add_all out) (sym (append_assoc (b ++ a) later last)
    ∙ ap (λ x. x ++ last) (append_assoc b a later ∙ sym (begun-first ts d flags some)))
