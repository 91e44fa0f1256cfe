-- What lists of parameters print, by their parts.
use Rattle.std.proofs.Common.{◌≡◌, ℕ, ℤ, zero, suc, ◌+◌, ◌-◌, ◌<◌, ◌≤◌, List, [], ◌∷◌, ◌++◌, true, length}
use Rattle.std.proofs.Common.{get_or, drop, take, ap, sym, ◌∙◌, arith, codes}
use Rattle.std.proofs.lemmas.List.{append_assoc, take_all}
use Rattle.msvc_nodes.specs.Trees.{TypeTree, array, types}
use Rattle.std.specs.Borrow.{Bor}
use Rattle.msvc_nodes.specs.NodeView.{type_of, types_in}
use Rattle.msvc_nodes.specs.declared.flags.StorageClass.{StorageClass}
use Rattle.msvc_nodes.specs.declared.nodes.Type.{«Type»}
use Rattle.msvc_print.proofs.Settling.{add_all-append, add_all-first, settled_three}
use Rattle.msvc_print.specs.Declaration.{length_pieces, parameters}
use Rattle.msvc_print.specs.Functions.{function_qualifier, function_qualifiers}
use Rattle.msvc_print.specs.Halves.{after, function_end, member_pointer_end}
use Rattle.msvc_print.specs.Limited.{LimitedText, add_all}
use Rattle.msvc_print.specs.Pieces.{Piece, text}
use Rattle.msvc_print.specs.Weights.{type_weight, types_weight}
use Rattle.msvc_print.specs.Words.{closing}
use Rattle.msvc_print.specs.Work.{AddsLess, rest_of_parameters, work}
use Rattle.msvc_print.specs.declared.item.Item.{Item}
use Rattle.msvc_print.specs.declared.item.ListEnd.TheVariants.{Round, Bare}
use Rattle.msvc_print.specs.declared.pointed.Pointed.{Pointed}
use Rattle.msvc_print.specs.declared.pointed.Pointed.TheVariants.{No}

-- a list is its first type and the rest
types_in-first : (ts : List (Bor «Type»)) (d : Bor «Type») → 1 ≤ length ts →
    types_in ts ≡ types (type_of (get_or ts 0 d).now) (types_in (take (length ts - 1) (drop 1 ts)))
types_in-first [] d some = absurd (omega arith)
types_in-first (x ∷ xs) d some =
    let one : suc (length xs) - 1 ≡ length xs = omega arith in
    ap (λ ys. types (type_of x.now) (types_in ys))
    (sym (ap (λ k. take k xs) one ∙ take_all (length xs) xs (omega arith)))

types_weight-first : (ts : List (Bor «Type»)) (d : Bor «Type») → 1 ≤ length ts →
    types_weight (types_in ts) ≡ 3 + type_weight (type_of (get_or ts 0 d).now)
    + type_weight (type_of (get_or ts 0 d).now) + types_weight (types_in (take (length ts - 1) (drop 1 ts)))
unfolding types_weight
types_weight-first ts d some = ap types_weight (types_in-first ts d some)

-- the first type is printed on both sides of nothing
pub lightened-first : (ts : List (Bor «Type»)) (d : Bor «Type») (s s' : List Item) → 1 ≤ length ts →
    AddsLess (type_weight (type_of (get_or ts 0 d).now) + type_weight (type_of (get_or ts 0 d).now)) s s' →
    work s' + types_weight (types_in (take (length ts - 1) (drop 1 ts))) < types_weight (types_in ts) + work s
lightened-first ts d s s' some h = omega (arith, types_weight-first ts d some)

-- fewer types weigh no more
pub types_weight-fewer : (ts : List (Bor «Type»)) (k : ℕ) →
    types_weight (types_in (drop k ts)) ≤ types_weight (types_in ts)
unfolding types_weight
types_weight-fewer [] zero = omega arith
types_weight-fewer [] (suc k) = omega arith
types_weight-fewer (x ∷ xs) zero = omega arith
types_weight-fewer (x ∷ xs) (suc k) = omega (arith, types_weight-fewer xs k)

pub types_weight-positive : (ts : List (Bor «Type»)) → 0 < types_weight (types_in ts)
unfolding types_weight
types_weight-positive [] = omega arith
types_weight-positive (x ∷ xs) = omega arith

-- after the length of a level of an array stands what is after its elements
pub settled-array : (out out1 : LimitedText) (pointed : Pointed) (m n : ℤ) (t : TypeTree) (q flags : ℕ) →
    out1 ≡ add_all out (closing pointed ++ length_pieces m) →
    m ≡ n → add_all out1 (after t No flags) ≡ add_all out (after (array n t q) pointed flags)
unfolding after
settled-array out out1 pointed m n t q flags e same =
    ap (λ x. add_all x (after t No flags)) e
    ∙ sym (add_all-append out (closing pointed ++ length_pieces m) (after t No flags))
    ∙ ap (add_all out) (append_assoc (closing pointed) (length_pieces m) (after t No flags))
    ∙ ap (λ k. add_all out (closing pointed ++ (length_pieces k ++ after t No flags))) same

-- what a function has after its name, from its parts
pub settled-function_end : (out out1 out2 : LimitedText) (ts : List (Bor «Type»)) (pointed : Pointed)
    (set : StorageClass) (flags : ℕ) (returned : List Piece) →
    out1 ≡ add_all out (closing pointed) → out2 ≡ add_all out1 (text (codes "(") ∷ []) →
    add_all (add_all out2 (rest_of_parameters ts true (Round set) flags)) returned
    ≡ add_all out (function_end pointed (parameters (types_in ts) true flags) set.0 flags returned)
settled-function_end out out1 out2 ts pointed set flags returned e e' =
    let ps : List Piece = parameters (types_in ts) true flags in
    let end : List Piece = text (codes ")") ∷ function_qualifiers set.0 flags in
    let later : List Piece = ps ++ (text (codes ")") ∷ (function_qualifiers set.0 flags ++ returned)) in
    sym (add_all-append out2 (ps ++ end) returned)
    ∙ ap (λ x. add_all out2 x) (append_assoc ps end returned)
    ∙ ap (λ x. add_all x later) (e' ∙ ap (λ x. add_all x (text (codes "(") ∷ [])) e)
    ∙ sym (add_all-first (add_all out (closing pointed)) (text (codes "(")) later)
    ∙ sym (add_all-append out (closing pointed) (text (codes "(") ∷ later))

-- what a pointer to a member function has after its name, from its parts
pub settled-member_pointer_end : (out out1 : LimitedText) (ts : List (Bor «Type»)) (set flags : ℕ)
    (returned : List Piece) →
    out1 ≡ add_all out (text (codes ")(") ∷ []) →
    add_all (add_all (add_all out1 (rest_of_parameters ts true Bare flags)) returned)
    (function_qualifier 1 (codes "const") set)
    ≡ add_all out (member_pointer_end (parameters (types_in ts) true flags) set returned)
unfolding member_pointer_end
settled-member_pointer_end out out1 ts set flags returned e =
    let ps : List Piece = parameters (types_in ts) true flags in
    let const : List Piece = function_qualifier 1 (codes "const") set in
    let end : List Piece = text (codes ")") ∷ [] in
    let later : List Piece = ps ++ (end ++ (returned ++ const)) in
    settled_three out1 (ps ++ end) returned const
    ∙ ap (add_all out1) (append_assoc (ps ++ end) returned const ∙ append_assoc ps end (returned ++ const))
    ∙ ap (λ x. add_all x later) e ∙ sym (add_all-first out (text (codes ")(")) later)
