-- A type puts on the left and on the right of a name what the printer prints before and after it.
use Rattle.std.proofs.Common.{◌≡◌, ℕ, List, [], ◌∷◌, ◌++◌, Bool, true, false, cond, refl, ap, sym, ◌∙◌, codes}
use Rattle.std.proofs.Common.{Option, Some, None}
use Rattle.std.proofs.lemmas.List.{append-nil, append_assoc}
use Rattle.msvc_nodes.specs.Trees.{NameTree, NameTrees, TypeTree, plain, base, tagged, numbered, pointing, array}
use Rattle.msvc_nodes.specs.Trees.{function, member_function, member_pointer, variable, table, vcall_thunk}
use Rattle.msvc_nodes.specs.Trees.{TypeTrees, no_types, shape, types}
use Rattle.msvc_nodes.specs.declared.kinds.Convention.{Convention}
use Rattle.msvc_nodes.specs.declared.kinds.NumberedType.TheVariants as number_kind
use Rattle.msvc_nodes.specs.declared.kinds.PlainType.TheVariants as plain_kind
use Rattle.msvc_print.specs.Declaration.{conversion, grown, length_pieces, parameters, symbol_name, symbol_pieces}
use Rattle.msvc_print.specs.Declaration.{called, grown_around, returned_end}
use Rattle.msvc_print.specs.Functions.{calling, member_start, function_qualifier, function_qualifiers, parameter_list}
use Rattle.msvc_print.specs.Halves.{after, before, function_end, member_pointer_end, pieces_around, pointed_name}
use Rattle.msvc_print.specs.Halves.{after_called, before_called, shape_parts}
use Rattle.msvc_print.specs.Pieces.{Piece, text}
use Rattle.msvc_print.specs.Shapes.{laid}
use Rattle.msvc_print.specs.Sides.{Sides, alone, around, between, kept_left, kept_right}
use Rattle.msvc_print.specs.Words.{closing, mark_word, marked, opening, qualifiers, shown_variable_word}
use Rattle.msvc_print.specs.Flags.{llvm_no_return, llvm_no_variable}
use Rattle.msvc_print.proofs.Stack.{pushes}
use Rattle.msvc_shapes.specs.Layouts.{layout_of, slots}
use Rattle.msvc_shapes.specs.declared.layouts.Side.TheVariants as side
use Rattle.msvc_print.specs.Pointed.{leaves_out, pointed_by, unaligned_mark, under}
use Rattle.msvc_print.specs.declared.pointed.Pointed.{Pointed}
use Rattle.msvc_print.specs.declared.pointed.Pointed.TheVariants.{No, Yes}

-- pieces around pieces
between-twice : (a b c d : List Piece) (s : Sides) → between a (between b s c) d ≡ between (a ++ b) s (c ++ d)
between-twice a b c d s =
    ap (λ x. record { left = x; right = (s.right ++ c) ++ d }) (sym (append_assoc a b s.left))
    ∙ ap (λ x. record { left = (a ++ b) ++ s.left; right = x }) (append_assoc s.right c d)

between-nothing : (s : Sides) → s ≡ between [] s []
between-nothing s = ap (λ x. record { left = s.left; right = x }) (sym (append-nil s.right))

function_end-parts : (pointed : Pointed) (ps : List Piece) (set flags : ℕ) (returned : List Piece) →
    parameter_list pointed ps set flags ++ returned ≡ function_end pointed ps set flags returned
function_end-parts pointed ps set flags returned =
    let end : List Piece = text (codes ")") ∷ function_qualifiers set flags in
    append_assoc (closing pointed) (text (codes "(") ∷ (ps ++ end)) returned
    ∙ ap (λ x. closing pointed ++ (text (codes "(") ∷ x)) (append_assoc ps end returned)

member_pointer_end-parts : (ps : List Piece) (set : ℕ) (returned : List Piece) →
    ((text (codes ")(") ∷ (ps ++ text (codes ")") ∷ [])) ++ returned) ++ function_qualifier 1 (codes "const") set
    ≡ member_pointer_end ps set returned
unfolding member_pointer_end
member_pointer_end-parts ps set returned =
    let const : List Piece = function_qualifier 1 (codes "const") set in
    ap (λ x. text (codes ")(") ∷ x) (ap (λ x. x ++ const) (append_assoc ps (text (codes ")") ∷ []) returned)
    ∙ append_assoc ps (text (codes ")") ∷ returned) const)

-- the first type around a shape, by the two sides of that type
around_shape-halves : (w : Option Bool) (set : ℕ) (t : TypeTree) (ts : TypeTrees) (more end : List Piece)
    (pointed : Pointed) (inside : Sides) (flags : ℕ) →
    ((p : Pointed) (s : Sides) → grown t p s flags ≡ between (before t p flags) s (after t p flags)) →
    grown_around (types t ts) w set pointed (between more inside end) flags
    ≡ between (pieces_around w pointed set flags (λ p. before t p flags) ++ more) inside
    (end ++ pieces_around w pointed set flags (λ p. after t p flags))
unfolding grown_around
around_shape-halves None set t ts more end pointed inside flags h =
    ap (λ x. between more inside x) (sym (append-nil end))
around_shape-halves (Some is_mark) set t ts more end pointed inside flags h =
    let p : Pointed = under pointed is_mark set flags in
    h p (between more inside end) ∙ between-twice (before t p flags) more end (after t p flags) inside

-- the sides of the name of a function, whose returned type a flag may drop
called-halves : (dropped : Bool) (pointed : Pointed) (convention : Convention) (t : TypeTree) (ps : List Piece)
    (set : ℕ) (inside : Sides) (flags : ℕ) →
    ((s : Sides) → grown t No s flags ≡ between (before t No flags) s (after t No flags)) →
    cond dropped (called [] pointed convention ps set inside flags)
    (grown t No (called (returned_end t flags) pointed convention ps set inside flags) flags)
    ≡ between (cond dropped (calling pointed convention flags)
    (before t No flags ++ (returned_end t flags ++ calling pointed convention flags))) inside
    (function_end pointed ps set flags (cond dropped [] (after t No flags)))
called-halves true pointed convention t ps set inside flags h =
    ap (λ x. between (calling pointed convention flags) inside x)
    (sym (append-nil (parameter_list pointed ps set flags)) ∙ function_end-parts pointed ps set flags [])
called-halves false pointed convention t ps set inside flags h =
    let more = returned_end t flags ++ calling pointed convention flags in
    h (called (returned_end t flags) pointed convention ps set inside flags)
    ∙ between-twice (before t No flags) more (parameter_list pointed ps set flags) (after t No flags) inside
    ∙ ap (λ x. between (before t No flags ++ more) inside x)
    (function_end-parts pointed ps set flags (after t No flags))

-- the sides of the name of a variable, whose type a flag may drop
typed-halves : (dropped : Bool) (t : TypeTree) (set : ℕ) (inside : Sides) (flags : ℕ) →
    ((s : Sides) → grown t No s flags ≡ between (before t No flags) s (after t No flags)) →
    cond dropped inside (grown t No (between (qualifiers set flags) inside []) flags)
    ≡ between (cond dropped [] (before t No flags ++ qualifiers set flags)) inside
    (cond dropped [] (after t No flags))
typed-halves true t set inside flags h = between-nothing inside
typed-halves false t set inside flags h = h (between (qualifiers set flags) inside [])
    ∙ between-twice (before t No flags) (qualifiers set flags) [] (after t No flags) inside

pub grown-halves : (t : TypeTree) (pointed : Pointed) (inside : Sides) (flags : ℕ) →
    grown t pointed inside flags ≡ between (before t pointed flags) inside (after t pointed flags)
unfolding grown grown_around conversion before after
grown-halves (base b set) pointed inside flags = refl
grown-halves (tagged tag n scope set) pointed inside flags = refl
grown-halves (pointing m t set) pointed inside flags =
    let more = marked (unaligned_mark set t flags) (mark_word m) set flags in
    let p : Pointed = pointed_by set flags in
    grown-halves t p (between more inside []) flags
    ∙ between-twice (before t p flags) more [] (after t p flags) inside
grown-halves (array n t set) pointed inside flags =
    let more = qualifiers set flags ++ opening pointed flags in
    let end = closing pointed ++ length_pieces n in
    grown-halves t No (between more inside end) flags
    ∙ between-twice (before t No flags) more end (after t No flags) inside
    ∙ ap (λ x. between (before t No flags ++ more) inside x)
    (append_assoc (closing pointed) (length_pieces n) (after t No flags))
grown-halves (function convention ts set t) pointed inside flags =
    called-halves (leaves_out pointed llvm_no_return flags) pointed convention t (parameters ts true flags) set inside
    flags (λ s. grown-halves t No s flags)
grown-halves (member_function class convention ts set t) pointed inside flags =
    let words = member_start pointed class flags in
    let ps = parameters ts true flags in
    let start = before_called pointed convention (returned_end t flags) (before t No flags) flags in
    let both = function_end pointed ps set flags (after_called pointed (after t No flags) flags) in
    ap (λ s. between words s []) (called-halves (leaves_out pointed llvm_no_return flags) pointed convention t ps set
    inside flags (λ s. grown-halves t No s flags))
    ∙ between-twice words start both [] inside
    ∙ ap (λ x. between (words ++ start) inside x) (append-nil both)
grown-halves (member_pointer n scope class convention ts set t) pointed inside flags =
    let more = (returned_end t flags ++ calling Yes convention flags) ++ pointed_name n scope flags in
    let ps = parameters ts true flags in
    let end = text (codes ")(") ∷ (ps ++ text (codes ")") ∷ []) in
    let const = function_qualifier 1 (codes "const") set in
    ap (λ s. between [] s const) (grown-halves t No (between more inside end) flags
    ∙ between-twice (before t No flags) more end (after t No flags) inside)
    ∙ between-twice [] (before t No flags ++ more) (end ++ after t No flags) const inside
    ∙ ap (λ x. between (before t No flags ++ more) inside x)
    (member_pointer_end-parts ps set (after t No flags))
grown-halves (variable t kind set) pointed inside flags =
    let word = text (shown_variable_word pointed kind flags) ∷ [] in
    let dropped = leaves_out pointed llvm_no_variable flags in
    let start = cond dropped [] (before t No flags ++ qualifiers set flags) in
    let end = cond dropped [] (after t No flags) in
    ap (λ s. between word s []) (typed-halves dropped t set inside flags (λ s. grown-halves t No s flags))
    ∙ between-twice word start end [] inside
    ∙ ap (λ x. between (word ++ start) inside x) (append-nil end)
grown-halves (table k scope set) pointed inside flags = refl
grown-halves (vcall_thunk n convention) pointed inside flags = refl
grown-halves (numbered number_kind.Constant n) pointed inside flags = refl
grown-halves (numbered number_kind.TemplateParameter n) pointed inside flags = refl
grown-halves (numbered number_kind.ThreadSafeGuard n) pointed inside flags = refl
grown-halves (plain plain_kind.Variadic) pointed inside flags = refl
grown-halves (plain plain_kind.Nullptr) pointed inside flags = refl
grown-halves (shape row set zs bytes ns no_types) pointed inside flags = refl
grown-halves (shape row set zs bytes ns (types t ts)) pointed inside flags =
    around_shape-halves (layout_of row).around set t ts
    (laid (slots row side.Left) pointed (shape_parts set zs bytes ns (types t ts) flags)
    flags)
    (laid (slots row side.Right) pointed (shape_parts set zs bytes ns (types t ts) flags) flags) pointed inside flags
    (λ p s. grown-halves t p s flags)
grown-halves _ pointed inside flags = between-nothing inside

-- the two sides of a name
pub left-before : (t : TypeTree) (p : Pointed) (flags : ℕ) → (grown t p alone flags).left ≡ before t p flags
left-before t p flags = ap (λ s. s.left) (grown-halves t p alone flags) ∙ append-nil (before t p flags)

pub right-after : (t : TypeTree) (p : Pointed) (flags : ℕ) → (grown t p alone flags).right ≡ after t p flags
right-after t p flags = ap (λ s. s.right) (grown-halves t p alone flags)

pub around-halves : (t : TypeTree) (inside : List Piece) (flags : ℕ) →
    around (grown t No alone flags) inside ≡ before t No flags ++ (inside ++ after t No flags)
around-halves t inside flags =
    ap (λ x. x ++ (inside ++ (grown t No alone flags).right)) (left-before t No flags)
    ∙ ap (λ x. before t No flags ++ (inside ++ x)) (right-after t No flags)

pub symbol_pieces-halves : (n : NameTree) (scope : NameTrees) (t : TypeTree) (p : Pointed) (flags : ℕ) →
    symbol_pieces n scope t p flags ≡ kept_left (before t p flags) flags
    ++ (symbol_name n scope t flags ++ kept_right (after t p flags) flags)
symbol_pieces-halves n scope t p flags =
    ap (λ x. kept_left x flags ++ (symbol_name n scope t flags ++ kept_right (grown t p alone flags).right flags))
    (left-before t p flags)
    ∙ ap (λ x. kept_left (before t p flags) flags ++ (symbol_name n scope t flags ++ kept_right x flags))
    (right-after t p flags)

pub ruleset pushed_left = (pushes, left-before)
