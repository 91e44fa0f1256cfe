-- The pieces and weights of shapes, by places: of numbers, of names, of slots, and of the type around a shape.
use Rattle.std.proofs.Common.{◌≡◌, ℕ, zero, suc, ◌+◌, ◌<◌, ◌≤◌, List, [], ◌∷◌, ◌++◌, Bool, true, false, cond, length}
use Rattle.std.proofs.Common.{get_or, drop, take, refl, ap, sym, ◌∙◌, ◌-◌, ◌==◌, arith}
use Rattle.std.specs.Borrow.{Bor}
use Rattle.std.specs.Prelude.{Some, None}
use Rattle.std.proofs.lemmas.Bool.{ne_eqb}
use Rattle.std.proofs.lemmas.List.{append-nil, append_assoc, drop_all, length-drop, take_all}
use Rattle.msvc_nodes.specs.NodeView.{name_of, names_in, type_of, types_in}
use Rattle.msvc_nodes.specs.Trees.{NameTrees, TypeTree, TypeTrees, shape}
use Rattle.msvc_nodes.specs.declared.nodes.Name.{Name}
use Rattle.msvc_nodes.specs.declared.nodes.Number.{Number}
use Rattle.msvc_nodes.specs.declared.nodes.Type.{«Type»}
use Rattle.msvc_print.proofs.Halves.{around-halves}
use Rattle.msvc_print.proofs.Settling.{add_all-append, add_all-none, settling}
use Rattle.msvc_print.proofs.Stack.{work_one}
use Rattle.msvc_print.specs.Declaration.{each_name, each_type, name_pieces}
use Rattle.msvc_print.specs.Functions.{separator}
use Rattle.msvc_print.specs.Halves.{after, before, pieces_around, shape_parts}
use Rattle.msvc_print.specs.Limited.{LimitedText, add_all}
use Rattle.msvc_print.specs.Pieces.{Piece}
use Rattle.msvc_print.specs.Pointed.{is_opening, some_opening, under}
use Rattle.msvc_print.specs.declared.pointed.Pointed.{Pointed}
use Rattle.msvc_print.specs.ShapeNodes.{part_slot_pieces, slot_of}
use Rattle.msvc_print.specs.Shapes.{Parts, each_level, each_number, laid, level_pieces, names_word_pieces}
use Rattle.msvc_print.specs.Shapes.{number_pieces, of_number_at, parted, parting, pieces_at, slot_pieces, slots_weight}
use Rattle.msvc_print.specs.Weights.{name_weight, scope_weight, type_weight, types_weight}
use Rattle.msvc_print.specs.Work.{AddsAtMost, AddsLess, work}
use Rattle.msvc_print.specs.declared.item.Item.{Item}
use Rattle.msvc_print.specs.declared.item.Item.TheVariants as item
use Rattle.msvc_print.specs.declared.shapes.PartSlot.{PartSlot}
use Rattle.msvc_print.specs.declared.shapes.PartSlot.TheVariants as part_slot
use Rattle.msvc_shapes.specs.Layouts.{Slot, layout_of, slot_seen, slots, slots_seen}
use Rattle.msvc_shapes.specs.declared.layouts.Side.TheVariants as side
use Rattle.msvc_shapes.specs.declared.layouts.Slot.{Slot as SlotCode}
use Rattle.msvc_print.specs.declared.pointed.Pointed.TheVariants.{No}

-- a place behind the first
not-first : (i : ℕ) → 0 < i → (i == 0) ≡ false
not-first i h = ne_eqb i 0 (λ e. omega (arith, h, e))

-- numbers
pub of_number_at-some : (f : Number → List Piece) (ns : List Number) (d : Number) (i : ℕ) → i < length ns →
    of_number_at f ns i ≡ f (get_or ns i d)
of_number_at-some f [] d i h = absurd (omega arith)
of_number_at-some f (n ∷ ns) d zero h = refl
of_number_at-some f (n ∷ ns) d (suc i) h = of_number_at-some f ns d i (omega arith)

pub of_number_at-none : (f : Number → List Piece) (ns : List Number) (i : ℕ) → length ns ≤ i → of_number_at f ns i ≡ []
of_number_at-none f [] i h = refl
of_number_at-none f (n ∷ ns) zero h = absurd (omega arith)
of_number_at-none f (n ∷ ns) (suc i) h = of_number_at-none f ns i (omega arith)

each_number-some : (ns : List Number) (d : Number) (i : ℕ) (first : Bool) (flags : ℕ) → i < length ns →
    each_number (drop i ns) first flags
    ≡ separator first flags ++ (number_pieces (get_or ns i d) ++ each_number (drop (suc i) ns) false flags)
each_number-some [] d i first flags h = absurd (omega arith)
each_number-some (n ∷ ns) d zero first flags h = refl
each_number-some (n ∷ ns) d (suc i) first flags h = each_number-some ns d i first flags (omega arith)

pub each_number-none : (ns : List Number) (i : ℕ) (first : Bool) (flags : ℕ) → length ns ≤ i →
    each_number (drop i ns) first flags ≡ []
each_number-none [] zero first flags h = refl
each_number-none [] (suc i) first flags h = refl
each_number-none (n ∷ ns) zero first flags h = absurd (omega arith)
each_number-none (n ∷ ns) (suc i) first flags h = each_number-none ns i first flags (omega arith)

-- a number is written after its comma, and the others are left
pub written-number : (ns : List Number) (d : Number) (i : ℕ) (first : Bool) (flags : ℕ) (out out' out'' : LimitedText) →
    i < length ns → out' ≡ add_all out (separator first flags) →
    out'' ≡ add_all out' (number_pieces (get_or ns i d)) →
    add_all out'' (each_number (drop (i + 1) ns) (i + 1 == 0) flags)
    ≡ add_all out (each_number (drop i ns) first flags)
written-number ns d i first flags out out' out'' h e e' =
    let next : i + 1 ≡ suc i = omega arith in
    let later : List Piece = each_number (drop (suc i) ns) false flags in
    let number : List Piece = number_pieces (get_or ns i d) in
    ap (λ k. add_all out'' (each_number (drop k ns) (k == 0) flags)) next
    ∙ ap (λ b. add_all out'' (each_number (drop (suc i) ns) b flags)) (not-first (suc i) (omega arith))
    ∙ ap (λ o. add_all o later) e'
    ∙ sym (add_all-append out' number later)
    ∙ ap (λ o. add_all o (number ++ later)) e
    ∙ sym (add_all-append out (separator first flags) (number ++ later))
    ∙ ap (add_all out) (sym (each_number-some ns d i first flags h))

each_level-some : (ns : List Number) (d : Number) (i : ℕ) → i < length ns →
    each_level (drop i ns) ≡ level_pieces (get_or ns i d) ++ each_level (drop (suc i) ns)
each_level-some [] d i h = absurd (omega arith)
each_level-some (n ∷ ns) d zero h = refl
each_level-some (n ∷ ns) d (suc i) h = each_level-some ns d i (omega arith)

pub each_level-none : (ns : List Number) (i : ℕ) → length ns ≤ i → each_level (drop i ns) ≡ []
each_level-none [] zero h = refl
each_level-none [] (suc i) h = refl
each_level-none (n ∷ ns) zero h = absurd (omega arith)
each_level-none (n ∷ ns) (suc i) h = each_level-none ns i (omega arith)

-- a level is written, and the others are left
pub written-level : (ns : List Number) (d : Number) (i : ℕ) (out out' : LimitedText) → i < length ns →
    out' ≡ add_all out (level_pieces (get_or ns i d)) →
    add_all out' (each_level (drop (i + 1) ns)) ≡ add_all out (each_level (drop i ns))
written-level ns d i out out' h e =
    let next : i + 1 ≡ suc i = omega arith in
    ap (λ k. add_all out' (each_level (drop k ns))) next
    ∙ ap (λ o. add_all o (each_level (drop (suc i) ns))) e
    ∙ sym (add_all-append out (level_pieces (get_or ns i d)) (each_level (drop (suc i) ns)))
    ∙ ap (add_all out) (sym (each_level-some ns d i h))

-- nothing is left
pub written-all : (out out' : LimitedText) (pieces : List Piece) → pieces ≡ [] → add_all out pieces ≡ out' → out ≡ out'
written-all out out' pieces none e = sym (add_all-none out) ∙ ap (add_all out) (sym none) ∙ e

-- names
pub name_at-some : (ns : List (Bor Name)) (d : Bor Name) (i : ℕ) (of_symbol : Bool) (flags : ℕ) → i < length ns →
    pieces_at (each_name (names_in ns) of_symbol flags) i ≡ name_pieces (name_of (get_or ns i d).now) of_symbol flags
unfolding each_name
name_at-some [] d i of_symbol flags h = absurd (omega arith)
name_at-some (n ∷ ns) d zero of_symbol flags h = refl
name_at-some (n ∷ ns) d (suc i) of_symbol flags h = name_at-some ns d i of_symbol flags (omega arith)

pub name_at-none : (ns : List (Bor Name)) (i : ℕ) (of_symbol : Bool) (flags : ℕ) → length ns ≤ i →
    pieces_at (each_name (names_in ns) of_symbol flags) i ≡ []
unfolding each_name
name_at-none [] i of_symbol flags h = refl
name_at-none (n ∷ ns) zero of_symbol flags h = absurd (omega arith)
name_at-none (n ∷ ns) (suc i) of_symbol flags h = name_at-none ns i of_symbol flags (omega arith)

name_at-weight : (ns : List (Bor Name)) (d : Bor Name) (i : ℕ) → i < length ns →
    name_weight (name_of (get_or ns i d).now) ≤ scope_weight (names_in ns)
unfolding scope_weight
name_at-weight [] d i h = absurd (omega arith)
name_at-weight (n ∷ ns) d zero h = omega arith
name_at-weight (n ∷ ns) d (suc i) h = omega (arith, name_at-weight ns d i (omega arith))

-- a name that is pushed weighs no more than the list
pub name-work : (ns : List (Bor Name)) (d : Bor Name) (i : ℕ) (of_symbol : Bool) (s s' : List Item) → i < length ns →
    s' ≡ s ++ item.Name (get_or ns i d) of_symbol ∷ [] → work s' ≤ scope_weight (names_in ns) + work s
name-work ns d i of_symbol s s' h e =
    omega (arith, work_one s s' (item.Name (get_or ns i d) of_symbol) e, name_at-weight ns d i h)

-- slots from a place on
seen-some : (xs : List SlotCode) (d : SlotCode) (i : ℕ) → i < length xs →
    drop i (slots_seen xs) ≡ slot_seen (get_or xs i d) ∷ drop (suc i) (slots_seen xs)
seen-some [] d i h = absurd (omega arith)
seen-some (x ∷ xs) d zero h = refl
seen-some (x ∷ xs) d (suc i) h = seen-some xs d i (omega arith)

seen-none : (xs : List SlotCode) (i : ℕ) → length xs ≤ i → drop i (slots_seen xs) ≡ []
seen-none [] zero h = refl
seen-none [] (suc i) h = refl
seen-none (x ∷ xs) zero h = absurd (omega arith)
seen-none (x ∷ xs) (suc i) h = seen-none xs i (omega arith)

laid-some : (xs : List SlotCode) (ss : List Slot) (d : SlotCode) (i : ℕ) (pointed : Pointed) (p : Parts) (flags : ℕ) →
    slots_seen xs ≡ ss → i < length xs → laid (drop i ss) pointed p flags
    ≡ slot_pieces (slot_seen (get_or xs i d)) pointed p flags ++ laid (drop (suc i) ss) pointed p flags
unfolding laid
laid-some xs ss d i pointed p flags e h =
    ap (λ z. laid (drop i z) pointed p flags) (sym e)
    ∙ ap (λ z. laid z pointed p flags) (seen-some xs d i h)
    ∙ ap (λ z. slot_pieces (slot_seen (get_or xs i d)) pointed p flags ++ laid (drop (suc i) z) pointed p flags) e

pub laid-none : (xs : List SlotCode) (ss : List Slot) (i : ℕ) (pointed : Pointed) (p : Parts) (flags : ℕ) →
    slots_seen xs ≡ ss → length xs ≤ i → laid (drop i ss) pointed p flags ≡ []
unfolding laid
laid-none xs ss i pointed p flags e h =
    ap (λ z. laid (drop i z) pointed p flags) (sym e) ∙ ap (λ z. laid z pointed p flags) (seen-none xs i h)

-- whether one of the slots that are left is the parenthesis before the mark of a pointer
opening-some : (xs : List SlotCode) (ss : List Slot) (d : SlotCode) (i : ℕ) → slots_seen xs ≡ ss → i < length xs →
    some_opening (drop i ss) ≡ cond (is_opening (slot_seen (get_or xs i d))) true (some_opening (drop (suc i) ss))
unfolding some_opening
opening-some xs ss d i e h =
    ap (λ z. some_opening (drop i z)) (sym e)
    ∙ ap some_opening (seen-some xs d i h)
    ∙ ap (λ z. cond (is_opening (slot_seen (get_or xs i d))) true (some_opening (drop (suc i) z))) e

pub opening-found : (xs : List SlotCode) (ss : List Slot) (d : SlotCode) (i : ℕ) → slots_seen xs ≡ ss →
    i < length xs → is_opening (slot_seen (get_or xs i d)) ≡ true → some_opening (drop i ss) ≡ true
opening-found xs ss d i e h is =
    opening-some xs ss d i e h ∙ ap (λ b. cond b true (some_opening (drop (suc i) ss))) is

pub opening-passed : (xs : List SlotCode) (ss : List Slot) (d : SlotCode) (i : ℕ) → slots_seen xs ≡ ss →
    i < length xs → is_opening (slot_seen (get_or xs i d)) ≡ false →
    some_opening (drop i ss) ≡ some_opening (drop (i + 1) ss)
opening-passed xs ss d i e h is =
    let next : suc i ≡ i + 1 = omega arith in
    opening-some xs ss d i e h ∙ ap (λ b. cond b true (some_opening (drop (suc i) ss))) is
    ∙ ap (λ k. some_opening (drop k ss)) next

pub opening-none : (xs : List SlotCode) (ss : List Slot) (i : ℕ) → slots_seen xs ≡ ss → length xs ≤ i →
    some_opening (drop i ss) ≡ false
unfolding some_opening
opening-none xs ss i e h = ap (λ z. some_opening (drop i z)) (sym e) ∙ ap some_opening (seen-none xs i h)

-- a slot is written, and the others are left
pub laid-step : (xs : List SlotCode) (ss : List Slot) (d : SlotCode) (i : ℕ) (pointed : Pointed) (p : Parts) (flags : ℕ)
    (out out' : LimitedText) → slots_seen xs ≡ ss → i < length xs →
    out' ≡ add_all out (slot_pieces (slot_seen (get_or xs i d)) pointed p flags) →
    add_all out' (laid (drop (i + 1) ss) pointed p flags) ≡ add_all out (laid (drop i ss) pointed p flags)
laid-step xs ss d i pointed p flags out out' e h e' =
    let next : i + 1 ≡ suc i = omega arith in
    let later : List Piece = laid (drop (suc i) ss) pointed p flags in
    ap (λ k. add_all out' (laid (drop k ss) pointed p flags)) next
    ∙ ap (λ o. add_all o later) e'
    ∙ sym (add_all-append out (slot_pieces (slot_seen (get_or xs i d)) pointed p flags) later)
    ∙ ap (add_all out) (sym (laid-some xs ss d i pointed p flags e h))

-- the names and types of a slot
part_slot-pieces : (s : PartSlot) (pointed : Pointed) (set : ℕ) (zs : List Number) (bytes : List ℕ) (ns : NameTrees)
    (ts : TypeTrees) (flags : ℕ) →
    slot_pieces (slot_of s) pointed (shape_parts set zs bytes ns ts flags) flags ≡ part_slot_pieces s ns ts flags
unfolding slot_pieces
part_slot-pieces (part_slot.Symbol i) pointed set zs bytes ns ts flags = refl
part_slot-pieces (part_slot.Name i) pointed set zs bytes ns ts flags = refl
part_slot-pieces (part_slot.Names w) pointed set zs bytes ns ts flags = refl
part_slot-pieces (part_slot.Type i) pointed set zs bytes ns ts flags = refl
part_slot-pieces (part_slot.Types i) pointed set zs bytes ns ts flags = refl

-- the names and types of a slot are pushed above the other slots
pub laid-parts : (xs : List SlotCode) (ss : List Slot) (d : SlotCode) (i : ℕ) (s : PartSlot) (pointed : Pointed)
    (set : ℕ) (zs : List Number) (bytes : List ℕ) (ns : NameTrees) (ts : TypeTrees) (flags : ℕ) (out : LimitedText) →
    slots_seen xs ≡ ss → i < length xs → slot_seen (get_or xs i d) ≡ slot_of s →
    add_all (add_all out (part_slot_pieces s ns ts flags))
    (laid (drop (i + 1) ss) pointed (shape_parts set zs bytes ns ts flags) flags)
    ≡ add_all out (laid (drop i ss) pointed (shape_parts set zs bytes ns ts flags) flags)
laid-parts xs ss d i s pointed set zs bytes ns ts flags out e h is =
    let p : Parts = shape_parts set zs bytes ns ts flags in
    laid-step xs ss d i pointed p flags out _ e h
    (ap (add_all out) (sym (ap (λ s. slot_pieces s pointed p flags) is
    ∙ part_slot-pieces s pointed set zs bytes ns ts flags)))

pub slots_weight-positive : (ss : List Slot) (names : ℕ) → 0 < slots_weight ss names
unfolding slots_weight
slots_weight-positive [] names = omega arith
slots_weight-positive (s ∷ ss) names = omega arith

slots_weight-seen : (xs : List SlotCode) (i names : ℕ) → i < length xs →
    slots_weight (drop i (slots_seen xs)) names ≡ 1 + names + slots_weight (drop (suc i) (slots_seen xs)) names
unfolding slots_weight
slots_weight-seen [] i names h = absurd (omega arith)
slots_weight-seen (x ∷ xs) zero names h = refl
slots_weight-seen (x ∷ xs) (suc i) names h = slots_weight-seen xs i names (omega arith)

pub slots_weight-step : (xs : List SlotCode) (ss : List Slot) (i names : ℕ) → slots_seen xs ≡ ss → i < length xs →
    slots_weight (drop i ss) names ≡ 1 + names + slots_weight (drop (i + 1) ss) names
slots_weight-step xs ss i names e h =
    let next : suc i ≡ i + 1 = omega arith in
    ap (λ z. slots_weight (drop i z) names) (sym e) ∙ slots_weight-seen xs i names h
    ∙ ap (λ z. 1 + names + slots_weight (drop (suc i) z) names) e
    ∙ ap (λ k. 1 + names + slots_weight (drop k ss) names) next

-- a word that depends on names alone
pub names_word-names : (w : List ℕ) (ns : List (Bor Name)) (of_symbol : Bool) (flags : ℕ) →
    names_word_pieces w (each_name (names_in ns) of_symbol flags) ≡ names_word_pieces w ns
unfolding each_name
names_word-names w [] of_symbol flags = refl
names_word-names w (n ∷ ns) of_symbol flags = refl

pub ruleset slot_writing = (settling, names_word-names)

-- the parted pieces from a place on
abbrev pub parted_from : List ℕ → List (List Piece) → ℕ → List Piece
parted_from w xs i = parted w (drop i xs) (i == 0)

pub parted-end : (w : List ℕ) (xs : List (List Piece)) (i : ℕ) (first : Bool) → length xs ≤ i →
    parted w (drop i xs) first ≡ []
parted-end w xs i first h = ap (λ ys. parted w ys first) (drop_all i xs h)

pieces-some : (xs : List (List Piece)) (i : ℕ) → i < length xs → drop i xs ≡ pieces_at xs i ∷ drop (suc i) xs
pieces-some [] i h = absurd (omega arith)
pieces-some (x ∷ xs) zero h = refl
pieces-some (x ∷ xs) (suc i) h = pieces-some xs i (omega arith)

-- the pieces at a place, and those behind the place
parted-next : (w : List ℕ) (xs : List (List Piece)) (i : ℕ) → i < length xs →
    parted_from w xs i ≡ parting w (i == 0) ++ (pieces_at xs i ++ parted_from w xs (suc i))
parted-next w xs i h = ap (λ ys. parted w ys (i == 0)) (pieces-some xs i h)
    ∙ ap (λ first. parting w (i == 0) ++ (pieces_at xs i ++ parted w (drop (suc i) xs) first))
    (sym (not-first (suc i) (omega arith)))

-- the pieces before a place are pushed above those from the place on
pushed-pieces : (w : List ℕ) (xs : List (List Piece)) (i : ℕ) (x : List Piece) (out : LimitedText) → 0 < i →
    i ≤ length xs → pieces_at xs (i - 1) ≡ x →
    add_all (add_all out (parting w (i - 1 == 0) ++ x)) (parted_from w xs i) ≡ add_all out (parted_from w xs (i - 1))
pushed-pieces w xs i x out h h' e =
    let same : i ≡ suc (i - 1) = omega arith in
    let start : List Piece = parting w (i - 1 == 0) in
    let later : List Piece = parted_from w xs (suc (i - 1)) in
    ap (λ k. add_all (add_all out (start ++ x)) (parted_from w xs k)) same
    ∙ sym (add_all-append out (start ++ x) later)
    ∙ ap (add_all out) (append_assoc start x later
    ∙ ap (λ y. start ++ (y ++ later)) (sym e)
    ∙ sym (parted-next w xs (i - 1) (omega arith)))

-- the parted names
pub names-length : (ns : List (Bor Name)) (of_symbol : Bool) (flags : ℕ) →
    length (each_name (names_in ns) of_symbol flags) ≡ length ns
unfolding each_name
names-length [] of_symbol flags = refl
names-length (n ∷ ns) of_symbol flags = ap suc (names-length ns of_symbol flags)

pub pushed-name : (w : List ℕ) (ns : List (Bor Name)) (d : Bor Name) (i flags : ℕ) (out : LimitedText) → 0 < i →
    i ≤ length ns →
    add_all (add_all out (parting w (i - 1 == 0) ++ name_pieces (name_of (get_or ns (i - 1) d).now) false flags))
    (parted_from w (each_name (names_in ns) false flags) i)
    ≡ add_all out (parted_from w (each_name (names_in ns) false flags) (i - 1))
pushed-name w ns d i flags out h h' = pushed-pieces w (each_name (names_in ns) false flags) i _ out h
    (omega (arith, h', names-length ns false flags)) (name_at-some ns d (i - 1) false flags (omega arith))

names-some : (ns : List (Bor Name)) (d : Bor Name) (i : ℕ) → i < length ns →
    drop i ns ≡ get_or ns i d ∷ drop (suc i) ns
names-some [] d i h = absurd (omega arith)
names-some (n ∷ ns) d zero h = refl
names-some (n ∷ ns) d (suc i) h = names-some ns d i (omega arith)

names-next : (ns : List (Bor Name)) (d : Bor Name) (i : ℕ) → i < length ns →
    scope_weight (names_in (drop i ns))
    ≡ 3 + name_weight (name_of (get_or ns i d).now) + scope_weight (names_in (drop (suc i) ns))
unfolding scope_weight
names-next ns d i h = ap (λ xs. scope_weight (names_in xs)) (names-some ns d i h)

names-weight : (ns : List (Bor Name)) (d : Bor Name) (i : ℕ) → 0 < i → i ≤ length ns →
    scope_weight (names_in (drop (i - 1) ns))
    ≡ 3 + name_weight (name_of (get_or ns (i - 1) d).now) + scope_weight (names_in (drop i ns))
names-weight ns d i h h' =
    let same : suc (i - 1) ≡ i = omega arith in
    names-next ns d (i - 1) (omega arith)
    ∙ ap (λ k. 3 + name_weight (name_of (get_or ns (i - 1) d).now) + scope_weight (names_in (drop k ns))) same

pub pushed-work : (ns : List (Bor Name)) (d : Bor Name) (i : ℕ) (s s' : List Item) → 0 < i → i ≤ length ns →
    AddsAtMost (1 + name_weight (name_of (get_or ns (i - 1) d).now)) s s' →
    work s' + scope_weight (names_in (drop i ns)) ≤ scope_weight (names_in (drop (i - 1) ns)) + work s
pushed-work ns d i s s' h h' e = omega (arith, names-weight ns d i h h', e)

pub names-weight-none : (ns : List (Bor Name)) (i : ℕ) → length ns ≤ i → scope_weight (names_in (drop i ns)) ≡ 1
unfolding scope_weight
names-weight-none ns i h = ap (λ xs. scope_weight (names_in xs)) (drop_all i ns h)

-- types
abbrev pub both_sides : TypeTree → ℕ → List Piece
both_sides t flags = before t No flags ++ after t No flags

pub type_at-some : (ts : List (Bor «Type»)) (d : Bor «Type») (i flags : ℕ) → i < length ts →
    pieces_at (each_type (types_in ts) flags) i ≡ both_sides (type_of (get_or ts i d).now) flags
unfolding each_type
type_at-some [] d i flags h = absurd (omega arith)
type_at-some (t ∷ ts) d zero flags h = around-halves (type_of t.now) [] flags
type_at-some (t ∷ ts) d (suc i) flags h = type_at-some ts d i flags (omega arith)

pub types-length : (ts : List (Bor «Type»)) (flags : ℕ) → length (each_type (types_in ts) flags) ≡ length ts
unfolding each_type
types-length [] flags = refl
types-length (t ∷ ts) flags = ap suc (types-length ts flags)

pub type_at-none : (ts : List (Bor «Type»)) (i flags : ℕ) → length ts ≤ i →
    pieces_at (each_type (types_in ts) flags) i ≡ []
unfolding each_type
type_at-none [] i flags h = refl
type_at-none (t ∷ ts) zero flags h = absurd (omega arith)
type_at-none (t ∷ ts) (suc i) flags h = type_at-none ts i flags (omega arith)

type_at-weight : (ts : List (Bor «Type»)) (d : Bor «Type») (i : ℕ) → i < length ts →
    type_weight (type_of (get_or ts i d).now) + type_weight (type_of (get_or ts i d).now) ≤ types_weight (types_in ts)
unfolding types_weight
type_at-weight [] d i h = absurd (omega arith)
type_at-weight (t ∷ ts) d zero h = omega arith
type_at-weight (t ∷ ts) d (suc i) h = omega (arith, type_at-weight ts d i (omega arith))

-- a type that is pushed weighs no more than the list
pub type-work : (ts : List (Bor «Type»)) (d : Bor «Type») (i : ℕ) (s s' : List Item) → i < length ts →
    AddsAtMost (type_weight (type_of (get_or ts i d).now) + type_weight (type_of (get_or ts i d).now)) s s' →
    work s' ≤ types_weight (types_in ts) + work s
type-work ts d i s s' h e = omega (arith, e, type_at-weight ts d i h)

pub pushed-type : (w : List ℕ) (ts : List (Bor «Type»)) (d : Bor «Type») (i flags : ℕ) (out : LimitedText) → 0 < i →
    i ≤ length ts →
    add_all (add_all out (parting w (i - 1 == 0) ++ both_sides (type_of (get_or ts (i - 1) d).now) flags))
    (parted_from w (each_type (types_in ts) flags) i)
    ≡ add_all out (parted_from w (each_type (types_in ts) flags) (i - 1))
pushed-type w ts d i flags out h h' = pushed-pieces w (each_type (types_in ts) flags) i _ out h
    (omega (arith, h', types-length ts flags)) (type_at-some ts d (i - 1) flags (omega arith))

types-some : (ts : List (Bor «Type»)) (d : Bor «Type») (i : ℕ) → i < length ts →
    drop i ts ≡ get_or ts i d ∷ drop (suc i) ts
types-some [] d i h = absurd (omega arith)
types-some (t ∷ ts) d zero h = refl
types-some (t ∷ ts) d (suc i) h = types-some ts d i (omega arith)

types-next : (ts : List (Bor «Type»)) (d : Bor «Type») (i : ℕ) → i < length ts →
    types_weight (types_in (drop i ts)) ≡ 3 + type_weight (type_of (get_or ts i d).now)
    + type_weight (type_of (get_or ts i d).now) + types_weight (types_in (drop (suc i) ts))
unfolding types_weight
types-next ts d i h = ap (λ xs. types_weight (types_in xs)) (types-some ts d i h)

-- a type that is pushed weighs no more than the list from its place on
pub pushed_type-work : (ts : List (Bor «Type»)) (d : Bor «Type») (i : ℕ) (s s' : List Item) → 0 < i → i ≤ length ts →
    AddsAtMost (1 + type_weight (type_of (get_or ts (i - 1) d).now) + type_weight (type_of (get_or ts (i - 1) d).now))
    s s' → work s' + types_weight (types_in (drop i ts)) ≤ types_weight (types_in (drop (i - 1) ts)) + work s
pushed_type-work ts d i s s' h h' e =
    let same : suc (i - 1) ≡ i = omega arith in
    omega (
      arith,
      types-next ts d (i - 1) (omega arith),
      ap (λ k. types_weight (types_in (drop k ts))) same,
      e,
    )

-- the types from a place on
pub types-dropped : (ts : List (Bor «Type»)) (i flags : ℕ) →
    each_type (types_in (drop i ts)) flags ≡ drop i (each_type (types_in ts) flags)
unfolding each_type
types-dropped [] zero flags = refl
types-dropped [] (suc i) flags = refl
types-dropped (t ∷ ts) zero flags = refl
types-dropped (t ∷ ts) (suc i) flags = types-dropped ts i flags

pub types-rest : (ts : List (Bor «Type»)) (i : ℕ) → i ≤ length ts → take (length ts - i) (drop i ts) ≡ drop i ts
types-rest ts i h = take_all (length ts - i) (drop i ts) (omega (arith, length-drop i ts))

-- a shape with no type around it
pub before-alone : (row set : ℕ) (zs : List Number) (bytes : List ℕ) (ns : NameTrees) (ts : List (Bor «Type»))
    (pointed : Pointed) (flags : ℕ) → (layout_of row).around ≡ None →
    before (shape row set zs bytes ns (types_in ts)) pointed flags
    ≡ laid (slots row side.Left) pointed (shape_parts set zs bytes ns (types_in ts) flags) flags
unfolding before
before-alone row set zs bytes ns [] pointed flags e = refl
before-alone row set zs bytes ns (t ∷ ts) pointed flags e =
    ap (λ w. pieces_around w pointed set flags (λ p. before (type_of t.now) p flags)
    ++ laid (slots row side.Left) pointed (shape_parts set zs bytes ns (types_in (t ∷ ts)) flags) flags) e

pub after-alone : (row set : ℕ) (zs : List Number) (bytes : List ℕ) (ns : NameTrees) (ts : List (Bor «Type»))
    (pointed : Pointed) (flags : ℕ) → (layout_of row).around ≡ None →
    after (shape row set zs bytes ns (types_in ts)) pointed flags
    ≡ laid (slots row side.Right) pointed (shape_parts set zs bytes ns (types_in ts) flags) flags
unfolding after
after-alone row set zs bytes ns [] pointed flags e = refl
after-alone row set zs bytes ns (t ∷ ts) pointed flags e =
    ap (λ w. laid (slots row side.Right) pointed (shape_parts set zs bytes ns (types_in (t ∷ ts)) flags) flags
    ++ pieces_around w pointed set flags (λ p. after (type_of t.now) p flags)) e
    ∙ append-nil (laid (slots row side.Right) pointed (shape_parts set zs bytes ns (types_in (t ∷ ts)) flags) flags)

-- a shape without types
pub before-empty : (row set : ℕ) (zs : List Number) (bytes : List ℕ) (ns : NameTrees) (ts : List (Bor «Type»))
    (pointed : Pointed) (flags : ℕ) → length ts < 1 →
    before (shape row set zs bytes ns (types_in ts)) pointed flags
    ≡ laid (slots row side.Left) pointed (shape_parts set zs bytes ns (types_in ts) flags) flags
unfolding before
before-empty row set zs bytes ns [] pointed flags h = refl
before-empty row set zs bytes ns (t ∷ ts) pointed flags h = absurd (omega arith)

pub after-empty : (row set : ℕ) (zs : List Number) (bytes : List ℕ) (ns : NameTrees) (ts : List (Bor «Type»))
    (pointed : Pointed) (flags : ℕ) → length ts < 1 →
    after (shape row set zs bytes ns (types_in ts)) pointed flags
    ≡ laid (slots row side.Right) pointed (shape_parts set zs bytes ns (types_in ts) flags) flags
unfolding after
after-empty row set zs bytes ns [] pointed flags h = refl
after-empty row set zs bytes ns (t ∷ ts) pointed flags h = absurd (omega arith)

-- a shape with its first type around it
pub before-around : (row set : ℕ) (zs : List Number) (bytes : List ℕ) (ns : NameTrees) (ts : List (Bor «Type»))
    (d : Bor «Type») (is_mark : Bool) (beneath pointed : Pointed) (flags : ℕ) → 1 ≤ length ts →
    (layout_of row).around ≡ Some is_mark → beneath ≡ under pointed is_mark set flags →
    before (shape row set zs bytes ns (types_in ts)) pointed flags
    ≡ before (type_of (get_or ts 0 d).now) beneath flags
    ++ laid (slots row side.Left) pointed (shape_parts set zs bytes ns (types_in ts) flags) flags
unfolding before
before-around row set zs bytes ns [] d is_mark beneath pointed flags h e e' = absurd (omega arith)
before-around row set zs bytes ns (t ∷ ts) d is_mark beneath pointed flags h e e' =
    let own : List Piece
    = laid (slots row side.Left) pointed (shape_parts set zs bytes ns (types_in (t ∷ ts)) flags) flags in
    ap (λ w. pieces_around w pointed set flags (λ p. before (type_of t.now) p flags) ++ own) e
    ∙ ap (λ p. before (type_of t.now) p flags ++ own) (sym e')

pub after-around : (row set : ℕ) (zs : List Number) (bytes : List ℕ) (ns : NameTrees) (ts : List (Bor «Type»))
    (d : Bor «Type») (is_mark : Bool) (beneath pointed : Pointed) (flags : ℕ) → 1 ≤ length ts →
    (layout_of row).around ≡ Some is_mark → beneath ≡ under pointed is_mark set flags →
    after (shape row set zs bytes ns (types_in ts)) pointed flags
    ≡ laid (slots row side.Right) pointed (shape_parts set zs bytes ns (types_in ts) flags) flags
    ++ after (type_of (get_or ts 0 d).now) beneath flags
unfolding after
after-around row set zs bytes ns [] d is_mark beneath pointed flags h e e' = absurd (omega arith)
after-around row set zs bytes ns (t ∷ ts) d is_mark beneath pointed flags h e e' =
    let own : List Piece
    = laid (slots row side.Right) pointed (shape_parts set zs bytes ns (types_in (t ∷ ts)) flags) flags in
    ap (λ w. own ++ pieces_around w pointed set flags (λ p. after (type_of t.now) p flags)) e
    ∙ ap (λ p. own ++ after (type_of t.now) p flags) (sym e')

-- work on the first type is less than work on the list
first-weight : (ts : List (Bor «Type»)) (d : Bor «Type») → 1 ≤ length ts →
    type_weight (type_of (get_or ts 0 d).now) < types_weight (types_in ts)
unfolding types_weight
first-weight [] d h = absurd (omega arith)
first-weight (t ∷ ts) d h = omega arith

pub first-work : (ts : List (Bor «Type»)) (d : Bor «Type») (s s' : List Item) → 1 ≤ length ts →
    AddsAtMost (type_weight (type_of (get_or ts 0 d).now)) s s' → AddsLess (types_weight (types_in ts)) s s'
first-work ts d s s' h e = omega (arith, e, first-weight ts d h)
