-- The words of all layouts are ASCII: a check of the table, which a new row passes or fails by itself.
use Rattle.std.proofs.Common.{◌≡◌, ℕ, List, [], ◌∷◌, Bool, true, false, cond, refl, sym, arith}
use Rattle.std.proofs.Common.{leb-true, true≢false}
use Rattle.std.proofs.lemmas.Str.Ascii.{IsAscii-cons, IsAscii-nil}
use Rattle.std.specs.Prelude.{◌&&◌, ◌==◌, leb}
use Rattle.std.specs.Str.{IsAscii}
use Rattle.msvc_shapes.specs.Layouts.{Layout, Slot, kind_word, layout_in, layout_of, mark, names, names_word, slots}
use Rattle.msvc_shapes.specs.Layouts.{table, word}
use Rattle.msvc_shapes.specs.declared.layouts.Side.{Side}
use Rattle.msvc_shapes.specs.declared.layouts.Side.TheVariants as side

-- P holds of the word of a slot, if it has one
abbrev pub WordOfSlot : (List ℕ → Type 0) → Slot → Type 0
WordOfSlot P (word w) = P w
WordOfSlot P (kind_word w) = P w
WordOfSlot P (mark w) = P w
WordOfSlot P (names_word w) = P w
WordOfSlot P (names w) = P w
WordOfSlot P _ = Unit {0}

-- P holds of each word
abbrev pub EachWord : (List ℕ → Type 0) → List Slot → Type 0
EachWord P [] = Unit {0}
EachWord P (s ∷ ss) = WordOfSlot P s × EachWord P ss

-- the check
abbrev is_plain : List ℕ → Bool
is_plain [] = true
is_plain (x ∷ xs) = leb x 127 && is_plain xs

abbrev is_plain_slot : Slot → Bool
is_plain_slot (word w) = is_plain w
is_plain_slot (kind_word w) = is_plain w
is_plain_slot (mark w) = is_plain w
is_plain_slot (names_word w) = is_plain w
is_plain_slot (names w) = is_plain w
is_plain_slot _ = true

abbrev are_plain : List Slot → Bool
are_plain [] = true
are_plain (s ∷ ss) = is_plain_slot s && are_plain ss

abbrev is_plain_layout : Layout → Bool
is_plain_layout l = are_plain l.left && are_plain l.right

abbrev is_plain_table : List (ℕ × Layout) → Bool
is_plain_table [] = true
is_plain_table (x ∷ xs) = is_plain_layout x.1 && is_plain_table xs

table-plain : is_plain_table table ≡ true
table-plain = refl

-- what it says
pub both : (a b : Bool) → (a && b) ≡ true → (a ≡ true) × (b ≡ true)
both true b e = (refl, e)
both false b e = absurd (true≢false (sym e))

chosen-plain : (c : Bool) (l l' : Layout) → is_plain_layout l ≡ true → is_plain_layout l' ≡ true →
    is_plain_layout (cond c l l') ≡ true
chosen-plain true l l' h h' = h
chosen-plain false l l' h h' = h'

layout_in-plain : (xs : List (ℕ × Layout)) (row : ℕ) → is_plain_table xs ≡ true →
    is_plain_layout (layout_in xs row) ≡ true
layout_in-plain [] row e = refl
layout_in-plain (x ∷ xs) row e =
    chosen-plain (x.0 == row) x.1 (layout_in xs row) (both _ _ e).0 (layout_in-plain xs row (both _ _ e).1)

slots-plain : (row : ℕ) (s : Side) → are_plain (slots row s) ≡ true
unfolding layout_of slots
slots-plain row side.Left = (both _ _ (layout_in-plain table row table-plain)).0
slots-plain row side.Right = (both _ _ (layout_in-plain table row table-plain)).1

is_plain-ascii : (xs : List ℕ) → is_plain xs ≡ true → IsAscii xs
is_plain-ascii [] e = IsAscii-nil
is_plain-ascii (x ∷ xs) e =
    IsAscii-cons x xs (omega (arith, leb-true x 127 (both _ _ e).0)) (is_plain-ascii xs (both _ _ e).1)

is_plain_slot-ascii : (s : Slot) → is_plain_slot s ≡ true → WordOfSlot IsAscii s
is_plain_slot-ascii (word w) e = is_plain-ascii w e
is_plain_slot-ascii (kind_word w) e = is_plain-ascii w e
is_plain_slot-ascii (mark w) e = is_plain-ascii w e
is_plain_slot-ascii (names_word w) e = is_plain-ascii w e
is_plain_slot-ascii (names w) e = is_plain-ascii w e
is_plain_slot-ascii _ e = tt

are_plain-ascii : (ss : List Slot) → are_plain ss ≡ true → EachWord IsAscii ss
are_plain-ascii [] e = tt
are_plain-ascii (s ∷ ss) e = (is_plain_slot-ascii s (both _ _ e).0, are_plain-ascii ss (both _ _ e).1)

pub slots-ascii : (row : ℕ) (s : Side) → EachWord IsAscii (slots row s)
slots-ascii row s = are_plain-ascii (slots row s) (slots-plain row s)
