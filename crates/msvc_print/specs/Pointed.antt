-- How a type stands under what is around it: some types put parentheses round the mark of a pointer to them, and then
-- the `__unaligned` of that pointer stands before the parenthesis.
use Rattle.std.specs.Prelude.{ℕ, List, [], ◌∷◌, Bool, true, false, cond, not}
use Rattle.msvc_nodes.specs.Trees.{TypeTree, TypeTrees, array, function, member_function, no_types, shape, types}
use Rattle.msvc_print.specs.Flags.{full_style, has}
use Rattle.msvc_print.specs.declared.pointed.Pointed.{Pointed}
use Rattle.msvc_print.specs.declared.pointed.Pointed.TheVariants.{No, Inner, Yes, Unaligned}
use Rattle.msvc_shapes.specs.Layouts.{Slot, slots}
use Rattle.msvc_shapes.specs.Layouts as slot
use Rattle.msvc_shapes.specs.declared.layouts.Side.TheVariants as side

-- whether a type stands directly under a pointer or a reference
abbrev pub is_pointed : Pointed → Bool
is_pointed No = false
is_pointed Yes = true
is_pointed Inner = false
is_pointed Unaligned = true

-- whether it stands under a pointer that is `__unaligned`
abbrev pub is_unaligned : Pointed → Bool
is_unaligned Unaligned = true
is_unaligned _ = false

-- how a type stands under a pointer or a reference with these qualifiers; only the second grammar's style tells whether
-- the pointer is `__unaligned`
abbrev pub pointed_by : ℕ → ℕ → Pointed
pointed_by set flags = cond (has flags full_style) (cond (has set 16) Unaligned Yes) Yes

-- how a type stands under one that is no pointer: as that type does, if it is that of a nested symbol
abbrev pub passed_on : Pointed → Pointed
passed_on Inner = Inner
passed_on _ = No

-- how a type stands under a shape with these qualifiers, which is the mark of a pointer or is none
abbrev pub under : Pointed → Bool → ℕ → ℕ → Pointed
under pointed is_mark set flags = cond is_mark (pointed_by set flags) (passed_on pointed)

-- whether the second grammar's style obeys a flag of llvm-undname, by its bit
abbrev pub drops : ℕ → ℕ → Bool
drops bit flags = cond (has flags full_style) (has flags bit) false

-- whether the flag drops something of a type that stands so
abbrev pub leaves_out : Pointed → ℕ → ℕ → Bool
leaves_out No bit flags = drops bit flags
leaves_out _ bit flags = false

-- whether a slot is the parenthesis before the mark of a pointer
abbrev pub is_opening : Slot → Bool
is_opening slot.opening = true
is_opening _ = false

-- whether one of these slots is
unfoldable pub some_opening : List Slot → Bool
some_opening [] = false
some_opening (s ∷ ss) = cond (is_opening s) true (some_opening ss)

-- whether a type prints a parenthesis before the mark of a pointer to it
unfoldable pub opens : TypeTree → Bool
opens (array n t set) = true
opens (function convention ts set t) = true
opens (member_function class convention ts set t) = true
opens (shape row set zs bytes ns ts) = some_opening (slots row side.Left)
opens _ = false

-- whether the mark of a pointer with these qualifiers to a type has `__unaligned` before it
abbrev pub unaligned_mark : ℕ → TypeTree → ℕ → Bool
unaligned_mark set t flags = cond (has flags full_style) (cond (has set 16) (not (opens t)) false) false

-- the same of the mark that a shape is, by its qualifiers and its types
unfoldable pub unaligned_shape : ℕ → TypeTrees → ℕ → Bool
unaligned_shape set no_types flags = false
unaligned_shape set (types t ts) flags = unaligned_mark set t flags
