-- The pieces and weights of shapes, by their nodes. No public contract speaks of these definitions.
use Rattle.std.specs.Prelude.{ℕ, ◌+◌, List, true, false, drop}
use Rattle.msvc_nodes.specs.NodeView.{names_in, types_in}
use Rattle.msvc_nodes.specs.Trees.{NameTrees, TypeTree, TypeTrees, shape}
use Rattle.msvc_nodes.specs.declared.nodes.Shape.{Shape}
use Rattle.msvc_print.specs.Declaration.{each_name, each_type}
use Rattle.msvc_print.specs.Functions.{comma}
use Rattle.msvc_print.specs.Halves.{shape_parts}
use Rattle.msvc_print.specs.declared.pointed.Pointed.{Pointed}
use Rattle.msvc_print.specs.Pieces.{Piece}
use Rattle.msvc_print.specs.Shapes.{Parts, laid, parted, pieces_at, slots_weight}
use Rattle.msvc_print.specs.Weights.{scope_weight, types_weight}
use Rattle.msvc_print.specs.declared.shapes.PartSlot.{PartSlot}
use Rattle.msvc_print.specs.declared.shapes.PartSlot.TheVariants as part_slot
use Rattle.msvc_shapes.specs.Layouts.{Slot, slots}
use Rattle.msvc_shapes.specs.Layouts as slot
use Rattle.msvc_shapes.specs.declared.layouts.Side.{Side}

-- a shape as a type
abbrev pub shape_of : Shape → TypeTree
shape_of s = shape s.row s.qualifiers.0 s.numbers.now s.text.now (names_in s.names.now) (types_in s.types.now)

-- the parts of a shape
abbrev pub parts_of : Shape → ℕ → Parts
parts_of s flags =
    shape_parts s.qualifiers.0 s.numbers.now s.text.now (names_in s.names.now) (types_in s.types.now) flags

-- a slot that has names or types in it, and its pieces by those of the shape
abbrev pub slot_of : PartSlot → Slot
slot_of (part_slot.Symbol i) = slot.symbol i
slot_of (part_slot.Name i) = slot.name i
slot_of (part_slot.Names w) = slot.names w.now
slot_of (part_slot.Type i) = slot.type_at i
slot_of (part_slot.Types i) = slot.types_from i

abbrev pub part_slot_pieces : PartSlot → NameTrees → TypeTrees → ℕ → List Piece
part_slot_pieces (part_slot.Symbol i) ns ts flags = pieces_at (each_name ns true flags) i
part_slot_pieces (part_slot.Name i) ns ts flags = pieces_at (each_name ns false flags) i
part_slot_pieces (part_slot.Names w) ns ts flags = parted w.now (each_name ns false flags) true
part_slot_pieces (part_slot.Type i) ns ts flags = pieces_at (each_type ts flags) i
part_slot_pieces (part_slot.Types i) ns ts flags = parted (comma flags) (drop i (each_type ts flags)) true

-- the slots of a side of a shape from a place on
unfoldable pub slots_from : Shape → Side → ℕ → List Slot
slots_from s side at = drop at (slots s.row side)

-- the pieces of a side of a shape from a slot on
abbrev pub rest_of_slots : Shape → Side → Pointed → ℕ → ℕ → List Piece
rest_of_slots s side pointed at flags = laid (slots_from s side at) pointed (parts_of s flags) flags

-- the weight of names and types
abbrev pub parts_weight : NameTrees → TypeTrees → ℕ
parts_weight ns ts = scope_weight ns + types_weight ts

-- the weight of a side of a shape from a slot on
abbrev pub rest_weight : Shape → Side → ℕ → ℕ
rest_weight s side at =
    slots_weight (slots_from s side at) (parts_weight (names_in s.names.now) (types_in s.types.now))
