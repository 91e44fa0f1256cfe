-- The table of shapes: what each row prints, as data. What a slot means is in `Shapes` of `msvc_print/specs`.
use Rattle.std.specs.Prelude.{ℕ, List, [], ◌∷◌, Bool, true, false, Option, Some, None, codes, ◌==◌, cond}
use Rattle.msvc_shapes.specs.Rows as rows
use Rattle.msvc_shapes.specs.declared.layouts.Layout.{Layout as LayoutCode}
use Rattle.msvc_shapes.specs.declared.layouts.Side.{Side}
use Rattle.msvc_shapes.specs.declared.layouts.Side.TheVariants as side
use Rattle.msvc_shapes.specs.declared.layouts.Slot.{Slot as SlotCode}
use Rattle.msvc_shapes.specs.declared.layouts.Slot.TheVariants as slot_code

-- a piece of a layout
pub data Slot : Type 0 where
  word : List ℕ → Slot
  -- a word that NO_MEMBER_TYPE drops, as it drops `static` and `virtual`
  kind_word : List ℕ → Slot
  -- the number at a place
  number : ℕ → Slot
  -- each number in brackets, as the lengths of the levels of an array; 0 as `[]`
  lengths : Slot
  -- the qualifiers of a type that is no pointer, and those of a pointer
  qualifiers : Slot
  pointer_qualifiers : Slot
  -- the `__unaligned` of a pointer, before its mark
  unaligned : Slot
  -- the mark of a pointer, with the space before it and the qualifiers of the pointer
  mark : List ℕ → Slot
  -- the parentheses round the mark of a pointer to the shape
  opening : Slot
  closing : Slot
  -- the name at a place, as that of a symbol itself, and as in a scope
  symbol : ℕ → Slot
  name : ℕ → Slot
  -- all numbers, parted by commas, and a comma
  numbers : Slot
  comma : Slot
  -- the number at a place in braces; nothing if it is 0
  index : ℕ → Slot
  -- a comma and the number at a place; nothing if it is 1
  rank : ℕ → Slot
  -- the number at a place in hexadecimal, in capital letters and without its sign
  hexadecimal : ℕ → Slot
  -- the bytes of the shape
  bytes : Slot
  -- the qualifiers of a table
  table_qualifiers : Slot
  -- a word that is left out if the shape has no names, and all names as in a scope, parted by a word
  names_word : List ℕ → Slot
  names : List ℕ → Slot
  -- the type at a place, and all types from a place on, parted by commas, each around nothing
  type_at : ℕ → Slot
  types_from : ℕ → Slot
  -- a string by the numbers, its length and the bytes that were read; whether its characters are wide
  literal : Bool → Slot

-- The layout of a row: whether type 0 of the shape is printed around it, and then whether the shape stands under that
-- type as the mark of a pointer does; and what the shape prints before and after the name.
pub record Layout : Type 0 where
  pub around : Option Bool
  pub left : List Slot
  pub right : List Slot

-- the layout of a row that has nothing around it and nothing after the name
abbrev pub before : List Slot → Layout
before left = record { around = None; left = left; right = [] }

-- the layout of a row that has type 0 of the shape around it, and is no mark of a pointer
abbrev pub inside : List Slot → List Slot → Layout
inside left right = record { around = Some false; left = left; right = right }

-- the layout of a row that stands under type 0 of the shape as the mark of a pointer does
abbrev pub pointer : List Slot → Layout
pointer left = record { around = Some true; left = left; right = [] }

-- the layout of a row that prints one word
abbrev pub only : List ℕ → Layout
only w = before (word w ∷ [])

-- a function that moves its `this`: all its numbers behind a word
abbrev pub moved : List ℕ → Layout
moved w = inside [] (word w ∷ numbers ∷ word (codes "}'") ∷ [])

-- an initializer or a destructor of a variable: name 0 behind a word
abbrev pub stub : List ℕ → Layout
stub w = before (word w ∷ symbol 0 ∷ word (codes "''") ∷ [])

-- a number of floating point by its bits, behind the word of its type
abbrev pub bits_of : List ℕ → Layout
bits_of w = before (word w ∷ hexadecimal 0 ∷ word (codes "}") ∷ [])

-- the table: each row by its number
abbrev pub table : List (ℕ × Layout)
table =
    (rows.integer, before (number 0 ∷ []))
    ∷ (rows.custom, before (name 0 ∷ qualifiers ∷ []))
    ∷ (rows.nullptr, before (word (codes "std::nullptr_t") ∷ qualifiers ∷ []))
    ∷ (rows.arrays, inside (qualifiers ∷ opening ∷ []) (closing ∷ lengths ∷ []))
    ∷ (
      rows.member_pointer,
      pointer (unaligned ∷ symbol 0 ∷ word (codes "::*") ∷ pointer_qualifiers ∷ []),
    )
    ∷ (rows.extern_c, before (kind_word (codes "extern \"C\" ") ∷ []))
    ∷ (
      rows.frame,
      before
          (word (codes "`") ∷ symbol 0 ∷ word (codes "'::`") ∷ number 0 ∷ word (codes "'") ∷ []),
    )
    ∷ (rows.literal_operator, before (word (codes "operator \"\"") ∷ name 0 ∷ []))
    ∷ (rows.spaceship, only (codes "operator<=>"))
    ∷ (rows.address, before (word (codes "&") ∷ symbol 0 ∷ []))
    ∷ (rows.object, before (symbol 0 ∷ []))
    ∷ (rows.offsets, before (word (codes "{") ∷ numbers ∷ word (codes "}") ∷ []))
    ∷ (
      rows.symbol_offsets,
      before (word (codes "{") ∷ symbol 0 ∷ comma ∷ numbers ∷ word (codes "}") ∷ []),
    )
    ∷ (rows.typed, inside [] [])
    ∷ (rows.adjustor, moved (codes "`adjustor{"))
    ∷ (rows.vtordisp, moved (codes "`vtordisp{"))
    ∷ (rows.vtordispex, moved (codes "`vtordispex{"))
    ∷ (
      rows.tables,
      record {
        around = None;
        left = table_qualifiers ∷ [];
        right = names_word (codes "{for ") ∷ names (codes "s ") ∷ names_word (codes "}") ∷ [];
      },
    )
    ∷ (rows.type_descriptor, only (codes "`RTTI Type Descriptor'"))
    ∷ (rows.md5_locator, before (word (codes "??@") ∷ bytes ∷ word (codes "@??_R4@") ∷ []))
    ∷ (rows.initializer_of_name, stub (codes "`dynamic initializer for '"))
    ∷ (rows.initializer_of_variable, stub (codes "`dynamic initializer for `"))
    ∷ (rows.destructor_of_name, stub (codes "`dynamic atexit destructor for '"))
    ∷ (rows.destructor_of_variable, stub (codes "`dynamic atexit destructor for `"))
    ∷ (rows.static_guard, before (word (codes "`local static guard'") ∷ index 0 ∷ []))
    ∷ (rows.thread_guard, before (word (codes "`local static thread guard'") ∷ index 0 ∷ []))
    ∷ (rows.string_literal, before (literal false ∷ []))
    ∷ (rows.wide_string_literal, before (literal true ∷ []))
    ∷ (rows.managed_vector_ctor_iterator, only (codes "`managed vector ctor iterator'"))
    ∷ (rows.managed_vector_dtor_iterator, only (codes "`managed vector dtor iterator'"))
    ∷ (rows.eh_vector_copy_ctor_iterator, only (codes "`EH vector copy ctor iterator'"))
    ∷ (rows.eh_vector_vbase_copy_ctor_iterator, only (codes "`EH vector vbase copy ctor iterator'"))
    ∷ (rows.vector_copy_ctor_iterator, only (codes "`vector copy ctor iterator'"))
    ∷ (rows.vector_vbase_copy_ctor_iterator, only (codes "`vector vbase copy constructor iterator'"))
    ∷ (rows.managed_vector_vbase_copy_ctor_iterator, only (codes "`managed vector vbase copy constructor iterator'"))
    ∷ (rows.type_descriptor_name, only (codes "`RTTI Type Descriptor Name'"))
    ∷ (
      rows.displacement,
      record { around = None; left = []; right = word (codes "{for ") ∷ name 0 ∷ word (codes "}") ∷ [] },
    )
    ∷ (rows.auto, before (word (codes "auto") ∷ qualifiers ∷ []))
    ∷ (rows.decltype_auto, before (word (codes "decltype(auto)") ∷ qualifiers ∷ []))
    ∷ (rows.block, pointer (mark (codes "^") ∷ []))
    ∷ (rows.handle, pointer (mark (codes "^") ∷ []))
    ∷ (rows.tracking, pointer (mark (codes "%") ∷ []))
    ∷ (rows.interface, before (word (codes "[") ∷ symbol 0 ∷ word (codes "]") ∷ []))
    ∷ (rows.null_member, only (codes "nullptr"))
    ∷ (rows.absent, only (codes "{}"))
    ∷ (rows.member_of, before (word (codes "&") ∷ names (codes "::") ∷ []))
    ∷ (rows.float, bits_of (codes "float{0x"))
    ∷ (rows.double, bits_of (codes "double{0x"))
    ∷ (rows.float16, bits_of (codes "_Float16{0x"))
    ∷ (rows.bfloat16, bits_of (codes "__bf16{0x"))
    ∷ (rows.float80, bits_of (codes "__float80{0x"))
    ∷ (rows.float128, bits_of (codes "__float128{0x"))
    ∷ (rows.ibm128, bits_of (codes "__ibm128{0x"))
    ∷ (rows.pin, before (word (codes "cli::pin_ptr<") ∷ type_at 0 ∷ word (codes ">") ∷ qualifiers ∷ []))
    ∷ (
      rows.cli_array,
      before (word (codes "cli::array<") ∷ type_at 0 ∷ rank 0 ∷ word (codes ">^") ∷ qualifiers ∷ []),
    )
    ∷ (rows.template_object, before (type_at 0 ∷ []))
    ∷ (rows.subobject, before (word (codes "&") ∷ type_at 0 ∷ []))
    ∷ (rows.member, before (type_at 0 ∷ word (codes ".") ∷ name 0 ∷ []))
    ∷ (rows.element, before (type_at 0 ∷ word (codes "[") ∷ number 0 ∷ word (codes "]") ∷ []))
    ∷ (rows.aggregate, before (type_at 0 ∷ type_at 1 ∷ []))
    ∷ (rows.values, before (word (codes "{") ∷ types_from 0 ∷ word (codes "}") ∷ []))
    ∷ (rows.empty_union, before (type_at 0 ∷ word (codes "{}") ∷ []))
    ∷ (
      rows.union_value,
      before
          (type_at 0 ∷ word (codes "{.") ∷ name 0 ∷ word (codes " = ") ∷ type_at 1 ∷ word (codes "}") ∷ []),
    )
    ∷ (rows.catch_funclet, before (word (codes "catch$") ∷ bytes ∷ []))
    ∷ (rows.destructor_funclet, before (word (codes "dtor$") ∷ bytes ∷ []))
    ∷ (rows.filter_funclet, before (word (codes "filt$") ∷ bytes ∷ []))
    ∷ (rows.finally_funclet, before (word (codes "fin$") ∷ bytes ∷ []))
    ∷ (rows.explicit_this, before (word (codes "this ") ∷ type_at 0 ∷ []))
    ∷ []

-- the layout of a row of a table, an empty one if there is no such row
abbrev pub layout_in : List (ℕ × Layout) → ℕ → Layout
layout_in [] row = before []
layout_in (x ∷ xs) row = cond (x.0 == row) x.1 (layout_in xs row)

-- the layout of a row
unfoldable pub layout_of : ℕ → Layout
layout_of row = layout_in table row

-- what a shape prints on a side
unfoldable pub slots : ℕ → Side → List Slot
slots row side.Left = (layout_of row).left
slots row side.Right = (layout_of row).right

-- the layouts of the program as those of the table
abbrev pub slot_seen : SlotCode → Slot
slot_seen (slot_code.Word w) = word w.now
slot_seen (slot_code.KindWord w) = kind_word w.now
slot_seen (slot_code.Number i) = number i
slot_seen slot_code.Lengths = lengths
slot_seen slot_code.Qualifiers = qualifiers
slot_seen slot_code.PointerQualifiers = pointer_qualifiers
slot_seen slot_code.Unaligned = unaligned
slot_seen (slot_code.Mark w) = mark w.now
slot_seen slot_code.Opening = opening
slot_seen slot_code.Closing = closing
slot_seen (slot_code.Symbol i) = symbol i
slot_seen (slot_code.Name i) = name i
slot_seen slot_code.Numbers = numbers
slot_seen slot_code.Comma = comma
slot_seen (slot_code.Index i) = index i
slot_seen (slot_code.Rank i) = rank i
slot_seen (slot_code.Hexadecimal i) = hexadecimal i
slot_seen slot_code.Bytes = bytes
slot_seen slot_code.TableQualifiers = table_qualifiers
slot_seen (slot_code.NamesWord w) = names_word w.now
slot_seen (slot_code.Names w) = names w.now
slot_seen (slot_code.Type i) = type_at i
slot_seen (slot_code.Types i) = types_from i
slot_seen (slot_code.Literal is_wide) = literal is_wide

abbrev pub slots_seen : List SlotCode → List Slot
slots_seen [] = []
slots_seen (s ∷ ss) = slot_seen s ∷ slots_seen ss

abbrev pub layout_seen : LayoutCode → Layout
layout_seen l = record { around = l.around; left = slots_seen l.left.now; right = slots_seen l.right.now }
