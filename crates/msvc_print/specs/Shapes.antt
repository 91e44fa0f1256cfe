-- The pieces that the layouts of the table of shapes stand for, by the parts of a shape.
use Rattle.std.specs.Prelude.{ℕ, zero, suc, ◌+◌, List, [], ◌∷◌, ◌++◌, Bool, true, false, cond, codes, drop, ◌==◌}
use Rattle.std.specs.Fmt.{decimal, digits}
use Rattle.msvc_nodes.specs.declared.nodes.Number.{Number}
use Rattle.msvc_print.specs.Functions.{comma, hides_kind, separator}
use Rattle.msvc_print.specs.declared.pointed.Pointed.{Pointed}
use Rattle.msvc_print.specs.Pieces.{Piece, text}
use Rattle.msvc_print.specs.Strings.{literal_pieces}
use Rattle.msvc_print.specs.Words.{closing, full_space, mark_qualifiers, marked, opening, qualifiers}
use Rattle.msvc_print.specs.Words.{table_qualifiers, unaligned}
use Rattle.msvc_shapes.specs.Layouts.{Slot}
use Rattle.msvc_shapes.specs.Layouts as slot

-- the parts of a shape: whether it is a mark with `__unaligned` before it, its qualifiers, its numbers, its bytes, the
-- pieces of each of its names, as that of a symbol itself and as in a scope, and the pieces of each of its types around
-- nothing
pub record Parts : Type 0 where
  pub unaligned : Bool
  pub set : ℕ
  pub numbers : List Number
  pub bytes : List ℕ
  pub symbols : List (List Piece)
  pub names : List (List Piece)
  pub types : List (List Piece)

-- the parts of a shape, by whether `__unaligned` stands before it, its qualifiers, its numbers, its bytes and the
-- pieces of its names and types
abbrev pub parts : Bool → ℕ → List Number → List ℕ → List (List Piece) → List (List Piece) → List (List Piece)
    → Parts
parts unaligned set numbers bytes symbols names types = record {
  unaligned = unaligned;
  set = set;
  numbers = numbers;
  bytes = bytes;
  symbols = symbols;
  names = names;
  types = types;
}

-- a number in decimal, after a minus if it has one
abbrev pub number_pieces : Number → List Piece
number_pieces n = cond n.is_negative (text (codes "-") ∷ []) [] ++ text (decimal n.value) ∷ []

-- what is printed of the number at a place of a list, and nothing behind the end
abbrev pub of_number_at : (Number → List Piece) → List Number → ℕ → List Piece
of_number_at pieces [] i = []
of_number_at pieces (n ∷ ns) zero = pieces n
of_number_at pieces (n ∷ ns) (suc i) = of_number_at pieces ns i

-- the number at a place
abbrev pub number_at : List Number → ℕ → List Piece
number_at ns i = of_number_at number_pieces ns i

-- the length of a level of an array in brackets, which are empty where it is 0
abbrev pub level_pieces : Number → List Piece
level_pieces n = text (codes "[") ∷ (cond (n.value == 0) [] (number_pieces n) ++ text (codes "]") ∷ [])

-- the lengths of the levels of an array
abbrev pub each_level : List Number → List Piece
each_level [] = []
each_level (n ∷ ns) = level_pieces n ++ each_level ns

-- all numbers, parted by commas; `first` says whether none of them was printed before
abbrev pub each_number : List Number → Bool → ℕ → List Piece
each_number [] first flags = []
each_number (n ∷ ns) first flags = separator first flags ++ (number_pieces n ++ each_number ns false flags)

-- a number in braces, and nothing where it is 0
abbrev pub index_pieces : Number → List Piece
index_pieces n = cond (n.value == 0) [] (text (codes "{") ∷ (number_pieces n ++ text (codes "}") ∷ []))

-- the number at a place in braces
abbrev pub index_at : List Number → ℕ → List Piece
index_at ns i = of_number_at index_pieces ns i

-- a comma and a number, and nothing where it is 1
abbrev pub rank_pieces : Number → ℕ → List Piece
rank_pieces n flags = cond (n.value == 1) [] (text (comma flags) ∷ number_pieces n)

-- the number at a place after a comma
abbrev pub rank_at : List Number → ℕ → ℕ → List Piece
rank_at ns i flags = of_number_at (λ n. rank_pieces n flags) ns i

-- a number in hexadecimal, in capital letters and without its sign
abbrev pub hexadecimal_pieces : Number → List Piece
hexadecimal_pieces n = text (digits 16 true n.value) ∷ []

-- the number at a place in hexadecimal
abbrev pub hexadecimal_at : List Number → ℕ → List Piece
hexadecimal_at ns i = of_number_at hexadecimal_pieces ns i

-- the pieces at a place of a list, and none behind the end
abbrev pub pieces_at : List (List Piece) → ℕ → List Piece
pieces_at [] i = []
pieces_at (x ∷ xs) zero = x
pieces_at (x ∷ xs) (suc i) = pieces_at xs i

-- a word, unless there are no names
abbrev pub names_word_pieces : {A : Type 0} → List ℕ → List A → List Piece
names_word_pieces w [] = []
names_word_pieces w (x ∷ xs) = text w ∷ []

-- the word before a name or a type, unless it is the first
abbrev pub parting : List ℕ → Bool → List Piece
parting w first = cond first [] (text w ∷ [])

-- names or types parted by a word; `first` says whether none of them was printed before
abbrev pub parted : List ℕ → List (List Piece) → Bool → List Piece
parted w [] first = []
parted w (x ∷ xs) first = parting w first ++ (x ++ parted w xs false)

-- a word that NO_MEMBER_TYPE drops
abbrev pub kind_word_pieces : List ℕ → Pointed → ℕ → List Piece
kind_word_pieces w pointed flags = cond (hides_kind pointed flags) [] (text w ∷ [])

-- the pieces of a slot; `pointed` says whether the shape stands directly under a pointer or a reference
unfoldable pub slot_pieces : Slot → Pointed → Parts → ℕ → List Piece
slot_pieces (slot.word w) pointed p flags = text w ∷ []
slot_pieces (slot.kind_word w) pointed p flags = kind_word_pieces w pointed flags
slot_pieces (slot.number i) pointed p flags = number_at p.numbers i
slot_pieces slot.lengths pointed p flags = each_level p.numbers
slot_pieces slot.qualifiers pointed p flags = qualifiers p.set flags
slot_pieces slot.pointer_qualifiers pointed p flags = mark_qualifiers (full_space flags) p.set
slot_pieces slot.unaligned pointed p flags = unaligned p.unaligned flags
slot_pieces (slot.mark w) pointed p flags = marked p.unaligned w p.set flags
slot_pieces slot.opening pointed p flags = opening pointed flags
slot_pieces slot.closing pointed p flags = closing pointed
slot_pieces (slot.symbol i) pointed p flags = pieces_at p.symbols i
slot_pieces (slot.name i) pointed p flags = pieces_at p.names i
slot_pieces slot.numbers pointed p flags = each_number p.numbers true flags
slot_pieces slot.comma pointed p flags = separator false flags
slot_pieces (slot.index i) pointed p flags = index_at p.numbers i
slot_pieces (slot.rank i) pointed p flags = rank_at p.numbers i flags
slot_pieces (slot.hexadecimal i) pointed p flags = hexadecimal_at p.numbers i
slot_pieces slot.bytes pointed p flags = text p.bytes ∷ []
slot_pieces slot.table_qualifiers pointed p flags = table_qualifiers p.set
slot_pieces (slot.names_word w) pointed p flags = names_word_pieces w p.names
slot_pieces (slot.names w) pointed p flags = parted w p.names true
slot_pieces (slot.type_at i) pointed p flags = pieces_at p.types i
slot_pieces (slot.types_from i) pointed p flags = parted (comma flags) (drop i p.types) true
slot_pieces (slot.literal is_wide) pointed p flags = literal_pieces is_wide p.numbers

-- the pieces of slots, in their order
unfoldable pub laid : List Slot → Pointed → Parts → ℕ → List Piece
laid [] pointed p flags = []
laid (s ∷ ss) pointed p flags = slot_pieces s pointed p flags ++ laid ss pointed p flags

-- the weight of slots, each of which prints names and types that weigh at most `parts`
unfoldable pub slots_weight : List Slot → ℕ → ℕ
slots_weight [] parts = 1
slots_weight (s ∷ ss) parts = 1 + parts + slots_weight ss parts
