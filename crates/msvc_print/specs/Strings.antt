-- The text of a string literal, by its length in bytes and the bytes that its symbol has, which may be fewer.
use Rattle.std.specs.Prelude.{ℕ, zero, suc, ◌+◌, ◌-◌, ◌*◌, ◌/◌, ◌%◌, ◌==◌, ◌&&◌, leb, ltb, List, [], ◌∷◌, ◌++◌}
use Rattle.std.specs.Prelude.{Bool, true, false, cond, codes, fold, length, slice_index, Option, Some, None}
use Rattle.msvc_nodes.specs.declared.nodes.Number.{Number}
use Rattle.msvc_print.specs.Pieces.{Piece, text}
use Rattle.msvc_print.specs.declared.strings.Width.{Width}
use Rattle.msvc_print.specs.declared.strings.Width.TheVariants.{Wide, One, Two, Four}

-- the bytes of a character
abbrev pub size : Width → ℕ
size Wide = 2
size One = 1
size Two = 2
size Four = 4

-- what the text begins with
abbrev pub start : Width → List ℕ
start Wide = codes "L\""
start One = codes "\""
start Two = codes "u\""
start Four = codes "U\""

-- one byte more among the zero bytes that were counted, all of them or those behind the last byte that is not zero
abbrev pub count_zero : Bool → ℕ → ℕ → ℕ
count_zero at_end zeros b = cond (b == 0) (zeros + 1) (cond at_end 0 zeros)

-- the number of zero bytes, all of them or those at the end
abbrev pub zeros_of : Bool → List ℕ → ℕ
zeros_of at_end bytes = fold (count_zero at_end) 0 bytes

-- the width that zero bytes let guess: four bytes from `four` zero bytes on, if the length allows it, and two bytes
-- from `two` zero bytes on
abbrev pub guessed : ℕ → ℕ → ℕ → ℕ → Width
guessed four two zeros len = cond (leb four zeros && len % 4 == 0) Four (cond (leb two zeros) Two One)

-- the width of the characters of a literal that is not wide: a short one is guessed by the zero bytes at its end, one
-- of 32 bytes or more by the share of zero bytes among all
unfoldable pub narrow_width : ℕ → List ℕ → Width
narrow_width len bytes = cond (len % 2 == 1) One (cond (ltb len 32)
    (guessed 4 2 (zeros_of true bytes) len)
    (guessed (2 * length bytes / 3) (length bytes / 3) (zeros_of false bytes) len))

abbrev pub width : Bool → ℕ → List ℕ → Width
width is_wide len bytes = cond is_wide Wide (narrow_width len bytes)

-- the character whose bytes begin at a place: a wide one has the high byte first, the others the low one
unfoldable pub character_at : Width → List ℕ → ℕ → ℕ
character_at Wide bytes i = 256 * slice_index bytes i + slice_index bytes (i + 1)
character_at One bytes i = slice_index bytes i
character_at Two bytes i = slice_index bytes i + 256 * slice_index bytes (i + 1)
character_at Four bytes i = slice_index bytes i + 256 * slice_index bytes (i + 1)
    + 65536 * slice_index bytes (i + 2) + 16777216 * slice_index bytes (i + 3)

-- the characters that a byte behind a backslash stands for, each with that byte
abbrev pub escapes : List (ℕ × ℕ)
escapes = (0, 48) ∷ (7, 97) ∷ (8, 98) ∷ (9, 116) ∷ (10, 110) ∷ (11, 118) ∷ (12, 102) ∷ (13, 114) ∷ (34, 34) ∷ (39, 39)
    ∷ (92, 92) ∷ []

-- the byte of a character in such a list
abbrev pub escape_in : List (ℕ × ℕ) → ℕ → Option ℕ
escape_in [] c = None
escape_in (x ∷ xs) c = cond (x.0 == c) (Some x.1) (escape_in xs c)

-- the byte behind a backslash that stands for a character, if there is one
unfoldable pub escape : ℕ → Option ℕ
escape c = escape_in escapes c

-- a hex digit, and the two of a byte
abbrev pub hex_digit : ℕ → ℕ
hex_digit d = cond (ltb d 10) (48 + d) (55 + d)

abbrev pub hex_byte : ℕ → List Piece
hex_byte b = text (hex_digit (b / 16) ∷ hex_digit (b % 16) ∷ []) ∷ []

-- the byte of a number that `unit` is the lowest value of, if the number has so many bytes
abbrev pub hex_from : ℕ → ℕ → List Piece
hex_from unit c = cond (leb unit c) (hex_byte (c / unit % 256)) []

-- a character by its number: the hex digits of its bytes, the highest first
unfoldable pub hex : ℕ → List Piece
hex c = hex_from 16777216 c ++ (hex_from 65536 c ++ (hex_from 256 c ++ hex_byte (c % 256)))

-- whether a character is a printable one of ASCII
abbrev pub is_printable : ℕ → Bool
is_printable c = leb 32 c && ltb c 127

-- a character that no letter stands for: itself where it is printable, and else its hex digits
abbrev pub plain_character : ℕ → List Piece
plain_character c = cond (is_printable c) (text (c ∷ []) ∷ []) (text (codes "\\x") ∷ hex c)

-- a character
abbrev pub escaped : Option ℕ → ℕ → List Piece
escaped (Some letter) c = text (92 ∷ letter ∷ []) ∷ []
escaped None c = plain_character c

unfoldable pub character : ℕ → List Piece
character c = escaped (escape c) c

-- as many characters, from a place on
abbrev pub characters : Width → List ℕ → ℕ → ℕ → List Piece
characters w bytes i zero = []
characters w bytes i (suc count) = character (character_at w bytes i) ++ characters w bytes (i + size w) count

-- what stands after the characters, of which a literal that is cut has more than its symbol
abbrev pub end : Bool → List Piece
end cut = text (codes "\"") ∷ cond cut (text (codes "...") ∷ []) []

-- how many characters are shown of `read` bytes: all whole groups, without the last one unless the literal is cut
abbrev pub count : Width → Bool → ℕ → ℕ
count w cut read = cond cut (read / size w) (read / size w - 1)

-- the text with characters of a width
abbrev pub quoted : Width → Bool → List ℕ → List Piece
quoted w cut bytes = text (start w) ∷ (characters w bytes 0 (count w cut (length bytes))
    ++ end cut)

-- the text of a literal
unfoldable pub literal : Bool → ℕ → List ℕ → List Piece
literal is_wide len bytes = quoted (width is_wide len bytes) (ltb (length bytes) len) bytes

-- numbers as bytes
abbrev pub bytes_of : List Number → List ℕ
bytes_of [] = []
bytes_of (n ∷ ns) = n.value % 256 ∷ bytes_of ns

-- the text of a literal by its numbers, its length and its bytes
abbrev pub literal_pieces : Bool → List Number → List Piece
literal_pieces is_wide [] = []
literal_pieces is_wide (len ∷ bytes) = literal is_wide len.value (bytes_of bytes)
