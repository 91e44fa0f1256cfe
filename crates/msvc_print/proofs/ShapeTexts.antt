-- The pieces of shapes are UTF-8 if the names in them are.
use Rattle.std.proofs.Common.{ℕ, zero, suc, ◌+◌, ◌<◌, ◌/◌, ◌%◌, pos, List, [], ◌∷◌, Bool, true}
use Rattle.std.proofs.Common.{◌≡◌, ◌&&◌, leb, ltb, ltb-true, true≢false, sym}
use Rattle.std.proofs.Common.{false, cond, drop, ◌==◌, Option, Some, None, refl, arith, codes}
use Rattle.std.proofs.lemmas.Str.{IsUtf8-from_ascii}
use Rattle.std.proofs.lemmas.Str.Ascii.{IsAscii-cons, IsAscii-nil}
use Rattle.std.specs.Str.{IsAscii, IsUtf8}
use Rattle.msvc_nodes.specs.declared.nodes.Number.{Number}
use Rattle.msvc_print.specs.Flags.{has, space_after_comma}
use Rattle.msvc_print.specs.Pieces.{Piece, text}
use Rattle.msvc_print.specs.Shapes.{Parts, each_level, each_number, hexadecimal_pieces, index_pieces, laid}
use Rattle.msvc_print.specs.Shapes.{level_pieces, names_word_pieces, number_pieces, of_number_at, parted, parts}
use Rattle.msvc_print.specs.Shapes.{pieces_at, rank_pieces, slot_pieces}
use Rattle.msvc_print.specs.Functions.{comma}
use Rattle.msvc_print.specs.Strings.{bytes_of, character, character_at, characters, escape, escape_in, escaped, escapes}
use Rattle.msvc_print.specs.Strings.{hex, hex_byte, hex_digit, hex_from, is_printable, literal, literal_pieces}
use Rattle.msvc_print.specs.Strings.{plain_character, quoted as string, size, start, width}
use Rattle.msvc_print.specs.Words.{full_space}
use Rattle.msvc_print.specs.declared.strings.Width.{Width}
use Rattle.msvc_print.specs.declared.strings.Width.TheVariants.{Wide, One, Two, Four}
use Rattle.msvc_shapes.proofs.PlainWords.{EachWord, WordOfSlot, slots-ascii}
use Rattle.msvc_shapes.specs.Layouts.{Slot, slots}
use Rattle.msvc_shapes.specs.Layouts as slot
use Rattle.msvc_shapes.specs.declared.layouts.Side.{Side}
use Rattle.msvc_print.proofs.PieceTexts.{AreTexts, AreTexts-append, AreTexts-choice, AreTexts-none, AreTexts-text}
use Rattle.msvc_print.proofs.PieceTexts.{AreTexts-unless, AreTexts-word, IsAscii-choice, closing-texts}
use Rattle.msvc_print.proofs.PieceTexts.{hex_choice-ascii, hexadecimal-ascii, mark_qualifiers-texts, marked-texts}
use Rattle.msvc_print.proofs.PieceTexts.{opening-texts, qualifiers-texts, separator-texts, signed_decimal-utf8}
use Rattle.msvc_print.proofs.PieceTexts.{table_qualifiers-texts, unaligned-texts}
use Rattle.msvc_print.specs.declared.pointed.Pointed.{Pointed}

-- numbers of shapes
number_pieces-texts : (n : Number) → AreTexts (number_pieces n)
unfolding lib.Utf8.encode
number_pieces-texts n = AreTexts-append _ _ (AreTexts-word n.is_negative (codes "-") (codes "-", (refl, refl)))
    (AreTexts-text _ [] (signed_decimal-utf8 (pos n.value)) AreTexts-none)

of_number_at-texts : (f : Number → List Piece) (ns : List Number) (i : ℕ) → ((n : Number) → AreTexts (f n)) →
    AreTexts (of_number_at f ns i)
of_number_at-texts f [] i h = AreTexts-none
of_number_at-texts f (n ∷ ns) zero h = h n
of_number_at-texts f (n ∷ ns) (suc i) h = of_number_at-texts f ns i h

level_pieces-texts : (n : Number) → AreTexts (level_pieces n)
unfolding lib.Utf8.encode
level_pieces-texts n = AreTexts-text (codes "[") _ (codes "[", (refl, refl)) (AreTexts-append _ _
    (AreTexts-unless (n.value == 0) _ (number_pieces-texts n))
    (AreTexts-text (codes "]") [] (codes "]", (refl, refl)) AreTexts-none))

each_level-texts : (ns : List Number) → AreTexts (each_level ns)
each_level-texts [] = AreTexts-none
each_level-texts (n ∷ ns) = AreTexts-append _ _ (level_pieces-texts n) (each_level-texts ns)

each_number-texts : (ns : List Number) (first : Bool) (flags : ℕ) → AreTexts (each_number ns first flags)
each_number-texts [] first flags = AreTexts-none
each_number-texts (n ∷ ns) first flags = AreTexts-append _ _ (separator-texts first flags)
    (AreTexts-append _ _ (number_pieces-texts n) (each_number-texts ns false flags))

index_pieces-texts : (n : Number) → AreTexts (index_pieces n)
unfolding lib.Utf8.encode
index_pieces-texts n = AreTexts-unless (n.value == 0) _ (AreTexts-text (codes "{") _ (codes "{", (refl, refl))
    (AreTexts-append _ _ (number_pieces-texts n)
    (AreTexts-text (codes "}") [] (codes "}", (refl, refl)) AreTexts-none)))

comma-ascii : (flags : ℕ) → IsAscii (comma flags)
comma-ascii flags = IsAscii-choice (has flags space_after_comma) (codes ", ") (codes ",")
    (IsAscii-cons 44 (32 ∷ []) (omega arith) (IsAscii-cons 32 [] (omega arith) IsAscii-nil))
    (IsAscii-cons 44 [] (omega arith) IsAscii-nil)

rank_pieces-texts : (flags : ℕ) (n : Number) → AreTexts (rank_pieces n flags)
rank_pieces-texts flags n = AreTexts-unless (n.value == 1) _
    (AreTexts-text _ _ (IsUtf8-from_ascii (comma flags) (comma-ascii flags)) (number_pieces-texts n))

hexadecimal_pieces-texts : (n : Number) → AreTexts (hexadecimal_pieces n)
hexadecimal_pieces-texts n = AreTexts-text _ [] (IsUtf8-from_ascii _ (hexadecimal-ascii n.value)) AreTexts-none

-- strings
hex_digit-ascii : (d : ℕ) → d < 16 → hex_digit d < 128
hex_digit-ascii d h = hex_choice-ascii _ d h

hex_byte-texts : (b : ℕ) → b < 256 → AreTexts (hex_byte b)
hex_byte-texts b h = AreTexts-text _ [] (IsUtf8-from_ascii _
    (IsAscii-cons (hex_digit (b / 16)) (hex_digit (b % 16) ∷ []) (hex_digit-ascii (b / 16) (omega arith))
    (IsAscii-cons (hex_digit (b % 16)) [] (hex_digit-ascii (b % 16) (omega arith)) IsAscii-nil))) AreTexts-none

hex_from-texts : (unit c : ℕ) → AreTexts (hex_from unit c)
hex_from-texts unit c = AreTexts-choice _ _ _ (hex_byte-texts (c / unit % 256) (omega arith)) AreTexts-none

hex-texts : (c : ℕ) → AreTexts (hex c)
unfolding hex
hex-texts c = AreTexts-append _ _ (hex_from-texts 16777216 c) (AreTexts-append _ _ (hex_from-texts 65536 c)
    (AreTexts-append _ _ (hex_from-texts 256 c) (hex_byte-texts (c % 256) (omega arith))))

AreTexts-if : (b : Bool) (xs ys : List Piece) → (b ≡ true → AreTexts xs) → AreTexts ys → AreTexts (cond b xs ys)
AreTexts-if true xs ys h h' = h refl
AreTexts-if false xs ys h h' = h'

below : (a : Bool) (c : ℕ) → (a && ltb c 127) ≡ true → c < 127
below true c e = ltb-true c 127 e
below false c e = absurd (true≢false (sym e))

printable-texts : (c : ℕ) → is_printable c ≡ true → AreTexts (text (c ∷ []) ∷ [])
printable-texts c e = AreTexts-text (c ∷ []) [] (IsUtf8-from_ascii (c ∷ [])
    (IsAscii-cons c [] (omega (arith, below (leb 32 c) c e)) IsAscii-nil)) AreTexts-none

plain_character-texts : (c : ℕ) → AreTexts (plain_character c)
unfolding lib.Utf8.encode
plain_character-texts c = AreTexts-if (is_printable c) _ _ (printable-texts c)
    (AreTexts-text (codes "\\x") _ (codes "\\x", (refl, refl)) (hex-texts c))

-- the byte behind a backslash
abbrev IsLetter : Option ℕ → Type 0
IsLetter (Some letter) = letter < 128
IsLetter None = Unit {0}

IsLetter-choice : (b : Bool) (letter : ℕ) (x : Option ℕ) → letter < 128 → IsLetter x → IsLetter (cond b (Some letter) x)
IsLetter-choice true letter x h h' = h
IsLetter-choice false letter x h h' = h'

abbrev AreLetters : List (ℕ × ℕ) → Type 0
AreLetters [] = Unit {0}
AreLetters (x ∷ xs) = (x.1 < 128) × AreLetters xs

escape_in-letter : (xs : List (ℕ × ℕ)) (c : ℕ) → AreLetters xs → IsLetter (escape_in xs c)
escape_in-letter [] c h = tt
escape_in-letter (x ∷ xs) c h = IsLetter-choice (x.0 == c) x.1 (escape_in xs c) h.0 (escape_in-letter xs c h.1)

escapes-letters : AreLetters escapes
escapes-letters = (
  omega arith,
  (
    omega arith,
    (
      omega arith,
      (
        omega arith,
        (
          omega arith,
          (
            omega arith,
            (
              omega arith,
              (omega arith, (omega arith, (omega arith, (omega arith, tt)))),
            ),
          ),
        ),
      ),
    ),
  ),
)

escape-letter : (c : ℕ) → IsLetter (escape c)
unfolding escape
escape-letter c = escape_in-letter escapes c escapes-letters

escaped-texts : (x : Option ℕ) (c : ℕ) → IsLetter x → AreTexts (escaped x c)
escaped-texts (Some letter) c h = AreTexts-text _ [] (IsUtf8-from_ascii _
    (IsAscii-cons 92 (letter ∷ []) (omega arith) (IsAscii-cons letter [] h IsAscii-nil))) AreTexts-none
escaped-texts None c h = plain_character-texts c

character-texts : (c : ℕ) → AreTexts (character c)
unfolding character
character-texts c = escaped-texts (escape c) c (escape-letter c)

characters-texts : (w : Width) (bytes : List ℕ) (i count : ℕ) → AreTexts (characters w bytes i count)
characters-texts w bytes i zero = AreTexts-none
characters-texts w bytes i (suc count) = AreTexts-append _ _ (character-texts (character_at w bytes i))
    (characters-texts w bytes (i + size w) count)

start-utf8 : (w : Width) → IsUtf8 (start w)
unfolding lib.Utf8.encode
start-utf8 Wide = (start Wide, (refl, refl))
start-utf8 One = (start One, (refl, refl))
start-utf8 Two = (start Two, (refl, refl))
start-utf8 Four = (start Four, (refl, refl))

string-texts : (w : Width) (cut : Bool) (bytes : List ℕ) → AreTexts (string w cut bytes)
unfolding lib.Utf8.encode
string-texts w cut bytes = AreTexts-text (start w) _ (start-utf8 w) (AreTexts-append _ _ (characters-texts w bytes 0 _)
    (AreTexts-text (codes "\"") _ (codes "\"", (refl, refl))
    (AreTexts-word cut (codes "...") (codes "...", (refl, refl)))))

literal_pieces-texts : (is_wide : Bool) (ns : List Number) → AreTexts (literal_pieces is_wide ns)
unfolding literal
literal_pieces-texts is_wide [] = AreTexts-none
literal_pieces-texts is_wide (n ∷ ns) = string-texts (width is_wide n.value (bytes_of ns)) _ (bytes_of ns)

-- names of shapes
abbrev pub EachAreTexts : List (List Piece) → Type 0
EachAreTexts [] = Unit {0}
EachAreTexts (x ∷ xs) = AreTexts x × EachAreTexts xs

pieces_at-texts : (xs : List (List Piece)) (i : ℕ) → EachAreTexts xs → AreTexts (pieces_at xs i)
pieces_at-texts [] i h = AreTexts-none
pieces_at-texts (x ∷ xs) zero h = h.0
pieces_at-texts (x ∷ xs) (suc i) h = pieces_at-texts xs i h.1

names_word-texts : (w : List ℕ) (xs : List (List Piece)) → IsAscii w → AreTexts (names_word_pieces w xs)
names_word-texts w [] h = AreTexts-none
names_word-texts w (x ∷ xs) h = AreTexts-text w [] (IsUtf8-from_ascii w h) AreTexts-none

parted-texts : (w : List ℕ) (xs : List (List Piece)) (first : Bool) → IsAscii w → EachAreTexts xs →
    AreTexts (parted w xs first)
parted-texts w [] first h hs = AreTexts-none
parted-texts w (x ∷ xs) first h hs =
    AreTexts-append _ _ (AreTexts-unless first _ (AreTexts-text w [] (IsUtf8-from_ascii w h) AreTexts-none))
    (AreTexts-append _ _ hs.0 (parted-texts w xs false h hs.1))

dropped-texts : (i : ℕ) (xs : List (List Piece)) → EachAreTexts xs → EachAreTexts (drop i xs)
dropped-texts zero [] h = tt
dropped-texts zero (x ∷ xs) h = h
dropped-texts (suc i) [] h = tt
dropped-texts (suc i) (x ∷ xs) h = dropped-texts i xs h.1

-- slots
slot-texts : (s : Slot) (pointed : Pointed) (p : Parts) (flags : ℕ) → WordOfSlot IsAscii s → IsUtf8 p.bytes →
    EachAreTexts p.symbols → EachAreTexts p.names → EachAreTexts p.types → AreTexts (slot_pieces s pointed p flags)
unfolding slot_pieces
slot-texts (slot.word w) pointed p flags h hb hs hn ht = AreTexts-text w [] (IsUtf8-from_ascii w h) AreTexts-none
slot-texts (slot.kind_word w) pointed p flags h hb hs hn ht =
    AreTexts-unless _ _ (AreTexts-text w [] (IsUtf8-from_ascii w h) AreTexts-none)
slot-texts (slot.number i) pointed p flags h hb hs hn ht = of_number_at-texts _ p.numbers i number_pieces-texts
slot-texts slot.lengths pointed p flags h hb hs hn ht = each_level-texts p.numbers
slot-texts slot.qualifiers pointed p flags h hb hs hn ht = qualifiers-texts p.set flags
slot-texts slot.pointer_qualifiers pointed p flags h hb hs hn ht = mark_qualifiers-texts (full_space flags) p.set
slot-texts slot.unaligned pointed p flags h hb hs hn ht = unaligned-texts p.unaligned flags
slot-texts (slot.mark w) pointed p flags h hb hs hn ht = marked-texts p.unaligned w p.set flags (IsUtf8-from_ascii w h)
slot-texts slot.opening pointed p flags h hb hs hn ht = opening-texts pointed flags
slot-texts slot.closing pointed p flags h hb hs hn ht = closing-texts pointed
slot-texts (slot.symbol i) pointed p flags h hb hs hn ht = pieces_at-texts p.symbols i hs
slot-texts (slot.name i) pointed p flags h hb hs hn ht = pieces_at-texts p.names i hn
slot-texts slot.numbers pointed p flags h hb hs hn ht = each_number-texts p.numbers true flags
slot-texts slot.comma pointed p flags h hb hs hn ht = separator-texts false flags
slot-texts (slot.index i) pointed p flags h hb hs hn ht = of_number_at-texts _ p.numbers i index_pieces-texts
slot-texts (slot.rank i) pointed p flags h hb hs hn ht =
    of_number_at-texts (λ n. rank_pieces n flags) p.numbers i (rank_pieces-texts flags)
slot-texts (slot.hexadecimal i) pointed p flags h hb hs hn ht =
    of_number_at-texts _ p.numbers i hexadecimal_pieces-texts
slot-texts slot.bytes pointed p flags h hb hs hn ht = AreTexts-text p.bytes [] hb AreTexts-none
slot-texts slot.table_qualifiers pointed p flags h hb hs hn ht = table_qualifiers-texts p.set
slot-texts (slot.names_word w) pointed p flags h hb hs hn ht = names_word-texts w p.names h
slot-texts (slot.names w) pointed p flags h hb hs hn ht = parted-texts w p.names true h hn
slot-texts (slot.type_at i) pointed p flags h hb hs hn ht = pieces_at-texts p.types i ht
slot-texts (slot.types_from i) pointed p flags h hb hs hn ht =
    parted-texts (comma flags) (drop i p.types) true (comma-ascii flags) (dropped-texts i p.types ht)
slot-texts (slot.literal is_wide) pointed p flags h hb hs hn ht = literal_pieces-texts is_wide p.numbers

laid-texts : (ss : List Slot) (pointed : Pointed) (p : Parts) (flags : ℕ) → EachWord IsAscii ss → IsUtf8 p.bytes →
    EachAreTexts p.symbols → EachAreTexts p.names → EachAreTexts p.types → AreTexts (laid ss pointed p flags)
unfolding laid
laid-texts [] pointed p flags h hb hs hn ht = AreTexts-none
laid-texts (s ∷ ss) pointed p flags h hb hs hn ht =
    AreTexts-append _ _ (slot-texts s pointed p flags h.0 hb hs hn ht) (laid-texts ss pointed p flags h.1 hb hs hn ht)

pub slots-texts : (row : ℕ) (s : Side) (pointed : Pointed) (is : Bool) (set : ℕ) (zs : List Number) (bytes : List ℕ)
    (ns os ts : List (List Piece)) (flags : ℕ) → IsUtf8 bytes → EachAreTexts ns → EachAreTexts os →
    EachAreTexts ts → AreTexts (laid (slots row s) pointed (parts is set zs bytes ns os ts) flags)
slots-texts row s pointed is set zs bytes ns os ts flags hb hs hn ht =
    laid-texts (slots row s) pointed (parts is set zs bytes ns os ts) flags (slots-ascii row s) hb hs hn ht
