-- The pieces of a declaration, and the text that the pieces make.
use Rattle.std.specs.Prelude.{ℕ, List, [], ◌∷◌, ◌++◌, ◌-◌, Bool, cond, not, ◌==◌, ◌||◌, fold, length, slice_index}
use Rattle.std.specs.Char.{is_ascii_alphabetic, is_ascii_alphanumeric}
use Rattle.msvc_print.specs.declared.spaces.Space.{Space}
use Rattle.msvc_print.specs.declared.spaces.Space.TheVariants.{AfterPointer, AfterReference, AfterWord, UnlessOpen}
use Rattle.msvc_print.specs.declared.spaces.Space.TheVariants.{AfterAngle, AfterFullPointer, AfterFullReference}
use Rattle.msvc_print.specs.declared.spaces.Space.TheVariants.{AfterFullWord}

-- bytes as they are, or a space
pub data Piece : Type 0 where
  text : List ℕ → Piece
  -- a space, which is written or not by the byte before it
  space : Space → Piece

-- the last byte of a text, 0 if the text is empty
abbrev pub last_byte : List ℕ → ℕ
last_byte bytes = slice_index bytes (length bytes - 1)

abbrev pub blank : ℕ
blank = 32

abbrev pub percent : ℕ
percent = 37

abbrev pub ampersand : ℕ
ampersand = 38

abbrev pub opening_round : ℕ
opening_round = 40

abbrev pub closing_round : ℕ
closing_round = 41

abbrev pub star : ℕ
star = 42

abbrev pub closing_angle : ℕ
closing_angle = 62

abbrev pub caret : ℕ
caret = 94

-- whether a byte is an ASCII letter, `>` or `)`
abbrev pub ends_word : ℕ → Bool
ends_word b = is_ascii_alphabetic b || b == closing_angle || b == closing_round

-- whether a byte is an ASCII letter, an ASCII digit or `>`
abbrev pub ends_full_word : ℕ → Bool
ends_full_word b = is_ascii_alphanumeric b || b == closing_angle

-- whether a byte ends a word in the second grammar's style, or is `)` or `&`
abbrev pub ends_full_reference : ℕ → Bool
ends_full_reference b = ends_full_word b || b == closing_round || b == ampersand

-- whether a space is written after the byte `b`; the last three kinds are those of the second grammar's style
abbrev pub is_written_after : Space → ℕ → Bool
is_written_after AfterWord b = ends_word b
is_written_after AfterReference b = ends_word b || b == ampersand
is_written_after AfterPointer b = ends_word b || b == ampersand || b == star
is_written_after UnlessOpen b = not (b == blank || b == opening_round)
is_written_after AfterAngle b = b == closing_angle
is_written_after AfterFullWord b = ends_full_word b
is_written_after AfterFullReference b = ends_full_reference b
is_written_after AfterFullPointer b = ends_full_reference b || b == star || b == caret || b == percent

-- a text with one more piece after it
abbrev pub settle : List ℕ → Piece → List ℕ
settle before (text bytes) = before ++ bytes
settle before (space s) = cond (is_written_after s (last_byte before)) (before ++ blank ∷ []) before

-- a text with pieces after it, which are added from the left
unfoldable pub settle_all : List ℕ → List Piece → List ℕ
settle_all before pieces = fold settle before pieces

-- the text that pieces make
abbrev pub resolve : List Piece → List ℕ
resolve pieces = settle_all [] pieces
