-- Where a symbol may stand in a text: words, their starts, and the candidates that begin there.
use Rattle.std.specs.Prelude.{ℕ, List, [], ◌∷◌, ◌+◌, Bool, false, true, not, ◌&&◌, ◌||◌, ◌==◌, nat_lt, take, drop}
use Rattle.std.specs.Prelude.{if◌then◌else◌}
use Rattle.std.specs.Char.{is_ascii_alphabetic, is_ascii_alphanumeric, is_ascii_uppercase}
use Rattle.std.specs.List.{list_any, take_while}
use Rattle.std.specs.Str.Lossy.{utf8_valid_len}
use Rattle.msvc_rules.specs.Rules.{begins}
use Rattle.msvc_full_grammar.specs.Letters.{funclet_texts}
use Rattle.msvc_symbol.specs.declared.grammar.Grammar.{Grammar}
use Rattle.msvc_symbol.specs.declared.grammar.Grammar.TheVariants.{Crate, Full}

-- whether a byte is part of a word: a word is an unbroken row of letters, digits, `_`, `$`, `@` and `?`
abbrev pub is_word_byte : ℕ → Bool
is_word_byte b = is_ascii_alphanumeric b || (b == 95 || (b == 36 || (b == 64 || b == 63)))

-- whether a byte is one after which no symbol begins with a `?`: a letter, a digit or a full stop
abbrev pub blocks_start : ℕ → Bool
blocks_start b = is_ascii_alphanumeric b || b == 46

-- the bytes of the word that ends where the bytes `passed` end; in both lists the last byte is first
abbrev pub word_before : List ℕ → List ℕ
word_before passed = take_while is_word_byte passed

-- whether one of the bytes is a `?`
abbrev pub has_question_mark : List ℕ → Bool
has_question_mark bytes = list_any (λ b. b == 63) bytes

-- the byte before a place, from the bytes `passed` up to this place, last byte first, and the byte `last` before them
abbrev pub byte_before : (last : ℕ) (passed : List ℕ) → ℕ
byte_before last [] = last
byte_before last (b ∷ passed) = b

-- Whether a `?` at a place may start a symbol: whether it is the first `?` of its word, and the byte before it is none
-- after which no symbol begins.
abbrev pub is_free : (last : ℕ) (passed : List ℕ) → Bool
is_free last passed = not (has_question_mark (word_before passed) || blocks_start (byte_before last passed))

-- whether the byte before a place is part of a word
abbrev pub follows_word : (last : ℕ) (passed : List ℕ) → Bool
follows_word last passed = is_word_byte (byte_before last passed)

-- whether a byte is neither a space nor a control character
abbrev pub is_visible : ℕ → Bool
is_visible b = nat_lt 32 b && not (b == 127)

-- the number of bytes of the longest name that Microsoft's compiler gives
abbrev pub max_bytes : ℕ
max_bytes = 4096

-- the longest beginning of some bytes that is UTF-8
abbrev pub utf8_front : List ℕ → List ℕ
utf8_front bytes = take (utf8_valid_len bytes) bytes

-- the candidate for a symbol at a start: of the bytes from there the visible ones, of these at most `max_bytes`, and of
-- these the longest beginning that is UTF-8
abbrev pub candidate : List ℕ → List ℕ
candidate left = utf8_front (take max_bytes (take_while is_visible left))

-- whether some bytes begin as the name of a funclet
abbrev pub begins_funclet : List ℕ → Bool
begins_funclet bytes = list_any (λ row. begins bytes row.0) funclet_texts

-- whether letters alone stand before the end of a word
abbrev pub ends_in_letters : List ℕ → Bool
ends_in_letters [] = true
ends_in_letters (b ∷ bs) = if is_ascii_alphabetic b then ends_in_letters bs else not (is_word_byte b)

-- whether letters alone follow the first of some bytes before the end of its word, as they follow a full stop in *.BAK
abbrev pub is_file_ending : List ℕ → Bool
is_file_ending [] = false
is_file_ending (b ∷ bs) = ends_in_letters bs

-- Whether a symbol of a grammar may start at the byte `b` with this candidate, from whether a `?` may start one there
-- and whether a byte of a word precedes it. In Full the name of a type starts at a full stop that follows no word,
-- unless it may be the ending of a file's name, and a funclet at a `?` that follows none.
abbrev pub starts_at : Grammar → (b : ℕ) (free follows : Bool) (text : List ℕ) → Bool
starts_at Crate b free follows text = b == 63 && free
starts_at Full b free follows text =
    if b == 46 then not (follows || is_file_ending text) else (b == 63 && (free && not (follows && begins_funclet text)))

-- whether a symbol of a grammar may start at the first of the bytes `left`
abbrev pub is_start : Grammar → (last : ℕ) (passed left : List ℕ) → Bool
is_start g last passed [] = false
is_start g last passed (b ∷ left) =
    starts_at g b (is_free last passed) (follows_word last passed) (candidate (b ∷ left))

-- the byte beside `?` with which symbols of a grammar may start; `?` too if there is none
abbrev pub other_mark : Grammar → ℕ
other_mark Crate = 63
other_mark Full = 46

-- whether symbols of a grammar may start with a byte
abbrev pub is_mark : Grammar → ℕ → Bool
is_mark g b = b == 63 || b == other_mark g

-- whether a word ends before these bytes: the first of them is not part of a word
abbrev pub ends_word : List ℕ → Bool
ends_word [] = true
ends_word (b ∷ bs) = not (is_word_byte b)

-- whether the first of these bytes is an `@` or a capital that ends its word
abbrev pub is_trailing_byte : List ℕ → Bool
is_trailing_byte [] = false
is_trailing_byte (b ∷ bs) = (b == 64 || is_ascii_uppercase b) && ends_word bs

-- Whether the first of these bytes is a letter, a digit, an `_` or an `@`: a symbol before it then continues in a way
-- that the grammar doesn't know.
abbrev pub continues : List ℕ → Bool
continues [] = false
continues (b ∷ bs) = is_ascii_alphanumeric b || (b == 95 || b == 64)

-- The number of bytes that a symbol takes of which `read` bytes were read: these. Of real names the crate's grammar
-- leaves at most one byte unread, an `@` or a storage class, and the symbol takes it too.
abbrev pub symbol_extent : Grammar → List ℕ → ℕ → ℕ
symbol_extent Crate left read = if is_trailing_byte (drop read left) then read + 1 else read
symbol_extent Full left read = read
