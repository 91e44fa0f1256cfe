-- What the filter's scan knows of the bytes before a place, and what it has found.
use Rattle.std.specs.Prelude.{ℕ, List, [], ◌∷◌, ◌+◌, ◌++◌, ◌≡◌, ◌≢◌, ◌≤◌, ◌<◌, ◌⊎◌, All, Option, Some, false}
use Rattle.std.specs.Prelude.{Bool, ◌||◌, Result, MatchResult, not, drop, length, map, take}
use Rattle.msvc_streams.specs.Runs.{IsLines}
use Rattle.msvc_streams.specs.declared.watched.Fault.{Fault}
use Rattle.msvc_streams.specs.declared.watched.Fault.TheVariants.{Read, Write, Memory}
use Rattle.msvc_symbol.specs.Grammars.{Choice}
use Rattle.msvc_symbol.specs.declared.grammar.Grammar.{Grammar}
use Rattle.msvc_filter.specs.Filtered.{IsFilteredFrom, IsSymbol, Part, declared, kept, text_of_parts}
use Rattle.msvc_filter.specs.FilterRuns.{max_held}
use Rattle.msvc_filter.specs.SymbolBounds.{blocks_start, byte_before, candidate, has_question_mark, is_mark}
use Rattle.msvc_filter.specs.SymbolBounds.{is_word_byte, starts_at, word_before}
use Rattle.msvc_filter.specs.declared.symbol_bounds.WordState.{WordState}

-- the scan knows of the bytes passed whether the word that ends with them has a `?`, and which byte is the last
pub record Keeps (scan : WordState) (last : ℕ) (passed : List ℕ) : Type 0 where
  pub seen : scan.seen_question_mark ≡ has_question_mark (word_before passed)
  pub before : scan.last ≡ byte_before last passed

-- whether a symbol of a grammar may start at the first of the bytes `left`, by what the scan knows
abbrev pub may_start : Grammar → WordState → (left : List ℕ) → Bool
may_start g scan [] = false
may_start g scan (b ∷ left) =
    starts_at g b (not (scan.seen_question_mark || blocks_start scan.last)) (is_word_byte scan.last)
    (candidate (b ∷ left))

-- no byte is a `?`
abbrev pub IsPlain : List ℕ → Type 0
IsPlain bytes = All (λ b. b ≢ 63) bytes

-- no symbol of a grammar starts with one of the bytes
abbrev pub IsUnmarked : Grammar → List ℕ → Type 0
IsUnmarked g bytes = All (λ b. is_mark g b ≡ false) bytes

-- the bytes passed, last byte first, once some more bytes are passed
abbrev pub past : (bytes passed : List ℕ) → List ℕ
past [] passed = passed
past (b ∷ bytes) passed = past bytes (b ∷ passed)

-- the parts of the bytes left, whatever bytes were passed of which the scan knows this
abbrev pub AreRest : Choice → WordState → List ℕ → List Part → Type 0
AreRest how scan left parts =
    (last : ℕ) (passed : List ℕ) → Keeps scan last passed → IsFilteredFrom how last passed left parts

-- the number of bytes that decide whether a symbol begins at the first of them: a candidate, and two bytes after it
abbrev pub max_looked_at : ℕ
max_looked_at = 4098

-- What begins before the place `until` of the bytes left is decided, also when the bytes `more` follow: these are none,
-- or enough bytes stand between.
abbrev pub IsDecided : (left : List ℕ) (until : ℕ) (more : List ℕ) → Type 0
IsDecided left until more = (more ≡ []) ⊎ (until + max_looked_at ≤ length left)

-- The bytes left become these parts up to the place `at`, where the scan is `after`: these parts stand before the parts
-- of the bytes from there on, also if more bytes follow.
abbrev pub ArePartsUpTo : Choice → (scan : WordState) (left : List ℕ) (until : ℕ) → List Part
    → (at : ℕ) (after : WordState) → Type 0
ArePartsUpTo how scan left until parts at after = (more : List ℕ) (rest : List Part) → IsDecided left until more
    → AreRest how after (drop at left ++ more) rest → AreRest how scan (left ++ more) (parts ++ rest)

-- The first symbol stands after `before` of the bytes left and takes `bytes` bytes, and its declaration is shown.
pub record IsFound (how : Choice) (scan : WordState) (left : List ℕ) (until before bytes : ℕ) (shown : Option (List ℕ))
    (after : WordState) : Type 0 where
  pub text : List ℕ
  pub printed : shown ≡ Some text
  pub some : 0 < bytes
  pub inside : before + bytes ≤ length left
  pub parts : ArePartsUpTo how scan left until (map kept (take before left) ++ declared text ∷ []) (before + bytes)
      after

-- the bytes left are filtered up to the place `at`, and the text is what they became
abbrev pub IsFilteredUpTo : Choice → (scan : WordState) (left : List ℕ) (until : ℕ) → List ℕ
    → (at : ℕ) (after : WordState) → Type 0
IsFilteredUpTo how scan left until text at after = (until ≤ at) × (at ≤ length left) × (parts : List Part)
    × (text ≡ text_of_parts parts) × ArePartsUpTo how scan left until parts at after

-- The bytes left begin with a symbol that takes `bytes` bytes, and its declaration is shown.
abbrev pub IsSymbolShown : Choice → (left : List ℕ) (bytes : ℕ) (shown : Option (List ℕ)) → Type 0
IsSymbolShown how left bytes shown = (text : List ℕ) × (shown ≡ Some text) × IsSymbol how left bytes text
    × (0 < bytes) × (bytes ≤ length left)

-- the text is that of parts of the bytes left
abbrev pub IsRestText : Choice → WordState → List ℕ → List ℕ → Type 0
IsRestText how scan left text = (parts : List Part) × AreRest how scan left parts × (text ≡ text_of_parts parts)

-- The text is written for some of the bytes left, after which the rest is left. The text stands before that of the
-- rest, whatever bytes follow. Nothing is written if at most `max_held` bytes are left.
pub record IsDecidedText (how : Choice) (scan : WordState) (left text : List ℕ) (after : WordState) (rest : List ℕ)
    : Type 0 where
  pub parts : List Part
  pub is_text : text ≡ text_of_parts parts
  pub fewer : length rest ≤ length left
  pub nothing_of_short : length left ≤ max_held → parts ≡ []
  pub before_rest : (more : List ℕ) (others : List Part) → AreRest how after (rest ++ more) others
      → AreRest how scan (left ++ more) (parts ++ others)

-- the text is written for some of the bytes left
abbrev pub IsDecidedTextOf : Choice → WordState → List ℕ → List ℕ → Type 0
IsDecidedTextOf how scan left text = (after : WordState) × (rest : List ℕ) × IsDecidedText how scan left text after
    rest

-- What is written for lines, of which the first may have begun before, when a fault came: a beginning of their text if
-- a write failed, and the text of the first of them if memory did not suffice.
abbrev pub LeavesLines : Fault → Choice → WordState → (lines text : List ℕ) → Type 0
LeavesLines Read how scan lines text = ⊥
LeavesLines Write how scan lines text = (more : List ℕ) × IsRestText how scan lines (text ++ more)
LeavesLines Memory how scan lines text = (first left : List ℕ) × (lines ≡ first ++ left) × IsLines first
    × IsRestText how scan first text × (first ≡ [] → text ≡ [])

-- what is written for lines
abbrev pub WritesLines : {A : Type 0} → Result A Fault → Choice → WordState → (lines text : List ℕ) → Type 0
WritesLines result how scan lines text =
    MatchResult result (λ _. IsRestText how scan lines text) (λ fault. LeavesLines fault how scan lines text)
