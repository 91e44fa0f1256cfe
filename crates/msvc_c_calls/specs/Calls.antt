-- What the calls from C return and write, in terms of bytes and numbers.
use Rattle.std.specs.Prelude.{ℕ, List, ◌≡◌, ◌≤◌, Option, None, IfSome, codes, if◌then◌else◌, is_some, length, nat_lt}
use Rattle.std.specs.Prelude.{true}
use Rattle.std.specs.Str.{IsAscii, IsUtf8, IsValidUpTo}
use Rattle.msvc_demangler.specs.Counts.{node_count}
use Rattle.msvc_demangler.specs.Demangled.{IsDeclaredWithinIn}
use Rattle.msvc_demangler.specs.Errors as errors
use Rattle.msvc_demangler.specs.Errors.{context_of, context_text_of, message_limit, rejection_text}
use Rattle.msvc_demangler.specs.CallLimits.{Limits}
use Rattle.msvc_demangler.specs.Failures.{IsLongerIn}
use Rattle.msvc_demangler.specs.Filtered.{AreOnlyPartsIn, Part, text_of_parts}
use Rattle.msvc_demangler.specs.GrammarNames.{Grammar}
use Rattle.msvc_demangler.specs.GrammarNames.TheVariants.{Crate, Full}
use Rattle.msvc_demangler.specs.Grammars.{dialect_of, under}
use Rattle.msvc_demangler.specs.Limits.{IsWithin}
use Rattle.msvc_demangler.specs.ParsedIn.{IsParsedIn, IsSymbolLengthIn}
use Rattle.msvc_demangler.specs.RejectionsIn.{IsNoSymbolIn}
use Rattle.msvc_demangler.specs.Trees.{SymbolTree}
use Rattle.msvc_c_calls.specs.Buffers.{ArePartsWritten, IsWritten}

-- the flag FULL, the highest bit of a word of flags
abbrev pub full_flag : ℕ
full_flag = 0x80000000

-- the grammar that a word of flags chooses: Full if it has the flag, else the crate's
abbrev pub grammar_of : ℕ → Grammar
grammar_of flags = if nat_lt flags full_flag then Crate else Full

-- no beginning of the text is a symbol of the grammar whose tree is within the limit on nodes
abbrev pub IsNone : Grammar → (nodes : Option ℕ) → List ℕ → Type 0
IsNone g nodes text = IsNoSymbolIn (dialect_of g).grammar nodes text

-- the text with the status NOT_UTF8
abbrev pub not_utf8_text : List ℕ
not_utf8_text = codes "not UTF-8"

-- the text with the status OUT_OF_MEMORY
abbrev pub out_of_memory_text : List ℕ
out_of_memory_text = codes "out of memory"

-- the text has the message, the offset and the context of a rejection; it may be any if the context is not ASCII
abbrev pub Says : (message context : List ℕ) (offset : ℕ) (text : List ℕ) → Type 0
Says message context offset text = IfSome (rejection_text message context offset) (λ said. text ≡ said)

-- A grammar rejects the symbol with this message at this offset, and the text is that of the rejection.
pub record IsRejection (g : Grammar) (symbol message : List ℕ) (offset : ℕ) (text : List ℕ) : Type 0 where
  -- the offset is in the symbol
  pub inside : offset ≤ length symbol
  -- a text that does not begin as the grammar's symbols do is rejected at offset 0
  pub begins : ((dialect_of g).Begins symbol → ⊥) → offset ≡ 0
  -- the part of the symbol that the text shows
  pub context : List ℕ
  -- if the symbol is ASCII, the context is the part at the offset
  pub shows : IsAscii symbol → context ≡ context_of symbol offset
  pub says : Says message context offset text

-- The status, the offset and the text for a symbol that is not read in a grammar.
pub data IsNotRead (g : Grammar) (limits : Limits) (symbol : List ℕ) : (status offset : ℕ) (text : List ℕ)
    → Type 0 where
  -- INVALID: no beginning of the symbol is one, however many nodes it has, and the message is about no limit
  invalid : {offset : ℕ} {message text : List ℕ} → IsUtf8 symbol → IsNone g None symbol → message_limit message ≡ None
      → IsRejection g symbol message offset text
      → IsNotRead g limits symbol 1 offset text
  -- NOT_UTF8: the symbol is UTF-8 up to the offset
  not_utf8 : {offset : ℕ} → ¬ (IsUtf8 symbol) → IsValidUpTo symbol offset
      → IsNotRead g limits symbol 2 offset not_utf8_text
  -- OUT_OF_MEMORY
  out_of_memory : IsUtf8 symbol → IsNotRead g limits symbol 3 0 out_of_memory_text
  -- TOO_MANY_NODES: nodes are limited, no beginning of the symbol is one within the limit, and the message is about it
  too_many_nodes : {offset : ℕ} {text : List ℕ} → IsUtf8 symbol → IsNone g limits.nodes symbol
      → is_some limits.nodes ≡ true
      → IsRejection g symbol errors.too_many_nodes offset text
      → IsNotRead g limits symbol 4 offset text

-- What a call that demangles a symbol returns: the status, the offset, and the symbol's declaration or the text that
-- states why it has none.
pub data IsFound (g : Grammar) (limits : Limits) (symbol : List ℕ) (flags : ℕ) : (status offset : ℕ) (text : List ℕ)
    → Type 0 where
  -- OK
  declared : {text : List ℕ} → IsUtf8 symbol → IsDeclaredWithinIn g limits symbol flags text
      → IsFound g limits symbol flags 0 0 text
  not_read : {status offset : ℕ} {text : List ℕ} → IsNotRead g limits symbol status offset text
      → IsFound g limits symbol flags status offset text
  -- TOO_LONG: the symbol ends at the offset, and the text shows what follows the symbol
  too_long : {offset : ℕ} {text : List ℕ} → IsUtf8 symbol → IsLongerIn g limits symbol flags offset
      → Says errors.too_long (context_text_of symbol offset) offset text
      → IsFound g limits symbol flags 5 offset text

-- the symbol takes `bytes` bytes of the text, and its tree is within the limit on nodes
abbrev pub IsLength : Grammar → Option ℕ → List ℕ → ℕ → Type 0
IsLength g nodes symbol bytes = (tree : SymbolTree) × IsParsedIn (dialect_of g) symbol tree
    × IsWithin nodes (node_count tree) × IsSymbolLengthIn (dialect_of g) bytes symbol

-- What a call that measures a symbol returns: the status, the offset, and the number of bytes that the symbol takes.
pub data IsMeasured (g : Grammar) (limits : Limits) (symbol : List ℕ) : (status offset bytes : ℕ) → Type 0 where
  -- OK
  measured : {bytes : ℕ} → IsUtf8 symbol → IsLength g limits.nodes symbol bytes
      → IsMeasured g limits symbol 0 0 bytes
  -- the statuses and offsets of `IsNotRead`, without its text
  not_measured : {status offset : ℕ} {text : List ℕ} → IsNotRead g limits symbol status offset text
      → IsMeasured g limits symbol status offset 0

-- What a call that filters a text returns and writes: the status, the length, and the buffer `new` in place of `old`.
pub data IsFilteredInto (g : Grammar) (flags : ℕ) (text old new : List ℕ) : (status length : ℕ) → Type 0 where
  -- OK
  filtered : {parts : List Part} → AreOnlyPartsIn (under g flags) text parts → ArePartsWritten parts old new
      → IsFilteredInto g flags text old new 0 (length (text_of_parts parts))
  -- OUT_OF_MEMORY: the bytes after the NUL may be any
  not_filtered : (others : List ℕ) → length others ≡ length old → IsWritten out_of_memory_text others new
      → IsFilteredInto g flags text old new 3 (length out_of_memory_text)
