-- The context of a rejection of an ASCII input needs no decoding.
use Rattle.std.proofs.Common.{◌≡◌, ℕ, ◌∙◌, List, subst, sym, take, drop}
use Rattle.std.proofs.lemmas.Str.{IsAscii-take, IsAscii-drop, IsUtf8-from_ascii, utf8_lossy-IsUtf8}
use Rattle.std.specs.Str.{IsAscii}
use Rattle.std.specs.Str.Lossy.{utf8_lossy}
use Rattle.bstr.proofs.lemmas.LossyLemmas.{lossy_chars-utf8_lossy}
use Rattle.msvc_nodes.specs.declared.error.ErrorRepr.{ErrorRepr}
use Rattle.msvc_nodes.specs.Errors.{IsRejectionOrMemory, context_of, context_text_of}
use Rattle.msvc_nodes.specs.Errors.{shortened, shortened_text, text_of}

-- what std replaces in bytes that are not UTF-8 is what the definition replaces
pub lossy_text : (bytes : List ℕ) → utf8_lossy bytes ≡ text_of bytes
lossy_text bytes = sym (lossy_chars-utf8_lossy bytes)

text_of-IsAscii : (bytes : List ℕ) → IsAscii bytes → text_of bytes ≡ bytes
text_of-IsAscii bytes ascii =
    lossy_chars-utf8_lossy bytes ∙ utf8_lossy-IsUtf8 bytes (IsUtf8-from_ascii bytes ascii)

shortened_text-IsAscii : (bytes : List ℕ) → IsAscii bytes → shortened_text bytes ≡ shortened bytes
shortened_text-IsAscii bytes ascii =
    let whole : text_of bytes ≡ bytes = text_of-IsAscii bytes ascii in
    let beginning : text_of (take 20 bytes) ≡ take 20 bytes =
    text_of-IsAscii (take 20 bytes) (IsAscii-take bytes 20 ascii) in
    cc

-- the context of an ASCII input has the same bytes
pub context_text-IsAscii : (input : List ℕ) (offset : ℕ) → IsAscii input
    → context_text_of input offset ≡ context_of input offset
context_text-IsAscii input offset ascii =
    shortened_text-IsAscii (drop offset input) (IsAscii-drop input offset ascii)

-- a rejection whose context was decoded has the bytes themselves as its context where they are ASCII
pub IsRejectionOrMemory-IsAscii : (message input : List ℕ) (offset : ℕ) (error : ErrorRepr)
    → IsAscii input
    → IsRejectionOrMemory message (context_text_of input offset) offset error
    → IsRejectionOrMemory message (context_of input offset) offset error
IsRejectionOrMemory-IsAscii message input offset error ascii refusal =
    let P : List ℕ → Type 0 = λ context. IsRejectionOrMemory message context offset error in
    subst P (context_text-IsAscii input offset ascii) refusal
