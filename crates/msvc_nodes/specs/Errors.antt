-- What an error says, and the part of an input that a rejection shows.
use Rattle.std.specs.Prelude.{◌≡◌, ℕ, List, ◌++◌, Option, Some, None, length, take, drop, nat_le, if◌then◌else◌}
use Rattle.std.specs.Prelude.{◌==◌, codes, string_bytes}
use Rattle.std.specs.Cmp.Lexicographic.{pointwise}
use Rattle.std.specs.Cow.{cow_str_bytes}
use Rattle.std.specs.Fmt.{◌++?◌, debug_str, decimal}
use Rattle.std.specs.Str.{encode_utf8_all}
use Rattle.bstr.specs.Utf8.{lossy_chars}
use Rattle.msvc_nodes.specs.declared.error.ErrorRepr.{ErrorRepr}
use Rattle.msvc_nodes.specs.declared.error.ErrorRepr.TheVariants.{ParseError, Other, Memory}
use Rattle.msvc_nodes.specs.declared.error.Limit.{Limit}
use Rattle.msvc_nodes.specs.declared.error.Limit.TheVariants.{Nodes, Bytes}

-- what a rejection shows of the bytes that remain at its offset: the first 20 and three dots where there are more
abbrev pub shortened : List ℕ → List ℕ
shortened bytes = if nat_le (length bytes) 20 then bytes else take 20 bytes ++ codes "..."

-- the context of a rejection of an ASCII input at an offset
abbrev pub context_of : List ℕ → ℕ → List ℕ
context_of input offset = shortened (drop offset input)

-- bytes as text, with U+FFFD for what is no character
abbrev pub text_of : List ℕ → List ℕ
text_of bytes = encode_utf8_all (lossy_chars bytes)

-- what a rejection shows, as text, of any bytes that remain at its offset: the first 20, whose end may split a
-- character, and three dots where there are more
abbrev pub shortened_text : List ℕ → List ℕ
shortened_text bytes =
    if nat_le (length bytes) 20 then text_of bytes else text_of (take 20 bytes) ++ codes "..."

-- the context of a rejection of any input at an offset
abbrev pub context_text_of : List ℕ → ℕ → List ℕ
context_text_of input offset = shortened_text (drop offset input)

-- the offset of an error, if it is a rejection
abbrev pub offset_of : ErrorRepr → Option ℕ
offset_of (ParseError message context offset) = Some offset
offset_of _ = None

-- the message of an error for a tree with more nodes than a caller allows
abbrev pub too_many_nodes : List ℕ
too_many_nodes = codes "more nodes than allowed"

-- the message of an error for a declaration with more bytes than a caller allows
abbrev pub too_long : List ℕ
too_long = codes "longer than allowed"

-- the limit that a message is about
abbrev pub message_limit : List ℕ → Option Limit
message_limit message =
    if pointwise (λ a b. a == b) message too_many_nodes then Some Nodes
    else if pointwise (λ a b. a == b) message too_long then Some Bytes else None

-- the limit that an error is about
abbrev pub limit_of : ErrorRepr → Option Limit
limit_of (ParseError message context offset) = message_limit (cow_str_bytes message)
limit_of _ = None

-- an error is out of memory, or else a rejection with a message, a context and an offset
abbrev pub IsRejectionOrMemory : List ℕ → List ℕ → ℕ → ErrorRepr → Type 0
IsRejectionOrMemory message context offset (ParseError m c o) =
    (cow_str_bytes m ≡ message) × (string_bytes c ≡ context) × (o ≡ offset)
IsRejectionOrMemory message context offset Memory = Unit {0}
IsRejectionOrMemory message context offset _ = ⊥

-- an error is out of memory, or else an error of a message alone
abbrev pub IsMessageOrMemory : List ℕ → ErrorRepr → Type 0
IsMessageOrMemory message (Other m) = string_bytes m ≡ message
IsMessageOrMemory message Memory = Unit {0}
IsMessageOrMemory message _ = ⊥

-- the text that an error prints of a rejection; nothing is said of a context that is not ASCII
abbrev pub rejection_text : (message context : List ℕ) (offset : ℕ) → Option (List ℕ)
rejection_text message context offset =
    Some message ++? Some (codes " (offset: ") ++? Some (decimal offset)
    ++? Some (codes ", remaining: ") ++? debug_str context ++? Some (codes ")")

-- the text that an error prints; nothing is said of a cause
abbrev pub error_text : ErrorRepr → Option (List ℕ)
error_text (ParseError message context offset) =
    rejection_text (cow_str_bytes message) (string_bytes context) offset
error_text (Other message) = Some (string_bytes message)
error_text Memory = Some (codes "out of memory")
error_text _ = None
