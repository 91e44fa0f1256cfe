-- What a failure becomes where it leaves a call: an error, or its offset and its text.
use Rattle.std.specs.Prelude.{ℕ, List, ◌-◌, ◌≡◌, ◌≤◌, IfSome, codes, length, string_bytes}
use Rattle.std.specs.Cow.{cow_str_bytes}
use Rattle.std.specs.Str.{IsAscii}
use Rattle.msvc_nodes.specs.Errors.{IsRejectionOrMemory, context_of, context_text_of, rejection_text, too_long}
use Rattle.msvc_nodes.specs.declared.error.ErrorRepr.{ErrorRepr}
use Rattle.msvc_nodes.specs.declared.error.ErrorRepr.TheVariants as error
use Rattle.msvc_grammar.specs.Rejections.{IsRejectionAt}
use Rattle.msvc_cursor.specs.Messages.{message_words}
use Rattle.msvc_cursor.specs.declared.failure.Message.{Message}
use Rattle.msvc_cursor.specs.declared.failure.MessageText.{MessageText}
use Rattle.msvc_cursor.specs.declared.failure.MessageText.TheVariants.{Fixed, Made}
use Rattle.msvc_cursor.specs.declared.failure.Failure.{Failure}
use Rattle.msvc_cursor.specs.declared.failure.Failure.TheVariants as failure

-- the error says the words of the message, unless memory ran out
abbrev pub IsSaid : Message → ErrorRepr → Type 0
IsSaid message (error.ParseError said context offset) = cow_str_bytes said ≡ message_words message
IsSaid message _ = Unit {0}

-- The error for callers: an allocation failure; a syntax error with the words of the message, at the offset of the
-- first unread byte; or that the declaration is too long, at the end of the symbol.
abbrev pub IsErrorOf : Failure → List ℕ → ErrorRepr → Type 0
IsErrorOf failure.Memory text e = e ≡ error.Memory
IsErrorOf (failure.Rejected message left) text e = IsRejectionAt text (length text - left) e × IsSaid message e
IsErrorOf (failure.TooLong read) text e = IsRejectionOrMemory too_long (context_text_of text read) read e

abbrev pub message_bytes : {A : Type 0} → MessageText A → List ℕ
message_bytes (Fixed text) = text.now
message_bytes (Made text) = string_bytes text

-- The text says why an input is rejected at this offset, in the words of the message; of an ASCII input it shows what
-- stands there.
pub record IsMessageAt (message : Message) (input : List ℕ) (offset : ℕ) (text : List ℕ) : Type 0 where
  pub context : List ℕ
  pub shows : IsAscii input → context ≡ context_of input offset
  pub says : IfSome (rejection_text (message_words message) context offset) (λ said. text ≡ said)

-- the symbol that was read is in the input
abbrev pub IsInside : List ℕ → Failure → Type 0
IsInside input failure.Memory = Unit {0}
IsInside input (failure.Rejected message left) = Unit {0}
IsInside input (failure.TooLong read) = read ≤ length input

-- the offset in the input at which a call fails, or 0 if memory ran out
abbrev pub offset_of_failure : List ℕ → Failure → ℕ
offset_of_failure input failure.Memory = 0
offset_of_failure input (failure.Rejected message left) = length input - left
offset_of_failure input (failure.TooLong read) = read

-- The text says why the call fails.
abbrev pub IsFailureText : List ℕ → Failure → List ℕ → Type 0
IsFailureText input failure.Memory text = text ≡ codes "out of memory"
IsFailureText input (failure.Rejected message left) text = IsMessageAt message input (length input - left) text
IsFailureText input (failure.TooLong read) text =
    IfSome (rejection_text too_long (context_text_of input read) read) (λ said. text ≡ said)
