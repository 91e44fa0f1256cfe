-- The words of messages, the limit that they are about, and the text that says why an input is rejected.
use Rattle.std.proofs.Common.{◌≡◌, ◌≢◌, ℕ, List, Option, Some, None, Result, Ok, Err, IfOk, refl, subst}
use Rattle.std.proofs.Common.{true}
use Rattle.std.specs.Prelude.{IfErr, IfSome, is_none}
use Rattle.msvc_nodes.proofs.Contexts.{context_text-IsAscii}
use Rattle.msvc_nodes.specs.Errors.{context_text_of, message_limit, rejection_text}
use Rattle.msvc_nodes.specs.declared.error.Limit.{Limit}
use Rattle.msvc_nodes.specs.declared.error.Limit.TheVariants.{Bytes, Nodes}
use Rattle.msvc_cursor.specs.Errors.{IsMessageAt}
use Rattle.msvc_cursor.specs.Messages.{limit_of_message, limit_of_failure, may_fail_for, message_words}
use Rattle.msvc_cursor.specs.declared.failure.Message.{Message}
use Rattle.msvc_cursor.specs.declared.failure.Message.TheVariants as messages
use Rattle.msvc_cursor.specs.declared.failure.Failure.{Failure}

pub message-at : {S E : Type 0} (view : S → List ℕ) (message : Message) (input words : List ℕ) (offset : ℕ)
    (made : Result S E)
    → words ≡ message_words message
    → IfOk made (λ text. IfSome (rejection_text words (context_text_of input offset) offset) (λ said. view text ≡ said))
    → IfOk made (λ text. IsMessageAt message input offset (view text))
message-at view message input words offset (Ok text) same says =
    let context = context_text_of input offset in
    let Says : List ℕ → Type 0 = λ w. IfSome (rejection_text w context offset) (λ said. view text ≡ said) in
    record {
      context = context;
      shows = context_text-IsAscii input offset;
      says = subst Says same says;
    }
message-at view message input words offset (Err e) same says = tt

none-not-bytes : None ≢ Some Bytes
none-not-bytes e = absurd (cc)

-- the words of a message tell which limit it is about, and that is never the limit on bytes
words-and-bytes : (message : Message)
    → (message_limit (message_words message) ≡ limit_of_message message) × (limit_of_message message ≢ Some Bytes)
words-and-bytes messages.TooManyNodes = (refl, λ e. let no : Some Nodes ≡ Some Bytes = e in absurd (cc))
words-and-bytes _ = (refl, none-not-bytes)

-- the words tell which limit a message is about
pub words-limit : (message : Message) → message_limit (message_words message) ≡ limit_of_message message
words-limit message = (words-and-bytes message).0

-- no message is about the limit on bytes
pub not-bytes : (message : Message) → limit_of_message message ≢ Some Bytes
not-bytes message = (words-and-bytes message).1

is-none : (limit : Option Limit) → is_none limit ≡ true → limit ≡ None
is-none None none = refl
is-none (Some limit) none = absurd (cc)

-- where a node weighs nothing, no reader fails for a limit
pub no-limit : (reason : Failure) → may_fail_for 0 reason ≡ true → limit_of_failure reason ≡ None
no-limit reason counted = is-none (limit_of_failure reason) counted

pub unlimited : {A : Type 0} (result : Result A Failure) → IfErr result (λ reason. may_fail_for 0 reason ≡ true)
    → IfErr result (λ reason. limit_of_failure reason ≡ None)
unlimited (Ok found) counted = tt
unlimited (Err reason) counted = no-limit reason counted
