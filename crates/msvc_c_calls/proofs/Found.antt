-- What C sees of a failure of the library is right of the symbol.
use Rattle.std.proofs.Common.{◌≡◌, ◌≢◌, ◌-◌, ℕ, List, [], Option, Some, None, IfSome, arith, length, refl}
use Rattle.std.proofs.Common.{subst, sym}
use Rattle.std.specs.Str.{IsAscii, IsUtf8, IsValidUpTo}
use Rattle.msvc_cursor.specs.declared.failure.Message.{Message}
use Rattle.msvc_cursor.proofs.Messages.{not-bytes, words-limit}
use Rattle.msvc_cursor.specs.Messages.{limit_of_message, message_words}
use Rattle.msvc_demangler.specs.CallLimits.{Limits}
use Rattle.msvc_demangler.specs.Errors.{context_of, rejection_text}
use Rattle.msvc_demangler.specs.Failures.{FailsIn, IsFailureIn, IsFailureText, limit_of_failure, offset_of_failure}
use Rattle.msvc_demangler.specs.Failure.{Failure}
use Rattle.msvc_demangler.specs.Failure.TheVariants as why
use Rattle.msvc_demangler.specs.GrammarNames.{Grammar}
use Rattle.msvc_demangler.specs.Grammars.{dialect_of}
use Rattle.msvc_c_calls.proofs.Rejected.{rejected}
use Rattle.msvc_c_calls.specs.Calls.{IsFound, IsMeasured, IsNotRead, IsRejection, Says}
use Rattle.msvc_c_calls.specs.Calls.{not_measured, not_read, not_utf8, not_utf8_text, out_of_memory, out_of_memory_text}
use Rattle.msvc_c_calls.specs.Calls.{too_long}
use Rattle.msvc_c_calls.specs.Reasons.{IsReason, IsStatusOf, said, unsaid}
use Rattle.msvc_c_calls.specs.Buffers.{IsWritten}

unlimited : (g : Grammar) (nodes : Option ℕ) (symbol : List ℕ) (message : Message) (left : ℕ)
    → FailsIn (dialect_of g) nodes symbol (why.Rejected message left) → nodes ≡ None → limit_of_message message ≡ None
unlimited g None symbol message left fails none = fails.limit
unlimited g (Some most) symbol message left fails none = absurd (cc)

-- a rejection, of which such a text is shown
unread : (g : Grammar) (limits : Limits) (symbol : List ℕ) (status : ℕ) (message : Message) (left : ℕ)
    (context text : List ℕ) → IsUtf8 symbol → FailsIn (dialect_of g) limits.nodes symbol (why.Rejected message left)
    → IsStatusOf (limit_of_message message) status
    → (IsAscii symbol → context ≡ context_of symbol (length symbol - left))
    → Says (message_words message) context (length symbol - left) text
    → IsNotRead g limits symbol status (length symbol - left) text
unread g limits symbol status message left context text u fails is shows says =
    let rejection : IsRejection g symbol (message_words message) (length symbol - left) text = record {
      inside = omega arith;
      begins = fails.begins;
      context = context;
      shows = shows;
      says = says;
    } in
    rejected g limits symbol status (length symbol - left) (message_words message) text (limit_of_message message) u
    fails.none rejection (words-limit message) (not-bytes message)
    (unlimited g limits.nodes symbol message left fails) is

-- the same of a failure that is no lack of memory
rejected_for : (g : Grammar) (limits : Limits) (symbol : List ℕ) (status offset : ℕ) (reason : Failure) (text : List ℕ)
    → IsUtf8 symbol
    → FailsIn (dialect_of g) limits.nodes symbol reason → reason ≢ why.Memory
    → IsStatusOf (limit_of_failure reason) status → offset ≡ offset_of_failure symbol reason
    → IsFailureText symbol reason text → IsNotRead g limits symbol status offset text
rejected_for g limits symbol status offset (why.Rejected message left) text u fails other is at found =
    let At : ℕ → Type 0 = λ n. IsNotRead g limits symbol status n text in
    subst At (sym at)
    (unread g limits symbol status message left found.context text u fails is found.shows found.says)
rejected_for g limits symbol status offset why.Memory text u fails other is at found = absurd (other refl)
rejected_for g limits symbol status offset (why.TooLong read) text u fails other is at found = absurd fails.none

pub no_memory : (g : Grammar) (limits : Limits) (symbol : List ℕ) (status offset : ℕ) (text : List ℕ) → IsUtf8 symbol
    → status ≡ 3 → offset ≡ 0 → text ≡ out_of_memory_text → IsNotRead g limits symbol status offset text
no_memory g limits symbol status offset text u is at same =
    let Status : ℕ → Type 0 = λ n. IsNotRead g limits symbol n offset text in
    let At : ℕ → Type 0 = λ n. IsNotRead g limits symbol 3 n text in
    let Text : List ℕ → Type 0 = λ t. IsNotRead g limits symbol 3 0 t in
    subst Status (sym is) (subst At (sym at) (subst Text (sym same) (out_of_memory u)))

-- a symbol that is not read, from why
pub not_read_for : (g : Grammar) (limits : Limits) (symbol : List ℕ) (status offset : ℕ) (reason : Failure)
    (text : List ℕ) → IsUtf8 symbol → FailsIn (dialect_of g) limits.nodes symbol reason
    → IsReason symbol reason status offset text → IsNotRead g limits symbol status offset text
not_read_for g limits symbol status offset reason text u fails (said other is at found) =
    rejected_for g limits symbol status offset reason text u fails other is at found
not_read_for g limits symbol status offset reason text u fails (unsaid is at same) =
    no_memory g limits symbol status offset text u is at same

-- what is found of a symbol that has no declaration, from why
pub found_for : (g : Grammar) (limits : Limits) (symbol : List ℕ) (flags status offset : ℕ) (reason : Failure)
    (text : List ℕ) → IsUtf8 symbol → IsFailureIn g limits symbol flags reason
    → IsReason symbol reason status offset text
    → IsFound g limits symbol flags status offset text
found_for g limits symbol flags status offset why.Memory text u fails (said other is at found) = absurd (other refl)
found_for g limits symbol flags status offset why.Memory text u fails (unsaid is at same) =
    not_read (no_memory g limits symbol status offset text u is at same)
found_for g limits symbol flags status offset (why.Rejected message left) text u fails because =
    not_read (not_read_for g limits symbol status offset (why.Rejected message left) text u fails because)
found_for g limits symbol flags status offset (why.TooLong read) text u longer (said other is at found) =
    let At : ℕ → Type 0 = λ n. IsFound g limits symbol flags status n text in
    let Status : ℕ → Type 0 = λ n. IsFound g limits symbol flags n read text in
    subst At (sym at) (subst Status (sym is) (too_long u longer found))
found_for g limits symbol flags status offset (why.TooLong read) text u longer (unsaid is at same) =
    not_read (no_memory g limits symbol status offset text u is at same)

-- a text, if one is known
abbrev said_of : Option (List ℕ) → List ℕ
said_of None = []
said_of (Some text) = text

is-said : (text : Option (List ℕ)) → IfSome text (λ t. said_of text ≡ t)
is-said None = tt
is-said (Some text) = refl

-- a symbol that is not read, where no text is written
pub some_not_read : (g : Grammar) (limits : Limits) (symbol : List ℕ) (status offset : ℕ) (reason : Failure)
    → IsUtf8 symbol → FailsIn (dialect_of g) limits.nodes symbol reason → reason ≢ why.Memory
    → IsStatusOf (limit_of_failure reason) status → offset ≡ offset_of_failure symbol reason
    → (text : List ℕ) × IsNotRead g limits symbol status offset text
some_not_read g limits symbol status offset (why.Rejected message left) u fails other is at =
    let context = context_of symbol (length symbol - left) in
    let text = rejection_text (message_words message) context (length symbol - left) in
    let At : ℕ → Type 0 = λ n. IsNotRead g limits symbol status n (said_of text) in (
      said_of text,
      subst At (sym at)
          (unread g limits symbol status message left context (said_of text) u fails is (λ ascii. refl) (is-said text)),
    )
some_not_read g limits symbol status offset why.Memory u fails other is at = absurd (other refl)
some_not_read g limits symbol status offset (why.TooLong read) u fails other is at = absurd fails.none

-- the same of what a call returns
pub as_some_not_read : (g : Grammar) (limits : Limits) (symbol : List ℕ) (status offset count is at : ℕ)
    → (status ≡ is) × (offset ≡ at) × (count ≡ 0) → (text : List ℕ) × IsNotRead g limits symbol is at text
    → (text : List ℕ) × IsNotRead g limits symbol status offset text × (count ≡ 0)
as_some_not_read g limits symbol status offset count is at same not =
    let Status : ℕ → Type 0 = λ n. IsNotRead g limits symbol n offset not.0 in
    let At : ℕ → Type 0 = λ n. IsNotRead g limits symbol is n not.0 in
    (not.0, subst Status (sym same.0) (subst At (sym same.1) not.1), same.2)

-- and if memory ran out
pub some_no_memory : (g : Grammar) (limits : Limits) (symbol : List ℕ) (status offset count : ℕ) → IsUtf8 symbol
    → (status ≡ 3) × (offset ≡ 0) × (count ≡ 0)
    → (text : List ℕ) × IsNotRead g limits symbol status offset text × (count ≡ 0)
some_no_memory g limits symbol status offset count u is =
    (out_of_memory_text, no_memory g limits symbol status offset out_of_memory_text u is.0 is.1 refl, is.2)

-- what is written of a symbol for which memory ran out
pub lost : (g : Grammar) (limits : Limits) (symbol : List ℕ) (flags status offset count : ℕ) (old new : List ℕ)
    → IsUtf8 symbol → (status ≡ 3) × (offset ≡ 0) × (count ≡ length out_of_memory_text)
    → IsWritten out_of_memory_text old new
    → (shown : List ℕ) × IsFound g limits symbol flags status offset shown × (count ≡ length shown)
    × IsWritten shown old new
lost g limits symbol flags status offset count old new u is written =
    let Status : ℕ → Type 0 = λ n. IsFound g limits symbol flags n offset out_of_memory_text in
    let At : ℕ → Type 0 = λ n. IsFound g limits symbol flags 3 n out_of_memory_text in
    (out_of_memory_text, subst Status (sym is.0) (subst At (sym is.1) (not_read (out_of_memory u))), is.2, written)

-- the same of the length of a symbol, which is not known for another reason
pub as_measured : (g : Grammar) (limits : Limits) (symbol : List ℕ) (status offset count is at : ℕ)
    → (status ≡ is) × (offset ≡ at) × (count ≡ 0) → IsMeasured g limits symbol is at 0
    → IsMeasured g limits symbol status offset count
as_measured g limits symbol status offset count is at same made =
    let Status : ℕ → Type 0 = λ n. IsMeasured g limits symbol n offset count in
    let At : ℕ → Type 0 = λ n. IsMeasured g limits symbol is n count in
    let Count : ℕ → Type 0 = λ n. IsMeasured g limits symbol is at n in
    subst Status (sym same.0) (subst At (sym same.1) (subst Count (sym same.2) made))

-- and if memory ran out
pub unknown : (g : Grammar) (limits : Limits) (symbol : List ℕ) (status offset count : ℕ) → IsUtf8 symbol
    → (status ≡ 3) × (offset ≡ 0) × (count ≡ 0) → IsMeasured g limits symbol status offset count
unknown g limits symbol status offset count u same =
    as_measured g limits symbol status offset count 3 0 same (not_measured (out_of_memory u))

-- and if a symbol is not read
pub unmeasured : (g : Grammar) (limits : Limits) (symbol : List ℕ) (status offset count : ℕ)
    → (text : List ℕ) × IsNotRead g limits symbol status offset text × (count ≡ 0)
    → IsMeasured g limits symbol status offset count
unmeasured g limits symbol status offset count not =
    let Count : ℕ → Type 0 = λ n. IsMeasured g limits symbol status offset n in
    subst Count (sym not.2) (not_measured not.1)

-- what is found in a grammar and under flags that are those of a caller
pub found_as : (g h : Grammar) (limits : Limits) (symbol : List ℕ) (flags bits status offset : ℕ) (text : List ℕ)
    → h ≡ g → bits ≡ flags → IsFound h limits symbol bits status offset text
    → IsFound g limits symbol flags status offset text
found_as g h limits symbol flags bits status offset text chosen same found =
    let In : Grammar → Type 0 = λ k. IsFound k limits symbol bits status offset text in
    let Under : ℕ → Type 0 = λ n. IsFound g limits symbol n status offset text in
    subst Under same (subst In chosen found)

-- what is written of a symbol that is not UTF-8
pub not_valid : (g : Grammar) (limits : Limits) (symbol : List ℕ) (flags status offset count at : ℕ) (old new : List ℕ)
    → ¬ (IsUtf8 symbol) → IsValidUpTo symbol at → (status ≡ 2) × (offset ≡ at) × (count ≡ length not_utf8_text)
    → IsWritten not_utf8_text old new
    → (shown : List ℕ) × IsFound g limits symbol flags status offset shown × (count ≡ length shown)
    × IsWritten shown old new
not_valid g limits symbol flags status offset count at old new not valid is written =
    let Status : ℕ → Type 0 = λ n. IsFound g limits symbol flags n offset not_utf8_text in
    let At : ℕ → Type 0 = λ n. IsFound g limits symbol flags 2 n not_utf8_text in
    (not_utf8_text, subst Status (sym is.0) (subst At (sym is.1) (not_read (not_utf8 not valid))), is.2, written)
