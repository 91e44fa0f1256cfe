-- What errors show: a part of the input, and the text that says why it is rejected.
use Rattle.std.specs.Prelude.{ℕ, List, [], ◌∷◌, ◌++◌, ◌≡◌, Option, Some, None, codes, replicate, string_bytes}
use Prim.Native.String.{String}
use Rattle.std.specs.Cow.{cow_str_bytes}
use Rattle.msvc_nodes.specs.Errors.{IsMessageOrMemory, IsRejectionOrMemory, context_of, context_text_of, error_text}
use Rattle.msvc_nodes.specs.Errors.{limit_of, offset_of}
use Rattle.msvc_nodes.specs.declared.error.ErrorRepr.TheVariants.{Memory, Other, ParseError}
use Rattle.msvc_nodes.specs.declared.error.Limit.{Limit}
use Rattle.msvc_nodes.specs.declared.error.Limit.TheVariants.{Bytes, Nodes}

-- the bytes of a character that is not ASCII
abbrev e_acute : List ℕ
e_acute = 0xC3 ∷ 0xA9 ∷ []

-- the bytes of U+FFFD
abbrev replacement : List ℕ
replacement = 0xEF ∷ 0xBF ∷ 0xBD ∷ []

-- a rejection of an input at an offset shows these bytes
abbrev IsContext : (input : List ℕ) (offset : ℕ) (shown : List ℕ) → Type 0
IsContext input offset shown = context_of input offset ≡ shown

-- a rejection of an input at an offset shows these bytes as text
abbrev IsContextText : (input : List ℕ) (offset : ℕ) (shown : List ℕ) → Type 0
IsContextText input offset shown = context_text_of input offset ≡ shown

-- an error with this message, this context and this offset prints this text
abbrev Prints : (message context : String) (offset : ℕ) (text : String) → Type 0
Prints message context offset text = (m : _) (c : _) → cow_str_bytes m ≡ codes message → string_bytes c ≡ codes context
    → error_text (ParseError m c offset) ≡ Some (codes text)

-- an error with this message is about this limit
abbrev IsAbout : String → Option Limit → Type 0
IsAbout message limit = (m : _) (c : _) → cow_str_bytes m ≡ codes message → limit_of (ParseError m c 7) ≡ limit

pub record AreErrors : Type 0 where
  pub short : IsContext (codes "x") 0 (codes "x")
  pub twenty_bytes : IsContext (replicate 20 97) 0 (replicate 20 97)
  pub one_more : IsContext (replicate 21 97) 0 (replicate 20 97 ++ codes "...")
  pub more_bytes : IsContext (codes "nopenopenopenopenopenope") 0 (codes "nopenopenopenopenope...")
  pub from_the_offset : IsContext (codes "?f@@YAX0@Z") 8 (codes "@Z")
  pub at_the_end : IsContext (codes "?x@@3") 5 []
  -- bytes that are no character are shown as U+FFFD, also if the cut splits a character
  pub character : IsContextText (codes "?x" ++ e_acute) 1 (codes "x" ++ e_acute)
  pub no_character : IsContextText (0xE9 ∷ codes "x") 0 (replacement ++ codes "x")
  pub whole_character : IsContextText (replicate 18 97 ++ e_acute) 0 (replicate 18 97 ++ e_acute)
  pub cut_character : IsContextText (replicate 19 97 ++ e_acute) 0 (replicate 19 97 ++ replacement ++ codes "...")
  pub rejection : Prints "does not start with b'?'" "x" 0 "does not start with b'?' (offset: 0, remaining: \"x\")"
  -- a context is shown with escapes
  pub escapes : Prints "bad number" "\"\\\n" 12 "bad number (offset: 12, remaining: \"\\\"\\\\\\n\")"
  -- the text of an error with a context that is not ASCII is not defined
  pub not_ascii : (m : _) (c : _) → string_bytes c ≡ e_acute → error_text (ParseError m c 0) ≡ None
  pub other : (m : _) → string_bytes m ≡ codes "text" → error_text (Other m) ≡ Some (codes "text")
  pub memory : error_text Memory ≡ Some (codes "out of memory")
  pub nodes : IsAbout "more nodes than allowed" (Some Nodes)
  pub bytes : IsAbout "longer than allowed" (Some Bytes)
  pub no_limit : IsAbout "bad number" None
  pub no_message : IsAbout "" None
  pub no_limit_of_memory : limit_of Memory ≡ None
  pub offset : (m : _) (c : _) → offset_of (ParseError m c 7) ≡ Some 7
  pub no_offset : offset_of Memory ≡ None
  -- an error that a call promises has the message, the context and the offset, or is out of memory
  pub promised : (m : _) (c : _) (o : ℕ)
      → IsRejectionOrMemory (codes "bad number") (codes "x") 7 (ParseError m c o)
      → (cow_str_bytes m ≡ codes "bad number") × (string_bytes c ≡ codes "x") × (o ≡ 7)
  pub promised_memory : IsRejectionOrMemory (codes "bad number") (codes "x") 7 Memory
  pub no_other : (m : _) → ¬ (IsRejectionOrMemory (codes "bad number") (codes "x") 7 (Other m))
  pub message : (m : _) → IsMessageOrMemory (codes "text") (Other m) → string_bytes m ≡ codes "text"
  pub message_memory : IsMessageOrMemory (codes "text") Memory
  pub no_rejection : (m : _) (c : _) (o : ℕ) → ¬ (IsMessageOrMemory (codes "text") (ParseError m c o))
