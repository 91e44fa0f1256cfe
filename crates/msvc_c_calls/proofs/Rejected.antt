-- A symbol that is not read has one of two statuses.
use Rattle.std.proofs.Common.{◌≡◌, ◌≢◌, ℕ, List, Bool, true, false, Option, Some, None, refl, subst, sym}
use Rattle.std.specs.Prelude.{◌==◌, if◌then◌else◌, is_some}
use Rattle.std.specs.Cmp.Lexicographic.{pointwise, same_text}
use Rattle.std.specs.Str.{IsUtf8}
use Rattle.msvc_demangler.specs.CallLimits.{Limits}
use Rattle.msvc_demangler.specs.Errors as errors
use Rattle.msvc_demangler.specs.Errors.{message_limit}
use Rattle.msvc_demangler.specs.GrammarNames.{Grammar}
use Rattle.msvc_demangler.specs.Limit.{Limit}
use Rattle.msvc_demangler.specs.Limits.{limit_meant}
use Rattle.msvc_demangler.specs.Limit.TheVariants.{Bytes, Nodes}
use Rattle.msvc_c_calls.specs.Calls.{IsNone, IsNotRead, IsRejection, invalid, too_many_nodes}
use Rattle.msvc_c_calls.specs.Reasons.{IsStatusOf}

-- the message about the limit on nodes is one text
nodes-first : (nodes bytes : Bool) → (if nodes then Some Nodes else if bytes then Some Bytes else None) ≡ Some Nodes
    → true ≡ nodes
nodes-first true bytes e = refl
nodes-first false true e = absurd (cc)
nodes-first false false e = absurd (cc)

nodes-message : (message : List ℕ) → message_limit message ≡ Some Nodes → message ≡ errors.too_many_nodes
nodes-message message e =
    same_text message errors.too_many_nodes
    (nodes-first (pointwise (λ a b. a == b) message errors.too_many_nodes)
    (pointwise (λ a b. a == b) message errors.too_long) e)

-- a message about nodes comes only with a limit on them
set-nodes : (nodes : Option ℕ) → (nodes ≡ None → Some Nodes ≡ None) → is_some nodes ≡ true
set-nodes None set = let no : Some Nodes ≡ None = set refl in absurd (cc)
set-nodes (Some most) set = refl

pub rejected : (g : Grammar) (limits : Limits) (symbol : List ℕ) (status offset : ℕ) (message text : List ℕ)
    (limit : Option Limit)
    → IsUtf8 symbol → IsNone g (limit_meant limit limits.nodes) symbol → IsRejection g symbol message offset text
    → message_limit message ≡ limit → limit ≢ Some Bytes → (limits.nodes ≡ None → limit ≡ None)
    → IsStatusOf limit status → IsNotRead g limits symbol status offset text
rejected g limits symbol status offset message text None u none rejection about other set is =
    subst (λ n. IsNotRead g limits symbol n offset text) (sym is) (invalid u none about rejection)
rejected g limits symbol status offset message text (Some Nodes) u none rejection about other set is =
    let Of : List ℕ → Type 0 = λ m. IsRejection g symbol m offset text in
    subst (λ n. IsNotRead g limits symbol n offset text) (sym is)
    (too_many_nodes u none (set-nodes limits.nodes set) (subst Of (nodes-message message about) rejection))
rejected g limits symbol status offset message text (Some Bytes) u none rejection about other set is =
    absurd (other refl)
