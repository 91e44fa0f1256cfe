-- The status, the offset and the text of a call that fails.
use Rattle.std.specs.Prelude.{ℕ, List, ◌≡◌, ◌≢◌, Option, Some, None}
use Rattle.msvc_demangler.specs.Failure.{Failure}
use Rattle.msvc_demangler.specs.Failure.TheVariants as why
use Rattle.msvc_demangler.specs.Failures.{IsFailureText, limit_of_failure, offset_of_failure}
use Rattle.msvc_demangler.specs.Limit.{Limit}
use Rattle.msvc_demangler.specs.Limit.TheVariants.{Bytes, Nodes}
use Rattle.msvc_c_calls.specs.Calls.{out_of_memory_text}

-- The status of an error: INVALID if it is about no limit, TOO_MANY_NODES or TOO_LONG if it is about that limit.
abbrev pub IsStatusOf : Option Limit → ℕ → Type 0
IsStatusOf None status = status ≡ 1
IsStatusOf (Some Nodes) status = status ≡ 4
IsStatusOf (Some Bytes) status = status ≡ 5

-- The status, the offset and the text for a failure: either they are those of the failure, or memory ran out while the
-- text was made.
pub data IsReason (symbol : List ℕ) (reason : Failure) (status offset : ℕ) (text : List ℕ) : Type 0 where
  said : reason ≢ why.Memory → IsStatusOf (limit_of_failure reason) status
      → offset ≡ offset_of_failure symbol reason → IsFailureText symbol reason text
      → IsReason symbol reason status offset text
  unsaid : status ≡ 3 → offset ≡ 0 → text ≡ out_of_memory_text → IsReason symbol reason status offset text
