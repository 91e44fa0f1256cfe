-- What holds of a candidate that has no declaration.
use Rattle.std.proofs.Common.{◌≡◌, ℕ, List, Some, inl, inr, refl}
use Rattle.msvc_rules.proofs.Rejections.{none-within-limit}
use Rattle.msvc_cursor.specs.Messages.{limit_of_message}
use Rattle.msvc_cursor.specs.declared.failure.Failure.{Failure}
use Rattle.msvc_cursor.specs.declared.failure.Failure.TheVariants as failure
use Rattle.msvc_symbol.specs.Failures.{IsFailureIn}
use Rattle.msvc_symbol.specs.Grammars.{Choice, dialect_of}
use Rattle.msvc_filter.specs.Filtered.{IsNoneWithin, max_declared, max_nodes}

-- a candidate at which memory did not run out has no declaration
pub none_within : (how : Choice) (input : List ℕ) (reason : Failure) → (reason ≡ failure.Memory → ⊥)
    → IsFailureIn how.grammar (record { nodes = Some max_nodes; bytes = Some max_declared }) input how.flags reason
    → IsNoneWithin how input
none_within how input (failure.Rejected message left) other fails =
    inl (none-within-limit (dialect_of how.grammar).grammar (limit_of_message message) (Some max_nodes) input fails.none)
none_within how input failure.Memory other fails = absurd (other refl)
none_within how input (failure.TooLong read) other longer = inr (longer.0, longer.1, longer.4)
