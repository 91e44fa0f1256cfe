-- What holds of a call that fails for a reason.
use Rattle.std.proofs.Common.{ℕ, List, inl, inr}
use Rattle.msvc_nodes.specs.declared.error.ErrorRepr.{ErrorRepr}
use Rattle.msvc_cursor.proofs.WholeTexts.{memory-fails}
use Rattle.msvc_cursor.specs.Errors.{IsErrorOf}
use Rattle.msvc_cursor.specs.declared.failure.Failure.{Failure}
use Rattle.msvc_cursor.specs.declared.failure.Failure.TheVariants as failure
use Rattle.msvc_cursor.specs.declared.limits.Limits.{Limits}
use Rattle.msvc_symbol.proofs.Lawful.{lawful_of}
use Rattle.msvc_symbol.specs.Demangled.{IsErrorUnderIn}
use Rattle.msvc_symbol.specs.Failures.{IsFailureIn}
use Rattle.msvc_symbol.specs.declared.grammar.Grammar.{Grammar}

-- the error that is made of a failure is one of the call
pub error_under : (g : Grammar) (limits : Limits) (input : List ℕ) (flags : ℕ) (reason : Failure) (e : ErrorRepr)
    → IsFailureIn g limits input flags reason → IsErrorOf reason input e → IsErrorUnderIn g limits input flags e
error_under g limits input flags failure.Memory e fails is =
    inl ((memory-fails (lawful_of g) limits.nodes input).rejected e is)
error_under g limits input flags (failure.Rejected message left) e fails is = inl (fails.rejected e is)
error_under g limits input flags (failure.TooLong read) e longer is = inr (record {
  tree = longer.0;
  parsed = longer.1;
  nodes = longer.2;
  longer = longer.4;
  read = read;
  takes = longer.3;
  error = is;
})
