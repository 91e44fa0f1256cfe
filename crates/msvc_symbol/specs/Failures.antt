-- Why a symbol has no declaration, before an error is made of it.
use Rattle.std.specs.Prelude.{ℕ, List, length}
use Rattle.msvc_nodes.specs.Trees.{SymbolTree}
use Rattle.msvc_rules.specs.Counts.{node_count}
use Rattle.msvc_rules.specs.Limits.{IsBeyond, IsWithin}
use Rattle.msvc_rules.specs.Parsed.{IsParsedIn, IsSymbolLengthIn}
pub use Rattle.msvc_cursor.specs.Errors.{IsErrorOf, IsFailureText, IsInside, offset_of_failure}
pub use Rattle.msvc_cursor.specs.Failures.{Fails, FailsIn}
pub use Rattle.msvc_cursor.specs.Messages.{limit_of_failure}
use Rattle.msvc_cursor.specs.declared.failure.Failure.{Failure}
use Rattle.msvc_cursor.specs.declared.failure.Failure.TheVariants as failure
use Rattle.msvc_cursor.specs.declared.limits.Limits.{Limits}
use Rattle.msvc_symbol.specs.Grammars.{declaration_in, dialect_of}
use Rattle.msvc_symbol.specs.declared.grammar.Grammar.{Grammar}
use Rattle.msvc_symbol.specs.declared.grammar.Grammar.TheVariants.{Crate}

-- The symbol takes `bytes` bytes of the text. Its tree is within the limit on nodes, and its declaration exceeds the
-- limit on bytes.
abbrev pub IsLongerIn : Grammar → Limits → List ℕ → (flags bytes : ℕ) → Type 0
IsLongerIn g limits symbol flags bytes = (tree : SymbolTree) × IsParsedIn (dialect_of g) symbol tree
    × IsWithin limits.nodes (node_count tree) × IsSymbolLengthIn (dialect_of g) bytes symbol
    × IsBeyond limits.bytes (length (declaration_in g tree flags))

-- Demangling the input fails with this failure. Memory may always run out.
abbrev pub IsFailureIn : Grammar → Limits → List ℕ → (flags : ℕ) → Failure → Type 0
IsFailureIn g limits input flags failure.Memory = Unit {0}
IsFailureIn g limits input flags (failure.Rejected message left) =
    FailsIn (dialect_of g) limits.nodes input (failure.Rejected message left)
IsFailureIn g limits input flags (failure.TooLong bytes) = IsLongerIn g limits input flags bytes

abbrev pub IsLonger : Limits → List ℕ → (flags bytes : ℕ) → Type 0
IsLonger limits symbol flags bytes = IsLongerIn Crate limits symbol flags bytes

abbrev pub IsFailure : Limits → List ℕ → (flags : ℕ) → Failure → Type 0
IsFailure limits input flags reason = IsFailureIn Crate limits input flags reason
