-- What printing a declaration writes, or why it fails.
use Rattle.std.specs.Prelude.{ℕ, List, ◌≡◌, Option, Some, length}
use Rattle.msvc_rules.specs.Limits.{IsBeyond, IsWithin}
use Rattle.msvc_cursor.specs.declared.failure.Failure.{Failure}
use Rattle.msvc_cursor.specs.declared.failure.Failure.TheVariants as failure

-- the text is the declaration, which is within the limit on bytes
abbrev pub IsPrinted : (limit : Option ℕ) (declared : List ℕ) (text : Option (List ℕ)) → Type 0
IsPrinted limit declared text = (text ≡ Some declared) × IsWithin limit (length declared)

-- Printing the declaration of a symbol of this many bytes fails: memory runs out, or the declaration exceeds the limit.
abbrev pub IsUnprinted : (limit : Option ℕ) (declared : List ℕ) (bytes : ℕ) → Failure → Type 0
IsUnprinted limit declared bytes failure.Memory = Unit {0}
IsUnprinted limit declared bytes (failure.Rejected message left) = ⊥
IsUnprinted limit declared bytes (failure.TooLong read) = (read ≡ bytes) × IsBeyond limit (length declared)
