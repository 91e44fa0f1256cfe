-- The limits of a call: on the nodes of a tree, and on the bytes of its declaration.
use Rattle.std.specs.Prelude.{ℕ}
pub use Rattle.msvc_rules.specs.Limits.{IsBeyond, IsWithin, MayBeAbout, limit_meant, limit_of_number}
use Rattle.msvc_cursor.specs.declared.limits.Limits.{Limits}

-- the limits that the numbers of a call set
abbrev pub limits_of : (nodes bytes : ℕ) → Limits
limits_of nodes bytes = record { nodes = limit_of_number nodes; bytes = limit_of_number bytes }
