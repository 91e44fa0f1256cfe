-- A limit of a call: on the nodes of a tree, or on the bytes of a declaration. `None` is no limit.
use Rattle.std.specs.Prelude.{ℕ, ◌-◌, ◌^◌, ◌≡◌, ◌≢◌, ◌≤◌, ◌<◌, ◌==◌, Option, Some, None, if◌then◌else◌}
use Rattle.msvc_nodes.specs.declared.error.Limit.{Limit}
use Rattle.msvc_nodes.specs.declared.error.Limit.TheVariants.{Bytes, Nodes}

-- the limit that a caller's number sets: none if it is the largest number
abbrev pub limit_of_number : ℕ → Option ℕ
limit_of_number number = if number == 2 ^ 64 - 1 then None else Some number

abbrev pub IsWithin : Option ℕ → ℕ → Type 0
IsWithin None count = Unit {0}
IsWithin (Some most) count = count ≤ most

abbrev pub IsBeyond : Option ℕ → ℕ → Type 0
IsBeyond None count = ⊥
IsBeyond (Some most) count = most < count

-- the limit on nodes that a rejection is about: that of the call, if the rejection is about it, else none
abbrev pub limit_meant : (about : Option Limit) → (nodes : Option ℕ) → Option ℕ
limit_meant (Some Nodes) nodes = nodes
limit_meant about nodes = None

-- A rejection may be about this limit: about none where nodes are not limited, and never about the bytes of a
-- declaration.
abbrev pub MayBeAbout : (nodes : Option ℕ) → Option Limit → Type 0
MayBeAbout None about = about ≡ None
MayBeAbout (Some most) about = about ≢ Some Bytes
