use Rattle.std.proofs.Common.{◌≡◌, drop}
use Rattle.std.specs.Prelude.{map}
use Rattle.std.specs.List.{list_any}
use Rattle.msvc_nodes.specs.Equality.{same_type}
use Rattle.msvc_nodes.specs.NodeView.{type_of}
use Rattle.msvc_cursor.specs.Parser.{memorized_of}
use Rattle.msvc_cursor.proofs.back_references.is_known_type.Given as goal

-- no entry before the index is an equal type
abbrev pub invariant-loop-known : goal.invariant-loop-known
invariant-loop-known g l =
    list_any (λ known. same_type (type_of l.memorized) known.entered) (map memorized_of (drop l.known-index l.types))
    ≡ list_any (λ known. same_type (type_of l.memorized) known.entered) (map memorized_of l.types)
