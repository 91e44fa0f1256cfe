use Rattle.std.proofs.Common.{◌≡◌, drop}
use Rattle.std.specs.Prelude.{map}
use Rattle.std.specs.List.{list_any}
use Rattle.msvc_nodes.specs.Equality.{same_name}
use Rattle.msvc_nodes.specs.NodeView.{name_of}
use Rattle.msvc_cursor.specs.Parser.{known_name_of}
use Rattle.msvc_cursor.proofs.back_references.is_known_name.Given as goal

-- no entry before the index is an equal name
abbrev pub invariant-loop-known : goal.invariant-loop-known
invariant-loop-known g l =
    list_any (same_name (name_of l.name)) (map known_name_of (drop l.known-index l.names))
    ≡ list_any (same_name (name_of l.name)) (map known_name_of l.names)
