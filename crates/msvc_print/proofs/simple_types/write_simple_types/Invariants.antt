use Rattle.std.proofs.Common.{◌≡◌, ◌≤◌, ◌-◌, drop, length}
use Rattle.msvc_nodes.specs.NodeView.{types_in}
use Rattle.msvc_print.specs.Declaration.{parameters}
use Rattle.msvc_print.specs.Limited.{add_all}
use Rattle.msvc_print.proofs.simple_types.write_simple_types.Given as goal

-- what is written, with the types that are left after it, is the whole list
pub record Holds (g : goal.Over) (l : goal.Live-types g) : Type 0 where
  pub in_range : l.at ≤ length l.types
  pub written : add_all l.out (parameters (types_in (drop l.at l.types)) l.none_yet l.flags.bits)
      ≡ add_all l.fn.out (parameters (types_in l.types) l.fn.first l.flags.bits)

abbrev pub invariant-types : goal.invariant-types
invariant-types g l = Holds g l

abbrev pub decreases-types : goal.decreases-types
decreases-types g l = length l.types - l.at
