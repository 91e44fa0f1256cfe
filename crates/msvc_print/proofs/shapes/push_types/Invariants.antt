use Rattle.std.proofs.Common.{◌≤◌, length, drop}
use Rattle.msvc_nodes.specs.NodeView.{types_in}
use Rattle.msvc_print.proofs.ShapePieces.{parted_from}
use Rattle.msvc_print.specs.Declaration.{each_type}
use Rattle.msvc_print.specs.Weights.{types_weight}
use Rattle.msvc_print.specs.Work.{AddsAtMost, Pushes}
use Rattle.msvc_print.proofs.shapes.push_types.Given as goal

-- the types from a place on are pushed
pub record Holds (g : goal.Over) (l : goal.Live-types g) : Type 0 where
  pub text : Pushes (parted_from l.between (each_type (types_in l.types) l.flags.bits) l.at) l.flags.bits
      l.fn.stack.items l.stack.items
  pub lighter : AddsAtMost (types_weight (types_in (drop l.at l.types))) l.fn.stack.items l.stack.items
  pub fits : l.at ≤ length l.types

abbrev pub invariant-types : goal.invariant-types
invariant-types g l = Holds g l

abbrev pub decreases-types : goal.decreases-types
decreases-types g l = l.at
