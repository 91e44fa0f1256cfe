use Rattle.std.proofs.Common.{◌≤◌, false, length, drop}
use Rattle.msvc_nodes.specs.NodeView.{names_in}
use Rattle.msvc_print.proofs.ShapePieces.{parted_from}
use Rattle.msvc_print.specs.Declaration.{each_name}
use Rattle.msvc_print.specs.Weights.{scope_weight}
use Rattle.msvc_print.specs.Work.{AddsAtMost, Pushes}
use Rattle.msvc_print.proofs.shapes.push_names.Given as goal

-- the names from a place on are pushed
pub record Holds (g : goal.Over) (l : goal.Live-names g) : Type 0 where
  pub text : Pushes (parted_from l.between (each_name (names_in l.names) false l.flags.bits) l.at) l.flags.bits
      l.fn.stack.items l.stack.items
  pub lighter : AddsAtMost (scope_weight (names_in (drop l.at l.names))) l.fn.stack.items l.stack.items
  pub fits : l.at ≤ length l.names

abbrev pub invariant-names : goal.invariant-names
invariant-names g l = Holds g l

abbrev pub decreases-names : goal.decreases-names
decreases-names g l = l.at
