use Rattle.std.proofs.Common.{◌≡◌, ◌≤◌, ℕ, length, take}
use Rattle.msvc_nodes.specs.NodeView.{names_in}
use Rattle.msvc_print.specs.Declaration.{scope_prefix}
use Rattle.msvc_print.specs.Limited.{add_all}
use Rattle.msvc_print.proofs.qualified_names.write_spelled_names.Given as goal

-- what is written, with the names that are left after it, is the whole scope
pub record Holds (g : goal.Over) (l : goal.Live-loop-left g) : Type 0 where
  pub left_fits : l.left ≤ length l.names
  pub written : (flags : ℕ) → add_all l.out (scope_prefix (names_in (take l.left l.names)) flags)
      ≡ add_all l.fn.out (scope_prefix (names_in l.names) flags)

abbrev pub invariant-loop-left : goal.invariant-loop-left
invariant-loop-left g l = Holds g l

abbrev pub decreases-loop-left : goal.decreases-loop-left
decreases-loop-left g l = l.left
