use Rattle.std.proofs.Common.{◌≡◌, ◌≤◌, ◌+◌}
use Rattle.msvc_nodes.specs.NodeView.{types_in}
use Rattle.msvc_print.specs.Limited.{add_all}
use Rattle.msvc_print.specs.Weights.{types_weight}
use Rattle.msvc_print.specs.Work.{Keeps, finished_after, rest_of_parameters, work}
use Rattle.msvc_print.proofs.printer.Printer.print_parameters.Given as goal

-- the list, and what is left on the stack, are what there was to print at first, and weigh no more
pub record Holds (g : goal.Over) (l : goal.Live-lists g) : Type 0 where
  pub text : finished_after l.self
      (add_all l.self.out.now (rest_of_parameters l.list.types.now l.list.first l.list.end l.self.flags.bits))
      ≡ finished_after l.fn.self
      (add_all l.fn.self.out.now (rest_of_parameters l.fn.types l.fn.first l.fn.end l.fn.self.flags.bits))
  pub lighter : types_weight (types_in l.list.types.now) + work l.self.stack.now.items
      ≤ types_weight (types_in l.fn.types) + work l.fn.self.stack.now.items
  pub kept : Keeps l.fn.self l.self

abbrev pub invariant-lists : goal.invariant-lists
invariant-lists g l = Holds g l

abbrev pub decreases-lists : goal.decreases-lists
decreases-lists g l = types_weight (types_in l.list.types.now) + work l.self.stack.now.items
