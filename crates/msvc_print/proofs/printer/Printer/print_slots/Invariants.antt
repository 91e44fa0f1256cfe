use Rattle.std.proofs.Common.{◌≡◌, ◌≤◌, ◌-◌, length}
use Rattle.msvc_print.specs.Limited.{add_all}
use Rattle.msvc_print.specs.ShapeNodes.{rest_of_slots, rest_weight}
use Rattle.msvc_print.specs.Work.{Keeps, finished_after}
use Rattle.msvc_print.proofs.printer.Printer.print_slots.Given as goal

-- the slots that are left, written after the text, give the text with all slots
pub record Holds (g : goal.Over) (l : goal.Live-slots g) : Type 0 where
  pub text : finished_after l.self
      (add_all l.self.out.now (rest_of_slots l.shape l.side l.pointed l.at l.self.flags.bits))
      ≡ finished_after l.fn.self
      (add_all l.fn.self.out.now (rest_of_slots l.shape l.side l.pointed l.fn.at l.fn.self.flags.bits))
  pub lighter : rest_weight l.shape l.side l.at ≤ rest_weight l.shape l.side l.fn.at
  pub same : l.self.stack.now ≡ l.fn.self.stack.now
  pub kept : Keeps l.fn.self l.self

abbrev pub invariant-slots : goal.invariant-slots
invariant-slots g l = Holds g l

abbrev pub decreases-slots : goal.decreases-slots
decreases-slots g l = length l.slots - l.at
