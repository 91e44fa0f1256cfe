use Rattle.std.proofs.Common.{◌≡◌}
use Rattle.msvc_print.specs.Work.{Keeps, finished_after, work}
use Rattle.msvc_print.proofs.printer.Printer.run.Given as goal

-- what is written, and what is left to print, are what was there at first
pub record Holds (g : goal.Over) (l : goal.Live-items g) : Type 0 where
  pub text : finished_after l.self l.self.out.now ≡ finished_after l.fn.self l.fn.self.out.now
  pub kept : Keeps l.fn.self l.self

abbrev pub invariant-items : goal.invariant-items
invariant-items g l = Holds g l

abbrev pub decreases-items : goal.decreases-items
decreases-items g l = work l.self.stack.now.items
