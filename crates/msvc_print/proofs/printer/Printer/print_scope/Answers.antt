use Rattle.std.proofs.Common.{ap, ◌∙◌}
use Rattle.std.proofs.lemmas.Result.{on_ok_weaker}
use Rattle.msvc_print.specs.Work.{finished_after}
use Rattle.msvc_print.proofs.printer.Printer.print_scope.Goals as goal

pub returns-clause-text : goal.returns-clause-text
returns-clause-text g c =
    on_ok_weaker c.print_remaining_names.result (λ last. last
    ∙ ap (finished_after c.args.self.now) (c.in_ok-left.ensures.text c.args.self.now.flags.bits))
    c.print_remaining_names.ensures.text
