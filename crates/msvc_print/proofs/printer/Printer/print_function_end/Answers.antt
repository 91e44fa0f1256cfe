use Rattle.std.proofs.Common.{ap, sym, ◌∙◌}
use Rattle.std.proofs.lemmas.Result.{on_ok_weaker}
use Rattle.msvc_print.proofs.Parameters.{settled-function_end}
use Rattle.msvc_print.specs.Work.{finished_after}
use Rattle.msvc_print.proofs.printer.Printer.print_function_end.Goals as goal

pub returns-clause-text : goal.returns-clause-text
returns-clause-text g c =
    rw (sym c.leaves_out-is_dropped.ensures)
    (on_ok_weaker c.print_parameters.result (λ last. last ∙ c.in_ok-push_suffix_unless.ensures.text _
    ∙ ap (finished_after c.args.self.now)
    (settled-function_end _ _ _ c.args.function.now.parameters.now c.args.pointed c.args.function.now.qualifiers
    c.args.self.now.flags.bits _ c.in_ok-write_closing.ensures c.in_ok-write_text.ensures))
    c.print_parameters.ensures.text)
