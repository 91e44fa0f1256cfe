use Rattle.std.proofs.Common.{rules, ◌∙◌}
use Rattle.std.proofs.lemmas.Result.{on_ok_weaker}
use Rattle.msvc_print.proofs.NamePlaces.{ran}
use Rattle.msvc_print.proofs.printer.print_part.Goals as goal

pub returns : goal.returns
returns g c = on_ok_weaker c.run.result
    (λ done. ◌∙◌ {b = c.run.new.self.out.now} (search rules)
    (ran _ _ _ _ _ _ c.in_ok-stack.ensures.items c.in_ok-push_part.ensures done))
    c.run.ensures.text
