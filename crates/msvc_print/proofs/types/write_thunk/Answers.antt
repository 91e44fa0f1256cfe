use Rattle.std.proofs.Common.{◌∷◌, ap, ◌∙◌, codes}
use Rattle.std.proofs.lemmas.Result.{on_ok_weaker}
use Rattle.msvc_print.proofs.Settling.{settled_two}
use Rattle.msvc_print.specs.Functions.{calling}
use Rattle.msvc_print.specs.Limited.{add_all}
use Rattle.msvc_print.specs.Pieces.{text}
use Rattle.msvc_print.proofs.types.write_thunk.Goals as goal

pub returns : goal.returns
returns g c = on_ok_weaker c.write_calling.result
    (λ last. settled_two _ _ _ _ _ c.in_ok-write_text.ensures last
    ∙ ap (λ p. add_all c.args.out.now (text (codes "[thunk]: ") ∷ calling p c.args.convention c.args.flags.bits))
    c.passed_on.ensures)
    c.write_calling.ensures
