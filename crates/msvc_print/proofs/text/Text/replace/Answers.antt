use Rattle.std.proofs.Common.{true, ◌∷◌, [], ap, refl, sym, ◌∙◌, arith}
use Rattle.std.proofs.lemmas.Result.{on_ok_weaker}
use Rattle.msvc_print.proofs.Longer.{added}
use Rattle.msvc_print.specs.Limited.{add_all}
use Rattle.msvc_print.specs.Pieces.{text}
use Rattle.msvc_print.proofs.text.Text.replace.Goals as goal

pub returns : goal.returns
returns g c = on_ok_weaker c.write_text.result
    (λ written. ap (λ t. t.text) (written ∙ ap (λ out. add_all out (text c.args.bytes.now ∷ [])) c.clear.ensures
    ∙ sym (added _ true [] c.args.bytes.now (text c.args.bytes.now) refl (omega arith))))
    c.write_text.ensures
