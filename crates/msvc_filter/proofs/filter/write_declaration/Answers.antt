use Rattle.std.proofs.Common.{◌∷◌, [], append-nil}
use Rattle.msvc_filter.specs.Filtered.{declared}
use Rattle.msvc_filter.proofs.Filled.{IfOk-map}
use Rattle.msvc_filter.proofs.filter.write_declaration.Goals as goal

pub returns : goal.returns
returns c =
    let text = c.args.text.now in
    IfOk-map c.write_first.result _ _ (λ f h given parts so. h given parts (declared text ∷ []) (append-nil text)
    c.fitting_len-taken.ensures.fits so) c.write_first.ensures
