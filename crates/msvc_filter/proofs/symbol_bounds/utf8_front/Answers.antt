use Rattle.std.proofs.Common.{◌∙◌, ap, sym, take, take_all, arith}
use Rattle.std.proofs.lemmas.Str.{utf8_valid_len-IsUtf8}
use Rattle.msvc_filter.proofs.symbol_bounds.utf8_front.Goals as goal

pub returns-in-Ok : goal.returns-in-Ok
returns-in-Ok c =
    let bytes = c.args.bytes.now in
    let all = utf8_valid_len-IsUtf8 bytes c.in-Ok.ensures.cases.1 in
    c.in-Ok.ensures.cases.0 ∙ sym (ap (λ n. take n bytes) all ∙ take_all _ bytes (omega arith))
