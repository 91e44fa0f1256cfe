use Rattle.std.proofs.Common.{◌<◌, codes, length, sym, arith}
use Rattle.std.proofs.lemmas.Result.{on_ok_weaker}
use Rattle.std.proofs.lemmas.Bool.Decides.{nat_tests}
use Rattle.msvc_debug.proofs.ListTexts.{more_types-some}
use Rattle.msvc_debug.proofs.Texts.{pushed_both}
use Rattle.msvc_debug.proofs.lists.push_more_types.Goals as goal

pub returns : goal.returns
returns g c =
    let some : 0 < length c.args.types.now = grind (arith, nat_tests) in
    on_ok_weaker c.push_word.result
    (λ last. pushed_both _ _ _ _ (codes ", ") _ c.in_ok-push_types.ensures last
    (sym (more_types-some c.args.types.now some)))
    c.push_word.ensures
