use Rattle.std.proofs.Common.{◌<◌, codes, length, sym, arith}
use Rattle.std.proofs.lemmas.Result.{on_ok_weaker}
use Rattle.std.proofs.lemmas.Bool.Decides.{nat_tests}
use Rattle.msvc_debug.proofs.ListTexts.{more_names-some}
use Rattle.msvc_debug.proofs.Texts.{pushed_both}
use Rattle.msvc_debug.proofs.lists.push_more_names.Goals as goal

pub returns : goal.returns
returns g c =
    let some : 0 < length c.args.names.now = grind (arith, nat_tests) in
    on_ok_weaker c.push_word.result
    (λ last. pushed_both _ _ _ _ (codes ", ") _ c.in_ok-push_names.ensures last
    (sym (more_names-some c.args.names.now some)))
    c.push_word.ensures
