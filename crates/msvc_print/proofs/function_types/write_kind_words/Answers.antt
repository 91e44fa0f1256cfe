use Rattle.std.proofs.Common.{◌≡◌, ap, sym, ◌∙◌, false, rules}
use Rattle.std.proofs.lemmas.Result.{on_ok_weaker}
use Rattle.msvc_print.proofs.Dropped.{kind_words-kept}
use Rattle.msvc_print.proofs.Settling.{settled_two}
use Rattle.msvc_print.specs.Functions.{hides_kind}
use Rattle.msvc_print.specs.Limited.{add_all}
use Rattle.msvc_print.proofs.function_types.write_kind_words.Goals as goal

pub returns : goal.returns
returns g c =
    let shown : hides_kind c.args.pointed c.args.flags.bits ≡ false = search rules in
    on_ok_weaker c.write_extern_words.result
    (λ last. settled_two _ _ _ _ _ c.in_ok-write_member_word.ensures
    (settled_two _ _ _ _ _ c.in_ok-write_member_word-2.ensures last)
    ∙ ap (add_all c.args.out.now) (sym (kind_words-kept _ _ _ shown)))
    c.write_extern_words.ensures
