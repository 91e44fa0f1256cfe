use Rattle.std.proofs.Common.{◌≡◌, ap, sym, ◌∙◌, false, true, rules}
use Rattle.std.proofs.lemmas.Result.{on_ok_weaker}
use Rattle.msvc_print.proofs.Dropped.{full_reference_words-dropped, full_reference_words-kept}
use Rattle.msvc_print.proofs.Settling.{add_all-none, settled_two}
use Rattle.msvc_print.specs.Flags.{has, no_this_type}
use Rattle.msvc_print.specs.Limited.{add_all}
use Rattle.msvc_print.proofs.function_types.write_full_reference_words.Goals as goal

pub returns-then-contains : goal.returns-then-contains
returns-then-contains g c =
    let dropped : has c.args.flags.bits no_this_type ≡ true = search rules in
    sym (ap (add_all c.args.out.now) (full_reference_words-dropped _ _ dropped) ∙ add_all-none _)

pub returns : goal.returns
returns g c =
    let shown : has c.args.flags.bits no_this_type ≡ false = search rules in
    on_ok_weaker c.write_set_word-2.result
    (λ last. settled_two _ _ _ _ _ c.in_ok-write_set_word.ensures
    last
    ∙ ap (add_all c.args.out.now) (sym (full_reference_words-kept _ _ shown)))
    c.write_set_word-2.ensures
