use Rattle.std.proofs.Common.{◌≡◌, ap, sym, ◌∙◌, false, true, rules}
use Rattle.std.proofs.lemmas.Result.{on_ok_weaker}
use Rattle.msvc_print.proofs.Dropped.{full_this_words-dropped, full_this_words-kept}
use Rattle.msvc_print.proofs.Settling.{add_all-none, settled_two}
use Rattle.msvc_print.specs.Flags.{has, no_this_type}
use Rattle.msvc_print.specs.Limited.{add_all}
use Rattle.msvc_print.proofs.function_types.write_full_this_words.Goals as goal

pub returns-then-contains : goal.returns-then-contains
returns-then-contains g c =
    let dropped : has c.args.flags.bits no_this_type ≡ true = search rules in
    sym (ap (add_all c.args.out.now) (full_this_words-dropped _ _ dropped) ∙ add_all-none _)

pub returns : goal.returns
returns g c =
    let shown : has c.args.flags.bits no_this_type ≡ false = search rules in
    on_ok_weaker c.write_set_word-4.result
    (λ last. settled_two _ _ _ _ _ c.in_ok-write_set_word.ensures
    (settled_two _ _ _ _ _ c.in_ok-write_set_word-2.ensures
    (settled_two _ _ _ _ _ c.in_ok-write_full_wide_word.ensures
    (settled_two _ _ _ _ _ c.in_ok-write_set_word-3.ensures
    last)))
    ∙ ap (add_all c.args.out.now) (sym (full_this_words-kept _ _ shown)))
    c.write_set_word-4.ensures
