use Rattle.std.proofs.Common.{◌≡◌, ap, sym, ◌∙◌, ◌++◌, codes, true, false, rules}
use Rattle.std.proofs.lemmas.Result.{on_ok_weaker}
use Rattle.msvc_print.proofs.Dropped.{qualifiers-full, qualifiers-plain}
use Rattle.msvc_print.proofs.Settling.{settled_two}
use Rattle.msvc_print.specs.Flags.{full_style, has}
use Rattle.msvc_print.specs.Limited.{add_all}
use Rattle.msvc_print.specs.Words.{qualifier}
use Rattle.msvc_print.proofs.spaces.write_set_qualifiers.Goals as goal

pub returns-then-is_full : goal.returns-then-is_full
returns-then-is_full g c =
    let full : has c.args.flags.bits full_style ≡ true = search rules in
    on_ok_weaker c.write_full_qualifiers.result
    (λ last. last ∙ ap (add_all c.args.out.now) (sym (qualifiers-full _ _ full))) c.write_full_qualifiers.ensures

pub returns : goal.returns
returns g c =
    let plain : has c.args.flags.bits full_style ≡ false = search rules in
    on_ok_weaker c.write_qualifier-2.result
    (λ last. settled_two _ _ _ _ _ c.in_ok-write_qualifier.ensures last
    ∙ ap (λ s. add_all c.args.out.now (qualifier s 1 (codes "const") c.args.qualifiers.0
    ++ qualifier s 2 (codes "volatile") c.args.qualifiers.0)) c.chosen_space-kind.ensures
    ∙ ap (add_all c.args.out.now) (sym (qualifiers-plain _ _ plain)))
    c.write_qualifier-2.ensures
