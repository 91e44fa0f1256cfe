use Rattle.std.proofs.Common.{◌≡◌, ap, sym, ◌∙◌, codes, true, rules}
use Rattle.std.proofs.lemmas.Result.{on_ok_weaker}
use Rattle.msvc_print.proofs.Dropped.{extern_words-full}
use Rattle.msvc_print.specs.Flags.{full_style, has}
use Rattle.msvc_print.specs.Functions.{member_word}
use Rattle.msvc_print.specs.Limited.{add_all}
use Rattle.msvc_print.proofs.function_types.write_extern_words.Goals as goal

pub returns : goal.returns
returns g c =
    let full : has c.args.flags.bits full_style ≡ true = search rules in
    on_ok_weaker c.write_member_word.result
    (λ last. last
    ∙ ap (λ b. add_all c.args.out.now (member_word b (codes "extern \"C\" ") c.args.class.0)) c.extern_c-bit.ensures
    ∙ ap (add_all c.args.out.now) (sym (extern_words-full _ _ full))) c.write_member_word.ensures
