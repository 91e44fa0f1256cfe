use Rattle.std.proofs.Common.{ap, ◌∙◌, ◌++◌, codes}
use Rattle.std.proofs.lemmas.Result.{on_ok_weaker}
use Rattle.msvc_print.proofs.Settling.{settled_two}
use Rattle.msvc_print.specs.Functions.{full_function_qualifiers, full_reference_words, full_this_words}
use Rattle.msvc_print.specs.Limited.{add_all}
use Rattle.msvc_print.specs.Words.{set_word}
use Rattle.msvc_print.proofs.function_types.write_full_function_qualifiers.Goals as goal

pub returns : goal.returns
unfolding full_function_qualifiers
returns g c =
    let set = c.args.qualifiers.0 in
    let flags = c.args.flags.bits in
    on_ok_weaker c.write_full_reference_words.result
    (λ last. settled_two _ _ _ _ _ c.in_ok-write_full_this_words.ensures
    (settled_two _ _ _ _ _ c.in_ok-write_set_word.ensures last)
    ∙ ap (λ b. add_all c.args.out.now (full_this_words set flags
    ++ (set_word b (codes " noexcept") set ++ full_reference_words set flags))) c.noexcept-bit.ensures)
    c.write_full_reference_words.ensures
