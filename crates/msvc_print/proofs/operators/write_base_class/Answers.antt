use Rattle.std.proofs.Common.{rules}
use Rattle.std.proofs.lemmas.Result.{on_ok_weaker}
use Rattle.msvc_print.proofs.OperatorNames.{settled-base_class}
use Rattle.msvc_print.proofs.operators.write_base_class.Goals as goal

pub returns : goal.returns
returns g c = on_ok_weaker c.write_text.result
    (λ last. settled-base_class _ _ _ _ _ _ _ _ _ _ _ _ _ _ _ c.args.flags.bits
    c.in_ok-write_spaced_word.ensures c.in_ok-write_number.ensures c.in_ok-write_comma_number.ensures
    c.in_ok-write_comma_number-2.ensures c.in_ok-write_comma_number-3.ensures last
    (search rules) (search rules) (search rules) (search rules))
    c.write_text.ensures
