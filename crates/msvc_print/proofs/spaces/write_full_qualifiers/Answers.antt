use Rattle.std.proofs.lemmas.Result.{on_ok_weaker}
use Rattle.msvc_print.proofs.Settling.{settled_two}
use Rattle.msvc_print.specs.Words.{full_qualifiers}
use Rattle.msvc_print.proofs.spaces.write_full_qualifiers.Goals as goal

pub returns : goal.returns
unfolding full_qualifiers
returns g c = on_ok_weaker c.write_set_word-3.result
    (λ last. settled_two _ _ _ _ _ c.in_ok-write_set_word.ensures
    (settled_two _ _ _ _ _ c.in_ok-write_set_word-2.ensures last))
    c.write_set_word-3.ensures
