use Rattle.std.proofs.lemmas.Result.{on_ok_weaker}
use Rattle.msvc_print.proofs.Settling.{settled_two}
use Rattle.msvc_print.specs.Functions.{member_words}
use Rattle.msvc_print.proofs.function_types.write_member_words.Goals as goal

pub returns : goal.returns
unfolding member_words
returns g c = on_ok_weaker c.write_kind_words.result
    (λ last. settled_two _ _ _ _ _ c.in_ok-write_member_word.ensures
    (settled_two _ _ _ _ _ c.in_ok-write_access_words.ensures last))
    c.write_kind_words.ensures
