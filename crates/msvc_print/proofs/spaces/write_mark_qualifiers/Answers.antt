use Rattle.std.proofs.lemmas.Result.{on_ok_weaker}
use Rattle.msvc_print.proofs.Settling.{settled_two}
use Rattle.msvc_print.specs.Words.{mark_qualifiers}
use Rattle.msvc_print.proofs.spaces.write_mark_qualifiers.Goals as goal

pub returns : goal.returns
unfolding mark_qualifiers
returns g c = on_ok_weaker c.write_qualifier-3.result
    (λ last. settled_two _ _ _ _ _ c.in_ok-write_qualifier.ensures
    (settled_two _ _ _ _ _ c.in_ok-write_qualifier-2.ensures last))
    c.write_qualifier-3.ensures
