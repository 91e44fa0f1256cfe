use Rattle.std.proofs.Common.{rules, ◌∙◌}
use Rattle.std.proofs.lemmas.Result.{on_ok_weaker}
use Rattle.msvc_print.proofs.Longer.{not_spaced, spaced}
use Rattle.msvc_print.proofs.spaces.write_space.Goals as goal

pub returns-then-not-is_written_after : goal.returns-then-not-is_written_after
returns-then-not-is_written_after g c =
    not_spaced _ c.args.kind _ c.last_byte.ensures.last c.last_byte.ensures.fits (search rules)

pub returns : goal.returns
returns g c = on_ok_weaker c.write_text.result
    (λ after. after ∙ spaced _ c.args.kind _ c.last_byte.ensures.last (search rules)) c.write_text.ensures
