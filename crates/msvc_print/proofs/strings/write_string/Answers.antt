use Rattle.std.proofs.Common.{ap, ◌∙◌}
use Rattle.std.proofs.lemmas.Result.{on_ok_weaker}
use Rattle.msvc_print.proofs.StringBytes.{literal_pieces-some}
use Rattle.msvc_print.specs.Limited.{add_all}
use Rattle.msvc_print.proofs.strings.write_string.Goals as goal

pub returns-in-len1-up : goal.returns-in-len1-up
returns-in-len1-up g c = on_ok_weaker c.write_read.result (λ e. e ∙ ap (add_all c.args.out.now)
    (literal_pieces-some c.args.is_wide c.args.numbers.now _ c.in-len1-up.len_at_least)) c.write_read.ensures
