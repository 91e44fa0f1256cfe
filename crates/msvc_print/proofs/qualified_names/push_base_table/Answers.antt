use Rattle.std.proofs.Common.{arith}
use Rattle.std.proofs.lemmas.Result.{on_ok_weaker}
use Rattle.msvc_print.proofs.Stack.{pushed_one, work_one}
use Rattle.msvc_print.proofs.qualified_names.push_base_table.Goals as goal

pub returns-clause-text : goal.returns-clause-text
returns-clause-text g c = on_ok_weaker c.push.result (λ last out. pushed_one _ _ _ out _ last) c.push.ensures

pub returns-clause-lighter : goal.returns-clause-lighter
returns-clause-lighter g c =
    on_ok_weaker c.push.result (λ last. omega (arith, work_one _ _ _ last)) c.push.ensures
