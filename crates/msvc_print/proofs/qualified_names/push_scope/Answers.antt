use Rattle.std.proofs.Common.{arith}
use Rattle.std.proofs.lemmas.Result.{on_ok_weaker}
use Rattle.msvc_print.proofs.Names.{scope_prefix-empty}
use Rattle.msvc_print.proofs.Stack.{printed_none, pushed_one, work_one}
use Rattle.msvc_print.proofs.qualified_names.push_scope.Goals as goal

pub returns-in-len1-up-clause-text : goal.returns-in-len1-up-clause-text
returns-in-len1-up-clause-text g c =
    on_ok_weaker c.push.result (λ last flags out. pushed_one _ _ _ out flags last) c.push.ensures

pub returns-in-len1-up-clause-lighter : goal.returns-in-len1-up-clause-lighter
returns-in-len1-up-clause-lighter g c =
    on_ok_weaker c.push.result (λ last. omega (arith, work_one _ _ _ last)) c.push.ensures

pub returns-in-empty-clause-text : goal.returns-in-empty-clause-text
returns-in-empty-clause-text g c =
    λ flags out. printed_none c.args.stack.now.items out flags _
    (scope_prefix-empty c.args.names.now flags c.in-empty.len_below)
