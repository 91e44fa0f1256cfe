use Rattle.std.proofs.Common.{◌≡◌, ◌∙◌, ap, arith, rules}
use Rattle.msvc_print.specs.Words.{qualifiers}
use Rattle.msvc_print.proofs.Dropped.{qualifiers-none}
use Rattle.msvc_print.proofs.Stack.{printed_none, pushed_one, work_one}
use Rattle.msvc_print.proofs.types.push_qualifiers.Goals as goal

pub returns-in_ok-push-clause-text : goal.returns-in_ok-push-clause-text
returns-in_ok-push-clause-text g c = λ out. pushed_one _ _ _ out _ c.in_ok-push.ensures

pub returns-in_ok-push-clause-lighter : goal.returns-in_ok-push-clause-lighter
returns-in_ok-push-clause-lighter g c = omega (arith, work_one _ _ _ c.in_ok-push.ensures)

-- no bit is set
pub returns-else-not-is_empty-clause-text : goal.returns-else-not-is_empty-clause-text
returns-else-not-is_empty-clause-text g c =
    let none : c.args.qualifiers.0 ≡ 0 = search rules in
    λ out. printed_none _ out _ _ (ap (λ set. qualifiers set c.args.flags.bits) none ∙ qualifiers-none _)
