use Rattle.std.proofs.Common.{◌≡◌, ap, sym, ◌∙◌, arith, rules, true, false, cond, [], codes}
use Rattle.msvc_print.specs.Flags.{has}
use Rattle.msvc_print.specs.Operators.{spaced}
use Rattle.msvc_print.proofs.Stack.{printed_none, pushed_one, same_pieces, work_one}
use Rattle.msvc_print.proofs.types.push_const.Goals as goal

pub returns-in_ok-push-clause-text : goal.returns-in_ok-push-clause-text
returns-in_ok-push-clause-text g c =
    let is : has c.args.qualifiers.0 1 ≡ true = search rules in
    λ out. pushed_one _ _ _ out _ c.in_ok-push.ensures
    ∙ same_pieces _ out _ _ _ (sym (ap (λ b. cond b (spaced (codes "const")) []) is))

pub returns-in_ok-push-clause-lighter : goal.returns-in_ok-push-clause-lighter
returns-in_ok-push-clause-lighter g c = omega (arith, work_one _ _ _ c.in_ok-push.ensures)

pub returns-else-contains-clause-text : goal.returns-else-contains-clause-text
returns-else-contains-clause-text g c =
    let is : has c.args.qualifiers.0 1 ≡ false = search rules in
    λ out. printed_none _ out _ _ (ap (λ b. cond b (spaced (codes "const")) []) is)
