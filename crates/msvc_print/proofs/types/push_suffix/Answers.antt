use Rattle.std.proofs.Common.{◌≡◌, [], ap, sym, ◌∙◌, arith}
use Rattle.msvc_nodes.specs.NodeView.{type_of}
use Rattle.msvc_print.proofs.Stack.{printed_none, pushed_one, work_one}
use Rattle.msvc_print.specs.Halves.{after}
use Rattle.msvc_print.proofs.types.push_suffix.Goals as goal
use Rattle.msvc_print.proofs.types.push_suffix.Goals.{in-Pointing, in_default}

pub returns-in_ok-push-clause-text : goal.returns-in_ok-push-clause-text
returns-in_ok-push-clause-text g c = λ out. pushed_one _ _ _ out _ c.in_ok-push.ensures

pub returns-in_ok-push-clause-lighter : goal.returns-in_ok-push-clause-lighter
returns-in_ok-push-clause-lighter g c = omega (arith, work_one _ _ _ c.in_ok-push.ensures)

pub returns-else-may_have-clause-text : goal.returns-else-may_have-clause-text
unfolding after type_of
returns-else-may_have-clause-text g c =
    let flags = c.args.flags.bits in
    let none : after (type_of c.args.t.now) c.args.pointed flags ≡ [] = elim c.match-t.branch [
      | in-Pointing w ↦ ap (λ t. after (type_of t) c.args.pointed flags) w.in-Pointing.is
          ∙ w.may_have_suffix-may_have.ensures (sym w.may_have-is ∙ c.if-may_have.false) _ flags
      | in_default w ↦ w.may_have_suffix-may_have-in_default.ensures (sym w.may_have-is ∙ c.if-may_have.false)
          c.args.pointed flags
    ] in
    λ out. printed_none _ out _ _ none
