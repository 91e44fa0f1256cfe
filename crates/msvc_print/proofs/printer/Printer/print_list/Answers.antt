use Rattle.std.proofs.Common.{◌≡◌, false, is_some, arith, ap, ◌∙◌, rules}
use Rattle.std.proofs.lemmas.Result.{on_ok_weaker}
use Rattle.msvc_print.proofs.SimpleTypes.{add_all-not_whole, rest-begun, rest-written, types-left, written-rest}
use Rattle.msvc_print.proofs.Parameters.{lightened-first, types_weight-fewer, types_weight-positive}
use Rattle.msvc_print.proofs.Stack.{pushed_one, work_one}
use Rattle.msvc_nodes.specs.NodeView.{types_in}
use Rattle.msvc_print.specs.Weights.{types_weight}
use Rattle.msvc_print.specs.Work.{finished_after}
use Rattle.msvc_print.proofs.printer.Printer.print_list.Goals as goal

-- a piece was left out
pub returns-then-not-is_whole-clause-text : goal.returns-then-not-is_whole-clause-text
returns-then-not-is_whole-clause-text g c =
    let left_out : is_some c.write_simple_types.new.out.text ≡ false = search rules in
    ap (finished_after c.args.self.now) (add_all-not_whole _ _ left_out
    ∙ written-rest c.args.types.now c.in_ok-at.at _ c.args.end c.args.self.now.flags.bits _ _ c.in_ok-at.ensures.text)

pub returns-then-not-is_whole-clause-lighter : goal.returns-then-not-is_whole-clause-lighter
returns-then-not-is_whole-clause-lighter g c = omega (arith, types_weight-positive c.args.types.now)

pub returns-in-empty-clause-text : goal.returns-in-empty-clause-text
returns-in-empty-clause-text g c =
    on_ok_weaker c.write_list_end.result
    (λ last. ap (finished_after c.args.self.now) (last
    ∙ rest-written _ _ _ _ c.in-empty.len_below
    ∙ written-rest c.args.types.now c.in_ok-at.at _ c.args.end c.args.self.now.flags.bits _ _ c.in_ok-at.ensures.text))
    c.write_list_end.ensures

pub returns-in-empty-clause-lighter : goal.returns-in-empty-clause-lighter
returns-in-empty-clause-lighter g c = on_ok_weaker c.write_list_end.result
    (λ last. omega (arith, types_weight-positive c.args.types.now)) c.write_list_end.ensures

pub returns-in_ok-push-in-len1-up-clause-text : goal.returns-in_ok-push-in-len1-up-clause-text
returns-in_ok-push-in-len1-up-clause-text g c =
    on_ok_weaker c.print_parameter.result (λ last. last ∙ pushed_one _ _ _ _ _ c.in_ok-push-in-len1-up.ensures
    ∙ ap (finished_after c.args.self.now)
    (rest-begun _ _ c.args.end c.args.self.now.flags.bits _ c.in-len1-up.len_at_least
    ∙ written-rest c.args.types.now c.in_ok-at.at _ c.args.end c.args.self.now.flags.bits _ _ c.in_ok-at.ensures.text))
    c.print_parameter.ensures.text

pub returns-in_ok-push-in-len1-up-clause-lighter : goal.returns-in_ok-push-in-len1-up-clause-lighter
returns-in_ok-push-in-len1-up-clause-lighter g c = on_ok_weaker c.print_parameter.result (λ last. omega (
  arith,
  work_one _ _ _ c.in_ok-push-in-len1-up.ensures,
  lightened-first _ _ _ _ c.in-len1-up.len_at_least last,
  ap (λ ts. types_weight (types_in ts)) (types-left c.args.types.now c.in_ok-at.at),
  types_weight-fewer c.args.types.now c.in_ok-at.at,
)) c.print_parameter.ensures.lighter
