use Rattle.std.proofs.Common.{◌≡◌, ap, sym, ◌∙◌, arith, rules, Some, None, false, true}
use Rattle.std.proofs.lemmas.Result.{on_ok_weaker}
use Rattle.msvc_nodes.specs.NodeView.{name_of, type_of}
use Rattle.msvc_print.specs.Declaration.{arguments, name_pieces}
use Rattle.msvc_print.specs.Flags.{full_style, has}
use Rattle.msvc_print.specs.SymbolNodes.{type_or_none}
use Rattle.msvc_print.specs.Work.{member_return}
use Rattle.msvc_print.proofs.OperatorNames.{conversion-return, conversion_to, full_conversion-return, return_weight}
use Rattle.msvc_print.proofs.OperatorNames.{return_weight-bound}
use Rattle.msvc_print.proofs.Stack.{pushed_one, pushed_three, same_pieces, work_one}
use Rattle.msvc_print.proofs.qualified_names.push_conversion.Goals as goal

pub returns-then-is_full-clause-text : goal.returns-then-is_full-clause-text
returns-then-is_full-clause-text g c =
    let full : has c.args.flags.bits full_style ≡ true = search rules in
    on_ok_weaker c.push_full_conversion.result
    (λ last out. last out ∙ same_pieces _ out _ _ _ (sym (full_conversion-return (type_or_none c.args.symbol_type)
    (arguments (name_of c.args.name.now) c.args.flags.bits) (name_pieces (name_of c.args.name.now) true
    c.args.flags.bits)
    c.args.flags.bits full)))
    c.push_full_conversion.ensures.text

pub returns-in_ok-push-in-Some-2-clause-text : goal.returns-in_ok-push-in-Some-2-clause-text
unfolding conversion_to
returns-in_ok-push-in-Some-2-clause-text g c =
    let plain : has c.args.flags.bits full_style ≡ false = search rules in
    let name = name_pieces (name_of c.args.name.now) true c.args.flags.bits in
    let is : Some (type_of c.in-Some.returned.now) ≡ member_return (type_or_none c.args.symbol_type)
    = c.in-Some.ensures in
    on_ok_weaker c.push-in-Some-2.result
    (λ last out. pushed_three _ _ _ _ _ _ _ out _ c.in_ok-push-in-Some.ensures c.in_ok-push-in-Some-2.ensures last
    ∙ same_pieces _ out _ _ _ (ap (λ o. conversion_to o name c.args.flags.bits) is
    ∙ sym (conversion-return (type_or_none c.args.symbol_type) (arguments (name_of c.args.name.now) c.args.flags.bits)
    name
    c.args.flags.bits plain)))
    c.push-in-Some-2.ensures

pub returns-in_ok-push-in-Some-2-clause-lighter : goal.returns-in_ok-push-in-Some-2-clause-lighter
unfolding return_weight
returns-in_ok-push-in-Some-2-clause-lighter g c =
    let is : Some (type_of c.in-Some.returned.now) ≡ member_return (type_or_none c.args.symbol_type)
    = c.in-Some.ensures in
    on_ok_weaker c.push-in-Some-2.result (λ last. omega (
      arith,
      work_one _ _ _ c.in_ok-push-in-Some.ensures,
      work_one _ _ _ c.in_ok-push-in-Some-2.ensures,
      work_one _ _ _ last,
      ap return_weight is,
      return_weight-bound (type_or_none c.args.symbol_type),
    )) c.push-in-Some-2.ensures

pub returns-in-None-clause-text : goal.returns-in-None-clause-text
unfolding conversion_to
returns-in-None-clause-text g c =
    let plain : has c.args.flags.bits full_style ≡ false = search rules in
    let name = name_pieces (name_of c.args.name.now) true c.args.flags.bits in
    let is : None ≡ member_return (type_or_none c.args.symbol_type) = c.in-None.ensures in
    on_ok_weaker c.push-in-None.result (λ last out. pushed_one _ _ _ out _ last
    ∙ same_pieces _ out _ _ _ (ap (λ o. conversion_to o name c.args.flags.bits) is
    ∙ sym (conversion-return (type_or_none c.args.symbol_type) (arguments (name_of c.args.name.now) c.args.flags.bits)
    name
    c.args.flags.bits plain)))
    c.push-in-None.ensures

pub returns-in-None-clause-lighter : goal.returns-in-None-clause-lighter
returns-in-None-clause-lighter g c =
    on_ok_weaker c.push-in-None.result (λ last. omega (arith, work_one _ _ _ last)) c.push-in-None.ensures
