use Rattle.std.proofs.Common.{◌≡◌, ap, ◌∙◌, arith, Some, None, true}
use Rattle.std.proofs.lemmas.Result.{on_ok_weaker}
use Rattle.msvc_nodes.specs.NodeView.{name_of, type_of}
use Rattle.msvc_print.specs.Declaration.{arguments, name_pieces}
use Rattle.msvc_print.specs.SymbolNodes.{type_or_none}
use Rattle.msvc_print.specs.Work.{full_conversion_to, full_return}
use Rattle.msvc_print.proofs.OperatorNames.{full_return_weight-bound, return_weight}
use Rattle.msvc_print.proofs.Stack.{pushed_one, same_pieces, work_one}
use Rattle.msvc_print.proofs.qualified_names.push_full_conversion.Goals as goal

pub returns-in-Some-clause-text : goal.returns-in-Some-clause-text
unfolding full_conversion_to
returns-in-Some-clause-text g c =
    let name = name_pieces (name_of c.args.name.now) true c.args.flags.bits in
    let list = arguments (name_of c.args.name.now) c.args.flags.bits in
    let is : Some (type_of c.in-Some.returned.now) ≡ full_return (type_or_none c.args.symbol_type)
    = c.in-Some.ensures in
    on_ok_weaker c.push_conversion_to.result
    (λ last out. last out ∙ same_pieces _ out _ _ _ (ap (λ o. full_conversion_to o list name c.args.flags.bits) is))
    c.push_conversion_to.ensures.text

pub returns-in-Some-clause-lighter : goal.returns-in-Some-clause-lighter
unfolding return_weight
returns-in-Some-clause-lighter g c =
    let is : Some (type_of c.in-Some.returned.now) ≡ full_return (type_or_none c.args.symbol_type)
    = c.in-Some.ensures in
    on_ok_weaker c.push_conversion_to.result (λ last. omega (
      arith,
      last,
      ap return_weight is,
      full_return_weight-bound (type_or_none c.args.symbol_type),
    )) c.push_conversion_to.ensures.lighter

pub returns-in-None-clause-text : goal.returns-in-None-clause-text
unfolding full_conversion_to
returns-in-None-clause-text g c =
    let name = name_pieces (name_of c.args.name.now) true c.args.flags.bits in
    let list = arguments (name_of c.args.name.now) c.args.flags.bits in
    let is : None ≡ full_return (type_or_none c.args.symbol_type) = c.in-None.ensures in
    on_ok_weaker c.push.result (λ last out. pushed_one _ _ _ out _ last
    ∙ same_pieces _ out _ _ _ (ap (λ o. full_conversion_to o list name c.args.flags.bits) is))
    c.push.ensures

pub returns-in-None-clause-lighter : goal.returns-in-None-clause-lighter
returns-in-None-clause-lighter g c =
    on_ok_weaker c.push.result (λ last. omega (arith, work_one _ _ _ last)) c.push.ensures
