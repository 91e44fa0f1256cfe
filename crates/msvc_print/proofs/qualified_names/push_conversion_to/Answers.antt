use Rattle.std.proofs.Common.{ap, sym, ◌∙◌, ◌++◌, ◌∷◌, arith, codes}
use Rattle.std.proofs.lemmas.Result.{on_ok_weaker}
use Rattle.msvc_nodes.specs.NodeView.{name_of, type_of}
use Rattle.msvc_print.specs.Declaration.{arguments}
use Rattle.msvc_print.specs.Halves.{after, before}
use Rattle.msvc_print.specs.Pieces.{text}
use Rattle.msvc_print.specs.Work.{finished}
use Rattle.msvc_print.proofs.Settling.{add_all-append, add_all-first}
use Rattle.msvc_print.proofs.Stack.{pushed_one, pushed_three, work_one}
use Rattle.msvc_print.proofs.qualified_names.push_conversion_to.Goals as goal
use Rattle.msvc_print.specs.declared.pointed.Pointed.TheVariants.{No}

pub returns-clause-text : goal.returns-clause-text
returns-clause-text g c =
    let flags = c.args.flags.bits in
    let list = arguments (name_of c.args.name.now) flags in
    let t = type_of c.args.returned.now in
    let value = text (codes " ") ∷ (before t No flags ++ after t No flags) in
    on_ok_weaker c.push-4.result
    (λ last out. pushed_one _ _ _ out _ last ∙ c.in_ok-push_arguments.ensures.text _
    ∙ pushed_three _ _ _ _ _ _ _ _ _ c.in_ok-push.ensures c.in_ok-push-2.ensures c.in_ok-push-3.ensures
    ∙ ap (λ x. finished c.args.stack.now.items x flags)
    (sym (add_all-first out (text (codes "operator")) (list ++ value) ∙ add_all-append _ list value)))
    c.push-4.ensures

pub returns-clause-lighter : goal.returns-clause-lighter
returns-clause-lighter g c = on_ok_weaker c.push-4.result
    (λ last. omega (
      arith,
      work_one _ _ _ c.in_ok-push.ensures,
      work_one _ _ _ c.in_ok-push-2.ensures,
      work_one _ _ _ c.in_ok-push-3.ensures,
      c.in_ok-push_arguments.ensures.lighter,
      work_one _ _ _ last,
    ))
    c.push-4.ensures
