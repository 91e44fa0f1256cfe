use Rattle.std.proofs.Common.{sym, ◌∙◌, arith}
use Rattle.std.proofs.lemmas.Result.{on_ok_weaker}
use Rattle.msvc_nodes.specs.NodeView.{type_of}
use Rattle.msvc_print.proofs.Halves.{symbol_pieces-halves}
use Rattle.msvc_print.proofs.Stack.{pushed_around, same_pieces, work_one}
use Rattle.msvc_print.proofs.qualified_names.push_typed_symbol.Goals as goal

pub returns-clause-text : goal.returns-clause-text
returns-clause-text g c = on_ok_weaker c.push_left.result
    (λ last out. pushed_around _ _ _ _ _ _ _ out _ c.in_ok-push_right.ensures.text c.in_ok-push.ensures last
    ∙ same_pieces _ out _ _ _
    (sym (symbol_pieces-halves _ _ (type_of c.args.tree.now.symbol_type.now) c.args.pointed c.args.flags.bits)))
    c.push_left.ensures.text

pub returns-clause-lighter : goal.returns-clause-lighter
returns-clause-lighter g c = on_ok_weaker c.push_left.result
    (λ last. omega (arith, c.in_ok-push_right.ensures.lighter, work_one _ _ _ c.in_ok-push.ensures, last))
    c.push_left.ensures.lighter
