use Rattle.std.proofs.Common.{[], ap, cond, sym, ◌∙◌, arith}
use Rattle.std.proofs.lemmas.Result.{on_ok_weaker}
use Rattle.msvc_nodes.specs.NodeView.{names_in}
use Rattle.msvc_print.specs.Declaration.{class_name, scope_pieces, tilde}
use Rattle.msvc_print.proofs.Names.{names_in-first, names_in-none, scope_weight-positive, work-first}
use Rattle.msvc_print.proofs.Stack.{pushed_one, pushed_two, same_pieces, work_one}
use Rattle.msvc_print.proofs.qualified_names.push_ctor_dtor_name.Goals as goal

pub returns-in-empty-clause-text : goal.returns-in-empty-clause-text
unfolding scope_pieces
returns-in-empty-clause-text g c = on_ok_weaker c.push.result (λ last out. pushed_one _ _ _ out _ last
    ∙ same_pieces _ out _ _ _ (sym (ap (λ ns. class_name ns (cond c.args.destructor tilde []) c.args.flags.bits)
    (names_in-none _ c.in-empty.len_below))))
    c.push.ensures

pub returns-in-empty-clause-lighter : goal.returns-in-empty-clause-lighter
returns-in-empty-clause-lighter g c =
    on_ok_weaker c.push.result (λ last. omega (arith, work_one _ _ _ last, scope_weight-positive c.args.names.now))
    c.push.ensures

pub returns-in_ok-push-in-len1-up-2-clause-text : goal.returns-in_ok-push-in-len1-up-2-clause-text
unfolding scope_pieces
returns-in_ok-push-in-len1-up-2-clause-text g c = λ out.
    pushed_two _ _ _ _ _ out _ c.in_ok-push-in-len1-up.ensures c.in_ok-push-in-len1-up-2.ensures
    ∙ same_pieces _ out _ _ _
    (sym (ap (λ d. class_name (names_in c.args.names.now) (cond d tilde []) c.args.flags.bits) c.if-destructor.true
    ∙ ap (λ ns. class_name ns tilde c.args.flags.bits) (names_in-first _ _ c.in-len1-up.len_at_least)))

pub returns-in_ok-push-in-len1-up-2-clause-lighter : goal.returns-in_ok-push-in-len1-up-2-clause-lighter
returns-in_ok-push-in-len1-up-2-clause-lighter g c = omega (
  arith,
  work_one _ _ _ c.in_ok-push-in-len1-up-2.ensures,
  work-first c.args.names.now _ _ _ _ c.in-len1-up.len_at_least c.in_ok-push-in-len1-up.ensures,
)

pub returns-else-destructor-clause-text : goal.returns-else-destructor-clause-text
unfolding scope_pieces
returns-else-destructor-clause-text g c = λ out. pushed_one _ _ _ out _ c.in_ok-push-in-len1-up.ensures
    ∙ same_pieces _ out _ _ _
    (sym (ap (λ d. class_name (names_in c.args.names.now) (cond d tilde []) c.args.flags.bits) c.if-destructor.false
    ∙ ap (λ ns. class_name ns [] c.args.flags.bits) (names_in-first _ _ c.in-len1-up.len_at_least)))

pub returns-else-destructor-clause-lighter : goal.returns-else-destructor-clause-lighter
returns-else-destructor-clause-lighter g c =
    omega (arith, work-first c.args.names.now _ _ _ _ c.in-len1-up.len_at_least c.in_ok-push-in-len1-up.ensures)
