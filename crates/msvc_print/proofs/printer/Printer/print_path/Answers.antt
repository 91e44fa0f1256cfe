use Rattle.std.proofs.Common.{ap, sym, ◌∙◌, arith}
use Rattle.std.proofs.lemmas.Result.{on_ok_weaker}
use Rattle.msvc_print.specs.Declaration.{scope_path, scope_pieces}
use Rattle.msvc_print.specs.Limited.{add_all}
use Rattle.msvc_print.specs.Work.{finished_after}
use Rattle.msvc_print.proofs.Names.{names_in-first, names_in-none, scope_weight-positive, work-first}
use Rattle.msvc_print.proofs.Settling.{add_all-append}
use Rattle.msvc_print.proofs.Stack.{printed_none, pushed_one}
use Rattle.msvc_print.proofs.printer.Printer.print_path.Goals as goal

pub returns-in-empty-clause-text : goal.returns-in-empty-clause-text
unfolding scope_pieces
returns-in-empty-clause-text g c =
    printed_none _ _ _ _ (ap (λ ns. scope_path ns c.args.self.now.flags.bits) (names_in-none _ c.in-empty.len_below))

pub returns-in-empty-clause-lighter : goal.returns-in-empty-clause-lighter
returns-in-empty-clause-lighter g c = omega (arith, scope_weight-positive c.args.names.now)

pub returns-in_ok-push-in-len1-up-clause-text : goal.returns-in_ok-push-in-len1-up-clause-text
unfolding scope_pieces
returns-in_ok-push-in-len1-up-clause-text g c =
    on_ok_weaker c.print_scope.result (λ last. last ∙ pushed_one _ _ _ _ _ c.in_ok-push-in-len1-up.ensures
    ∙ ap (finished_after c.args.self.now)
    (sym (add_all-append c.args.self.now.out.now _ _) ∙ ap (add_all c.args.self.now.out.now)
    (sym (ap (λ ns. scope_path ns c.args.self.now.flags.bits) (names_in-first _ _ c.in-len1-up.len_at_least)))))
    c.print_scope.ensures.text

pub returns-in_ok-push-in-len1-up-clause-lighter : goal.returns-in_ok-push-in-len1-up-clause-lighter
returns-in_ok-push-in-len1-up-clause-lighter g c = on_ok_weaker c.print_scope.result (λ last. omega (
  arith,
  last,
  work-first c.args.names.now _ _ _ _ c.in-len1-up.len_at_least c.in_ok-push-in-len1-up.ensures,
)) c.print_scope.ensures.lighter
