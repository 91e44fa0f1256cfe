use Rattle.std.proofs.Common.{◌∷◌, ◌++◌, [], ap, sym, ◌∙◌, arith, codes}
use Rattle.std.proofs.lemmas.Result.{on_ok_weaker}
use Rattle.msvc_nodes.specs.NodeView.{names_in}
use Rattle.msvc_nodes.specs.declared.kinds.SpecialTableKind.TheVariants.{Functions}
use Rattle.msvc_print.specs.Declaration.{scope_path, table_end}
use Rattle.msvc_print.specs.Limited.{add_all}
use Rattle.msvc_print.specs.Pieces.{text}
use Rattle.msvc_print.specs.Work.{finished_after}
use Rattle.msvc_print.proofs.Names.{names_in-none, table_end-some}
use Rattle.msvc_print.proofs.Settling.{add_all-append, add_all-first}
use Rattle.msvc_print.proofs.Stack.{printed_none, pushed_one, work_one}
use Rattle.msvc_print.proofs.printer.Printer.print_vftable_target.Goals as goal

pub returns-in-empty-clause-text : goal.returns-in-empty-clause-text
unfolding table_end
returns-in-empty-clause-text g c =
    printed_none _ _ _ _
    (ap (λ ns. table_end Functions ns (scope_path (names_in c.args.names.now) c.args.self.now.flags.bits))
    (names_in-none _ c.in-empty.len_below))

pub returns-in_ok-push-in-len1-up-clause-text : goal.returns-in_ok-push-in-len1-up-clause-text
returns-in_ok-push-in-len1-up-clause-text g c =
    let path = scope_path (names_in c.args.names.now) c.args.self.now.flags.bits in
    on_ok_weaker c.print_path.result (λ last. last ∙ pushed_one _ _ _ _ _ c.in_ok-push-in-len1-up.ensures
    ∙ ap (finished_after c.args.self.now)
    (sym (add_all-append c.write_text.new.out path (text (codes "'}") ∷ []))
    ∙ ap (λ x. add_all x (path ++ text (codes "'}") ∷ [])) c.in_ok-write_text-in-len1-up.ensures
    ∙ sym (add_all-first c.args.self.now.out.now (text (codes "{for `")) (path ++ text (codes "'}") ∷ []))
    ∙ ap (add_all c.args.self.now.out.now)
    (sym (table_end-some c.args.names.now path c.in-len1-up.len_at_least))))
    c.print_path.ensures.text

pub returns-in_ok-push-in-len1-up-clause-lighter : goal.returns-in_ok-push-in-len1-up-clause-lighter
returns-in_ok-push-in-len1-up-clause-lighter g c =
    on_ok_weaker c.print_path.result
    (λ last. omega (arith, last, work_one _ _ _ c.in_ok-push-in-len1-up.ensures)) c.print_path.ensures.lighter
