use Rattle.std.specs.Prelude.{OnOk}
use Rattle.std.proofs.Common.{ap, arith, subst, sym, ◌∙◌}
use Rattle.std.proofs.lemmas.Result.{on_ok_weaker}
use Rattle.msvc_nodes.proofs.NodeViews.{name_of-Shape}
use Rattle.msvc_nodes.specs.NodeView.{name_of}
use Rattle.msvc_print.specs.Declaration.{name_pieces}
use Rattle.msvc_print.specs.ShapeNodes.{slots_from}
use Rattle.msvc_print.specs.Weights.{name_weight}
use Rattle.msvc_print.specs.Work.{Prints}
use Rattle.msvc_print.proofs.printer.Printer.print_name.Goals as goal

pub returns-in-Shape-clause-text : goal.returns-in-Shape-clause-text
unfolding name_pieces slots_from
returns-in-Shape-clause-text g c =
    let w = c.in-Shape in
    subst (λ n. OnOk c.print_slots.result
    (Prints (name_pieces n c.args.of_symbol c.args.self.now.flags.bits) c.args.self.now c.print_slots.new.self))
    (sym (ap name_of w.is ∙ name_of-Shape w.shape)) c.print_slots.ensures.text

pub returns-in-Shape-clause-lighter : goal.returns-in-Shape-clause-lighter
unfolding name_weight slots_from
returns-in-Shape-clause-lighter g c =
    let w = c.in-Shape in
    on_ok_weaker c.print_slots.result
    (λ last. omega (arith, last, ap name_weight (ap name_of w.is ∙ name_of-Shape w.shape)))
    c.print_slots.ensures.lighter
