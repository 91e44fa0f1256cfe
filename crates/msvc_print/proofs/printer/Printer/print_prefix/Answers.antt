use Rattle.std.specs.Prelude.{OnOk}
use Rattle.std.proofs.Common.{ap, sym, subst, ◌∙◌}
use Rattle.msvc_nodes.specs.NodeView.{type_of}
use Rattle.msvc_nodes.proofs.NodeViews.{type_of-Tagged}
use Rattle.msvc_print.specs.Halves.{before}
use Rattle.msvc_print.specs.Weights.{type_weight}
use Rattle.msvc_print.specs.Work.{Lightens, Prints}
use Rattle.msvc_print.proofs.printer.Printer.print_prefix.Goals as goal

pub returns-in-Tagged-clause-text : goal.returns-in-Tagged-clause-text
unfolding before
returns-in-Tagged-clause-text g c =
    let w = c.in-Tagged in
    subst (λ t. OnOk c.print_tagged.result
    (Prints (before t c.args.pointed c.args.self.now.flags.bits) c.args.self.now c.print_tagged.new.self))
    (sym (ap type_of w.is ∙ type_of-Tagged w.tag w.qualifiers w.symbol))
    (rw (sym c.tag_word.ensures) c.print_tagged.ensures.text)

pub returns-in-Tagged-clause-lighter : goal.returns-in-Tagged-clause-lighter
unfolding type_weight
returns-in-Tagged-clause-lighter g c =
    let w = c.in-Tagged in
    subst (λ t. OnOk c.print_tagged.result (Lightens (type_weight t) c.args.self.now c.print_tagged.new.self))
    (sym (ap type_of w.is ∙ type_of-Tagged w.tag w.qualifiers w.symbol)) c.print_tagged.ensures.lighter
