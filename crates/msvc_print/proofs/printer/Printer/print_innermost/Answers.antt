use Rattle.std.proofs.Common.{ap, arith, sym, subst, ◌∙◌}
use Rattle.msvc_nodes.specs.NodeView.{type_of}
use Rattle.msvc_nodes.proofs.NodeViews.{type_of-Tagged}
use Rattle.msvc_print.specs.Halves.{before}
use Rattle.msvc_print.specs.Weights.{type_weight}
use Rattle.msvc_print.specs.Work.{Prints}
use Rattle.msvc_print.proofs.printer.Printer.print_innermost.Goals as goal

pub returns-in_ok-print_tagged-in-Tagged-clause-text : goal.returns-in_ok-print_tagged-in-Tagged-clause-text
unfolding before
returns-in_ok-print_tagged-in-Tagged-clause-text g c = λ is pointed.
    let w = c.in-Tagged in
    subst (λ t. Prints (before t pointed c.args.self.now.flags.bits) c.args.self.now c.print_tagged.new.self)
    (sym (ap type_of w.is ∙ type_of-Tagged w.tag w.qualifiers w.symbol))
    (rw (sym c.tag_word.ensures) c.in_ok-print_tagged-in-Tagged.ensures.text)

pub returns-in_ok-print_tagged-in-Tagged-clause-lighter : goal.returns-in_ok-print_tagged-in-Tagged-clause-lighter
unfolding type_weight
returns-in_ok-print_tagged-in-Tagged-clause-lighter g c = λ is.
    let w = c.in-Tagged in
    omega (
      arith,
      c.in_ok-print_tagged-in-Tagged.ensures.lighter,
      ap type_weight (ap type_of w.is ∙ type_of-Tagged w.tag w.qualifiers w.symbol),
    )
