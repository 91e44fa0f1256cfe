use Rattle.std.proofs.Common.{arith, ap, sym, ◌∙◌}
use Rattle.std.proofs.lemmas.Result.{on_ok_weaker}
use Rattle.msvc_print.proofs.Settling.{add_all-none}
use Rattle.msvc_print.proofs.ShapePieces.{of_number_at-none, of_number_at-some}
use Rattle.msvc_print.specs.Limited.{add_all}
use Rattle.msvc_print.specs.Shapes.{index_pieces}
use Rattle.msvc_print.proofs.shapes.write_index_at.Goals as goal

pub returns-then-at-numbers : goal.returns-then-at-numbers
returns-then-at-numbers g c = sym (ap (add_all c.args.out.now)
    (of_number_at-none index_pieces c.args.numbers.now c.args.at (omega (arith, c.if-at-numbers.true)))
    ∙ add_all-none c.args.out.now)

pub returns : goal.returns
returns g c = on_ok_weaker c.write_index.result (λ e. e ∙ ap (add_all c.args.out.now)
    (sym (of_number_at-some index_pieces c.args.numbers.now _ c.args.at (omega (arith, c.if-at-numbers.false)))))
    c.write_index.ensures
