use Rattle.std.proofs.Common.{arith, sym, ◌∙◌}
use Rattle.std.proofs.lemmas.Result.{on_ok_weaker}
use Rattle.msvc_print.proofs.ShapePieces.{type_at-none, type_at-some, type-work}
use Rattle.msvc_print.proofs.Stack.{printed_none, same_pieces}
use Rattle.msvc_print.proofs.shapes.push_type_at.Goals as goal

pub returns-then-at-types-clause-text : goal.returns-then-at-types-clause-text
returns-then-at-types-clause-text g c = λ out. printed_none _ out _ _
    (type_at-none c.args.types.now c.args.at c.args.flags.bits (omega (arith, c.if-at-types.true)))

pub returns-clause-text : goal.returns-clause-text
returns-clause-text g c = on_ok_weaker c.push_type.result (λ e out. e out
    ∙ same_pieces _ out _ _ _ (sym (type_at-some c.args.types.now _ c.args.at c.args.flags.bits
    (omega (arith, c.if-at-types.false))))) c.push_type.ensures.text

pub returns-clause-lighter : goal.returns-clause-lighter
returns-clause-lighter g c = on_ok_weaker c.push_type.result (λ e.
    type-work c.args.types.now _ c.args.at _ _ (omega (arith, c.if-at-types.false)) e) c.push_type.ensures.lighter
