use Rattle.std.proofs.Common.{arith, sym, ◌∙◌}
use Rattle.std.proofs.lemmas.Result.{on_ok_weaker}
use Rattle.msvc_print.proofs.ShapePieces.{name_at-none, name_at-some, name-work}
use Rattle.msvc_print.proofs.Stack.{printed_none, pushed_one, same_pieces}
use Rattle.msvc_print.proofs.shapes.push_name_at.Goals as goal

pub returns-then-at-names-clause-text : goal.returns-then-at-names-clause-text
returns-then-at-names-clause-text g c = λ out. printed_none _ out _ _ (name_at-none c.args.names.now c.args.at
    c.args.of_symbol c.args.flags.bits (omega (arith, c.if-at-names.true)))

pub returns-clause-text : goal.returns-clause-text
returns-clause-text g c = on_ok_weaker c.push.result (λ e out. pushed_one _ _ _ out _ e
    ∙ same_pieces _ out _ _ _ (sym (name_at-some c.args.names.now _ c.args.at c.args.of_symbol
    c.args.flags.bits (omega (arith, c.if-at-names.false))))) c.push.ensures

pub returns-clause-lighter : goal.returns-clause-lighter
returns-clause-lighter g c = on_ok_weaker c.push.result (λ e. omega (
  arith,
  name-work c.args.names.now _ c.args.at _ _ _ (omega (arith, c.if-at-names.false)) e,
)) c.push.ensures
