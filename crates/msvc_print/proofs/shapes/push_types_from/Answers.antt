use Rattle.std.proofs.Common.{List, ap, arith, drop, length, take, true, ◌∙◌, ◌-◌}
use Rattle.std.specs.Borrow.{Bor}
use Rattle.std.proofs.lemmas.Result.{on_ok_weaker}
use Rattle.msvc_nodes.specs.NodeView.{types_in}
use Rattle.msvc_nodes.specs.declared.nodes.Type.{«Type»}
use Rattle.msvc_print.proofs.Parameters.{types_weight-fewer}
use Rattle.msvc_print.proofs.ShapePieces.{parted-end, types-dropped, types-length, types-rest}
use Rattle.msvc_print.proofs.Stack.{printed_none, same_pieces}
use Rattle.msvc_print.specs.Declaration.{each_type}
use Rattle.msvc_print.specs.Functions.{comma}
use Rattle.msvc_print.specs.Shapes.{parted}
use Rattle.msvc_print.specs.Weights.{types_weight}
use Rattle.msvc_print.proofs.shapes.push_types_from.Goals as goal

pub returns-then-at-types-clause-text : goal.returns-then-at-types-clause-text
returns-then-at-types-clause-text g c = λ out. printed_none _ out _ _
    (parted-end (comma c.args.flags.bits) (each_type (types_in c.args.types.now) c.args.flags.bits) c.args.at true
    (omega (arith, types-length c.args.types.now c.args.flags.bits, c.if-at-types.true)))

pub returns-clause-text : goal.returns-clause-text
returns-clause-text g c =
    let ts = c.args.types.now in
    let flags = c.args.flags.bits in
    let rest : List (Bor «Type») = take (length ts - c.args.at) (drop c.args.at ts) in
    on_ok_weaker c.push_types.result (λ e out. e out
    ∙ same_pieces _ out _ _ _ (ap (λ w. parted w (each_type (types_in rest) flags) true) c.comma.ensures
    ∙ ap (λ xs. parted (comma flags) (each_type (types_in xs) flags) true)
    (types-rest ts c.args.at (omega (arith, c.if-at-types.false)))
    ∙ ap (λ xs. parted (comma flags) xs true) (types-dropped ts c.args.at flags))) c.push_types.ensures.text

pub returns-clause-lighter : goal.returns-clause-lighter
returns-clause-lighter g c =
    let ts = c.args.types.now in
    on_ok_weaker c.push_types.result (λ e. omega (
      arith,
      e,
      ap (λ xs. types_weight (types_in xs)) (types-rest ts c.args.at (omega (arith, c.if-at-types.false))),
      types_weight-fewer ts c.args.at,
    )) c.push_types.ensures.lighter
