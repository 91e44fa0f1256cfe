use Rattle.std.proofs.Common.{◌≡◌, ℕ, ap, arith, ◌∙◌}
use Rattle.msvc_nodes.proofs.NodeViews.{name_of-Shape}
use Rattle.msvc_nodes.specs.NodeView.{name_of, names_in, types_in}
use Rattle.msvc_print.proofs.ShapePieces.{slots_weight-positive}
use Rattle.msvc_print.specs.ShapeNodes.{parts_weight}
use Rattle.msvc_print.specs.Shapes.{slots_weight}
use Rattle.msvc_print.specs.Weights.{name_weight}
use Rattle.msvc_shapes.specs.Layouts.{slots}
use Rattle.msvc_shapes.specs.declared.layouts.Side.TheVariants as side
use Rattle.msvc_print.proofs.qualified_names.push_arguments.Goals as goal

pub returns-in-Shape-clause-lighter : goal.returns-in-Shape-clause-lighter
unfolding name_weight
returns-in-Shape-clause-lighter g c =
    let shape = c.in-Shape.shape.now in
    let parts : ℕ = parts_weight (names_in shape.names.now) (types_in shape.types.now) in
    let weight : name_weight (name_of c.args.name.now)
    ≡ slots_weight (slots shape.row side.Left) parts =
    ap (λ n. name_weight (name_of n)) c.in-Shape.is ∙ ap name_weight (name_of-Shape c.in-Shape.shape) in
    omega (arith, weight, slots_weight-positive (slots shape.row side.Left) parts)
