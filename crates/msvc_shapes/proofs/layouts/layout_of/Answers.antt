use Rattle.std.proofs.Common.{arith, sym, ◌∙◌}
use Rattle.msvc_shapes.proofs.BehindTable.{layout_of-behind}
use Rattle.msvc_shapes.proofs.layouts.layout_of.Goals as goal

pub returns-in_default : goal.returns-in_default
returns-in_default c =
    c.before-in_default.ensures ∙ sym (layout_of-behind c.args.row (omega (arith, c.in_default)))
