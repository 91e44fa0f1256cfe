use Rattle.std.proofs.Common.{length, ◌-◌, ◌≡◌, drop}
use Rattle.msvc_print.specs.Pointed.{some_opening}
use Rattle.msvc_shapes.specs.Layouts.{slots}
use Rattle.msvc_shapes.specs.declared.layouts.Side.TheVariants.{Left}
use Rattle.msvc_print.proofs.pointed.row_opens.Given as goal

-- none of the slots before this one is the parenthesis
abbrev pub invariant-slots : goal.invariant-slots
invariant-slots l = some_opening (slots l.row Left) ≡ some_opening (drop l.at (slots l.row Left))

abbrev pub decreases-slots : goal.decreases-slots
decreases-slots l = length l.left - l.at
