use Rattle.std.proofs.Common.{◌≡◌, ◌-◌, length, drop}
use Rattle.msvc_print.specs.Limited.{add_all}
use Rattle.msvc_print.specs.Shapes.{each_level}
use Rattle.msvc_print.proofs.shapes.write_levels.Given as goal

-- the levels that are left, written after the text, give the text with all levels
abbrev pub invariant-levels : goal.invariant-levels
invariant-levels g l = add_all l.out (each_level (drop l.at l.lengths)) ≡ add_all l.fn.out (each_level l.fn.lengths)

abbrev pub decreases-levels : goal.decreases-levels
decreases-levels g l = length l.lengths - l.at
