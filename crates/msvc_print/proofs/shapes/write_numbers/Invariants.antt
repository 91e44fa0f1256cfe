use Rattle.std.proofs.Common.{◌≡◌, ◌-◌, ◌==◌, true, length, drop}
use Rattle.msvc_print.specs.Limited.{add_all}
use Rattle.msvc_print.specs.Shapes.{each_number}
use Rattle.msvc_print.proofs.shapes.write_numbers.Given as goal

-- the numbers that are left, written after the text, give the text with all numbers
abbrev pub invariant-numbers : goal.invariant-numbers
invariant-numbers g l = add_all l.out (each_number (drop l.at l.numbers) (l.at == 0) l.flags.bits)
    ≡ add_all l.fn.out (each_number l.fn.numbers true l.fn.flags.bits)

abbrev pub decreases-numbers : goal.decreases-numbers
decreases-numbers g l = length l.numbers - l.at
