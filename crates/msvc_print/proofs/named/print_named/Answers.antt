use Rattle.std.proofs.Common.{rules}
use Rattle.msvc_print.proofs.PrinterLoop.{printed-within}
use Rattle.msvc_print.proofs.named.print_named.Goals as goal

pub returns-then-is_whole-clause-printed : goal.returns-then-is_whole-clause-printed
returns-then-is_whole-clause-printed g c = printed-within _ _ _ c.print_around_name.new.out _ (search rules)
    (search rules) (c.in_ok-place.ensures.text _ c.clear.ensures)

pub returns-clause-printed : goal.returns-clause-printed
returns-clause-printed g c = printed-within _ _ _ c.print_around_name.new.out _ (search rules) (search rules)
    (c.in_ok-place.ensures.text _ c.clear.ensures)

pub returns-then-is_whole-clause-named : goal.returns-then-is_whole-clause-named
returns-then-is_whole-clause-named g c = c.in_ok-place.ensures.name _ c.clear.ensures (search rules)
