use Rattle.std.proofs.Common.{rules}
use Rattle.msvc_print.proofs.PrinterLoop.{printed-within, written_typed_symbol}
use Rattle.msvc_print.proofs.printer.print_styled.Goals as goal

-- what is printed is the declaration, if it is within the limit
pub returns-clause-printed : goal.returns-clause-printed
returns-clause-printed g c = printed-within _ _ _ c.print_part.new.out _ (search rules) c.is_whole-within.ensures
    (written_typed_symbol c.args.symbol.now _ _ _ _ c.clear.ensures c.in_ok-print_part.ensures)
