use Rattle.std.proofs.Common.{◌≡◌, false, is_some, ap, rules}
use Rattle.msvc_print.proofs.SimpleTypes.{add_all-not_whole}
use Rattle.msvc_print.specs.Work.{finished_after}
use Rattle.msvc_print.proofs.printer.Printer.print_function.Goals as goal

-- a piece was left out
pub returns-then-not-is_whole-clause-text : goal.returns-then-not-is_whole-clause-text
returns-then-not-is_whole-clause-text g c =
    let left_out : is_some c.args.self.now.out.now.text ≡ false = search rules in
    ap (finished_after c.args.self.now) (add_all-not_whole _ _ left_out)
