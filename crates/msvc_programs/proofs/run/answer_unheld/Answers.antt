use Rattle.std.proofs.Common.{rules, ◌≡◌, ◌++◌}
use Rattle.msvc_programs.proofs.Prints.{answers-unheld, reports-unheld}
use Rattle.msvc_programs.proofs.run.answer_unheld.Goals as goal

pub returns-in-Err-clause-text : goal.returns-in-Err-clause-text
returns-in-Err-clause-text g c =
    let e = c.in-Err.ensures.text in
    let split : c.args.block.now ≡ e.0 ++ c.undname_run.new.input.stream.now = search rules in
    rw c.slice_fault.ensures (e.1, e.3, answers-unheld c.in-Err.fault _ _ _ e.0 e.1 c.requires split e.4)

pub returns-in-Err-clause-errors : goal.returns-in-Err-clause-errors
returns-in-Err-clause-errors g c =
    let e = c.in-Err.ensures.errors in
    let split : c.args.block.now ≡ e.0 ++ c.undname_run.new.input.stream.now = search rules in
    rw c.slice_fault.ensures (e.1, e.3, reports-unheld c.in-Err.fault _ _ _ _ e.0 e.1 c.requires split e.4)
