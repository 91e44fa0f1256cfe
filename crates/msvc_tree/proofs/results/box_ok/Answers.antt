use Rattle.msvc_tree.proofs.results.box_ok.Goals as goal

-- the error is that of the failed allocation
pub returns-in-Err : goal.returns-in-Err
returns-in-Err g c = rw c.in_ok-made.was (c.in-Err.error, c.from.ensures)
