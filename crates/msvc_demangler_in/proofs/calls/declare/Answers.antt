use Rattle.msvc_c_calls.proofs.Found.{lost}
use Rattle.msvc_demangler_in.proofs.calls.declare.Goals as goal

pub returns-in-None : goal.returns-in-None
returns-in-None c =
    lost _ c.args.limits c.args.symbol.now c.args.flags _ _ _ _ _ c.utf8.symbol c.out_of_memory.ensures.result
    c.out_of_memory.ensures.written
