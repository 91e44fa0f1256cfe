use Rattle.msvc_c_calls.proofs.Found.{lost}
use Rattle.msvc_demangler_in.proofs.demangle_in.Goals as goal

pub returns-else-has_arena-clause-found : goal.returns-else-has_arena-clause-found
returns-else-has_arena-clause-found c =
    let is = c.out_of_memory.ensures.result in
    let shown = lost _ c.args.limits c.args.symbol.now c.args.flags _ _ _ _ _
    c.utf8.symbol is c.out_of_memory.ensures.written in
    (shown.0, shown.1, shown.2, (c.declare-found.new.out, c.declare-found.auto.out, shown.3, λ no. absurd (no is.0)))
