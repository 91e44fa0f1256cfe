use Rattle.msvc_demangler_in.proofs.Listed.{lost_tree}
use Rattle.msvc_demangler_in.proofs.show_in.Goals as goal

pub returns-else-has_arena-clause-shown : goal.returns-else-has_arena-clause-shown
returns-else-has_arena-clause-shown c =
    let is = c.out_of_memory.ensures.result in
    let found = lost_tree _ _ c.args.symbol.now _ _ _ _ _ c.utf8.symbol is c.out_of_memory.ensures.written
    in (found.0, found.1, found.2, (c.show-found.new.out, c.show-found.auto.out, found.3, λ no. absurd (no is.0)))
