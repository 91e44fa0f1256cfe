use Rattle.msvc_demangler_in.proofs.Listed.{lost_list}
use Rattle.msvc_demangler_in.proofs.list_in.Goals as goal

pub returns-else-has_arena-clause-listed : goal.returns-else-has_arena-clause-listed
returns-else-has_arena-clause-listed c = lost_list _ _ c.args.symbol.now _ _ _ _ _ c.utf8.symbol c.unmeasured.ensures
