use Rattle.msvc_c_calls.proofs.Found.{unknown}
use Rattle.msvc_demangler_in.proofs.measure_in.Goals as goal

pub returns-else-give_back-clause-measured : goal.returns-else-give_back-clause-measured
returns-else-give_back-clause-measured c = unknown _ _ c.args.symbol.now _ _ _ c.utf8.symbol c.unmeasured.ensures
