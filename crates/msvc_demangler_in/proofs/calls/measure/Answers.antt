use Rattle.msvc_c_calls.proofs.Found.{unknown}
use Rattle.msvc_demangler_in.proofs.calls.measure.Goals as goal

pub returns-in-None : goal.returns-in-None
returns-in-None c = unknown _ _ c.args.symbol.now _ _ _ c.utf8.symbol c.unmeasured.ensures
