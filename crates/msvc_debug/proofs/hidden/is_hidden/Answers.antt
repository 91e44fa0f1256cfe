use Rattle.msvc_debug.specs.Literals.{is_hidden}
use Rattle.msvc_debug.proofs.hidden.is_hidden.Goals as goal

pub returns : goal.returns
unfolding is_hidden
returns c = c.is_in_runs.ensures
