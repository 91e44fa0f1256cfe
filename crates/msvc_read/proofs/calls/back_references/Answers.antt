use Rattle.msvc_productions.proofs.WholeTexts.{laws}
use Rattle.msvc_read.proofs.calls.back_references.Goals as goal

pub returns-in-Ok-clause-laws : goal.returns-in-Ok-clause-laws
returns-in-Ok-clause-laws c = laws c.args.input.now

pub returns-in-Err-clause-laws : goal.returns-in-Err-clause-laws
returns-in-Err-clause-laws c = laws c.args.input.now
