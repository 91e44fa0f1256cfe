use Rattle.msvc_symbol.proofs.Lawful.{laws}
use Rattle.msvc_symbol.proofs.demangler.Demangler+Global.back_references.Goals as goal

pub returns-clause-laws : goal.returns-clause-laws
returns-clause-laws c = laws c.args.self.now.grammar c.args.input.now
