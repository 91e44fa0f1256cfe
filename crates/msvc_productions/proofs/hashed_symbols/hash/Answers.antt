use Rattle.std.proofs.Common.{rules}
use Rattle.msvc_productions.proofs.hashed_symbols.hash.Goals as goal

pub returns-in-Ok-clause-value : goal.returns-in-Ok-clause-value
returns-in-Ok-clause-value g c = λ extra.
    let read = c.in-Ok.ensures.value extra in
    search rules

pub returns-in_default-clause-value : goal.returns-in_default-clause-value
returns-in_default-clause-value g c = λ extra.
    let read = c.source_name.ensures.value extra in
    search rules
