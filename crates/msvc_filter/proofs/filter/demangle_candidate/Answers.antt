use Rattle.msvc_filter.specs.Choices.{chosen}
use Rattle.msvc_filter.proofs.Failed.{none_within}
use Rattle.std.proofs.Common.{false, subst}
use Rattle.std.specs.Prelude.{IsTrue}
use Rattle.msvc_filter.proofs.filter.demangle_candidate.Goals as goal

pub returns-in-Ok-clause-declared : goal.returns-in-Ok-clause-declared
returns-in-Ok-clause-declared g c =
    let p = c.in-Ok.ensures.shown in (p.tree, p.parsed, p.shown, p.nodes, p.takes, p.bytes)

pub returns-else-is_out_of_memory-clause-none : goal.returns-else-is_out_of_memory-clause-none
returns-else-is_out_of_memory-clause-none g c =
    none_within (chosen c.args.how) c.args.input.now c.in-Err.failure
    (λ m.
    let no : IsTrue false = subst IsTrue c.if-is_out_of_memory.false (c.is_out_of_memory.ensures.1 m) in cc)
    c.in-Err.ensures.fails
