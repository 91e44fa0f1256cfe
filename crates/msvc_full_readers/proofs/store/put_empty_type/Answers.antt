use Rattle.std.proofs.Common.{rules}
use Rattle.msvc_nodes.specs.NodeView.{name_of, type_of}
use Rattle.msvc_full_readers.proofs.StoreSteps.{steps}
use Rattle.msvc_full_readers.proofs.store.put_empty_type.Goals as goal

pub returns-clause-value : goal.returns-clause-value
unfolding name_of type_of
returns-clause-value g c = λ extra.
    let stored = c.put_type.ensures.value extra in
    search (rules, steps)
