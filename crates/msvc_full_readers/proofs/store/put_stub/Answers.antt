use Rattle.std.proofs.Common.{rules}
use Rattle.msvc_nodes.specs.NodeView.{name_of, type_of}
use Rattle.msvc_full_readers.proofs.StoreSteps.{steps}
use Rattle.msvc_full_readers.proofs.store.put_stub.Goals as goal

pub returns-in_err-of-clause-value : goal.returns-in_err-of-clause-value
unfolding name_of type_of
returns-in_err-of-clause-value g c = λ extra.
    let of = c.in_err-of.ensures.value extra in
    search (rules, steps)

pub returns-clause-value : goal.returns-clause-value
unfolding name_of type_of
returns-clause-value g c = λ extra.
    let of = c.in_ok-of.ensures.value extra in
    let stored = c.put_named_name.ensures.value extra in
    search (rules, steps)
