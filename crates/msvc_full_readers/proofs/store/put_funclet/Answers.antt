use Rattle.std.proofs.Common.{rules}
use Rattle.msvc_nodes.specs.NodeView.{name_of, type_of}
use Rattle.msvc_full_readers.proofs.StoreSteps.{steps}
use Rattle.msvc_full_readers.proofs.store.put_funclet.Goals as goal

pub returns-in_err-name-clause-value : goal.returns-in_err-name-clause-value
unfolding name_of type_of
returns-in_err-name-clause-value g c = λ extra.
    let name = c.in_err-name.ensures.value extra in
    search (rules, steps)

pub returns-clause-value : goal.returns-clause-value
unfolding name_of type_of
returns-clause-value g c = λ extra.
    let name = c.in_ok-name.ensures.value extra in
    let stored = c.put_typed_symbol.ensures.value extra in
    search (rules, steps)
