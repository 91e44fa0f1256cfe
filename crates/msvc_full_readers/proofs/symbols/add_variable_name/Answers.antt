use Rattle.std.proofs.Common.{rules}
use Rattle.msvc_nodes.specs.NodeView.{name_of, type_of}
use Rattle.msvc_full_readers.proofs.Steps.{steps}
use Rattle.msvc_full_readers.proofs.symbols.add_variable_name.Goals as goal

pub returns-in_err-add_name-clause-value : goal.returns-in_err-add_name-clause-value
unfolding name_of type_of
returns-in_err-add_name-clause-value g c = λ extra.
    let add_name = c.in_err-add_name.ensures.value extra in
    search (rules, steps)

pub returns-in_ok-add_name-clause-value : goal.returns-in_ok-add_name-clause-value
unfolding name_of type_of
returns-in_ok-add_name-clause-value g c = λ extra.
    let add_name = c.in_ok-add_name.ensures.value extra in
    search (rules, steps)
