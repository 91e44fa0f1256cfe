use Rattle.std.proofs.Common.{rules}
use Rattle.msvc_nodes.specs.NodeView.{name_of, type_of}
use Rattle.msvc_full_readers.proofs.Steps.{steps}
use Rattle.msvc_full_readers.proofs.made_symbols.variable_home.Goals as goal

pub returns-in_err-symbol_type-clause-value : goal.returns-in_err-symbol_type-clause-value
unfolding name_of type_of
returns-in_err-symbol_type-clause-value g c = λ extra.
    let count_node = c.in_ok-count_node.ensures.value extra in
    let count_node_2 = c.in_ok-count_node-2.ensures.value extra in
    let symbol_type = c.in_err-symbol_type.ensures.value extra in
    search (rules, steps)

pub returns-clause-value : goal.returns-clause-value
unfolding name_of type_of
returns-clause-value g c = λ extra.
    let count_node = c.in_ok-count_node.ensures.value extra in
    let count_node_2 = c.in_ok-count_node-2.ensures.value extra in
    let symbol_type = c.in_ok-symbol_type.ensures.value extra in
    search (rules, steps)
