use Rattle.std.proofs.Common.{rules}
use Rattle.msvc_nodes.specs.NodeView.{name_of, type_of}
use Rattle.msvc_full_readers.proofs.Steps.{steps}
use Rattle.msvc_full_readers.proofs.made_symbols.string_symbol.Goals as goal

pub returns-in_err-bytes-clause-value : goal.returns-in_err-bytes-clause-value
unfolding name_of type_of
returns-in_err-bytes-clause-value g c = λ extra.
    let string = c.in_ok-string.ensures.value extra in
    let bytes = c.in_err-bytes.ensures.value extra in
    search (rules, steps)

pub returns-in_err-count_node-clause-value : goal.returns-in_err-count_node-clause-value
unfolding name_of type_of
returns-in_err-count_node-clause-value g c = λ extra.
    let string = c.in_ok-string.ensures.value extra in
    let bytes = c.in_ok-bytes.ensures.value extra in
    let count_node = c.in_err-count_node.ensures.value extra in
    search (rules, steps)

pub returns-in_err-name-clause-value : goal.returns-in_err-name-clause-value
unfolding name_of type_of
returns-in_err-name-clause-value g c = λ extra.
    let string = c.in_ok-string.ensures.value extra in
    let bytes = c.in_ok-bytes.ensures.value extra in
    let count_node = c.in_ok-count_node.ensures.value extra in
    let name = c.in_err-name.ensures.value extra in
    search (rules, steps)

pub returns-in_err-count_node-2-clause-value : goal.returns-in_err-count_node-2-clause-value
unfolding name_of type_of
returns-in_err-count_node-2-clause-value g c = λ extra.
    let string = c.in_ok-string.ensures.value extra in
    let bytes = c.in_ok-bytes.ensures.value extra in
    let count_node = c.in_ok-count_node.ensures.value extra in
    let name = c.in_ok-name.ensures.value extra in
    let count_node_2 = c.in_err-count_node-2.ensures.value extra in
    search (rules, steps)

pub returns-clause-value : goal.returns-clause-value
unfolding name_of type_of
returns-clause-value g c = λ extra.
    let string = c.in_ok-string.ensures.value extra in
    let bytes = c.in_ok-bytes.ensures.value extra in
    let count_node = c.in_ok-count_node.ensures.value extra in
    let name = c.in_ok-name.ensures.value extra in
    let count_node_2 = c.in_ok-count_node-2.ensures.value extra in
    let untyped_symbol = c.untyped_symbol.ensures.value extra in
    search (rules, steps)
