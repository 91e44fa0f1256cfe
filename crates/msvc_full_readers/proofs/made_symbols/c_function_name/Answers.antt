use Rattle.std.proofs.Common.{rules}
use Rattle.msvc_nodes.specs.NodeView.{name_of, type_of}
use Rattle.msvc_full_readers.proofs.Steps.{steps}
use Rattle.msvc_full_readers.proofs.made_symbols.c_function_name.Goals as goal

pub returns-in_err-function-clause-value : goal.returns-in_err-function-clause-value
unfolding name_of type_of
returns-in_err-function-clause-value g c = λ extra.
    let count_node = c.in_ok-count_node.ensures.value extra in
    let text = c.in_ok-text.ensures.value extra in
    let count_node_2 = c.in_ok-count_node-2.ensures.value extra in
    let name = c.in_ok-name.ensures.value extra in
    let count_node_3 = c.in_ok-count_node-3.ensures.value extra in
    let expect = c.in_ok-expect.ensures.value extra in
    let function = c.in_err-function.ensures.value extra in
    search (rules, steps)

pub returns-clause-value : goal.returns-clause-value
unfolding name_of type_of
returns-clause-value g c = λ extra.
    let count_node = c.in_ok-count_node.ensures.value extra in
    let text = c.in_ok-text.ensures.value extra in
    let count_node_2 = c.in_ok-count_node-2.ensures.value extra in
    let name = c.in_ok-name.ensures.value extra in
    let count_node_3 = c.in_ok-count_node-3.ensures.value extra in
    let expect = c.in_ok-expect.ensures.value extra in
    let function = c.in_ok-function.ensures.value extra in
    let stored = c.put_nested.ensures.value extra in
    search (rules, steps)
