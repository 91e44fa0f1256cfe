use Rattle.std.proofs.Common.{rules}
use Rattle.msvc_nodes.specs.NodeView.{name_of, type_of}
use Rattle.msvc_full_readers.proofs.Steps.{steps}
use Rattle.msvc_full_readers.proofs.made_symbols.guard_name.Goals as goal

pub returns-in_err-guard_marker-clause-value : goal.returns-in_err-guard_marker-clause-value
unfolding name_of type_of
returns-in_err-guard_marker-clause-value g c = λ extra.
    let count_node = c.in_ok-count_node.ensures.value extra in
    let guard_marker = c.in_err-guard_marker.ensures.value extra in
    search (rules, steps)

pub returns-in_err-index-clause-value : goal.returns-in_err-index-clause-value
unfolding name_of type_of
returns-in_err-index-clause-value g c = λ extra.
    let count_node = c.in_ok-count_node.ensures.value extra in
    let guard_marker = c.in_ok-guard_marker.ensures.value extra in
    let index = c.in_err-index.ensures.value extra in
    search (rules, steps)

pub returns-clause-value : goal.returns-clause-value
unfolding name_of type_of
returns-clause-value g c = λ extra.
    let count_node = c.in_ok-count_node.ensures.value extra in
    let guard_marker = c.in_ok-guard_marker.ensures.value extra in
    let index = c.in_ok-index.ensures.value extra in
    let stored = c.put_numbers_name.ensures.value extra in
    search (rules, steps)
