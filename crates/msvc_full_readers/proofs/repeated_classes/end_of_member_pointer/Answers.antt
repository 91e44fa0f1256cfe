use Rattle.std.proofs.Common.{rules}
use Rattle.msvc_nodes.specs.NodeView.{name_of, type_of}
use Rattle.msvc_full_readers.proofs.Steps.{steps}
use Rattle.msvc_full_readers.proofs.repeated_classes.end_of_member_pointer.Goals as goal

pub returns-in_err-repeated_class-clause-value : goal.returns-in_err-repeated_class-clause-value
unfolding name_of type_of
returns-in_err-repeated_class-clause-value g c = λ extra.
    let marks = c.marks.ensures.value extra in
    let qualifier = c.in_ok-qualifier.ensures.value extra in
    let repeated_class = c.in_err-repeated_class.ensures.value extra in
    search (rules, steps)

pub returns-clause-value : goal.returns-clause-value
unfolding name_of type_of
returns-clause-value g c = λ extra.
    let marks = c.marks.ensures.value extra in
    let qualifier = c.in_ok-qualifier.ensures.value extra in
    let repeated_class = c.in_ok-repeated_class.ensures.value extra in
    search (rules, steps)
