use Rattle.std.proofs.Common.{rules}
use Rattle.msvc_nodes.specs.NodeView.{name_of, type_of}
use Rattle.msvc_full_readers.proofs.Steps.{steps}
use Rattle.msvc_full_readers.proofs.repeated_classes.end_of_pointer.Goals as goal

pub returns-clause-value : goal.returns-clause-value
unfolding name_of type_of
returns-clause-value g c = λ extra.
    let marks = c.marks.ensures.value extra in
    let qualifier = c.in_ok-qualifier.ensures.value extra in
    search (rules, steps)
