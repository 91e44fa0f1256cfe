use Rattle.std.proofs.Common.{rules}
use Rattle.msvc_nodes.specs.NodeView.{name_of, type_of}
use Rattle.msvc_rules.specs.Readers.{counting}
use Rattle.msvc_cursor.proofs.Nodes.{views}
use Rattle.msvc_full_readers.proofs.store.put_class.Goals as goal

pub returns-in_err-class-clause-value : goal.returns-in_err-class-clause-value
unfolding counting name_of type_of
returns-in_err-class-clause-value g c = λ extra.
    let symbol_type = c.in_ok-symbol_type.ensures.value extra in
    let class = c.in_err-class.ensures.value extra in
    search (rules, views)

pub returns-clause-value : goal.returns-clause-value
unfolding counting name_of type_of
returns-clause-value g c = λ extra.
    let symbol_type = c.in_ok-symbol_type.ensures.value extra in
    let class = c.in_ok-class.ensures.value extra in
    let stored = c.put_nested.ensures.value extra in
    search (rules, views)
