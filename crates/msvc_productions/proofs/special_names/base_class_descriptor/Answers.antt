use Rattle.std.proofs.Common.{rules, ◌≡◌, to_z, of_z, w32}
use Rattle.std.proofs.lemmas.Int.{to_z-of_z}
use Rattle.msvc_cursor.specs.Parser.{beyond, state_of}
use Rattle.msvc_cursor.proofs.SpecialSteps.{base_class_reads}
use Rattle.msvc_productions.proofs.special_names.base_class_descriptor.Goals as goal

-- four numbers, one after another
pub returns-clause-value : goal.returns-clause-value
returns-clause-value g c = λ extra.
    let first_same : to_z w32 (of_z w32 c.in_ok-member.member) ≡ c.in_ok-member.member = search (rules, to_z-of_z) in
    let second_same : to_z w32 (of_z w32 c.in_ok-pointer.pointer) ≡ c.in_ok-pointer.pointer =
    search (rules, to_z-of_z) in
    let third_same : to_z w32 (of_z w32 c.in_ok-entry.entry) ≡ c.in_ok-entry.entry = search (rules, to_z-of_z) in
    let last_same : to_z w32 (of_z w32 c.in_ok-attributes.attributes) ≡ c.in_ok-attributes.attributes =
    search (rules, to_z-of_z) in
    let read = base_class_reads c.args.parser.now.rest.now c.count_node.new.self.rest.now c.number.new.self.rest.now
    c.number-2.new.self.rest.now
    c.number-3.new.self.rest.now c.number-4.new.self.rest.now (beyond extra (state_of c.args.parser.now))
    (beyond extra (state_of c.count_node.new.self)) (beyond extra (state_of c.number.new.self))
    (beyond extra (state_of c.number-2.new.self)) (beyond extra (state_of c.number-3.new.self)) (beyond extra (state_of c.number-4.new.self))
    c.in_ok-member.member c.in_ok-pointer.pointer c.in_ok-entry.entry c.in_ok-attributes.attributes
    (c.in_ok-count_node.ensures.value extra) (c.in_ok-member.ensures.value extra) (c.in_ok-pointer.ensures.value extra)
    (c.in_ok-entry.ensures.value extra)
    (c.in_ok-attributes.ensures.value extra) in
    rw read (rw (first_same, second_same, third_same, last_same) at (c.put_base_class.ensures.value extra))
