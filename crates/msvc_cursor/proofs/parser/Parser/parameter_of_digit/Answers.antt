use Rattle.std.proofs.Common.{rules, ◌≡◌, ◌∷◌, ◌++◌, ℕ, List, [], Option, Some, Err, ap, sym, ◌∙◌}
use Rattle.std.proofs.lemmas.Option.{slice_get-map}
use Rattle.std.specs.Prelude.{map, slice_get}
use Rattle.msvc_rules.specs.Readers.{counting, type_noted}
use Rattle.msvc_rules.specs.Reads.{nodes_of_type, note_digit}
use Rattle.msvc_rules.specs.State.{Entry, Note, State}
use Rattle.msvc_cursor.proofs.Nodes.{map_last}
use Rattle.msvc_cursor.proofs.NotedTypes.{noted_read, noted_rejected}
use Rattle.msvc_cursor.proofs.Rejecting.{rejects_with}
use Rattle.msvc_cursor.specs.NestedList.{current}
use Rattle.msvc_cursor.specs.Notes.{note_of}
use Rattle.msvc_cursor.specs.Parser.{beyond, memorized_of, state_of}
use Rattle.msvc_cursor.specs.declared.back_references.BackReference.{BackReference}
use Rattle.msvc_cursor.proofs.parser.Parser.parameter_of_digit.Goals as goal

-- there are too many nodes
pub returns-in_err-count_nodes-clause-value : goal.returns-in_err-count_nodes-clause-value
returns-in_err-count_nodes-clause-value g c = λ extra.
    let old = c.args.self.now in
    let entry = c.in-Some.entry in
    let note : BackReference = record { at = c.offset_of.result; start = entry.start; end = entry.end } in
    let mid = record old { references = c.push.new.self } in
    let found : slice_get (state_of old).types c.args.digit ≡ Some (memorized_of entry) = search (rules, slice_get-map) in
    let items : c.push.new.self.items ≡ old.references.items ++ note ∷ [] = search rules in
    let noted : beyond extra (state_of mid) ≡ note_digit (memorized_of entry) c.args.start.now (beyond extra (state_of old)) =
    ap (λ (is : List BackReference). record (beyond extra (state_of old)) { notes = map note_of is }) items
    ∙ ap (λ (ns : List Note). record (beyond extra (state_of old)) { notes = ns })
    (map_last note_of old.references.items note)
    ∙ ap (λ (at : ℕ). record (beyond extra (state_of old)) {
      notes = (state_of old).notes ++ record { at = at; start = entry.start; end = entry.end } ∷ [];
    }) c.offset_of.ensures in
    let failed : c.from_residual.result ≡ Err c.in_err-count_nodes.field-0.0 = search rules in
    rw failed
    (rejects_with extra c.count_nodes.new.self.last_error.reason
    (counting (g.L.NodeBudget.used entry.nodes) old.rest.now (beyond extra (state_of mid)))
    (type_noted (slice_get (state_of old).types c.args.digit) c.args.start.now old.rest.now (beyond extra (state_of old)))
    (noted_rejected (slice_get (state_of old).types c.args.digit) (memorized_of entry) c.args.start.now old.rest.now
    (beyond extra (state_of old)) (beyond extra (state_of mid)) (g.L.NodeBudget.used entry.nodes) found entry.counted noted)
    (c.in_err-count_nodes.ensures.value extra))

-- the type is that of the entry
pub returns-clause-value : goal.returns-clause-value
returns-clause-value g c = λ extra.
    let old = c.args.self.now in
    let entry = c.in-Some.entry in
    let after = c.count_nodes.new.self in
    let note : BackReference = record { at = c.offset_of.result; start = entry.start; end = entry.end } in
    let mid = record old { references = c.push.new.self } in
    let found : slice_get (state_of old).types c.args.digit ≡ Some (memorized_of entry) = search (rules, slice_get-map) in
    let items : c.push.new.self.items ≡ old.references.items ++ note ∷ [] = search rules in
    let noted : beyond extra (state_of mid) ≡ note_digit (memorized_of entry) c.args.start.now (beyond extra (state_of old)) =
    ap (λ (is : List BackReference). record (beyond extra (state_of old)) { notes = map note_of is }) items
    ∙ ap (λ (ns : List Note). record (beyond extra (state_of old)) { notes = ns })
    (map_last note_of old.references.items note)
    ∙ ap (λ (at : ℕ). record (beyond extra (state_of old)) {
      notes = (state_of old).notes ++ record { at = at; start = entry.start; end = entry.end } ∷ [];
    }) c.offset_of.ensures in
    noted_read (slice_get (state_of old).types c.args.digit) (memorized_of entry) c.args.start.now old.rest.now
    after.rest.now (beyond extra (state_of old)) (beyond extra (state_of mid)) (beyond extra (state_of after))
    (g.L.NodeBudget.used entry.nodes) found entry.counted noted (c.in_ok-count_nodes.ensures.value extra)
