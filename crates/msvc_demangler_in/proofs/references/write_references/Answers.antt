use Rattle.std.proofs.Common.{◌≡◌, ◌≤◌, ◌∙◌, arith, length, map, sym}
use Rattle.std.proofs.lemmas.List.{length-map}
use Rattle.msvc_cursor.specs.Notes.{note_of}
use Rattle.msvc_demangler_in.proofs.Listed.{all_written, written_on}
use Rattle.msvc_demangler_in.proofs.references.write_references.Goals as goal

pub entries-preserved : goal.entries-preserved
entries-preserved c =
    let least = c.min-count.ensures in
    written_on c.args.found.now c.args.out.now c.entries.out c.entries.i _ (record { at = 0; start = 0; end = 0 })
    (omega arith) (omega (arith, least)) (omega (arith, least)) c.entries.invariant

pub returns-clause-written : goal.returns-clause-written
returns-clause-written c =
    let notes = map note_of c.args.found.now in
    let old = c.args.out.now in
    let least = c.min-count.ensures in
    let same : length notes ≡ length c.args.found.now = length-map c.args.found.now note_of in
    let inside : c.entries.i ≤ length notes = omega (arith, least, same) in
    let places : c.entries.i ≤ length old = omega (arith, least) in
    c.entries.invariant
    ∙ all_written notes old c.entries.i inside places (λ more. omega (arith, least, same, more))

pub returns-clause-number : goal.returns-clause-number
returns-clause-number c = sym (length-map c.args.found.now note_of)
