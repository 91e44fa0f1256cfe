use Rattle.std.proofs.Common.{◌≡◌, ℕ, List, None, Some, map}
use Rattle.msvc_nodes.specs.NodeView.{typed_symbol_of}
use Rattle.msvc_nodes.specs.Trees.{SymbolTree}
use Rattle.msvc_rules.specs.State.{Note}
use Rattle.msvc_cursor.proofs.Messages.{unlimited}
use Rattle.msvc_cursor.specs.Notes.{note_of}
use Rattle.msvc_full_readers.proofs.WholeTexts.{result-fails, result-inside, result-read}
use Rattle.msvc_full_grammar.proofs.Dialects.{full-laws}
use Rattle.msvc_cursor.specs.declared.symbol_read.SymbolRead.{SymbolRead}
use Rattle.msvc_full_readers.proofs.reading.read.Goals as goal

-- a symbol that was read: its tree, how many bytes it takes, and its back references
abbrev seen : {A : Type 0} {h : _} → SymbolRead A h → SymbolTree × ℕ × List Note
seen r = (typed_symbol_of r.symbol, r.length, map note_of r.references.items)

pub returns-in-None-clause-read : goal.returns-in-None-clause-read
returns-in-None-clause-read g c =
    let read = c.read_counted in
    rw c.in-None.is
    (result-read None c.args.input.now seen read.result
    c.utf8.input read.ensures.value)

pub returns-in-None-clause-fails : goal.returns-in-None-clause-fails
returns-in-None-clause-fails g c =
    let read = c.read_counted in
    rw c.in-None.is
    (result-fails None c.args.input.now seen read.result
    read.ensures.value read.ensures.start (λ none. unlimited read.result read.ensures.counted))

pub returns-in-None-clause-inside : goal.returns-in-None-clause-inside
returns-in-None-clause-inside g c =
    let read = c.read_counted in
    result-inside None c.args.input.now read.result
    (result-fails None c.args.input.now seen read.result
    read.ensures.value read.ensures.start (λ none. unlimited read.result read.ensures.counted))

pub returns-in-None-clause-laws : goal.returns-in-None-clause-laws
returns-in-None-clause-laws g c = full-laws c.args.input.now

pub returns-in-Some-clause-read : goal.returns-in-Some-clause-read
returns-in-Some-clause-read g c =
    let read = c.read_counted-in-Some in
    rw c.in-Some.is
    (result-read (Some c.in-Some.max) c.args.input.now seen read.result
    c.utf8.input read.ensures.value)

pub returns-in-Some-clause-fails : goal.returns-in-Some-clause-fails
returns-in-Some-clause-fails g c =
    let read = c.read_counted-in-Some in
    rw c.in-Some.is
    (result-fails (Some c.in-Some.max) c.args.input.now seen read.result
    read.ensures.value read.ensures.start (λ none. let no : Some c.in-Some.max ≡ None = none in absurd (cc)))

pub returns-in-Some-clause-inside : goal.returns-in-Some-clause-inside
returns-in-Some-clause-inside g c =
    let read = c.read_counted-in-Some in
    result-inside (Some c.in-Some.max) c.args.input.now read.result
    (result-fails (Some c.in-Some.max) c.args.input.now seen read.result
    read.ensures.value read.ensures.start (λ none. let no : Some c.in-Some.max ≡ None = none in absurd (cc)))

pub returns-in-Some-clause-laws : goal.returns-in-Some-clause-laws
returns-in-Some-clause-laws g c = full-laws c.args.input.now
