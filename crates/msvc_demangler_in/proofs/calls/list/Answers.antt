use Rattle.std.proofs.Common.{refl, subst, sym}
use Rattle.std.specs.Prelude.{List, map}
use Rattle.msvc_cursor.specs.Notes.{note_of}
use Rattle.msvc_cursor.specs.declared.back_references.BackReference.{BackReference}
use Rattle.msvc_demangler.specs.Counts.{node_count}
use Rattle.msvc_demangler.specs.GrammarNames.{Grammar}
use Rattle.msvc_demangler.specs.Grammars.{dialect_of}
use Rattle.msvc_demangler.specs.Limits.{IsWithin}
use Rattle.msvc_demangler.specs.ParsedIn.{AreReferencesIn}
use Rattle.msvc_demangler_in.proofs.Listed.{list_found, lost_list, unlisted}
use Rattle.msvc_demangler_in.specs.Shown.{IsListed}
use Rattle.msvc_demangler_in.proofs.calls.list.Goals as goal

pub returns-in_default : goal.returns-in_default
returns-in_default c = lost_list _ _ c.args.symbol.now _ _ _ _ _ c.utf8.symbol c.unmeasured.ensures

pub returns-in-Ok : goal.returns-in-Ok
returns-in-Ok c =
    let g = c.grammar_of.result in
    let read = c.in-Ok.ensures.read in
    let Are : List BackReference → Type 0 = λ xs.
    (are : AreReferencesIn (dialect_of g) c.args.symbol.now (map note_of xs))
    × IsWithin c.args.limits.nodes (node_count are.tree) in
    let of : IsWithin c.args.limits.nodes (node_count read.references.tree) =
    subst (λ tree. IsWithin c.args.limits.nodes (node_count tree)) (sym read.same) read.within in
    let found = subst Are (sym c.deref.ensures.value) (read.references, of) in
    let In : Grammar → Type 0 = λ k. IsListed k c.args.limits c.args.symbol.now c.args.out.now
    c.write_references.new.out 0 0 c.write_references.result in
    subst In c.grammar_of.ensures
    (list_found g _ c.args.symbol.now c.args.out.now c.write_references.new.out (map note_of c.deref.result.now) _ _ _
    c.utf8.symbol found.0 found.1 c.write_references.ensures.written refl refl c.write_references.ensures.number)

pub returns : goal.returns
returns c =
    let result = c.unread.result in
    let In : Grammar → Type 0 = λ k. IsListed k c.args.limits c.args.symbol.now c.args.out.now c.args.out.now
    result.status result.offset result.length in
    subst In c.grammar_of.ensures
    (unlisted _ _ c.args.symbol.now _ _ _ _ _ (c.unread.ensures _ _ c.in-Err.ensures.fails) (λ no. refl))
