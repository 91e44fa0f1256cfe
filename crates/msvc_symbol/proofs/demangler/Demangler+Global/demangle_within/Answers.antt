use Rattle.std.proofs.Common.{◌∙◌, ap, subst}
use Rattle.msvc_cursor.specs.Limits.{limits_of}
use Rattle.msvc_symbol.specs.Demangled.{IsErrorUnderIn}
use Rattle.msvc_symbol.specs.Grammars.{Kept}
use Rattle.msvc_symbol.proofs.Demangled.{hashes_in}
use Rattle.msvc_symbol.proofs.Failed.{error_under}
use Rattle.msvc_symbol.proofs.demangler.Demangler+Global.demangle_within.Goals as goal

pub returns-in-Ok-clause-hashes : goal.returns-in-Ok-clause-hashes
returns-in-Ok-clause-hashes c = λ crate.
    let same = ap (λ (k : Kept). k.grammar) c.self.view_is in
    let is = c.in-Ok.ensures.declared in
    hashes_in c.self.inside.grammar (same ∙ crate) c.args.input.now _ is.0 c.args.flags.0 is.1

pub returns-in-Err-clause-rejected : goal.returns-in-Err-clause-rejected
returns-in-Err-clause-rejected c =
    let same = ap (λ (k : Kept). k.grammar) c.self.view_is in
    let limits = limits_of c.args.nodes c.args.bytes in
    subst (λ g. IsErrorUnderIn g limits c.args.input.now c.args.flags.0 c.error.result) same
    (error_under c.self.inside.grammar limits c.args.input.now c.args.flags.0 c.in-Err.failure c.error.result
    (rw c.new.ensures at c.in-Err.ensures.fails) c.error.ensures)
