use Rattle.std.proofs.Common.{subst}
use Rattle.msvc_demangler.specs.GrammarNames.{Grammar}
use Rattle.msvc_c_calls.proofs.Found.{unmeasured}
use Rattle.msvc_c_calls.specs.Calls as calls
use Rattle.msvc_c_calls.proofs.calls.measure.Goals as goal

pub returns-in-Ok : goal.returns-in-Ok
returns-in-Ok g c =
    let parsed = c.in-Ok.ensures.parsed in
    let In : Grammar → Type 0 = λ k. calls.IsMeasured k c.args.limits c.args.symbol.now 0 0 c.in-Ok.length in
    subst In c.grammar_of.ensures
    (calls.measured c.utf8.symbol (parsed.0, parsed.1, parsed.2, c.in-Ok.ensures.length))

pub returns-in-Err : goal.returns-in-Err
returns-in-Err g c =
    let result = c.unread.result in
    let In : Grammar → Type 0 = λ k. calls.IsMeasured k c.args.limits c.args.symbol.now result.status result.offset
    result.length in
    subst In c.grammar_of.ensures
    (unmeasured _ _ c.args.symbol.now _ _ _ (c.unread.ensures _ _ c.in-Err.ensures.fails))
