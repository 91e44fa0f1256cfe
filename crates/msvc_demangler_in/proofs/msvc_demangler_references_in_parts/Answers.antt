use Rattle.std.proofs.Common.{ℕ, refl, subst, sym}
use Rattle.std.specs.Str.{IsValidUpTo}
use Rattle.msvc_c_calls.specs.Calls.{not_utf8, not_utf8_text}
use Rattle.msvc_c_calls.proofs.Found.{as_some_not_read}
use Rattle.msvc_demangler_in.proofs.Listed.{unlisted}
use Rattle.msvc_demangler_in.proofs.msvc_demangler_references_in_parts.Goals as goal

pub returns-in-Err-clause-listed : goal.returns-in-Err-clause-listed
returns-in-Err-clause-listed c =
    let cases = c.in-Err.ensures.cases in
    let UpTo : ℕ → Type 0 = λ n. IsValidUpTo c.args.symbol.now n in
    unlisted _ _ c.args.symbol.now _ _ _ _ _
    (as_some_not_read _ _ c.args.symbol.now _ _ _ 2 c.valid_up_to.result c.unmeasured.ensures
    (not_utf8_text, not_utf8 cases.0 (subst UpTo (sym c.valid_up_to.ensures) cases.1)))
    (λ no. refl)
