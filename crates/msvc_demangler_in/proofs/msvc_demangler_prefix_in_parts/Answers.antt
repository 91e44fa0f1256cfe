use Rattle.std.proofs.Common.{ℕ, subst, sym}
use Rattle.std.specs.Str.{IsValidUpTo}
use Rattle.msvc_c_calls.specs.Calls.{not_measured, not_utf8}
use Rattle.msvc_c_calls.proofs.Found.{as_measured}
use Rattle.msvc_demangler_in.proofs.msvc_demangler_prefix_in_parts.Goals as goal

pub returns-in-Err-clause-measured : goal.returns-in-Err-clause-measured
returns-in-Err-clause-measured c =
    let cases = c.in-Err.ensures.cases in
    let UpTo : ℕ → Type 0 = λ n. IsValidUpTo c.args.symbol.now n in
    as_measured _ _ c.args.symbol.now _ _ _ 2 c.valid_up_to.result c.unmeasured.ensures
    (not_measured (not_utf8 cases.0 (subst UpTo (sym c.valid_up_to.ensures) cases.1)))
