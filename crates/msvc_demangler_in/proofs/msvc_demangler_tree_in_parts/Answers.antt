use Rattle.std.proofs.Common.{ℕ, refl, subst, sym}
use Rattle.std.specs.Str.{IsValidUpTo}
use Rattle.msvc_demangler_in.proofs.Listed.{not_valid_tree}
use Rattle.msvc_demangler_in.proofs.msvc_demangler_tree_in_parts.Goals as goal

pub returns-in-Err-clause-shown : goal.returns-in-Err-clause-shown
returns-in-Err-clause-shown c =
    let cases = c.in-Err.ensures.cases in
    let UpTo : ℕ → Type 0 = λ n. IsValidUpTo c.args.symbol.now n in
    let shown = not_valid_tree _ _ c.args.symbol.now _ _ _ c.valid_up_to.result c.args.out.now c.not_utf8.new.out
    cases.0 (subst UpTo (sym c.valid_up_to.ensures) cases.1) c.not_utf8.ensures.result c.not_utf8.ensures.written in
    (shown.0, shown.1, shown.2, (c.args.out.now, refl, shown.3, λ no. refl))
