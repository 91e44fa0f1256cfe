use Rattle.std.proofs.Common.{ℕ, subst, sym}
use Rattle.std.specs.Str.{IsValidUpTo}
use Rattle.msvc_c_calls.proofs.Found.{not_valid}
use Rattle.msvc_demangler_c.proofs.msvc_demangler_demangle.Goals as goal

pub returns-in-Err : goal.returns-in-Err
returns-in-Err c =
    let cases = c.in-Err.ensures.cases in
    let UpTo : ℕ → Type 0 = λ n. IsValidUpTo c.args.symbol.now n in
    not_valid _ _ c.args.symbol.now c.args.flags _ _ _ c.valid_up_to.result c.args.out.now c.not_utf8.new.out cases.0
    (subst UpTo (sym c.valid_up_to.ensures) cases.1) c.not_utf8.ensures.result c.not_utf8.ensures.written
