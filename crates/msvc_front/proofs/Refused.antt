-- A name that is rejected, and not for want of memory, has no declaration within the default limits.
use Rattle.std.proofs.Common.{ℕ, List, Option, Some, None, ◌≡◌, inl, inr, refl, subst}
use Rattle.msvc_demangler.specs.ErrorRepr.{ErrorRepr}
use Rattle.msvc_demangler.specs.ErrorRepr.TheVariants as error
use Rattle.msvc_demangler.specs.Answers.{line_flags}
use Rattle.msvc_demangler.specs.Demangled.{IsErrorUnder}
use Rattle.msvc_demangler.specs.Filtered.{IsNoneWithin, max_declared, max_nodes}
use Rattle.msvc_demangler.specs.GrammarNames.TheVariants.{Crate}
use Rattle.msvc_demangler.specs.Grammars.{under}
use Rattle.msvc_demangler.specs.Errors.{limit_of}
use Rattle.msvc_demangler.specs.Limit.{Limit}
use Rattle.msvc_demangler.specs.Limit.TheVariants.{Bytes, Nodes}
use Rattle.msvc_demangler.specs.Limits.{limit_meant, limits_of}
use Rattle.msvc_demangler.specs.Rejections.{IsNoSymbol, IsRejectedRightly}
use Rattle.msvc_front.specs.Readable.{IsReadable}

-- a rejection means that no symbol is within the limit, whatever limit it is about
within : (about : Option Limit) (name : List ℕ) → IsNoSymbol (limit_meant about (Some max_nodes)) name
    → IsNoSymbol (Some max_nodes) name
within (Some Nodes) name none = none
within (Some Bytes) name none = λ tree rest notes d. absurd (none tree rest notes d)
within None name none = λ tree rest notes d. absurd (none tree rest notes d)

no_symbol : (name : List ℕ) (e : ErrorRepr) → (e ≡ error.Memory → ⊥) → IsRejectedRightly (Some max_nodes) name e
    → IsNoSymbol (Some max_nodes) name
no_symbol name (error.ParseError message context at) other refused =
    within (limit_of (error.ParseError message context at)) name refused.1
no_symbol name error.Memory other refused = absurd (other refl)
no_symbol name (error.Utf8 cause) other refused = absurd refused
no_symbol name (error.FromUtf8 cause) other refused = absurd refused
no_symbol name (error.Other message) other refused = absurd refused

none : (name : List ℕ) (e : ErrorRepr) → (e ≡ error.Memory → ⊥)
    → IsErrorUnder (limits_of max_nodes max_declared) name line_flags e → IsNoneWithin (under Crate line_flags) name
none name e other (inl rejected) = inl (no_symbol name e other rejected.rejected)
none name e other (inr longer) = inr (longer.tree, longer.parsed, longer.longer)

-- such a name stays
pub stays : (name : List ℕ) (e : ErrorRepr) (text : List ℕ) → (e ≡ error.Memory → ⊥)
    → (flags : ℕ) → flags ≡ line_flags → IsErrorUnder (limits_of max_nodes max_declared) name flags e
    → text ≡ name → IsReadable name text
stays name e text other flags are refused same =
    let is = subst (λ word. IsErrorUnder (limits_of max_nodes max_declared) name word e) are refused in
    record { microsofts = λ _. inr (none name e other is, same); others = λ _. same }
