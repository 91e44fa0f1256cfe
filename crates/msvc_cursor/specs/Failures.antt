-- Why reading a text fails, before an error is made of the reason.
use Rattle.std.specs.Prelude.{ℕ, List, ◌-◌, ◌≡◌, Option, length}
use Rattle.msvc_nodes.specs.declared.error.ErrorRepr.{ErrorRepr}
use Rattle.msvc_rules.specs.Dialects.{Dialect}
use Rattle.msvc_rules.specs.Limits.{MayBeAbout, limit_meant}
use Rattle.msvc_rules.specs.Parsed.{IsRejectedIn}
use Rattle.msvc_rules.specs.Rejections.{IsNoSymbolIn}
use Rattle.msvc_grammar.specs.Parsed.{crate_dialect}
use Rattle.msvc_cursor.specs.Errors.{IsErrorOf}
use Rattle.msvc_cursor.specs.Messages.{limit_of_failure}
use Rattle.msvc_cursor.specs.declared.failure.Failure.{Failure}
use Rattle.msvc_cursor.specs.declared.failure.Failure.TheVariants as failure

-- memory ran out, or `holds` is true of the offset in the text; no reader fails for the length of a declaration
abbrev pub UnlessMemory : List ℕ → Failure → (ℕ → Type 0) → Type 0
UnlessMemory text failure.Memory holds = Unit {0}
UnlessMemory text (failure.Rejected message left) holds = holds (length text - left)
UnlessMemory text (failure.TooLong read) holds = ⊥

-- Reading the text fails for this reason, under a limit on nodes or without one.
pub record FailsIn (D : Dialect) (nodes : Option ℕ) (text : List ℕ) (reason : Failure) : Type 0 where
  -- each error that is made of the reason rejects the text
  pub rejected : (e : ErrorRepr) → IsErrorOf reason text e → IsRejectedIn D nodes text e
  -- no beginning of the text is a symbol, or none within the limit, if the reason is the limit on nodes
  pub none : UnlessMemory text reason
      (λ offset. IsNoSymbolIn D.grammar (limit_meant (limit_of_failure reason) nodes) text)
  -- a text that begins otherwise than symbols of the dialect is rejected at offset 0
  pub begins : UnlessMemory text reason (λ offset. (D.Begins text → ⊥) → offset ≡ 0)
  -- the reason is no limit, if there is none
  pub limit : MayBeAbout nodes (limit_of_failure reason)

-- reading the text in the crate's dialect fails for this reason
abbrev pub Fails : (nodes : Option ℕ) → List ℕ → Failure → Type 0
Fails nodes text reason = FailsIn crate_dialect nodes text reason
