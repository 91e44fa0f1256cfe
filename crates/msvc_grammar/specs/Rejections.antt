-- What a rejection by the grammar is to callers.
use Rattle.std.specs.Prelude.{ℕ, List, Option}
use Rattle.msvc_nodes.specs.declared.error.ErrorRepr.{ErrorRepr}
use Rattle.msvc_rules.specs.Rejections.{IsNoSymbolIn, IsRejectedRightlyIn}
pub use Rattle.msvc_rules.specs.Rejections.{begins_with, IsRejectionAt}
use Rattle.msvc_grammar.specs.Grammar.{crate_grammar}

-- no beginning of the text is a symbol whose tree is within the limit on nodes
abbrev pub IsNoSymbol : (nodes : Option ℕ) → List ℕ → Type 0
IsNoSymbol nodes text = IsNoSymbolIn crate_grammar nodes text

-- A text is rejected out of memory, or at an offset. A rejection about the limit on nodes means that no beginning of the
-- text is a symbol within it, any other that none is a symbol of any size. Of an ASCII text the rejection shows what
-- stands at the offset.
abbrev pub IsRejectedRightly : (nodes : Option ℕ) → List ℕ → ErrorRepr → Type 0
IsRejectedRightly nodes text e = IsRejectedRightlyIn crate_grammar nodes text e
