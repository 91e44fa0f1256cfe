-- What a rejection is to callers.
use Rattle.std.specs.Prelude.{ℕ, List, ◌++◌, ◌≤◌, ◌≡◌, Option, length, string_bytes}
use Rattle.std.specs.Str.{IsAscii}
use Rattle.msvc_nodes.specs.Errors.{context_of, limit_of}
use Rattle.msvc_nodes.specs.Trees.{SymbolTree}
use Rattle.msvc_nodes.specs.declared.error.ErrorRepr.{ErrorRepr}
use Rattle.msvc_nodes.specs.declared.error.ErrorRepr.TheVariants as error
use Rattle.msvc_rules.specs.Counts.{node_count}
use Rattle.msvc_rules.specs.Limits.{IsBeyond, limit_meant}
use Rattle.msvc_rules.specs.Reads.{DerivesIn}
use Rattle.msvc_rules.specs.Rules.{Grammar}
use Rattle.msvc_rules.specs.State.{Note}

abbrev pub begins_with : List ℕ → List ℕ → Type 0
begins_with literal text = (rest : List ℕ) × (text ≡ literal ++ rest)

-- an error out of memory, or a rejection at this offset, which shows what stands there if the text is ASCII
abbrev pub IsRejectionAt : List ℕ → ℕ → ErrorRepr → Type 0
IsRejectionAt text offset (error.ParseError message context at) =
    (at ≡ offset) × (IsAscii text → string_bytes context ≡ context_of text offset)
IsRejectionAt text offset error.Memory = Unit {0}
IsRejectionAt text offset _ = ⊥

-- no beginning of the text is a symbol whose tree is within the limit on nodes
abbrev pub IsNoSymbolIn : Grammar → (nodes : Option ℕ) → List ℕ → Type 0
IsNoSymbolIn G nodes text = (tree : SymbolTree) (rest : List ℕ) (notes : List Note) → DerivesIn G text tree rest notes
    → IsBeyond nodes (node_count tree)

-- A text is rejected out of memory, or at an offset. A rejection about the limit on nodes means that no beginning of the
-- text is a symbol within it, any other that none is a symbol of any size. Of an ASCII text the rejection shows what
-- stands at the offset.
abbrev pub IsRejectedRightlyIn : Grammar → (nodes : Option ℕ) → List ℕ → ErrorRepr → Type 0
IsRejectedRightlyIn G nodes text (error.ParseError message context at) =
    (at ≤ length text) × IsNoSymbolIn G (limit_meant (limit_of (error.ParseError message context at)) nodes) text
    × (IsAscii text → string_bytes context ≡ context_of text at)
IsRejectedRightlyIn G nodes text error.Memory = Unit {0}
IsRejectedRightlyIn G nodes text _ = ⊥
