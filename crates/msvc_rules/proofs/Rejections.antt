-- A rejection means at least that no symbol is within the limit on nodes, whatever limit it is about.
use Rattle.std.proofs.Common.{ℕ, List, Option, Some, None}
use Rattle.msvc_nodes.specs.declared.error.Limit.{Limit}
use Rattle.msvc_nodes.specs.declared.error.Limit.TheVariants.{Bytes, Nodes}
use Rattle.msvc_rules.specs.Limits.{limit_meant}
use Rattle.msvc_rules.specs.Rejections.{IsNoSymbolIn}
use Rattle.msvc_rules.specs.Rules.{Grammar}

pub none-within-limit : (G : Grammar) (about : Option Limit) (nodes : Option ℕ) (text : List ℕ)
    → IsNoSymbolIn G (limit_meant about nodes) text → IsNoSymbolIn G nodes text
none-within-limit G (Some Nodes) nodes text none = none
none-within-limit G (Some Bytes) nodes text none = λ tree rest notes d. absurd (none tree rest notes d)
none-within-limit G None nodes text none = λ tree rest notes d. absurd (none tree rest notes d)
