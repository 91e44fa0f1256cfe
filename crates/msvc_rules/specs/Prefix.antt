-- The bytes of a text that were read.
use Rattle.std.specs.Prelude.{ℕ, List, [], ◌++◌, ◌+◌, ◌≡◌, length, take}
use Rattle.msvc_nodes.specs.Trees.{SymbolTree}
use Rattle.msvc_rules.specs.Reads.{DerivesIn}
use Rattle.msvc_rules.specs.Rules.{Grammar}
use Rattle.msvc_rules.specs.State.{Note}

-- The rest of a text stands after this many bytes of the text, and these bytes alone derive the same symbol with the
-- same notes and nothing left.
abbrev pub IsReadToIn : Grammar → ℕ → List ℕ → SymbolTree → List ℕ → List Note → Type 0
IsReadToIn G bytes text tree rest notes =
    (bytes + length rest ≡ length text) × (text ≡ take bytes text ++ rest) × DerivesIn G (take bytes text) tree [] notes
