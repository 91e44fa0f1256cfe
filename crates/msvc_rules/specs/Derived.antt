-- What a grammar derives from a text, and that it derives nothing else.
use Rattle.std.specs.Prelude.{ℕ, List, ◌≡◌}
use Rattle.msvc_nodes.specs.Trees.{SymbolTree}
use Rattle.msvc_rules.specs.Reads.{DerivesIn}
use Rattle.msvc_rules.specs.Rules.{Grammar}
use Rattle.msvc_rules.specs.State.{Note}

-- whatever the grammar derives from the text is this tree, with this rest and these notes
abbrev pub IsOnlyIn : Grammar → List ℕ → SymbolTree → List ℕ → List Note → Type 0
IsOnlyIn G text tree rest notes = (other : SymbolTree) (remaining : List ℕ) (others : List Note)
    → DerivesIn G text other remaining others → (other ≡ tree) × (remaining ≡ rest) × (others ≡ notes)
