-- What it means that the names in a tree are parts of a text.
use Rattle.std.specs.Prelude.{ℕ, List, ◌++◌, ◌≡◌}
use Rattle.msvc_nodes.specs.EachName.{EachName}
use Rattle.msvc_nodes.specs.Trees.{SymbolTree}

-- the bytes stand in the text, one after another
abbrev pub IsPart : List ℕ → List ℕ → Type 0
IsPart text bytes = (before remaining : List ℕ) × (text ≡ before ++ (bytes ++ remaining))

-- every name that is spelled in a symbol is a part of the text
abbrev pub NamesAreParts : List ℕ → SymbolTree → Type 0
NamesAreParts text tree = EachName (IsPart text) tree
