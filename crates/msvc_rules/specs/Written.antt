-- The text in which a digit is written out, and what is said of the digits that a symbol notes.
use Rattle.std.specs.Prelude.{ℕ, suc, List, ◌++◌, ◌-◌, take, drop, map}
use Rattle.std.specs.List.{All}
use Rattle.std.specs.List.Sorted.{IsStrictlyIncreasing}
use Rattle.msvc_nodes.specs.Trees.{SymbolTree}
use Rattle.msvc_rules.specs.Reads.{DerivesIn}
use Rattle.msvc_rules.specs.Rules.{Grammar}
use Rattle.msvc_rules.specs.State.{Note}

-- the text with the bytes that entered a digit's type in place of that digit
abbrev pub written_out : List ℕ → Note → List ℕ
written_out text note =
    take note.at text ++ (take (note.end - note.start) (drop note.start text) ++ drop (suc note.at) text)

-- each digit stands after the one before it
abbrev pub AreRising : List Note → Type 0
AreRising notes = IsStrictlyIncreasing (map (λ note. note.at) notes)

-- with any of the digits written out, the text begins with the same symbol, and has the same rest
abbrev pub CanBeWrittenOutIn : Grammar → List ℕ → SymbolTree → List ℕ → List Note → Type 0
CanBeWrittenOutIn G text tree rest notes =
    All (λ note. (others : List Note) × DerivesIn G (written_out text note) tree rest others) notes

-- whatever symbol the text begins with, each digit that was read as a whole parameter can be written out
abbrev pub DigitsCanBeWrittenOutIn : Grammar → List ℕ → Type 0
DigitsCanBeWrittenOutIn G text =
    (tree : SymbolTree) (rest : List ℕ) (notes : List Note) → DerivesIn G text tree rest notes
    → CanBeWrittenOutIn G text tree rest notes
