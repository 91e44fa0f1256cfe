-- The text that the filter makes of some bytes: each symbol in them is replaced by its declaration.
use Rattle.std.specs.Prelude.{ℕ, List, [], ◌∷◌, ◌++◌, ◌-◌, ◌≡◌, ◌≤◌, ◌==◌, true, false, length, drop, slice_index, take}
use Rattle.std.specs.Prelude.{◌<◌, ◌⊎◌, Some, nat_le, if◌then◌else◌}
use Rattle.msvc_nodes.specs.Trees.{SymbolTree}
use Rattle.msvc_rules.specs.Counts.{node_count}
use Rattle.msvc_rules.specs.State.{Note}
use Rattle.msvc_rules.specs.Parsed.{IsParsedIn}
use Rattle.msvc_rules.specs.Reads.{DerivesIn}
use Rattle.msvc_rules.specs.Rejections.{IsNoSymbolIn}
use Rattle.msvc_symbol.specs.Grammars.{Choice, dialect_of, under}
use Rattle.msvc_symbol.specs.declared.grammar.Grammar.TheVariants.{Crate}
use Rattle.msvc_filter.specs.Colors.{declaration_under, shown_under}
use Rattle.msvc_filter.specs.SymbolBounds.{candidate, continues, is_start, symbol_extent, utf8_front}

-- the most nodes of a symbol that the filter replaces
abbrev pub max_nodes : ℕ
max_nodes = 10000

-- the most bytes of a declaration that the filter writes
abbrev pub max_declared : ℕ
max_declared = 65536

-- the grammar that is chosen derives this tree from a text, with bytes left and digits noted
abbrev pub DerivesUnder : Choice → List ℕ → SymbolTree → List ℕ → List Note → Type 0
DerivesUnder how text tree rest notes = DerivesIn (dialect_of how.grammar).grammar text tree rest notes

-- The bytes `left` at a start begin with a symbol: the grammar derives a tree from the candidate there, and the tree
-- and its declaration are not too large. The symbol takes `bytes` bytes and doesn't go on after these.
pub record IsSymbol (how : Choice) (left : List ℕ) (bytes : ℕ) (text : List ℕ) : Type 0 where
  pub tree : SymbolTree
  pub rest : List ℕ
  pub notes : List Note
  pub derived : DerivesUnder how (candidate left) tree rest notes
  pub nodes : node_count tree ≤ max_nodes
  pub short : length (declaration_under how tree) ≤ max_declared
  pub shown : text ≡ shown_under how tree
  pub takes : bytes ≡ symbol_extent how.grammar left (length (candidate left) - length rest)
  pub ends : continues (drop bytes left) ≡ false

-- the bytes `left` begin with no symbol
abbrev pub IsNoStart : (how : Choice) (left : List ℕ) → Type 0
IsNoStart how left = (bytes : ℕ) (text : List ℕ) → IsSymbol how left bytes text → ⊥

-- The input has no declaration within the default limits: it begins with no symbol of at most `max_nodes` nodes, or the
-- declaration of this symbol has more than `max_declared` bytes.
abbrev pub IsNoneWithin : (how : Choice) (input : List ℕ) → Type 0
IsNoneWithin how input = IsNoSymbolIn (dialect_of how.grammar).grammar (Some max_nodes) input
    ⊎ ((tree : SymbolTree) × IsParsedIn (dialect_of how.grammar) input tree
    × (max_declared < length (declaration_under how tree)))

-- A part of the filter's text: a byte that stays, or the declaration that replaces a symbol.
pub data Part : Type 0 where
  kept : ℕ → Part
  declared : List ℕ → Part

-- the text of parts: their bytes, in order
abbrev pub text_of_parts : List Part → List ℕ
text_of_parts [] = []
text_of_parts (kept b ∷ parts) = b ∷ text_of_parts parts
text_of_parts (declared text ∷ parts) = text ++ text_of_parts parts

-- The parts that the filter makes of the bytes `left`. Before these stand the bytes `passed` since the last symbol or
-- since the beginning, last byte first, and before `passed` stands the byte `last`. Each byte stays, unless a symbol
-- begins at it: then the symbol's declaration replaces the bytes that the symbol takes, and a new word begins after
-- them.
pub data IsFilteredFrom (how : Choice) : (last : ℕ) (passed left : List ℕ) → List Part → Type 0 where
  nothing : {last : ℕ} {passed : List ℕ} → IsFilteredFrom how last passed [] []
  stays : {last b : ℕ} {passed left : List ℕ} {parts : List Part}
      → (is_start how.grammar last passed (b ∷ left) ≡ true → IsNoStart how (b ∷ left))
      → IsFilteredFrom how last (b ∷ passed) left parts
      → IsFilteredFrom how last passed (b ∷ left) (kept b ∷ parts)
  replaced : {last b bytes : ℕ} {passed left text : List ℕ} {parts : List Part}
      → is_start how.grammar last passed (b ∷ left) ≡ true
      → IsSymbol how (b ∷ left) bytes text
      → IsFilteredFrom how (slice_index (b ∷ left) (bytes - 1)) [] (drop bytes (b ∷ left)) parts
      → IsFilteredFrom how last passed (b ∷ left) (declared text ∷ parts)

-- the parts that the filter makes of some bytes, as if these stood after a line feed
abbrev pub AreParts : Choice → List ℕ → List Part → Type 0
AreParts how bytes parts = IsFilteredFrom how 10 [] bytes parts

-- these parts, and no others, are those that the filter makes of some bytes
abbrev pub AreOnlyPartsIn : Choice → List ℕ → List Part → Type 0
AreOnlyPartsIn how bytes parts =
    AreParts how bytes parts × ((others : List Part) → AreParts how bytes others → others ≡ parts)

-- a text that the filter makes of some bytes
abbrev pub IsFilteredText : Choice → List ℕ → List ℕ → Type 0
IsFilteredText how bytes text = (parts : List Part) × AreParts how bytes parts × (text ≡ text_of_parts parts)

-- this text, and no other, is one that the filter makes of some bytes
abbrev pub IsFilteredIn : Choice → List ℕ → List ℕ → Type 0
IsFilteredIn how bytes text =
    IsFilteredText how bytes text × ((other : List ℕ) → IsFilteredText how bytes other → other ≡ text)

-- the same in the crate's grammar
abbrev pub AreOnlyParts : (flags : ℕ) → List ℕ → List Part → Type 0
AreOnlyParts flags bytes parts = AreOnlyPartsIn (under Crate flags) bytes parts

abbrev pub IsFiltered : (flags : ℕ) → List ℕ → List ℕ → Type 0
IsFiltered flags bytes text = IsFilteredIn (under Crate flags) bytes text

-- The bytes of some parts that fit into `room` bytes: those of whole parts, and of a declaration that doesn't fit the
-- longest beginning that is UTF-8.
unfoldable pub fitting : (room : ℕ) → List Part → List ℕ
fitting room [] = []
fitting room (kept b ∷ parts) = if room == 0 then [] else b ∷ fitting (room - 1) parts
fitting room (declared text ∷ parts) =
    if nat_le (length text) room then text ++ fitting (room - length text) parts else utf8_front (take room text)
