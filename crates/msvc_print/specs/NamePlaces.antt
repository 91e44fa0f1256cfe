-- Where the name of a symbol stands in its declaration.
use Rattle.std.specs.Prelude.{ℕ, List, [], ◌∷◌, ◌++◌, ◌≡◌, ◌≤◌, length}
use Rattle.msvc_nodes.specs.Trees.{SymbolTree}
use Rattle.msvc_print.specs.Declaration.{declaration, grown, symbol_name}
use Rattle.msvc_print.specs.Pieces.{Piece, resolve, space}
use Rattle.msvc_print.specs.Sides.{alone, kept_left}
use Rattle.msvc_print.specs.Words.{name_space}
use Rattle.msvc_print.specs.declared.named.NamePlace.{NamePlace}
use Rattle.msvc_print.specs.declared.pointed.Pointed.TheVariants.{No}

-- the pieces that the flags keep on the left of the name of a symbol
abbrev pub pieces_before : SymbolTree → ℕ → List Piece
pieces_before s flags = kept_left (grown s.symbol_type No alone flags).left flags

-- the declaration of a symbol up to the symbol's name, with the space before the name
unfoldable pub before_name : SymbolTree → ℕ → List ℕ
before_name s flags = resolve (pieces_before s flags ++ space (name_space flags) ∷ [])

-- the declaration of a symbol up to the end of the symbol's name
unfoldable pub up_to_name : SymbolTree → ℕ → List ℕ
up_to_name s flags = resolve (pieces_before s flags ++ symbol_name s.name s.scope s.symbol_type flags)

-- the place of the name of a symbol in its declaration: the indices of its first byte and of the byte behind its last
abbrev pub name_place : SymbolTree → ℕ → NamePlace
name_place s flags = record { start = length (before_name s flags); end = length (up_to_name s flags) }

-- a place is that of the name, and lies inside the declaration
pub record IsNamePlace (s : SymbolTree) (flags : ℕ) (place : NamePlace) : Type 0 where
  pub is : place ≡ name_place s flags
  pub ordered : place.start ≤ place.end
  pub inside : place.end ≤ length (declaration s flags)
