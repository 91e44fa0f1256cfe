-- The two sides of a name.
use Rattle.std.specs.Prelude.{ℕ, List, [], ◌++◌, cond}
use Rattle.msvc_print.specs.Flags.{has, name_only, no_function_returns}
use Rattle.msvc_print.specs.Pieces.{Piece}

-- the pieces on the left of a name, and the pieces on its right
pub record Sides : Type 0 where
  pub left : List Piece
  pub right : List Piece

-- the sides of a name that stands alone
abbrev pub alone : Sides
alone = record { left = []; right = [] }

-- the sides of a name, with `more` on their left and `others` on their right
abbrev pub between : List Piece → Sides → List Piece → Sides
between more sides others = record { left = more ++ sides.left; right = sides.right ++ others }

-- a name, `inside`, between its two sides
abbrev pub around : Sides → List Piece → List Piece
around sides inside = sides.left ++ (inside ++ sides.right)

-- the pieces that flags keep on the left of the name of a symbol
unfoldable pub kept_left : List Piece → ℕ → List Piece
kept_left pieces flags = cond (has flags name_only) [] (cond (has flags no_function_returns) [] pieces)

-- the pieces that flags keep on the right of the name of a symbol
unfoldable pub kept_right : List Piece → ℕ → List Piece
kept_right pieces flags = cond (has flags name_only) [] pieces

-- the pieces that flags keep on both sides of the name of a symbol
abbrev pub kept : Sides → ℕ → Sides
kept sides flags = record { left = kept_left sides.left flags; right = kept_right sides.right flags }
