-- The pieces of the rest of a list of types, whose first types the printer writes at once. No public contract speaks of
-- them.
use Rattle.std.specs.Prelude.{ℕ, List, [], ◌∷◌, ◌++◌, false}
use Rattle.std.specs.Borrow.{Bor}
use Rattle.msvc_nodes.specs.NodeView.{type_of, types_in}
use Rattle.msvc_nodes.specs.declared.nodes.Type.{«Type»}
use Rattle.msvc_print.specs.Declaration.{parameters}
use Rattle.msvc_print.specs.Halves.{after, before}
use Rattle.msvc_print.specs.Pieces.{Piece}
use Rattle.msvc_print.specs.declared.pointed.Pointed.TheVariants.{No}

-- the types of a list, without a comma before the first type, which is written already if one belongs there
abbrev pub begun : List (Bor «Type») → ℕ → List Piece
begun [] flags = []
begun (t ∷ ts) flags =
    before (type_of t.now) No flags ++ (after (type_of t.now) No flags ++ parameters (types_in ts) false flags)
