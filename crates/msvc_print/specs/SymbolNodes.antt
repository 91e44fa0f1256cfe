-- The pieces and the weights of symbols, by their nodes. No public contract speaks of these definitions.
use Rattle.std.specs.Prelude.{ℕ, ◌+◌, List, Option, Some, None}
use Rattle.std.specs.Borrow.{Bor}
use Rattle.msvc_nodes.specs.NodeView.{name_of, names_in, type_of}
use Rattle.msvc_nodes.specs.Trees.{TypeTree, plain}
use Rattle.msvc_nodes.specs.declared.kinds.PlainType.TheVariants as plain_kind
use Rattle.msvc_nodes.specs.declared.nodes.Symbol.{Symbol}
use Rattle.msvc_nodes.specs.declared.nodes.Type.{«Type»}
use Rattle.msvc_nodes.specs.declared.nodes.TypedSymbol.{TypedSymbol}
use Rattle.msvc_print.specs.Declaration.{symbol_name, symbol_pieces}
use Rattle.msvc_print.specs.Halves.{after, before, pointed_name}
use Rattle.msvc_print.specs.Pieces.{Piece}
use Rattle.msvc_print.specs.Sides.{kept_left, kept_right}
use Rattle.msvc_print.specs.declared.pointed.Pointed.{Pointed}
use Rattle.msvc_print.specs.declared.pointed.Pointed.TheVariants.{No}
use Rattle.msvc_print.specs.declared.sides.Part.{Part}
use Rattle.msvc_print.specs.declared.sides.Part.TheVariants.{All, Left, Name, Right}
use Rattle.msvc_print.specs.Weights.{symbol_weight, type_weight, typed_symbol_weight}

-- the type that a symbol without a type is printed with
abbrev pub no_type : TypeTree
no_type = plain plain_kind.None

-- the type of a symbol, by its node
abbrev pub type_or_none : Option (Bor «Type») → TypeTree
type_or_none None = no_type
type_or_none (Some t) = type_of t.now

-- the name of a symbol of type `t`, in the scope of the symbol
abbrev pub symbol_name_of : Symbol → TypeTree → ℕ → List Piece
symbol_name_of s t flags = symbol_name (name_of s.name.now) (names_in s.scope.now) t flags

-- the weight of the name of a symbol of type `t`, in the scope of the symbol
abbrev pub symbol_weight_of : Symbol → TypeTree → ℕ
symbol_weight_of s t = symbol_weight (name_of s.name.now) (names_in s.scope.now) t

-- the class of a pointer to a member function
abbrev pub class_pieces_of : Symbol → ℕ → List Piece
class_pieces_of s flags = pointed_name (name_of s.name.now) (names_in s.scope.now) flags

-- the weight of the class of a pointer to a member function
abbrev pub class_weight_of : Symbol → ℕ
class_weight_of s = 3 + symbol_weight_of s no_type

-- the pieces of a symbol, whose type stands on both sides of its name
abbrev pub symbol_pieces_of : TypedSymbol → Pointed → ℕ → List Piece
symbol_pieces_of s pointed flags =
    symbol_pieces (name_of s.symbol.name.now) (names_in s.symbol.scope.now) (type_of s.symbol_type.now) pointed flags

-- the weight of a symbol, whose type stands on both sides of its name
abbrev pub typed_symbol_weight_of : TypedSymbol → ℕ
typed_symbol_weight_of s = typed_symbol_weight (symbol_weight_of s.symbol (type_of s.symbol_type.now))
    (type_weight (type_of s.symbol_type.now))

-- the pieces on the left of the name of a symbol, its name, and the pieces on the right
abbrev pub left_of : TypedSymbol → ℕ → List Piece
left_of t flags = kept_left (before (type_of t.symbol_type.now) No flags) flags

abbrev pub own_name_of : TypedSymbol → ℕ → List Piece
own_name_of t flags = symbol_name_of t.symbol (type_of t.symbol_type.now) flags

abbrev pub right_of : TypedSymbol → ℕ → List Piece
right_of t flags = kept_right (after (type_of t.symbol_type.now) No flags) flags

-- the pieces of a part of a symbol
abbrev pub part_of : TypedSymbol → Part → ℕ → List Piece
part_of t All flags = symbol_pieces_of t No flags
part_of t Left flags = left_of t flags
part_of t Name flags = own_name_of t flags
part_of t Right flags = right_of t flags
