-- The pieces that the items of the printer's stack stand for, and their weights. No public contract speaks of these
-- definitions.
use Rattle.std.specs.Prelude.{ℕ, ◌+◌, ◌<◌, ◌≤◌, ◌≡◌, List, [], ◌∷◌, ◌++◌, Bool, Option, Some, None}
use Rattle.std.specs.Prelude.{codes, cond}
use Rattle.std.specs.Borrow.{Bor}
use Rattle.msvc_nodes.specs.NodeView.{name_of, names_in, type_of, types_in}
use Rattle.msvc_nodes.specs.Trees.{TypeTree, TypeTrees, function, member_function, no_types, shape, types}
use Rattle.msvc_nodes.specs.declared.nodes.Type.{«Type»}
use Rattle.msvc_print.specs.Declaration.{is_none, name_pieces, parameters, scope_prefix}
use Rattle.msvc_print.specs.Functions.{calling, function_qualifiers}
use Rattle.msvc_print.specs.Halves.{after, before}
use Rattle.msvc_print.specs.Operators.{spaced}
use Rattle.msvc_print.specs.Limited.{LimitedText, add_all}
use Rattle.msvc_print.specs.Pieces.{Piece, text}
use Rattle.msvc_print.specs.declared.pointed.Pointed.TheVariants.{No}
use Rattle.msvc_print.specs.ShapeNodes.{rest_of_slots, rest_weight}
use Rattle.msvc_print.specs.Weights.{name_weight, scope_weight, type_weight, types_weight}
use Rattle.msvc_print.specs.SymbolNodes.{class_pieces_of, class_weight_of, symbol_name_of, symbol_weight_of}
use Rattle.msvc_print.specs.SymbolNodes.{type_or_none}
use Rattle.msvc_print.specs.Words.{angle_end, qualifiers, marked, opening}
use Rattle.msvc_print.specs.declared.item.Item.{Item}
use Rattle.msvc_print.specs.declared.item.Item.TheVariants.{Text, Spaced, Name, Scope, Symbol, Class}
use Rattle.msvc_print.specs.declared.item.Item.TheVariants.{Qualifiers, Mark, ArrayLevel, Calling, Parameters}
use Rattle.msvc_print.specs.declared.item.Item.TheVariants.{Before, After, Slots}
use Rattle.msvc_print.specs.declared.item.ListEnd.{ListEnd}
use Rattle.msvc_print.specs.declared.item.ListEnd.TheVariants.{Round, Bare, Angle}
use Rattle.msvc_print.specs.declared.printer.Printer.{Printer}

-- the type that a member function returns, or `None` of any other type
unfoldable pub member_return : TypeTree → Option TypeTree
member_return (member_function class convention ts set t) = Some t
member_return _ = None

-- the type that a member function returns, or `None` of any other type and of one that returns nothing
unfoldable pub some_return : TypeTree → Option TypeTree
some_return (member_function class convention ts set t) = cond (is_none t) None (Some t)
some_return _ = None

-- the same of the first type of a shape, as of a function that moves its `this`
unfoldable pub moved_return : TypeTrees → Option TypeTree
moved_return no_types = None
moved_return (types t ts) = some_return t

-- the type that a function returns, or `None` of any other type and of a function that returns nothing
unfoldable pub full_return : TypeTree → Option TypeTree
full_return (function convention ts set t) = cond (is_none t) None (Some t)
full_return (member_function class convention ts set t) = cond (is_none t) None (Some t)
full_return (shape row q zs bytes ns ts) = moved_return ts
full_return _ = None

-- the pieces of a conversion operator in the second grammar's style, by the type that its function returns and the
-- arguments of its template, or `name` if it returns none
unfoldable pub full_conversion_to : Option TypeTree → List Piece → List Piece → ℕ → List Piece
full_conversion_to None list name flags = name
full_conversion_to (Some t) list name flags =
    text (codes "operator") ∷ (list ++ (text (codes " ") ∷ (before t No flags ++ after t No flags)))

-- the pieces after the last type of a list
abbrev pub end_pieces : ListEnd → ℕ → List Piece
end_pieces (Round set) flags = text (codes ")") ∷ function_qualifiers set.0 flags
end_pieces Bare flags = text (codes ")") ∷ []
end_pieces Angle flags = angle_end flags

-- the types that are left of a list, and the pieces after the last type
abbrev pub rest_of_parameters : List (Bor «Type») → Bool → ListEnd → ℕ → List Piece
rest_of_parameters ts first end flags = parameters (types_in ts) first flags ++ end_pieces end flags

-- the pieces that an item stands for
abbrev pub item_pieces : Item → ℕ → List Piece
item_pieces (Text bytes) flags = text bytes.now ∷ []
item_pieces (Name n of_symbol) flags = name_pieces (name_of n.now) of_symbol flags
item_pieces (Scope s) flags = scope_prefix (names_in s.names.now) flags
item_pieces (Symbol s t) flags = symbol_name_of s.now (type_or_none t) flags
item_pieces (Class s) flags = class_pieces_of s.now flags
item_pieces (Spaced word) flags = spaced word.now
item_pieces (Qualifiers set) flags = qualifiers set.0 flags
item_pieces (Mark word set is_unaligned) flags = marked is_unaligned word.now set.0 flags
item_pieces (ArrayLevel set pointed) flags = qualifiers set.0 flags ++ opening pointed flags
item_pieces (Calling pointed convention) flags = calling pointed convention flags
item_pieces (Parameters list) flags = rest_of_parameters list.types.now list.first list.end flags
item_pieces (Before t pointed) flags = before (type_of t.now) pointed flags
item_pieces (After t pointed) flags = after (type_of t.now) pointed flags
item_pieces (Slots s side pointed at) flags = rest_of_slots s.now side pointed at flags

-- the weight of an item
abbrev pub item_weight : Item → ℕ
item_weight (Text bytes) = 1
item_weight (Name n of_symbol) = name_weight (name_of n.now)
item_weight (Scope s) = scope_weight (names_in s.names.now)
item_weight (Symbol s t) = symbol_weight_of s.now (type_or_none t)
item_weight (Class s) = class_weight_of s.now
item_weight (Spaced word) = 1
item_weight (Qualifiers set) = 1
item_weight (Mark word set is_unaligned) = 1
item_weight (ArrayLevel set pointed) = 1
item_weight (Calling pointed convention) = 1
item_weight (Parameters list) = types_weight (types_in list.types.now)
item_weight (Before t pointed) = type_weight (type_of t.now)
item_weight (After t pointed) = type_weight (type_of t.now)
item_weight (Slots s side pointed at) = rest_weight s.now side at

-- the text `out` once all items of a stack, the last item first, are written after it
unfoldable pub finished : List Item → LimitedText → ℕ → LimitedText
finished [] out flags = out
finished (item ∷ above) out flags = add_all (finished above out flags) (item_pieces item flags)

-- the weight of all items of a stack
unfoldable pub work : List Item → ℕ
work [] = 0
work (item ∷ above) = item_weight item + work above

-- pushes added items to a stack that stand for `pieces`, whatever text is written before them
abbrev pub Pushes : List Piece → ℕ → List Item → List Item → Type 0
Pushes pieces flags stack stack' =
    (out : LimitedText) → finished stack' out flags ≡ finished stack (add_all out pieces) flags

-- pushes added at most `weight` to the weight of a stack
abbrev pub AddsAtMost : ℕ → List Item → List Item → Type 0
AddsAtMost weight stack stack' = work stack' ≤ weight + work stack

-- pushes added less than `weight` to the weight of a stack
abbrev pub AddsLess : ℕ → List Item → List Item → Type 0
AddsLess weight stack stack' = work stack' < weight + work stack

-- the text `out` once all items of a printer's stack are written after it
abbrev pub finished_after : {W S A : Type 0} {g : _} → Printer W S A g → LimitedText → LimitedText
finished_after printer out = finished printer.stack.now.items out printer.flags.bits

-- a step of the printer printed `pieces`: it wrote some of them, and left the others on the stack
abbrev pub Prints : {W S A : Type 0} {g : _} → List Piece → Printer W S A g → Printer W S A g → Type 0
Prints pieces printer printer' =
    finished_after printer' printer'.out.now ≡ finished_after printer (add_all printer.out.now pieces)

-- a step of the printer added at most `weight` to the weight of its stack
abbrev pub LeavesAtMost : {W S A : Type 0} {g : _} → ℕ → Printer W S A g → Printer W S A g → Type 0
LeavesAtMost weight printer printer' = AddsAtMost weight printer.stack.now.items printer'.stack.now.items

-- a step of the printer added less than `weight` to the weight of its stack
abbrev pub Lightens : {W S A : Type 0} {g : _} → ℕ → Printer W S A g → Printer W S A g → Type 0
Lightens weight printer printer' = AddsLess weight printer.stack.now.items printer'.stack.now.items

-- a step of the printer kept the flags, and wrote to the text that it was given
abbrev pub Keeps : {W S A : Type 0} {g : _} → Printer W S A g → Printer W S A g → Type 0
Keeps printer printer' = (printer'.flags ≡ printer.flags) × (printer'.out.ghost_name ≡ printer.out.ghost_name)
