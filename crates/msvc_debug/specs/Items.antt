-- The text that the items of the stack stand for. No public contract speaks of these definitions.
use Rattle.std.specs.Prelude.{◌≡◌, ℕ, List, [], ◌∷◌, ◌++◌, codes}
use Rattle.std.specs.Fmt.{signed_decimal}
use Rattle.std.specs.Str.Lossy.{utf8_lossy}
use Rattle.msvc_nodes.specs.NodeView.{name_of, names_in, type_of, types_in}
use Rattle.msvc_debug.specs.Literals.{literal_text}
use Rattle.msvc_debug.specs.TreeText.{name_text, names_text, scope_text, type_text, types_text}
use Rattle.msvc_debug.specs.TreeText.{function_text, place_text, shape_lists, shape_values}
use Rattle.msvc_debug.specs.Words.{bracketed, class_names, index_text, numbers_text, qualifier_names}
use Rattle.msvc_nodes.specs.declared.nodes.BaseClass.{BaseClass}
use Rattle.msvc_nodes.specs.declared.nodes.Function.{Function}
use Rattle.msvc_nodes.specs.declared.nodes.Shape.{Shape}
use Rattle.msvc_debug.specs.declared.item.Item.{Item}
use Rattle.msvc_debug.specs.declared.item.Item.TheVariants.{Text, Spelled, Literal, Number, Index, Numbers, Qualifiers}
use Rattle.msvc_debug.specs.declared.item.Item.TheVariants.{Class, Name, Scope, Names, «Type», Types}

-- the text that an item stands for
unfoldable pub item_text : Item → List ℕ
item_text (Text word) = word.now
item_text (Spelled bytes) = utf8_lossy bytes.now
item_text (Literal bytes) = literal_text bytes.now
item_text (Number n) = signed_decimal n
item_text (Index n) = index_text n
item_text (Numbers numbers) = numbers_text numbers.now
item_text (Qualifiers set) = qualifier_names set.0
item_text (Class set) = class_names set.0
item_text (Name n) = name_text (name_of n.now)
item_text (Scope s) = scope_text (names_in s.names.now)
item_text (Names s) = names_text (names_in s.names.now)
item_text («Type» t) = type_text (type_of t.now)
item_text (Types list) = types_text (types_in list.types.now)

-- the text that all items of a stack stand for, the last item first
unfoldable pub rest_text : List Item → List ℕ
rest_text [] = []
rest_text (item ∷ above) = rest_text above ++ item_text item

-- pushes added items to a stack that stand for `text`
abbrev pub Pushes : List ℕ → List Item → List Item → Type 0
Pushes text stack stack' = rest_text stack' ≡ text ++ rest_text stack

-- of a function its convention, its qualifiers, its parameters and what it returns
abbrev pub signature_of : Function → List ℕ
signature_of f = function_text f.convention (types_text (types_in f.parameters.now)) f.qualifiers.0
    (type_text (type_of f.returned.now))

-- of a member function the names of its class, and the same
abbrev pub member_of : Function → List ℕ
member_of f = class_names f.class.0 ++ signature_of f

-- the numbers of the place of a base class
abbrev pub place_of : BaseClass → List ℕ
place_of p = place_text p.member p.pointer p.entry p.attributes

-- the row of a shape, its qualifiers, its numbers and its bytes
abbrev pub values_of : Shape → List ℕ
values_of s = shape_values s.row s.qualifiers.0 s.numbers.now s.text.now

-- the names and the types of a shape
abbrev pub lists_of : Shape → List ℕ
lists_of s = shape_lists (names_text (names_in s.names.now)) (types_text (types_in s.types.now))

-- the text of a shape
abbrev pub shape_of : Shape → List ℕ
shape_of s = bracketed (codes "Shape") (values_of s ++ lists_of s)
