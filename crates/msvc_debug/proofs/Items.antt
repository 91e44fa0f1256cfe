-- What pushes onto the stack add.
use Rattle.std.proofs.Common.{◌≡◌, ℕ, List, [], ◌∷◌, ◌++◌, ap, sym, ◌∙◌, append_assoc}
use Rattle.std.proofs.lemmas.List.{append-nil}
use Rattle.msvc_nodes.proofs.NodeViews.{name_of-Template, name_of-Nested, type_of-Tagged, type_of-Function}
use Rattle.msvc_nodes.proofs.NodeViews.{type_of-MemberFunction, type_of-MemberPointer, type_of-Table}
use Rattle.msvc_nodes.proofs.NodeViews.{name_of-Shape, type_of-Shape, types_of-hidden, names_of-hidden}
use Rattle.msvc_debug.specs.Items.{item_text, rest_text}
use Rattle.msvc_debug.specs.declared.item.Item.{Item}

pub rest_text-push : (stack : List Item) (item : Item) →
    rest_text (stack ++ item ∷ []) ≡ item_text item ++ rest_text stack
unfolding rest_text
rest_text-push [] item = sym (append-nil (item_text item))
rest_text-push (x ∷ xs) item =
    ap (λ text. text ++ item_text x) (rest_text-push xs item)
    ∙ append_assoc (item_text item) (rest_text xs) (item_text x)

-- a text with nothing left to write
pub rest_text-none : (text : List ℕ) (stack : List Item) → stack ≡ [] → text ++ rest_text stack ≡ text
unfolding rest_text
rest_text-none text stack e = ap (λ s. text ++ rest_text s) e ∙ append-nil text

pub ruleset pushed = (
  rest_text-push,
  append_assoc,
  types_of-hidden,
  names_of-hidden,
  name_of-Template,
  name_of-Nested,
  type_of-Tagged,
  type_of-Function,
  type_of-MemberFunction,
  type_of-MemberPointer,
  type_of-Table,
  name_of-Shape,
  type_of-Shape,
)
