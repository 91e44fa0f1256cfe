-- The lemmas that functions which store nodes are proved by.
use Rattle.std.proofs.Common.{List, [], ◌∷◌, ◌++◌, ◌≡◌, refl, sym, ap, ◌∙◌}
use Rattle.std.proofs.lemmas.List.{map-append, reverse-append}
use Rattle.std.specs.Borrow.{Bor}
use Rattle.std.specs.Prelude.{map, reverse}
use Rattle.msvc_nodes.specs.NodeView.{name_at}
use Rattle.msvc_nodes.specs.Trees.{name_trees}
use Rattle.msvc_nodes.specs.declared.nodes.Name.{Name}
use Rattle.msvc_nodes.proofs.NodeViews.{name_of-Shape, type_of-Shape}
use Rattle.msvc_cursor.proofs.Nodes.{names_in-is, types_in-is}
use Rattle.msvc_full_readers.proofs.FunctionSteps.{signature_end_step}

names_reversed : (ns : List (Bor Name)) → map name_at (reverse ns) ≡ reverse (map name_at ns)
names_reversed [] = refl
names_reversed (n ∷ ns) =
    ap (map name_at) (reverse-append (n ∷ []) ns)
    ∙ map-append name_at (reverse ns) (n ∷ [])
    ∙ ap (λ xs. xs ++ name_at n ∷ []) (names_reversed ns)
    ∙ sym (reverse-append (name_at n ∷ []) (map name_at ns))

-- the names of a scope, the outermost first, and one behind them
pub names_from_last : (ns : List (Bor Name)) (n : Bor Name)
    → name_trees (map name_at (reverse ns ++ n ∷ [])) ≡ name_trees (reverse (map name_at ns) ++ name_at n ∷ [])
names_from_last ns n =
    ap name_trees (map-append name_at (reverse ns) (n ∷ []) ∙ ap (λ xs. xs ++ name_at n ∷ []) (names_reversed ns))

pub ruleset steps = (name_of-Shape, type_of-Shape, names_in-is, types_in-is, names_from_last, signature_end_step)
