-- A declaration in colors, as control sequences of ECMA-48 set them in a terminal.
use Rattle.std.specs.Prelude.{ℕ, List, ◌∷◌, ◌++◌, ◌-◌, cond, codes, drop, take}
use Rattle.msvc_nodes.specs.Trees.{SymbolTree}
use Rattle.msvc_print.specs.NamePlaces.{name_place}
use Rattle.msvc_print.specs.declared.named.NamePlace.{NamePlace}
use Rattle.msvc_symbol.specs.Grammars.{Choice, declaration_in, styled}

-- a control sequence that selects how what follows is shown
abbrev pub selects : List ℕ → List ℕ
selects parameter = 27 ∷ 91 ∷ (parameter ++ codes "m")

-- a text in cyan, and the bytes of a place in it bold
abbrev pub colored : List ℕ → NamePlace → List ℕ
colored text place = selects (codes "36") ++ (take place.start text
    ++ (selects (codes "1") ++ (take (place.end - place.start) (drop place.start text)
    ++ (selects (codes "22") ++ (drop place.end text ++ selects (codes "39"))))))

-- a tree's declaration, as is chosen
abbrev pub declaration_under : Choice → SymbolTree → List ℕ
declaration_under how tree = declaration_in how.grammar tree how.flags

-- what is written of a tree: its declaration, colored if that is chosen, and then the name of the symbol bold
abbrev pub shown_under : Choice → SymbolTree → List ℕ
shown_under how tree = cond how.is_colored
    (colored (declaration_under how tree) (name_place tree (styled how.grammar how.flags))) (declaration_under how tree)
