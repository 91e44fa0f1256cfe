-- A row behind the last of the table has an empty layout.
use Rattle.std.proofs.Common.{◌≡◌, ◌≤◌, ℕ, List, [], ◌∷◌, Bool, true, cond, ltb, refl, ap, arith, ltb-true, ne_eqb, ◌∙◌}
use Rattle.std.specs.Prelude.{◌&&◌}
use Rattle.msvc_shapes.proofs.PlainWords.{both}
use Rattle.msvc_shapes.specs.Layouts.{Layout, before, layout_in, layout_of, table}

abbrev are_below : ℕ → List (ℕ × Layout) → Bool
are_below n [] = true
are_below n (x ∷ xs) = ltb x.0 n && are_below n xs

layout_in-behind : (xs : List (ℕ × Layout)) (n row : ℕ) → are_below n xs ≡ true → n ≤ row →
    layout_in xs row ≡ before []
layout_in-behind [] n row e h = refl
layout_in-behind (x ∷ xs) n row e h = ap (λ c. cond c x.1 (layout_in xs row))
    (ne_eqb x.0 row (λ same. omega (arith, ltb-true x.0 n (both _ _ e).0, same, h)))
    ∙ layout_in-behind xs n row (both _ _ e).1 h

pub layout_of-behind : (row : ℕ) → 68 ≤ row → layout_of row ≡ before []
unfolding layout_of
layout_of-behind row h = layout_in-behind table 68 row refl h
