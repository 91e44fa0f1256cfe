-- Pieces settle one after the other.
use Rattle.std.proofs.Common.{◌≡◌, List, [], ◌∷◌, ◌++◌, ap, refl, sym, ◌∙◌}
use Rattle.std.proofs.lemmas.Grind.{fold-append}
use Rattle.msvc_print.specs.Limited.{LimitedText, add, add_all}
use Rattle.msvc_print.specs.Pieces.{Piece}

pub add_all-none : (out : LimitedText) → add_all out [] ≡ out
unfolding add_all
add_all-none out = refl

pub add_all-first : (out : LimitedText) (piece : Piece) (later : List Piece) → add_all out (piece ∷ later)
    ≡ add_all (add_all out (piece ∷ [])) later
unfolding add_all
add_all-first out piece later = refl

pub add_all-append : (out : LimitedText) (xs ys : List Piece) → add_all out (xs ++ ys)
    ≡ add_all (add_all out xs) ys
unfolding add_all
add_all-append out xs ys = fold-append add out xs ys

pub settled_two : (out out1 out2 : LimitedText) (xs ys : List Piece) → out1 ≡ add_all out xs →
    out2 ≡ add_all out1 ys → out2 ≡ add_all out (xs ++ ys)
settled_two out out1 out2 xs ys e e' = e' ∙ ap (λ text. add_all text ys) e ∙ sym (add_all-append out xs ys)

pub settled_three : (out : LimitedText) (xs ys zs : List Piece) →
    add_all (add_all (add_all out xs) ys) zs ≡ add_all out ((xs ++ ys) ++ zs)
settled_three out xs ys zs =
    sym (add_all-append out (xs ++ ys) zs ∙ ap (λ text. add_all text zs) (add_all-append out xs ys))

pub ruleset settling = (add_all-none, add_all-first, add_all-append)
