-- What holds of what was made holds where it was put.
use Rattle.std.proofs.Common.{◌≡◌, List, [], ◌∷◌, ◌++◌, map, Result, Ok, Err, IfOk, ap, ◌∙◌}
use Rattle.std.proofs.lemmas.List.{map-append}
use Rattle.std.specs.Result.{IsOkAnd}

pub pushed-seen : {A E V : Type 0} (f : A → V) (items new : List A) (made : Result A E) (v : V)
    → IsOkAnd made (λ x. new ≡ items ++ x ∷ []) → IfOk made (λ x. f x ≡ v) → map f new ≡ map f items ++ v ∷ []
pushed-seen f items new (Ok x) v e h = ap (map f) e ∙ map-append f items (x ∷ []) ∙ ap (λ y. map f items ++ y ∷ []) h
pushed-seen f items new (Err x) v e h = absurd e
