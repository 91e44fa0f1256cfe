-- What a step made of results that are seen as something is seen as what those make.
use Rattle.std.proofs.Common.{◌≡◌, ◌∙◌, Result, Ok, Err, IfOk, IsOkAnd}

-- two facts of what was made are one
pub both : {A E : Type 0} (P Q : A → Type 0) (made : Result A E) → IfOk made P → IfOk made Q
    → IfOk made (λ x. P x × Q x)
both P Q (Ok x) p q = (p, q)
both P Q (Err e) p q = tt

pub seen-of : {A B E F V : Type 0} {P : A → Type 0} (result : Result B F) (made : Result A E) (f : B → V) (g : A → V)
    (v : V) → IfOk result (λ t. IsOkAnd made (λ x. f t ≡ g x)) → IfOk made P → ((x : A) → P x → g x ≡ v)
    → IfOk result (λ t. f t ≡ v)
seen-of (Ok t) (Ok x) f g v h p k = h ∙ k x p
seen-of (Ok t) (Err e) f g v h p k = absurd h
seen-of (Err e) made f g v h p k = tt

pub seen-of-three : {A B C D E F V : Type 0} {P : A → Type 0} {Q : C → Type 0} {R : D → Type 0} (result : Result B F)
    (first : Result A E) (second : Result C E) (third : Result D E) (f : B → V) (g : A → C → D → V) (v : V)
    → IfOk result (λ t. IsOkAnd first (λ x. IsOkAnd second (λ y. IsOkAnd third (λ z. f t ≡ g x y z))))
    → IfOk first P → IfOk second Q → IfOk third R
    → ((x : A) (y : C) (z : D) → P x → Q y → R z → g x y z ≡ v) → IfOk result (λ t. f t ≡ v)
seen-of-three (Ok t) (Ok x) (Ok y) (Ok z) f g v h p q r k = h ∙ k x y z p q r
seen-of-three (Ok t) (Ok x) (Ok y) (Err e) f g v h p q r k = absurd h
seen-of-three (Ok t) (Ok x) (Err e) third f g v h p q r k = absurd h
seen-of-three (Ok t) (Err e) second third f g v h p q r k = absurd h
seen-of-three (Err e) first second third f g v h p q r k = tt
