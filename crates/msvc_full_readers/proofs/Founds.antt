-- What is done with what was found, in another order.
use Rattle.std.proofs.Common.{List, ℕ, Option, Some, None, ◌≡◌, refl}
use Rattle.msvc_rules.specs.Readers.{Found, and_then}
use Rattle.msvc_rules.specs.State.{State}
use Rattle.msvc_cursor.proofs.Choices.{by_text, chosen}

-- what follows what follows
pub then_then : {A B C : Type 0} (o : Found A) (f : A → List ℕ → State → Found B) (g : B → List ℕ → State → Found C)
    → and_then (and_then o f) g ≡ and_then o (λ x l t. and_then (f x l t) g)
then_then None f g = refl
then_then (Some x) f g = refl

-- what follows a choice by a text
pub then_by_text : {A B C : Type 0} (o : Option (A × List ℕ)) (f : A → List ℕ → Found B) (q : Found B)
    (g : B → List ℕ → State → Found C)
    → and_then (by_text o f q) g ≡ by_text o (λ x l. and_then (f x l) g) (and_then q g)
then_by_text None f q g = refl
then_by_text (Some x) f q g = refl

-- what follows a choice by a literal
pub then_chosen : {A B : Type 0} (o : Option (List ℕ)) (f : List ℕ → Found A) (q : Found A)
    (g : A → List ℕ → State → Found B)
    → and_then (chosen o f q) g ≡ chosen o (λ l. and_then (f l) g) (and_then q g)
then_chosen None f q g = refl
then_chosen (Some rest) f q g = refl
