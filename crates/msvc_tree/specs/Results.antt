-- Boxing the result of a step.
use Rattle.std.specs.Prelude.{Result, Ok, Err, ◌≡◌}

-- The second result is the first in a box: its value is in the box, or its error is kept; or the allocation of the box
-- failed.
abbrev pub IsBoxed : {A B E F : Type 0} → (F → E → Type 0) → (B → A) → Result A E → Result B E → Type 0
IsBoxed {F = F} fails value (Ok x) (Ok b) = value b ≡ x
IsBoxed {F = F} fails value (Ok x) (Err e) = (f : F) × fails f e
IsBoxed {F = F} fails value (Err e) result = result ≡ Err e
