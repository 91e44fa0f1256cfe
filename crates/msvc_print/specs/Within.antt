-- The part of a text that is printed under a limit of bytes.
use Rattle.std.specs.Prelude.{ℕ, List, Bool, IsTrue, IsFalse, ◌≡◌, ◌≤◌, ◌<◌, length, Option, Some}

-- `within` says whether `text` has at most `max` bytes. If it has, `printed` is the whole text. If a piece was left
-- out, `printed` is `None`.
pub record IsPrintedWithin (max : ℕ) (text : List ℕ) (within : Bool) (printed : Option (List ℕ)) : Type 0 where
  pub whole : IsTrue within → (printed ≡ Some text) × (length text ≤ max)
  pub longer : IsFalse within → max < length text
