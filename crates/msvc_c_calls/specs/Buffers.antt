-- What is written into a buffer, by the rules of `snprintf`.
use Rattle.std.specs.Prelude.{ℕ, List, [], ◌∷◌, ◌++◌, ◌≡◌, ◌≤◌, ◌<◌, length, take, drop}
use Rattle.std.specs.Str.{IsUtf8}
use Rattle.msvc_demangler.specs.Filtered.{Part, fitting}

-- the first `cut` bytes of the text are its longest beginning that is UTF-8 and has room
abbrev pub IsLongest : List ℕ → ℕ → ℕ → Type 0
IsLongest text room cut = (cut ≤ length text) × (cut ≤ room) × IsUtf8 (take cut text)
    × ((more : ℕ) → cut < more → more ≤ length text → more ≤ room → ¬ (IsUtf8 (take more text)))

-- The buffer `old` becomes `new`: an empty buffer stays. Any other gets the longest beginning of the text that is UTF-8
-- and leaves room for a NUL, then the NUL, then its old bytes.
abbrev pub IsWritten : List ℕ → List ℕ → List ℕ → Type 0
IsWritten text [] new = new ≡ []
IsWritten text (first ∷ old) new =
    (cut : ℕ) × IsLongest text (length old) cut × (new ≡ take cut text ++ 0 ∷ drop cut old)

-- The buffer `old` becomes `new`: an empty buffer stays. Any other gets the parts that leave room for a NUL, of a
-- declaration that doesn't fit the longest beginning that is UTF-8, then the NUL, then its old bytes.
abbrev pub ArePartsWritten : List Part → List ℕ → List ℕ → Type 0
ArePartsWritten parts [] new = new ≡ []
ArePartsWritten parts (first ∷ old) new =
    new ≡ fitting (length old) parts ++ 0 ∷ drop (length (fitting (length old) parts)) old
