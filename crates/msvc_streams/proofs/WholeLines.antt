-- Bytes that a line feed ends.
use Rattle.std.proofs.Common.{◌++◌, ◌∷◌, [], ℕ, List, append_assoc, inr, sym}
use Rattle.msvc_streams.specs.Runs.{IsLines}

-- the bytes finished, with a line after them
pub IsLines-append : (finished front : List ℕ) → IsLines (finished ++ (front ++ 10 ∷ []))
IsLines-append finished front = inr (finished ++ front, sym (append_assoc finished front (10 ∷ [])))
