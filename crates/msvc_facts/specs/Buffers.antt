-- What is written into a buffer: as much of a text as leaves room for a NUL, the NUL, and the bytes that stay.
use Rattle.std.specs.Prelude.{ℕ, List, [], ◌∷◌, ◌++◌, ◌≡◌, codes}
use Rattle.msvc_demangler.specs.Filtered.{declared, kept}
use Rattle.msvc_c_calls.specs.Buffers.{ArePartsWritten, IsWritten}

-- writing the text turns the buffer `old` into `new`, and into no other bytes
pub record IsLeft (text old new : List ℕ) : Type 0 where
  pub written : IsWritten text old new
  pub only : (others : List ℕ) → IsWritten text old others → others ≡ new

-- an ASCII letter, and a letter of two bytes
abbrev pub two_letters : List ℕ
two_letters = 97 ∷ 0xC3 ∷ 0xA9 ∷ []

pub record AreBuffers : Type 0 where
  pub no_bytes : IsLeft (codes "ab") [] []
  pub one_byte : IsLeft (codes "ab") (codes ".") (0 ∷ [])
  pub larger : IsLeft (codes "ab") (codes ".....") (codes "ab" ++ 0 ∷ codes "..")
  pub exact : IsLeft (codes "ab") (codes "...") (codes "ab" ++ 0 ∷ [])
  pub smaller : IsLeft (codes "abc") (codes "...") (codes "ab" ++ 0 ∷ [])
  -- a character is not cut
  pub whole_characters : IsLeft two_letters (codes "...") (97 ∷ 0 ∷ codes ".")
  pub parts : ArePartsWritten (kept 97 ∷ declared (codes "int x") ∷ kept 98 ∷ []) (codes "..........")
      (codes "aint xb" ++ 0 ∷ codes "..")
  pub parts_cut : ArePartsWritten (kept 97 ∷ declared (codes "int x") ∷ kept 98 ∷ []) (codes ".....")
      (codes "aint" ++ 0 ∷ [])
  pub no_parts : ArePartsWritten (kept 97 ∷ []) [] []
