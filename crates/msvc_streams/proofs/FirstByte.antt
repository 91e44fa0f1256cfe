-- What a search for a byte says of the bytes before it.
use Rattle.std.proofs.Common.{◌≡◌, ◌≢◌, ◌≤◌, ◌<◌, ◌+◌, ◌++◌, ◌∷◌, [], ◌∙◌, ℕ, List, Option, None, Some, ap, arith}
use Rattle.std.proofs.Common.{eq-eqb, eqb-true, get_or, length, length-take, sym, take}
use Rattle.std.specs.Prelude.{All, unwrap_or}
use Rattle.std.proofs.lemmas.List.{get_or-take, take_more}
use Rattle.std.proofs.lemmas.List.Elements.{All-from_get_or}
use Rattle.memchr.specs.Find.{IsFirstByte, Nowhere, Passes, is_byte}

nowhere-before : (byte : ℕ) (bytes : List ℕ) (n : ℕ) → n ≤ length bytes → Nowhere (Passes (is_byte byte) bytes) 0 n
    → All (λ b. b ≢ byte) (take n bytes)
nowhere-before byte bytes n within none =
    All-from_get_or (λ b. b ≢ byte) (take n bytes) 0 (λ i inside is.
    let below : i < n = omega (arith, inside, length-take n bytes) in
    none i (omega arith) below (eq-eqb (get_or bytes i 0) byte (sym (get_or-take n bytes i 0 below) ∙ is)))

-- none of the bytes before the first is that byte
pub before-first : (byte : ℕ) (bytes : List ℕ) (r : Option ℕ) → IsFirstByte (is_byte byte) bytes r
    → All (λ b. b ≢ byte) (take (unwrap_or r (length bytes)) bytes)
before-first byte bytes None none = nowhere-before byte bytes (length bytes) (omega arith) none
before-first byte bytes (Some k) h =
    let inside = h.0.high in nowhere-before byte bytes k (omega arith) h.0.before

-- and the first is
pub up_to-first : (byte : ℕ) (bytes : List ℕ) (k : ℕ) → IsFirstByte (is_byte byte) bytes (Some k)
    → take (k + 1) bytes ≡ take k bytes ++ byte ∷ []
up_to-first byte bytes k h =
    take_more bytes k 0 h.0.high ∙ ap (λ b. take k bytes ++ b ∷ []) (eqb-true (get_or bytes k 0) byte h.1)
