-- A text copied to the front of a buffer up to the last place at which a character begins, and a NUL after it.
use Rattle.std.proofs.Common.{◌≡◌, ℕ, ◌-◌, ◌<◌, ◌≤◌, ◌==◌, ◌∙◌, ap, List, [], ◌∷◌, ◌++◌, length, set, take, drop, suc}
use Rattle.std.proofs.Common.{zero}
use Rattle.std.proofs.Common.{sym, subst, get_or, arith, true, false}
use Rattle.std.proofs.Math.Seq.{drop-cons, set-append_seam}
use Rattle.std.proofs.lemmas.Str.{IsCharBoundary-from_take, IsUtf8-take}
use Rattle.std.specs.Str.{IsCharBoundary, IsUtf8}
use Rattle.msvc_c_calls.specs.Buffers.{IsLongest, IsWritten}

pub set-copied : (part old : List ℕ) (n : ℕ) → length part ≡ n → n < length old
    → set (part ++ drop n old) n 0 ≡ part ++ 0 ∷ drop (suc n) old
set-copied part old n e h =
    ap (λ xs. set (part ++ xs) n 0) (drop-cons old n 0 h)
    ∙ ap (λ i. set (part ++ get_or old n 0 ∷ drop (suc n) old) i 0) (sym e)
    ∙ set-append_seam part (get_or old n 0) (drop (suc n) old) 0

-- a buffer that is not empty has so many bytes and one
pub one_more : (n : ℕ) → (n == 0) ≡ false → n ≡ suc (n - 1)
one_more zero e = let no : true ≡ false = e in absurd (cc)
one_more (suc n) e = omega arith

-- the last place at which a character begins is the end of the longest beginning that is UTF-8
pub longest : (text : List ℕ) (room cut : ℕ) → IsUtf8 text → cut ≤ room → IsCharBoundary text cut
    → ((i : ℕ) → cut < i → i ≤ room → ¬ (IsCharBoundary text i)) → IsLongest text room cut
longest text room cut u fits at last = (
  at.0,
  fits,
  IsUtf8-take text cut u at,
  λ more past inside has_room utf8. last more past has_room (IsCharBoundary-from_take text more u inside utf8),
)

pub written-cut : (text old new : List ℕ) (cut room : ℕ) → length old ≡ suc room → IsLongest text room cut
    → new ≡ take cut text ++ 0 ∷ drop (suc cut) old → IsWritten text old new
written-cut text [] new cut room some so e = absurd (omega (arith, some))
written-cut text (first ∷ old) new cut room some so e =
    let same : room ≡ length old = omega (arith, some) in
    (cut, subst (λ r. IsLongest text r cut) same so, e)
