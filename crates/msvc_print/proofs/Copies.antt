-- A piece of a text that is copied by its two ends, which may overlap.
use Rattle.std.proofs.Common.{◌≡◌, ◌≤◌, ◌+◌, ◌-◌, ◌++◌, ℕ, List, length, take, drop, arith, ap, sym, ◌∙◌}
use Rattle.std.proofs.Common.{append_assoc, length-drop, length-take-le, take-append-drop, take-take, take_all}
use Rattle.std.proofs.Math.Seq.{take-append-add}

-- the first bytes of a copy
copied_less : (a b xs : List ℕ) (at more less : ℕ) → at ≤ length a → less ≤ more →
    take (at + more) b ≡ take at a ++ take more xs → take (at + less) b ≡ take at a ++ take less xs
copied_less a b xs at more less within few copied =
    sym (take-take (at + less) (at + more) b (omega arith))
    ∙ ap (take (at + less)) copied
    ∙ ap (λ n. take (n + less) (take at a ++ take more xs)) (sym (length-take-le at a within))
    ∙ take-append-add (take at a) (take more xs) less
    ∙ ap (λ l. take at a ++ l) (take-take less more xs few)

-- a copy of the first `half` bytes of a piece, and one of the last `half`, together are the piece
pub ends_cover : (a b c : List ℕ) (at half : ℕ) (piece : List ℕ) → at ≤ length a → half ≤ length piece →
    length piece ≤ half + half → take (at + half) b ≡ take at a ++ take half piece →
    take ((at + (length piece - half)) + half) c
    ≡ take (at + (length piece - half)) b ++ take half (drop (length piece - half) piece) →
    take (at + length piece) c ≡ take at a ++ piece
ends_cover a b c at half piece within fits covers first second =
    let last = length piece - half in
    let end : at + length piece ≡ (at + last) + half = omega arith in
    let rest : take half (drop last piece) ≡ drop last piece
    = take_all half (drop last piece) (omega (arith, length-drop last piece)) in
    ap (λ n. take n c) end
    ∙ second
    ∙ ap (λ l. l ++ take half (drop last piece)) (copied_less a b piece at half last within (omega arith) first)
    ∙ append_assoc (take at a) (take last piece) (take half (drop last piece))
    ∙ ap (λ l. take at a ++ l) (ap (λ l. take last piece ++ l) rest ∙ take-append-drop last piece)
