-- How much of some bytes a candidate has.
use Rattle.std.proofs.Common.{ℕ, List, length, take, get_or, ◌≡◌, ◌≤◌, ◌<◌, ◌∙◌, Bool, true, false, nat_lt, refl, sym}
use Rattle.std.proofs.Common.{ap}
use Rattle.std.proofs.Common.{arith, take_all, length-take}
use Rattle.std.proofs.lemmas.Bool.{ltb-false, ltb-true}
use Rattle.std.proofs.lemmas.List.{take-take}
use Rattle.std.proofs.lemmas.List.Sums.{prefix_len_is, prefix_len_stops}
use Rattle.std.specs.List.{prefix_len, take_while}
use Rattle.msvc_filter.specs.SymbolBounds.{is_visible, max_bytes}

-- as many bytes as are visible, unless these are more than a candidate has
pub visible-front : (left : List ℕ) (len : ℕ) → len ≤ length left → len ≤ max_bytes
    → ((k : ℕ) → k < len → is_visible (get_or left k 0) ≡ true)
    → (len < length left → len < max_bytes → is_visible (get_or left len 0) ≡ false)
    → take len left ≡ take max_bytes (take_while is_visible left)
visible-front left len within most seen end = go (nat_lt len max_bytes) refl
  where
    go : (b : Bool) → nat_lt len max_bytes ≡ b → take len left ≡ take max_bytes (take_while is_visible left)
    go true e =
        let below : len < max_bytes = ltb-true len max_bytes e in
        let all : prefix_len is_visible left ≡ len =
        prefix_len_is is_visible left len 0 within seen (λ more. end more below) in
        let long = length-take len left in
        ap (λ n. take n left) (sym all)
        ∙ sym (take_all max_bytes (take_while is_visible left) (omega (
          arith,
          length-take
              (prefix_len is_visible left) left,
        )))
    go false e =
        let full : len ≡ max_bytes = omega (arith, ltb-false len max_bytes e) in
        let enough : max_bytes ≤ prefix_len is_visible left = at (nat_lt
        (prefix_len is_visible left) max_bytes) refl in
        ap (λ n. take n left) full ∙ sym (take-take max_bytes (prefix_len is_visible left) left enough)
      where
        at : (b : Bool) → nat_lt (prefix_len is_visible left) max_bytes ≡ b → max_bytes ≤ prefix_len is_visible left
        at true f =
            let short : prefix_len is_visible left < max_bytes = ltb-true (prefix_len is_visible left) max_bytes f in
            let full : len ≡ max_bytes = omega (arith, ltb-false len max_bytes e) in
            let no = prefix_len_stops is_visible left 0 (omega arith) in
            let yes = seen (prefix_len is_visible left) (omega arith) in
            let never : true ≡ false = sym yes ∙ no in absurd (cc)
        at false f = ltb-false (prefix_len is_visible left) max_bytes f
