-- Digits in a buffer, put from its end to its start.
use Rattle.std.proofs.Common.{◌≡◌, ℕ, zero, suc, ◌+◌, ◌-◌, ◌/◌, ◌%◌, ◌<◌, ◌≤◌, List, ◌∷◌, Bool, true, false, cond}
use Rattle.std.proofs.Common.{arith, ap, drop, length, set, sym, ◌∙◌, ◌==◌, eq-eqb, ne_eqb}
use Rattle.std.proofs.lemmas.List.{drop-set, drop_all}
use Rattle.std.specs.Fmt.{digit_glyph, digits, digits_onto}

pub digits-start : (n : ℕ) (buffer : List ℕ) → length buffer ≤ 64 →
    digits_onto 64 16 true n (drop 64 buffer) ≡ digits 16 true n
unfolding digits
digits-start n buffer h = ap (digits_onto 64 16 true n) (drop_all 64 buffer h)

-- the digit before the digits from a place on
digit-before : (n i : ℕ) (later : List ℕ) (is_last : Bool) → 0 < i → (n / 16 == 0) ≡ is_last →
    digits_onto i 16 true n later ≡ cond is_last (digit_glyph true (n % 16) ∷ later)
    (digits_onto (i - 1) 16 true (n / 16) (digit_glyph true (n % 16) ∷ later))
digit-before n zero later is_last h e = absurd (omega arith)
digit-before n (suc i) later is_last h e =
    let more : List ℕ = digit_glyph true (n % 16) ∷ later in
    let same : i ≡ suc i - 1 = omega arith in
    ap (λ b. cond b more (digits_onto i 16 true (n / 16) more)) e
    ∙ ap (λ k. cond is_last more (digits_onto k 16 true (n / 16) more)) same

-- the digit that is put before a place
put : (buffer : List ℕ) (i d : ℕ) → 0 < i → i ≤ length buffer → drop (i - 1) (set buffer (i - 1) d) ≡ d ∷ drop i buffer
put buffer i d h h' =
    let same : i - 1 + 1 ≡ i = omega arith in
    drop-set buffer (i - 1) d (omega arith) ∙ ap (λ k. d ∷ drop k buffer) same

-- the first digit is put
pub digits-last : (n i d : ℕ) (buffer all : List ℕ) → 0 < i → i ≤ length buffer → d ≡ digit_glyph true (n % 16) →
    n / 16 ≡ 0 → digits_onto i 16 true n (drop i buffer) ≡ all → drop (i - 1) (set buffer (i - 1) d) ≡ all
digits-last n i d buffer all h h' is none e = put buffer i d h h' ∙ ap (λ x. x ∷ drop i buffer) is
    ∙ sym (digit-before n i (drop i buffer) true h (eq-eqb (n / 16) 0 none)) ∙ e

-- a digit is put that is not the first
pub digits-step : (n i d : ℕ) (buffer all : List ℕ) → 0 < i → i ≤ length buffer → d ≡ digit_glyph true (n % 16) →
    (n / 16 ≡ 0 → ⊥) → digits_onto i 16 true n (drop i buffer) ≡ all →
    digits_onto (i - 1) 16 true (n / 16) (drop (i - 1) (set buffer (i - 1) d)) ≡ all
digits-step n i d buffer all h h' is some e =
    ap (digits_onto (i - 1) 16 true (n / 16)) (put buffer i d h h' ∙ ap (λ x. x ∷ drop i buffer) is)
    ∙ sym (digit-before n i (drop i buffer) false h (ne_eqb (n / 16) 0 some)) ∙ e
