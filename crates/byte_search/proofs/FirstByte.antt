-- What a search for a byte finds is its first position.
use Rattle.std.proofs.Common.{◌≡◌, ◌<◌, ℕ, List, Bool, true, false, cond, length, Option, Some, None, refl, sym, ap}
use Rattle.std.proofs.Common.{◌∙◌, ◌+◌, ◌-◌, ◌≤◌, arith, drop, eqb, ltb, not, subst, take}
use Rattle.std.proofs.lemmas.Bool.{eq-eqb, lt-ltb, le-ltb, ltb-true, ltb-false, ne_eqb}
use Rattle.std.proofs.lemmas.List.{length-drop, take_all}
use Rattle.std.proofs.lemmas.List.Folds.{prefix_len-append}
use Rattle.std.proofs.lemmas.List.Sums.{fails_before_first, passes_at_first, prefix_len-le-length}
use Rattle.std.proofs.lemmas.Simd.{chunk-drop, length-chunk}
use Rattle.std.specs.List.{position, position_or_len}
use Rattle.std.specs.Option.{option_map}
use Rattle.memchr.specs.Find.{IsFirstByte, Nowhere, Passes, is_byte}

pub first_position : (byte : ℕ) (bytes : List ℕ) (r : Option ℕ) → IsFirstByte (is_byte byte) bytes r →
    r ≡ position (is_byte byte) bytes
first_position byte bytes r h = at r h (ltb n (length bytes)) refl
  where
    n : ℕ
    n = position_or_len (is_byte byte) bytes

    same : (k : ℕ) → IsFirstByte (is_byte byte) bytes (Some k) → n < length bytes → n ≡ k
    same k h inside =
        let above : n < k → ⊥
        = λ less. h.0.before n (omega arith) less (passes_at_first (is_byte byte) bytes 0 inside) in
        let below : k < n → ⊥
        = λ less. let no : true ≡ false = sym h.1 ∙ fails_before_first (is_byte byte) bytes k 0 less in cc in
        equal n k above below
      where
        equal : (a b : ℕ) → (a < b → ⊥) → (b < a → ⊥) → a ≡ b
        equal a b above below = omega (arith, above, below)

    at : (r : Option ℕ) → IsFirstByte (is_byte byte) bytes r → (b : Bool) → ltb n (length bytes) ≡ b →
        r ≡ cond b (Some n) None
    at None h true e = absurd (h n (omega arith) (ltb-true n (length bytes) e)
        (passes_at_first (is_byte byte) bytes 0 (ltb-true n (length bytes) e)))
    at None h false e = refl
    at (Some k) h true e = ap Some (sym (same k h (ltb-true n (length bytes) e)))
    at (Some k) h false e =
        let after : k < n = omega (arith, h.0.high, ltb-false n (length bytes) e) in
        let no : true ≡ false = sym h.1 ∙ fails_before_first (is_byte byte) bytes k 0 after in cc

-- and the first position is what a search finds
position-first : (byte : ℕ) (bytes : List ℕ) → IsFirstByte (is_byte byte) bytes (position (is_byte byte) bytes)
position-first byte bytes = at (ltb n (length bytes)) refl
  where
    n : ℕ
    n = position_or_len (is_byte byte) bytes

    before : (m : ℕ) → m ≤ n → Nowhere (Passes (is_byte byte) bytes) 0 m
    before m within k low less is =
        let no : true ≡ false = sym is ∙ fails_before_first (is_byte byte) bytes k 0 (omega (arith, less, within)) in
        cc

    at : (b : Bool) → ltb n (length bytes) ≡ b → IsFirstByte (is_byte byte) bytes (cond b (Some n) None)
    at true e =
        let inside : n < length bytes = ltb-true n (length bytes) e in (
          record { low = omega arith; high = inside; before = before n (omega arith) },
          passes_at_first (is_byte byte) bytes 0 inside,
        )
    at false e = before (length bytes) (ltb-false n (length bytes) e)

-- A search of the first 16 bytes, and of those after them.

block_length : (bytes : List ℕ) → 16 ≤ length bytes → length (take 16 bytes) ≡ 16
block_length bytes h = length-chunk 0 16 bytes h

split : (p : ℕ → Bool) (bytes : List ℕ) → position_or_len p bytes
    ≡ cond (eqb (position_or_len p (take 16 bytes)) (length (take 16 bytes)))
    (length (take 16 bytes) + position_or_len p (drop 16 bytes)) (position_or_len p (take 16 bytes))
split p bytes =
    ap (position_or_len p) (chunk-drop 0 16 bytes)
    ∙ prefix_len-append (λ x. not (p x)) (take 16 bytes) (drop 16 bytes)

in_block : (p : ℕ → Bool) (bytes : List ℕ) → 16 ≤ length bytes → position_or_len p (take 16 bytes) < 16
    → Some (position_or_len p (take 16 bytes)) ≡ position p bytes
in_block p bytes h less =
    let n : ℕ = position_or_len p (take 16 bytes) in
    let other : n ≡ length (take 16 bytes) → ⊥ = λ e. omega (arith, e, less, block_length bytes h) in
    let same : position_or_len p bytes ≡ n
    = split p bytes
    ∙ ap (λ b. cond b (length (take 16 bytes) + position_or_len p (drop 16 bytes)) n)
    (ne_eqb n (length (take 16 bytes)) other) in
    sym (ap (λ k. cond (ltb k (length bytes)) (Some k) None) same
    ∙ ap (λ b. cond b (Some n) None) (lt-ltb n (length bytes) (omega (arith, less, h))))

after_block : (p : ℕ → Bool) (bytes : List ℕ) → 16 ≤ length bytes → (position_or_len p (take 16 bytes) < 16 → ⊥)
    → option_map (λ n. 16 + n) (position p (take (length bytes - 16) (drop 16 bytes))) ≡ position p bytes
after_block p bytes h none =
    ap (λ left. option_map (λ n. 16 + n) (position p left))
    (take_all (length bytes - 16) (drop 16 bytes) (omega (arith, left)))
    ∙ go (ltb m (length (drop 16 bytes))) refl
  where
    m : ℕ
    m = position_or_len p (drop 16 bytes)

    long : length (take 16 bytes) ≡ 16
    long = block_length bytes h

    whole : position_or_len p (take 16 bytes) ≡ length (take 16 bytes)
    whole =
        omega (arith, long, none, prefix_len-le-length (λ x. not (p x)) (take 16 bytes))

    same : position_or_len p bytes ≡ 16 + m
    same =
        split p bytes
        ∙ ap (λ b. cond b (length (take 16 bytes) + m) (position_or_len p (take 16 bytes))) (eq-eqb _ _ whole)
        ∙ ap (λ k. k + m) long

    left : length (drop 16 bytes) + 16 ≡ length bytes
    left = omega (arith, length-drop 16 bytes, h)

    ends : (b : Bool) → ltb (16 + m) (length bytes) ≡ b → cond b (Some (16 + m)) None ≡ position p bytes
    ends b e = ap (λ b. cond b (Some (16 + m)) None) (sym e)
        ∙ sym (ap (λ k. cond (ltb k (length bytes)) (Some k) None) same)

    go : (b : Bool) → ltb m (length (drop 16 bytes)) ≡ b
        → option_map (λ n. 16 + n) (cond b (Some m) None) ≡ position p bytes
    go true e =
        ends true (lt-ltb (16 + m) (length bytes) (omega (arith, left, ltb-true m (length (drop 16 bytes)) e)))
    go false e =
        ends false (le-ltb (16 + m) (length bytes) (omega (arith, left, ltb-false m (length (drop 16 bytes)) e)))

-- What is found among the first 16 bytes, or after them, is the first such byte.

pub first_in_block : (byte : ℕ) (bytes : List ℕ) → 16 ≤ length bytes
    → position_or_len (is_byte byte) (take 16 bytes) < 16
    → IsFirstByte (is_byte byte) bytes (Some (position_or_len (is_byte byte) (take 16 bytes)))
first_in_block byte bytes h less =
    subst (IsFirstByte (is_byte byte) bytes) (sym (in_block (is_byte byte) bytes h less)) (position-first byte bytes)

pub first_after_block : (byte : ℕ) (bytes : List ℕ) (r : Option ℕ) → 16 ≤ length bytes
    → (position_or_len (is_byte byte) (take 16 bytes) < 16 → ⊥)
    → IsFirstByte (is_byte byte) (take (length bytes - 16) (drop 16 bytes)) r
    → IsFirstByte (is_byte byte) bytes (option_map (λ n. 16 + n) r)
first_after_block byte bytes r h none found =
    subst (IsFirstByte (is_byte byte) bytes)
    (sym (ap (option_map (λ n. 16 + n)) (first_position byte _ r found) ∙ after_block (is_byte byte) bytes h none))
    (position-first byte bytes)
