-- The bytes and characters of strings, by places.
use Rattle.std.proofs.Common.{◌≡◌, ℕ, zero, suc, ◌+◌, ◌-◌, ◌*◌, ◌/◌, ◌<◌, ◌≤◌, ◌%◌, List, [], ◌∷◌, Bool, length}
use Rattle.std.proofs.Common.{◌==◌, true, false, cond, get_or, drop, take, fold, slice_index, refl, ap, sym, ◌∙◌, arith}
use Rattle.std.proofs.lemmas.List.{take_all}
use Rattle.msvc_nodes.specs.declared.nodes.Number.{Number}
use Rattle.msvc_print.proofs.Settling.{add_all-append, add_all-none}
use Rattle.msvc_print.specs.Limited.{LimitedText, add_all}
use Rattle.msvc_print.specs.Strings.{bytes_of, character, character_at, characters, count_zero, literal}
use Rattle.msvc_print.specs.Strings.{literal_pieces, size}
use Rattle.msvc_print.specs.declared.strings.Width.{Width}
use Rattle.msvc_print.specs.declared.strings.Width.TheVariants.{Wide, One, Two, Four}

-- bytes
pub bytes-length : (ns : List Number) → length (bytes_of ns) ≡ length ns
bytes-length [] = refl
bytes-length (n ∷ ns) = ap suc (bytes-length ns)

pub byte-at : (ns : List Number) (d : Number) (i : ℕ) → i < length ns →
    (get_or ns i d).value % 256 ≡ slice_index (bytes_of ns) i
byte-at [] d i h = absurd (omega arith)
byte-at (n ∷ ns) d zero h = refl
byte-at (n ∷ ns) d (suc i) h = byte-at ns d i (omega arith)

bytes-some : (ns : List Number) (i : ℕ) → i < length ns →
    drop i (bytes_of ns) ≡ slice_index (bytes_of ns) i ∷ drop (suc i) (bytes_of ns)
bytes-some [] i h = absurd (omega arith)
bytes-some (n ∷ ns) zero h = refl
bytes-some (n ∷ ns) (suc i) h = bytes-some ns i (omega arith)

bytes-none : (ns : List Number) (i : ℕ) → length ns ≤ i → drop i (bytes_of ns) ≡ []
bytes-none [] zero h = refl
bytes-none [] (suc i) h = refl
bytes-none (n ∷ ns) zero h = absurd (omega arith)
bytes-none (n ∷ ns) (suc i) h = bytes-none ns i (omega arith)

-- one byte is counted, and the others are left
pub counted-step : (at_end : Bool) (ns : List Number) (i found found' : ℕ) → i < length ns →
    found' ≡ count_zero at_end found (slice_index (bytes_of ns) i) →
    fold (count_zero at_end) found' (drop (i + 1) (bytes_of ns))
    ≡ fold (count_zero at_end) found (drop i (bytes_of ns))
counted-step at_end ns i found found' h e =
    let next : i + 1 ≡ suc i = omega arith in
    ap (λ k. fold (count_zero at_end) found' (drop k (bytes_of ns))) next
    ∙ ap (λ z. fold (count_zero at_end) z (drop (suc i) (bytes_of ns))) e
    ∙ ap (fold (count_zero at_end) found) (sym (bytes-some ns i h))

choice-most : (b at_end : Bool) (found : ℕ) → cond b (found + 1) (cond at_end 0 found) ≤ found + 1
choice-most true at_end found = omega arith
choice-most false true found = omega arith
choice-most false false found = omega arith

pub counted-most : (at_end : Bool) (found b : ℕ) → count_zero at_end found b ≤ found + 1
counted-most at_end found b = choice-most (b == 0) at_end found

pub counted-all : (at_end : Bool) (ns : List Number) (i found : ℕ) → length ns ≤ i →
    found ≡ fold (count_zero at_end) found (drop i (bytes_of ns))
counted-all at_end ns i found h = sym (ap (fold (count_zero at_end) found) (bytes-none ns i h))

-- a character is written, and the others are left
pub written-character : (w : Width) (bytes : List ℕ) (i left : ℕ) (out out' : LimitedText) → 0 < left →
    out' ≡ add_all out (character (character_at w bytes i)) →
    add_all out' (characters w bytes (i + size w) (left - 1)) ≡ add_all out (characters w bytes i left)
written-character w bytes i zero out out' h e = absurd (omega arith)
written-character w bytes i (suc left) out out' h e =
    let fewer : suc left - 1 ≡ left = omega arith in
    ap (λ k. add_all out' (characters w bytes (i + size w) k)) fewer
    ∙ ap (λ o. add_all o (characters w bytes (i + size w) left)) e
    ∙ sym (add_all-append out (character (character_at w bytes i)) (characters w bytes (i + size w) left))

pub written-characters : (w : Width) (bytes : List ℕ) (i left : ℕ) (out : LimitedText) → left ≤ 0 →
    out ≡ add_all out (characters w bytes i left)
written-characters w bytes i zero out h = sym (add_all-none out)
written-characters w bytes i (suc left) out h = absurd (omega arith)

-- the bytes of the characters that are left are there
pub next-fits : (w : Width) (i left n : ℕ) → 0 < left → i + size w * left ≤ n → i + size w ≤ n
next-fits Wide i left n h h' = omega arith
next-fits One i left n h h' = omega arith
next-fits Two i left n h h' = omega arith
next-fits Four i left n h h' = omega arith

pub later-fit : (w : Width) (i left n : ℕ) → 0 < left → i + size w * left ≤ n → (i + size w) + size w * (left - 1) ≤ n
later-fit Wide i left n h h' = omega arith
later-fit One i left n h h' = omega arith
later-fit Two i left n h h' = omega arith
later-fit Four i left n h h' = omega arith

-- whole groups of bytes are there
pub groups-fit : (w : Width) (n k : ℕ) → k ≤ n / size w → size w * k ≤ n
groups-fit Wide n k h = omega (arith, h)
groups-fit One n k h = omega (arith, h)
groups-fit Two n k h = omega (arith, h)
groups-fit Four n k h = omega (arith, h)

-- the first number is the length, and the others are the bytes
pub literal_pieces-some : (is_wide : Bool) (ns : List Number) (d : Number) → 1 ≤ length ns →
    literal is_wide (get_or ns 0 d).value (bytes_of (take (length ns - 1) (drop 1 ns))) ≡ literal_pieces is_wide ns
literal_pieces-some is_wide [] d h = absurd (omega arith)
literal_pieces-some is_wide (n ∷ ns) d h =
    let one : suc (length ns) - 1 ≡ length ns = omega arith in
    ap (λ bytes. literal is_wide n.value (bytes_of bytes))
    (ap (λ k. take k ns) one ∙ take_all (length ns) ns (omega arith))
