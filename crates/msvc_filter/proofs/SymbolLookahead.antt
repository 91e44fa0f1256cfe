-- Which bytes decide whether a symbol begins at a place, and which.
use Rattle.std.proofs.Common.{◌≡◌, ◌≤◌, ◌<◌, ◌+◌, ◌-◌, ◌++◌, ◌∷◌, [], ◌∙◌, ◌⊎◌, inl, inr, ℕ, List, Bool, true, false}
use Rattle.std.proofs.Common.{cond}
use Rattle.std.proofs.Common.{length, take, drop, get_or, refl, sym, ap, subst, arith, nat_lt, add-one}
use Rattle.std.proofs.Common.{length-drop, length-take, drop-cons}
use Rattle.std.specs.Prelude.{◌==◌, ◌&&◌, ◌||◌}
use Rattle.std.specs.Char.{is_ascii_uppercase}
use Rattle.std.specs.List.{prefix_len, take_while}
use Rattle.std.specs.Str.Lossy.{utf8_valid_len}
use Rattle.std.proofs.lemmas.Bool.{ltb-false, ltb-true}
use Rattle.std.proofs.lemmas.Bool.Decides.{nat_tests}
use Rattle.std.proofs.lemmas.List.{drop-append-le, take-append-le, take-take}
use Rattle.std.proofs.lemmas.List.Sums.{prefix_len_stops}
use Rattle.msvc_symbol.specs.Grammars.{Choice}
use Rattle.msvc_symbol.specs.declared.grammar.Grammar.{Grammar}
use Rattle.msvc_symbol.specs.declared.grammar.Grammar.TheVariants.{Crate, Full}
use Rattle.msvc_filter.specs.Filtered.{DerivesUnder, IsNoStart, IsSymbol}
use Rattle.msvc_filter.specs.WordStates.{max_looked_at}
use Rattle.msvc_filter.specs.SymbolBounds.{candidate, continues, ends_word, is_trailing_byte, is_visible, max_bytes}
use Rattle.msvc_filter.specs.SymbolBounds.{follows_word, is_free, is_start, starts_at, symbol_extent, utf8_front}
use Rattle.msvc_filter.proofs.Symbols.{candidate-within}

-- there are as many bytes as are looked at, or one of them is not visible
abbrev pub AreEnough : List ℕ → Type 0
AreEnough left = (max_looked_at ≤ length left) ⊎ (prefix_len is_visible left < length left)

-- Visible bytes at the front

visible-short : (left more : List ℕ) → prefix_len is_visible left < length left
    → prefix_len is_visible (left ++ more) ≡ prefix_len is_visible left
visible-short [] more h = absurd (omega arith)
visible-short (b ∷ bs) more h = at (is_visible b) h (λ less. visible-short bs more less)
  where
    at : (v : Bool) → cond v (1 + prefix_len is_visible bs) 0 < length (b ∷ bs)
        → (prefix_len is_visible bs < length bs → prefix_len is_visible (bs ++ more) ≡ prefix_len is_visible bs)
        → cond v (1 + prefix_len is_visible (bs ++ more)) 0 ≡ cond v (1 + prefix_len is_visible bs) 0
    at true h rest = ap (λ n. 1 + n) (rest (omega arith))
    at false h rest = refl

visible-long : (left more : List ℕ) → length left ≤ prefix_len is_visible left
    → length left ≤ prefix_len is_visible (left ++ more)
visible-long [] more h = omega arith
visible-long (b ∷ bs) more h = at (is_visible b) h (λ less. visible-long bs more less)
  where
    at : (v : Bool) → length (b ∷ bs) ≤ cond v (1 + prefix_len is_visible bs) 0
        → (length bs ≤ prefix_len is_visible bs → length bs ≤ prefix_len is_visible (bs ++ more))
        → length (b ∷ bs) ≤ cond v (1 + prefix_len is_visible (bs ++ more)) 0
    at true h rest = let long : length bs ≤ prefix_len is_visible (bs ++ more) = rest (omega arith) in omega arith
    at false h rest = absurd (omega arith)

visible-more : (left more : List ℕ) → AreEnough left
    → take max_bytes (take_while is_visible (left ++ more)) ≡ take max_bytes (take_while is_visible left)
visible-more left more enough = at (nat_lt (prefix_len is_visible left) (length left)) refl enough
  where
    at : (b : Bool) → nat_lt (prefix_len is_visible left) (length left) ≡ b → AreEnough left
        → take max_bytes (take_while is_visible (left ++ more)) ≡ take max_bytes (take_while is_visible left)
    at true e h =
        let short : prefix_len is_visible left < length left = ltb-true (prefix_len is_visible left) (length left) e in
        ap (take max_bytes) (ap (λ n. take n (left ++ more)) (visible-short left more short)
        ∙ take-append-le (prefix_len is_visible left) left more (omega arith))
    at false e (inr h) = absurd (omega (arith, ltb-false (prefix_len is_visible left) (length left) e))
    at false e (inl h) =
        let all : length left ≤ prefix_len is_visible left =
        ltb-false (prefix_len is_visible left) (length left) e in
        let long = visible-long left more all in
        take-take max_bytes (prefix_len is_visible (left ++ more)) (left ++ more) (omega arith)
        ∙ take-append-le max_bytes left more (omega arith)
        ∙ sym (take-take max_bytes (prefix_len is_visible left) left (omega arith))

pub candidate-more : (left more : List ℕ) → AreEnough left → candidate (left ++ more) ≡ candidate left
candidate-more left more enough = ap utf8_front (visible-more left more enough)

-- so bytes after these change no start
pub start-more : (g : Grammar) (last : ℕ) (passed left more : List ℕ) → AreEnough left
    → is_start g last passed (left ++ more) ≡ is_start g last passed left
start-more g last passed [] more enough = absurd (none enough)
  where
    none : AreEnough [] → ⊥
    none (inl h) = omega arith
    none (inr h) = omega arith
start-more g last passed (b ∷ left) more enough =
    ap (starts_at g b (is_free last passed) (follows_word last passed)) (candidate-more (b ∷ left) more enough)

-- What stands after a candidate, or a part of it

abbrev AreLookedAt : List ℕ → Type 0
AreLookedAt left = ((b c : ℕ) × (bs : List ℕ) × (left ≡ b ∷ c ∷ bs))
    ⊎ ((b : ℕ) × (bs : List ℕ) × (left ≡ b ∷ bs) × (is_visible b ≡ false))

two_more : (left : List ℕ) → 2 ≤ length left → AreLookedAt left
two_more [] h = absurd (omega arith)
two_more (b ∷ []) h = absurd (omega arith)
two_more (b ∷ c ∷ bs) h = inl (b, c, bs, refl)

candidate-visible : (left : List ℕ)
    → (length (candidate left) ≤ max_bytes) × (length (candidate left) ≤ prefix_len is_visible left)
candidate-visible left =
    let seen = take_while is_visible left in
    let first = take max_bytes seen in
    let a = length-take (utf8_valid_len first) first in
    let b = length-take max_bytes seen in
    let c = length-take (prefix_len is_visible left) left in
    (omega (arith, a, b, c), omega (arith, a, b, c))

looked_at : (left : List ℕ) (read : ℕ) → AreEnough left → read ≤ length (candidate left) → AreLookedAt (drop read left)
looked_at left read (inl h) within =
    two_more (drop read left) (omega (arith, (candidate-visible left).0, length-drop read left))
looked_at left read (inr h) within = at (nat_lt read (prefix_len is_visible left)) refl
  where
    at : (b : Bool) → nat_lt read (prefix_len is_visible left) ≡ b → AreLookedAt (drop read left)
    at true e =
        let less : read < prefix_len is_visible left = ltb-true read (prefix_len is_visible left) e in
        two_more (drop read left) (omega (arith, length-drop read left))
    at false e =
        let equal : prefix_len is_visible left ≡ read =
        omega (arith, ltb-false read (prefix_len is_visible left) e, (candidate-visible left).1) in
        let inside : read < length left = omega arith in
        let stops = prefix_len_stops is_visible left 0 h in
        inr (
          get_or left read 0,
          drop (read + 1) left,
          drop-cons left read 0 inside ∙ ap (λ n. get_or left read 0 ∷ drop n left) (sym (add-one read)),
          ap (λ n. is_visible (get_or left n 0)) (sym equal) ∙ stops,
        )

-- what is not visible is no `@` and no capital
hidden : (b : ℕ) → is_visible b ≡ false → (b == 64 || is_ascii_uppercase b) ≡ false
hidden b h = grind (arith, nat_tests)

left_over-more : (left more : List ℕ) → AreLookedAt left → is_trailing_byte (left ++ more) ≡ is_trailing_byte left
left_over-more left more (inl (b, c, bs, e)) = rw e refl
left_over-more left more (inr (b, bs, e, h)) =
    rw e (ap (λ t. t && ends_word (bs ++ more)) (hidden b h) ∙ sym (ap (λ t. t && ends_word bs) (hidden b h)))

left_over-hidden : (b : ℕ) (bs : List ℕ) → is_visible b ≡ false → is_trailing_byte (b ∷ bs) ≡ false
left_over-hidden b bs h = ap (λ t. t && ends_word bs) (hidden b h)

pub extent-more : (g : Grammar) (left more : List ℕ) (read : ℕ) → AreEnough left → read ≤ length (candidate left)
    → symbol_extent g (left ++ more) read ≡ symbol_extent g left read
extent-more Full left more read enough within = refl
extent-more Crate left more read enough within =
    let here = looked_at left read enough within in
    let long = candidate-within left in
    ap (λ t. cond t (read + 1) read)
    (ap is_trailing_byte (drop-append-le read left more (omega arith)) ∙ left_over-more (drop read left) more here)

-- a symbol ends before the last byte that is looked at
pub extent-inside : (g : Grammar) (left : List ℕ) (read : ℕ) → AreEnough left → read ≤ length (candidate left)
    → symbol_extent g left read < length left
extent-inside Full left read enough within = at (looked_at left read enough within)
  where
    at : AreLookedAt (drop read left) → read < length left
    at (inl (b, c, bs, e)) = let n = ap length e in omega (arith, length-drop read left)
    at (inr (b, bs, e, h)) = let n = ap length e in omega (arith, length-drop read left)
extent-inside Crate left read enough within =
    at (looked_at left read enough within) (is_trailing_byte (drop read left)) refl
  where
    at : AreLookedAt (drop read left) → (o : Bool) → is_trailing_byte (drop read left) ≡ o
        → cond o (read + 1) read < length left
    at (inl (b, c, bs, e)) true over = let n = ap length e in omega (arith, length-drop read left)
    at (inl (b, c, bs, e)) false over = let n = ap length e in omega (arith, length-drop read left)
    at (inr (b, bs, e, h)) true over =
        let no : false ≡ true = sym (left_over-hidden b bs h) ∙ sym (ap is_trailing_byte e) ∙ over in absurd (cc)
    at (inr (b, bs, e, h)) false over = let n = ap length e in omega (arith, length-drop read left)

continues-some : (left more : List ℕ) (n : ℕ) → n < length left
    → continues (drop n (left ++ more)) ≡ continues (drop n left)
continues-some left more n inside =
    let some = drop-cons left n 0 inside in
    ap continues (drop-append-le n left more (omega arith)) ∙ ap (λ l. continues (l ++ more)) some
    ∙ sym (ap continues some)

-- so bytes after these change no symbol
pub symbol-more : (how : Choice) (left more : List ℕ) (bytes : ℕ) (text : List ℕ) → AreEnough left
    → IsSymbol how left bytes text → IsSymbol how (left ++ more) bytes text
symbol-more how left more bytes text enough s =
    let same = candidate-more left more enough in
    let read = length (candidate left) - length s.rest in
    let within : read ≤ length (candidate left) = omega arith in
    let extent = extent-more how.grammar left more read enough within in
    let inside : bytes < length left = rw s.takes (extent-inside how.grammar left read enough within) in
    record {
      tree = s.tree;
      rest = s.rest;
      notes = s.notes;
      derived = subst (λ l. DerivesUnder how l s.tree s.rest s.notes) (sym same) s.derived;
      nodes = s.nodes;
      short = s.short;
      shown = s.shown;
      takes = s.takes ∙ sym extent
          ∙ ap (λ l. symbol_extent how.grammar (left ++ more) (length l - length s.rest)) (sym same);
      ends = continues-some left more bytes inside ∙ s.ends;
    }

pub symbol-less : (how : Choice) (left more : List ℕ) (bytes : ℕ) (text : List ℕ) → AreEnough left
    → IsSymbol how (left ++ more) bytes text → IsSymbol how left bytes text
symbol-less how left more bytes text enough s =
    let same = candidate-more left more enough in
    let read = length (candidate left) - length s.rest in
    let within : read ≤ length (candidate left) = omega arith in
    let extent = extent-more how.grammar left more read enough within in
    let takes : bytes ≡ symbol_extent how.grammar left read =
    s.takes ∙ ap (λ l. symbol_extent how.grammar (left ++ more) (length l - length s.rest)) same ∙ extent in
    let inside : bytes < length left = rw takes (extent-inside how.grammar left read enough within) in
    record {
      tree = s.tree;
      rest = s.rest;
      notes = s.notes;
      derived = subst (λ l. DerivesUnder how l s.tree s.rest s.notes) same s.derived;
      nodes = s.nodes;
      short = s.short;
      shown = s.shown;
      takes = takes;
      ends = sym (continues-some left more bytes inside) ∙ s.ends;
    }

pub no_symbol-more : (how : Choice) (left more : List ℕ) → AreEnough left → IsNoStart how left
    → IsNoStart how (left ++ more)
no_symbol-more how left more enough none bytes text s =
    none bytes text (symbol-less how left more bytes text enough s)

-- and a symbol leaves the last of them
pub symbol-inside : (how : Choice) (left : List ℕ) (bytes : ℕ) (text : List ℕ) → AreEnough left
    → IsSymbol how left bytes text → bytes < length left
symbol-inside how left bytes text enough s =
    rw s.takes (extent-inside how.grammar left (length (candidate left) - length s.rest) enough (omega arith))
