-- Where a word begins, and what a scan keeps of it.
use Rattle.std.proofs.Common.{◌≡◌, ◌≢◌, ◌<◌, ◌-◌, ◌∷◌, [], ◌∙◌, ℕ, List, Bool, true, false, cond, refl, sym, ap, suc}
use Rattle.std.proofs.Common.{◌≤◌, All, arith, get_or, length, nat_lt, ne_eqb, subst, take, take_all}
use Rattle.std.specs.List.{list_all, list_any}
use Rattle.std.specs.Prelude.{◌==◌, ◌&&◌, ◌||◌, not}
use Rattle.std.proofs.lemmas.Bool.{ltb-false, ltb-true}
use Rattle.std.proofs.lemmas.List.Folds.{list_any_at, list_any_none}
use Rattle.std.proofs.lemmas.List.Elements.{All-head, All-tail, All-weaker}
use Rattle.std.proofs.lemmas.List.Sums.{take_while-cons}
use Rattle.msvc_symbol.specs.Grammars.{Choice}
use Rattle.msvc_symbol.specs.declared.grammar.Grammar.{Grammar}
use Rattle.msvc_symbol.specs.declared.grammar.Grammar.TheVariants.{Crate, Full}
use Rattle.msvc_filter.specs.Filtered.{IsFilteredFrom, Part, nothing, replaced, stays}
use Rattle.msvc_filter.specs.WordStates.{AreRest, IsPlain, IsUnmarked, Keeps, may_start, past}
use Rattle.msvc_filter.specs.SymbolBounds.{blocks_start, byte_before, candidate, has_question_mark}
use Rattle.msvc_filter.specs.SymbolBounds.{is_mark, is_word_byte, is_start, starts_at, word_before}
use Rattle.msvc_filter.specs.declared.symbol_bounds.WordState.{WordState}

or_swapped : (a b : Bool) → a || b ≡ (b || a) && true
or_swapped true true = refl
or_swapped true false = refl
or_swapped false true = refl
or_swapped false false = refl

and_false : (a : Bool) → false ≡ a && false
and_false true = refl
and_false false = refl

-- whether a word that goes on has had a `?`
pub seen-more : (b : ℕ) (passed : List ℕ) → has_question_mark (word_before (b ∷ passed))
    ≡ (has_question_mark (word_before passed) || b == 63) && is_word_byte b
seen-more b passed = ap has_question_mark (take_while-cons is_word_byte b passed) ∙ at (is_word_byte b)
  where
    at : (w : Bool) → has_question_mark (cond w (b ∷ word_before passed) [])
        ≡ (has_question_mark (word_before passed) || b == 63) && w
    at true = or_swapped (b == 63) (has_question_mark (word_before passed))
    at false = and_false (has_question_mark (word_before passed) || b == 63)

pub Keeps-more : (scan after : WordState) (b last : ℕ) (passed : List ℕ)
    → after.seen_question_mark ≡ ((scan.seen_question_mark || b == 63) && is_word_byte b) → after.last ≡ b
    → Keeps scan last passed → Keeps after last (b ∷ passed)
Keeps-more scan after b last passed seen before so = record {
  seen = seen ∙ ap (λ s. (s || b == 63) && is_word_byte b) so.seen ∙ sym (seen-more b passed);
  before = before;
}

and-false_left : (h w e : Bool) → ((h || false) && w) && e ≡ h && (w && e)
and-false_left true true e = refl
and-false_left true false e = refl
and-false_left false w e = refl

-- where more bytes have no `?`
seen-past : (bytes passed : List ℕ) → IsPlain bytes → has_question_mark (word_before (past bytes passed))
    ≡ has_question_mark (word_before passed) && list_all is_word_byte bytes
seen-past [] passed plain = and_true (has_question_mark (word_before passed))
  where
    and_true : (a : Bool) → a ≡ a && true
    and_true true = refl
    and_true false = refl
seen-past (b ∷ bytes) passed plain =
    let none = ne_eqb b 63 (All-head (λ b. b ≢ 63) b bytes plain) in
    let before = has_question_mark (word_before passed) in
    let all = list_all is_word_byte bytes in
    seen-past bytes (b ∷ passed) (All-tail (λ b. b ≢ 63) b bytes plain)
    ∙ ap (λ s. s && all) (seen-more b passed ∙ ap (λ q. (before || q) && is_word_byte b) none)
    ∙ and-false_left before (is_word_byte b) all

before-past : (last : ℕ) (bytes passed : List ℕ) → 0 < length bytes
    → byte_before last (past bytes passed) ≡ get_or bytes (length bytes - 1) 0
before-past last [] passed some = absurd (omega arith)
before-past last (b ∷ []) passed some = refl
before-past last (b ∷ c ∷ bytes) passed some =
    let next : suc (length (c ∷ bytes) - 1) ≡ length (b ∷ c ∷ bytes) - 1 = omega arith in
    before-past last (c ∷ bytes) (b ∷ passed) (omega arith) ∙ ap (λ i. get_or (b ∷ c ∷ bytes) i 0) next

pub Keeps-past : (scan after : WordState) (bytes : List ℕ) (last : ℕ) (passed : List ℕ) → 0 < length bytes → IsPlain
    bytes
    → after.seen_question_mark ≡ (scan.seen_question_mark && list_all is_word_byte bytes)
    → after.last ≡ get_or bytes (length bytes - 1) 0 → Keeps scan last passed → Keeps after last (past bytes passed)
Keeps-past scan after bytes last passed some plain seen before so = record {
  seen = seen ∙ ap (λ s. s && list_all is_word_byte bytes) so.seen ∙ sym (seen-past bytes passed plain);
  before = before ∙ sym (before-past last bytes passed some);
}

-- the first element that passes a test tells whether one does
pub some_mark : (p : ℕ → Bool) (bytes : List ℕ) (n : ℕ) → All (λ b. p b ≡ false) (take n bytes)
    → (n < length bytes → p (get_or bytes n 0) ≡ true) → nat_lt n (length bytes) ≡ list_any p bytes
some_mark p bytes n none some = at (nat_lt n (length bytes)) refl
  where
    at : (b : Bool) → nat_lt n (length bytes) ≡ b → b ≡ list_any p bytes
    at true e =
        let less : n < length bytes = ltb-true n (length bytes) e in sym (list_any_at p bytes n 0 less (some less))
    at false e =
        let all : length bytes ≤ n = ltb-false n (length bytes) e in
        sym (list_any_none p bytes (subst (All (λ b. p b ≡ false)) (take_all n bytes all) none))

-- a scan tells a start
pub start-kept : (g : Grammar) (scan : WordState) (left : List ℕ) (last : ℕ) (passed : List ℕ) → Keeps scan last passed
    → may_start g scan left ≡ is_start g last passed left
start-kept g scan [] last passed so = refl
start-kept g scan (b ∷ left) last passed so =
    ap (λ s. starts_at g b (not (s || blocks_start scan.last)) (is_word_byte scan.last) (candidate (b ∷ left))) so.seen
    ∙ ap (λ l. starts_at g b (not (has_question_mark (word_before passed) || blocks_start l)) (is_word_byte l)
    (candidate (b ∷ left))) so.before

-- so a start is one whatever stands before it, if the scan keeps the same of it
start-same : (g : Grammar) (scan : WordState) (left : List ℕ) (last other : ℕ) (passed more : List ℕ)
    → Keeps scan last passed → Keeps scan other more → is_start g last passed left ≡ is_start g other more left
start-same g scan left last other passed more so also =
    sym (start-kept g scan left last passed so) ∙ start-kept g scan left other more also

-- bytes with which no symbol starts have no `?`
pub unmarked-plain : (g : Grammar) (bytes : List ℕ) → IsUnmarked g bytes → IsPlain bytes
unmarked-plain g bytes none = All-weaker (λ b. is_mark g b ≡ false) (λ b. b ≢ 63) (no_mark g) bytes none
  where
    no_mark : (g : Grammar) (b : ℕ) → is_mark g b ≡ false → b ≢ 63
    no_mark Crate b e is = let no : true ≡ false = sym (ap (is_mark Crate) is) ∙ e in cc
    no_mark Full b e is = let no : true ≡ false = sym (ap (is_mark Full) is) ∙ e in cc

-- of the bytes passed no more than this matters
pub parts-kept : (how : Choice) (scan : WordState) {last : ℕ} {passed left : List ℕ} {parts : List Part}
    → Keeps scan last passed → IsFilteredFrom how last passed left parts → AreRest how scan left parts
parts-kept how scan so nothing other more also = nothing
parts-kept how scan {last = last} {passed = passed} so (stays {b = b} {left = left} none rest) other more also =
    stays (λ start. none (start-same how.grammar scan (b ∷ left) last other passed more so also ∙ start))
    (parts-kept how (next b) (Keeps-more scan (next b) b last passed refl refl so)
    rest other (b ∷ more) (Keeps-more scan (next b) b other more refl refl also))
  where
    next : ℕ → WordState
    next b = record { seen_question_mark = (scan.seen_question_mark || b == 63) && is_word_byte b; last = b }
parts-kept how scan {last = last} {passed = passed} so (replaced {b = b} {left = left} start is rest) other more also =
    replaced (start-same how.grammar scan (b ∷ left) other last more passed also so ∙ start) is rest
