-- The parts of some bytes, on their way.
use Rattle.std.proofs.Common.{◌≡◌, ◌≤◌, ◌<◌, ◌+◌, ◌-◌, ◌++◌, ◌∷◌, [], ◌∙◌, inl, inr, ℕ, List}
use Rattle.std.proofs.Common.{Bool, true, false, cond, Option, map}
use Rattle.std.proofs.Common.{length, take, drop, get_or, refl, sym, ap, subst, arith, add-one}
use Rattle.std.proofs.Common.{append_assoc, append-nil, drop-cons, length-drop, length-take}
use Rattle.std.proofs.Math.Seq.{take-add}
use Rattle.std.proofs.lemmas.Bool.{or_parts}
use Rattle.std.proofs.lemmas.List.{drop-append-le, drop-drop, get_or-drop, get_or_append_left, map-append, take-take}
use Rattle.std.proofs.lemmas.List.{take_more}
use Rattle.std.proofs.lemmas.List.Elements.{All-head, All-tail}
use Rattle.std.proofs.lemmas.Simd.{chunk-drop}
use Rattle.std.specs.List.{list_any}
use Rattle.std.specs.Prelude.{◌==◌, ◌&&◌, ◌||◌, not}
use Rattle.msvc_symbol.specs.Grammars.{Choice}
use Rattle.msvc_symbol.specs.declared.grammar.Grammar.{Grammar}
use Rattle.msvc_symbol.specs.declared.grammar.Grammar.TheVariants.{Crate, Full}
use Rattle.msvc_filter.specs.Filtered.{IsFilteredFrom, IsNoStart, IsSymbol, Part, declared, kept}
use Rattle.msvc_filter.specs.Filtered.{nothing, replaced, stays, text_of_parts}
use Rattle.msvc_filter.specs.WordStates.{ArePartsUpTo, AreRest, IsDecided, IsFound, IsSymbolShown, IsUnmarked, Keeps}
use Rattle.msvc_filter.specs.WordStates.{max_looked_at, past}
use Rattle.msvc_filter.specs.SymbolBounds.{begins_funclet, candidate, follows_word, is_free, is_mark, is_start}
use Rattle.msvc_filter.specs.SymbolBounds.{is_file_ending, starts_at}
use Rattle.msvc_filter.specs.declared.symbol_bounds.WordState.{WordState}
use Rattle.msvc_filter.proofs.SymbolLookahead.{no_symbol-more, start-more, symbol-more}
use Rattle.msvc_filter.proofs.Replaced.{text-append}

-- bytes after these that decide a symbol change nothing
enough : (left : List ℕ) (at until : ℕ) → at < until → until + max_looked_at ≤ length left
    → max_looked_at ≤ length (drop at left)
enough left at until below far = omega (arith, length-drop at left)

no_symbol-decided : (how : Choice) (left : List ℕ) (at until : ℕ) (more : List ℕ) → at < until
    → IsDecided left until more
    → IsNoStart how (drop at left) → IsNoStart how (drop at left ++ more)
no_symbol-decided how left at until more below (inl e) none =
    subst (IsNoStart how) (sym (append-nil (drop at left)) ∙ ap (λ l. drop at left ++ l) (sym e)) none
no_symbol-decided how left at until more below (inr far) none =
    no_symbol-more how (drop at left) more (inl (enough left at until below far)) none

symbol-decided : (how : Choice) (left : List ℕ) (at until : ℕ) (more : List ℕ) (bytes : ℕ) (text : List ℕ) → at < until
    → IsDecided left until more → IsSymbol how (drop at left) bytes text
    → IsSymbol how (drop at left ++ more) bytes text
symbol-decided how left at until more bytes text below (inl e) is =
    subst (λ l. IsSymbol how l bytes text)
    (sym (append-nil (drop at left)) ∙ ap (λ l. drop at left ++ l) (sym e)) is
symbol-decided how left at until more bytes text below (inr far) is =
    symbol-more how (drop at left) more bytes text (inl (enough left at until below far)) is

start-decided : (g : Grammar) (last : ℕ) (passed left : List ℕ) (at until : ℕ) (more : List ℕ) → at < until
    → IsDecided left until more
    → is_start g last passed (drop at left ++ more) ≡ is_start g last passed (drop at left)
start-decided g last passed left at until more below (inl e) =
    ap (is_start g last passed) (ap (λ l. drop at left ++ l) e ∙ append-nil (drop at left))
start-decided g last passed left at until more below (inr far) =
    start-more g last passed (drop at left) more (inl (enough left at until below far))

-- before the first byte
pub parts-start : (how : Choice) (scan : WordState) (left : List ℕ) (until : ℕ) → ArePartsUpTo how scan left until [] 0
    scan
parts-start how scan left until more rest decided h = h

-- the bytes from a place on begin with that one
from : (left more : List ℕ) (at : ℕ) → at < length left
    → drop at left ++ more ≡ get_or left at 0 ∷ (drop (at + 1) left ++ more)
from left more at inside =
    ap (λ l. l ++ more)
    (drop-cons left at 0 inside ∙ ap (λ n. get_or left at 0 ∷ drop n left) (sym (add-one at)))

kept-more : (left : List ℕ) (at : ℕ) (rest : List Part) → at < length left
    → map kept (take at left) ++ (kept (get_or left at 0) ∷ rest) ≡ map kept (take (at + 1) left) ++ rest
kept-more left at rest inside =
    sym (append_assoc (map kept (take at left)) (kept (get_or left at 0) ∷ []) rest)
    ∙ ap (λ l. l ++ rest) (sym (map-append kept (take at left) (get_or left at 0 ∷ []))
    ∙ ap (map kept) (sym (take_more left at 0 inside)))

-- a symbol starts with none but some bytes
no_start : (g : Grammar) (last : ℕ) (passed : List ℕ) (b : ℕ) (left : List ℕ) → is_mark g b ≡ false
    → is_start g last passed (b ∷ left) ≡ true → ⊥
no_start g last passed b left none starts =
    go g b (is_free last passed) (follows_word last passed) (candidate (b ∷ left)) none starts
  where
    unmarked : (q dot free follows ending funclet : Bool) → q || dot ≡ false
        → cond dot (not (follows || ending)) (q && (free && not (follows && funclet))) ≡ true → ⊥
    unmarked true dot free follows ending funclet none starts = cc
    unmarked false true free follows ending funclet none starts = cc
    unmarked false false free follows ending funclet none starts = cc

    marked : (q free : Bool) → q || q ≡ false → q && free ≡ true → ⊥
    marked true free none starts = cc
    marked false free none starts = cc

    go : (g : Grammar) (b : ℕ) (free follows : Bool) (text : List ℕ) → is_mark g b ≡ false
        → starts_at g b free follows text ≡ true → ⊥
    go Crate b free follows text none starts = marked (b == 63) free none starts
    go Full b free follows text none starts =
        unmarked (b == 63) (b == 46) free follows (is_file_ending text) (begins_funclet text) none starts

unmarked-parts : (how : Choice) (last : ℕ) (passed run left : List ℕ) (rest : List Part) → IsUnmarked how.grammar run
    → IsFilteredFrom how last (past run passed) left rest
    → IsFilteredFrom how last passed (run ++ left) (map kept run ++ rest)
unmarked-parts how last passed [] left rest unmarked h = h
unmarked-parts how last passed (b ∷ run) left rest unmarked h =
    let none = All-head (λ b. is_mark how.grammar b ≡ false) b run unmarked in
    stays (λ starts. absurd (no_start how.grammar last passed b (run ++ left) none starts))
    (unmarked-parts how last (b ∷ passed) run left rest (All-tail (λ b. is_mark how.grammar b ≡ false) b run unmarked)
    h)

-- bytes with which no symbol starts stay
pub parts-unmarked : (how : Choice) (scan now after : WordState) (left : List ℕ) (until at end : ℕ)
    → ArePartsUpTo how scan left until (map kept (take at left)) at now → at ≤ end → end ≤ length left
    → IsUnmarked how.grammar (take (end - at) (drop at left))
    → ((last : ℕ) (passed : List ℕ) → Keeps now last passed
    → Keeps after last (past (take (end - at) (drop at left)) passed))
    → ArePartsUpTo how scan left until (map kept (take end left)) end after
parts-unmarked how scan now after left until at end so order within unmarked keeps more rest decided h =
    let run = take (end - at) (drop at left) in
    let count : at + (end - at) ≡ end = omega arith in
    let front : take at left ++ run ≡ take end left =
    sym (take-add at (end - at) left) ∙ ap (λ n. take n left) count in
    let past_run : drop at left ++ more ≡ run ++ (drop end left ++ more) =
    ap (λ l. l ++ more) (chunk-drop at (end - at) left ∙ ap (λ n. run ++ drop n left) count)
    ∙ append_assoc run (drop end left) more in
    let parts : map kept (take at left) ++ (map kept run ++ rest) ≡ map kept (take end left) ++ rest =
    sym (append_assoc (map kept (take at left)) (map kept run) rest)
    ∙ ap (λ l. l ++ rest) (sym (map-append kept (take at left) run) ∙ ap (map kept) front) in
    subst (AreRest how scan (left ++ more)) parts
    (so more (map kept run ++ rest) decided (λ last passed k.
    subst (λ l. IsFilteredFrom how last passed l (map kept run ++ rest)) (sym past_run)
    (unmarked-parts how last passed run (drop end left ++ more) rest unmarked (h last (past run passed)
    (keeps last passed k)))))

-- the bytes of a part before the first with which a symbol may start
pub unmarked-run : (g : Grammar) (left : List ℕ) (at count until : ℕ)
    → count ≤ length (take (until - at) (drop at left))
    → IsUnmarked g (take count (take (until - at) (drop at left)))
    → IsUnmarked g (take (at + count - at) (drop at left))
unmarked-run g left at count until within unmarked =
    let here : at + count - at ≡ count = omega arith in
    let long = length-take (until - at) (drop at left) in
    let enough : count ≤ until - at = omega (arith, long, within) in
    let same = take-take count (until - at) (drop at left) enough ∙ ap (λ n. take n (drop at left)) (sym here) in
    subst (IsUnmarked g) same unmarked

-- a byte stays
pub parts-stays : (how : Choice) (scan now after : WordState) (left : List ℕ) (until at : ℕ)
    → ArePartsUpTo how scan left until (map kept (take at left)) at now → at < until → until ≤ length left
    → ((last : ℕ) (passed : List ℕ) → Keeps now last passed → is_start how.grammar last passed (drop at left) ≡ true
    → IsNoStart how (drop at left))
    → ((last : ℕ) (passed : List ℕ) → Keeps now last passed → Keeps after last (get_or left at 0 ∷ passed))
    → ArePartsUpTo how scan left until (map kept (take (at + 1) left)) (at + 1) after
parts-stays how scan now after left until at so below within none keeps more rest decided h =
    let inside : at < length left = omega arith in
    let b = get_or left at 0 in
    let whole = from left more at inside in
    subst (AreRest how scan (left ++ more)) (kept-more left at rest inside)
    (so more (kept b ∷ rest) decided (λ last passed k.
    subst (λ l. IsFilteredFrom how last passed l (kept b ∷ rest)) (sym whole)
    (stays (λ start. subst (IsNoStart how) whole
    (no_symbol-decided how left at until more below decided (none last passed k
    (sym (start-decided how.grammar last passed left at until more below decided)
    ∙ ap (is_start how.grammar last passed) whole ∙ start))))
    (h last (b ∷ passed) (keeps last passed k)))))

-- a symbol is found
pub parts-found : (how : Choice) (scan now after : WordState) (left : List ℕ) (until at bytes : ℕ) (shown : Option (List
    ℕ))
    → ArePartsUpTo how scan left until (map kept (take at left)) at now → at < until → until ≤ length left
    → ((last : ℕ) (passed : List ℕ) → Keeps now last passed → is_start how.grammar last passed (drop at left) ≡ true)
    → IsSymbolShown how (drop at left) bytes shown → Keeps after (get_or left (at + bytes - 1) 0) []
    → IsFound how scan left until at bytes shown after
parts-found how scan now after left until at bytes shown so below within start is keeps = record {
  text = is.0;
  printed = is.1;
  some = is.3;
  inside = omega (arith, is.4, length-drop at left);
  parts = λ more rest decided h.
      let inside : at < length left = omega arith in
      let b = get_or left at 0 in
      let whole = from left more at inside in
      let fits : bytes ≤ length (drop at left) = is.4 in
      let last_byte : get_or (drop at left ++ more) (bytes - 1) 0 ≡ get_or left (at + bytes - 1) 0 =
      get_or_append_left (drop at left) more 0 (bytes - 1) (omega (arith, is.3)) ∙ get_or-drop at left (bytes - 1) 0
      ∙ ap (λ i. get_or left i 0) (let e : at + (bytes - 1) ≡ at + bytes - 1 = omega (arith, is.3) in e) in
      let past : drop (at + bytes) left ++ more ≡ drop bytes (drop at left ++ more) =
      ap (λ l. l ++ more) (sym (drop-drop bytes at left)) ∙ sym (drop-append-le bytes (drop at left) more fits) in
      subst (AreRest how scan (left ++ more))
      (sym (append_assoc (map kept (take at left)) (declared is.0 ∷ []) rest))
      (so more (declared is.0 ∷ rest) decided (λ last passed k.
      subst (λ l. IsFilteredFrom how last passed l (declared is.0 ∷ rest)) (sym whole)
      (replaced (ap (is_start how.grammar last passed) (sym whole)
      ∙ start-decided how.grammar last passed left at until more below decided ∙ start last passed k)
      (subst (λ l. IsSymbol how l bytes is.0) whole
      (symbol-decided how left at until more bytes is.0 below decided is.2))
      (subst (λ l. IsFilteredFrom how (get_or l (bytes - 1) 0) [] (drop bytes l) rest) whole
      (subst (λ n. IsFilteredFrom how n [] (drop bytes (drop at left ++ more)) rest) (sym last_byte)
      (subst (λ l. IsFilteredFrom how (get_or left (at + bytes - 1) 0) [] l rest) past
      (h (get_or left (at + bytes - 1) 0) [] keeps)))))));
}

-- parts after others
pub parts-further : (how : Choice) (scan now after : WordState) (left : List ℕ) (until at on : ℕ) (parts others : List
    Part)
    → ArePartsUpTo how scan left until parts at now → at ≤ until → until ≤ length left
    → ArePartsUpTo how now (drop at left) (until - at) others on after
    → ArePartsUpTo how scan left until (parts ++ others) (at + on) after
parts-further how scan now after left until at on parts others so below within further more rest decided h =
    subst (AreRest how scan (left ++ more)) (sym (append_assoc parts others rest))
    (so more (others ++ rest) decided (further more rest (later decided)
    (subst (λ l. AreRest how after (l ++ more) rest) (sym (drop-drop on at left)) h)))
  where
    later : IsDecided left until more → IsDecided (drop at left) (until - at) more
    later (inl e) = inl e
    later (inr far) = inr (omega (arith, length-drop at left))

-- bytes that stay are their text
pub text-kept : (bytes : List ℕ) → text_of_parts (map kept bytes) ≡ bytes
text-kept [] = refl
text-kept (b ∷ bytes) = ap (λ l. b ∷ l) (text-kept bytes)

-- to the end
pub parts-all : (how : Choice) (scan after : WordState) (left : List ℕ) (until at : ℕ) (parts : List Part)
    → ArePartsUpTo how scan left until parts at after → length left ≤ at → AreRest how scan left parts
parts-all how scan after left until at parts so end =
    let none : drop at left ++ [] ≡ [] =
    append-nil (drop at left) ∙ empty (drop at left) (omega (arith, length-drop at left)) in
    subst (AreRest how scan left) (append-nil parts)
    (subst (λ l. AreRest how scan l (parts ++ [])) (append-nil left)
    (so [] [] (inl refl) (λ last passed k. subst (λ l. IsFilteredFrom how last passed l []) (sym none) nothing)))
  where
    empty : (l : List ℕ) → length l ≡ 0 → l ≡ []
    empty [] e = refl
    empty (x ∷ xs) e = absurd (omega arith)

-- what has no byte with which a symbol may start stays as it is
pub without_mark : (how : Choice) (last : ℕ) (passed left : List ℕ) → list_any (λ b. is_mark how.grammar b) left ≡ false
    → IsFilteredFrom how last passed left (map kept left)
without_mark how last passed [] none = nothing
without_mark how last passed (b ∷ bs) none =
    let parts = or_parts (is_mark how.grammar b) (list_any (λ c. is_mark how.grammar c) bs) none in
    stays (λ starts. absurd (no_start how.grammar last passed b bs parts.0 starts))
    (without_mark how last (b ∷ passed) bs parts.1)

-- what is appended for a symbol
pub text-further : (text shown : List ℕ) (parts : List Part) (bytes : List ℕ) → text ≡ text_of_parts parts
    → (text ++ bytes) ++ shown ≡ text_of_parts (parts ++ (map kept bytes ++ declared shown ∷ []))
text-further text shown parts bytes is =
    append_assoc text bytes shown ∙ ap (λ t. t ++ (bytes ++ shown)) is
    ∙ ap (λ t. text_of_parts parts ++ t)
    (ap (λ b. b ++ shown) (sym (text-kept bytes))
    ∙ ap (λ t. text_of_parts (map kept bytes) ++ t) (sym (append-nil shown))
    ∙ sym (text-append (map kept bytes) (declared shown ∷ [])))
    ∙ sym (text-append parts (map kept bytes ++ declared shown ∷ []))

-- and for bytes that stay
pub text-stays : (text : List ℕ) (parts : List Part) (bytes : List ℕ) → text ≡ text_of_parts parts
    → text ++ bytes ≡ text_of_parts (parts ++ map kept bytes)
text-stays text parts bytes is =
    ap (λ t. t ++ bytes) is ∙ ap (λ t. text_of_parts parts ++ t) (sym (text-kept bytes))
    ∙ sym (text-append parts (map kept bytes))
