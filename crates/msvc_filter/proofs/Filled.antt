-- How much of a filtered text fits.
use Rattle.std.proofs.Common.{◌≡◌, ◌≤◌, ◌<◌, ◌+◌, ◌-◌, ◌++◌, ◌∷◌, [], ◌∙◌, ℕ, List, Bool, true, false, cond, map, min}
use Rattle.std.proofs.Common.{nat_le}
use Rattle.std.proofs.Common.{nat_lt, suc, zero, length, take, drop, refl, sym, ap, arith, append_assoc, append-nil}
use Rattle.std.proofs.Common.{IfOk, Result, Ok, Err}
use Rattle.std.proofs.Common.{length-append, length-drop, length-take, take_all, take-append-drop}
use Rattle.std.specs.Prelude.{◌==◌}
use Rattle.std.proofs.lemmas.Bool.{ltb-false, ltb-true}
use Rattle.std.proofs.lemmas.Bool.Decides.{nat_tests}
use Rattle.std.proofs.Math.Seq.{drop-append_seam, take-append_seam}
use Rattle.std.proofs.lemmas.List.{drop-drop}
use Rattle.std.specs.Str.Lossy.{utf8_valid_len}
use Rattle.msvc_filter.specs.SliceWriters.{IsSliceWriter, space_after}
use Rattle.msvc_filter.specs.Filtered.{Part, declared, fitting, kept, text_of_parts}
use Rattle.msvc_filter.specs.SymbolBounds.{utf8_front}
use Rattle.msvc_filter.specs.declared.filter.SliceWriter.{SliceWriter}
use Rattle.msvc_filter.proofs.Replaced.{text-append}

-- a beginning that is UTF-8 is one
front-taken : (bytes : List ℕ) (space : ℕ)
    → take (length (utf8_front (take space bytes))) bytes ≡ utf8_front (take space bytes)
front-taken bytes space =
    let some = take space bytes in
    let front = utf8_front some in
    let rest = drop (utf8_valid_len some) some in
    let whole : bytes ≡ front ++ (rest ++ drop space bytes) =
    sym (sym (append_assoc front rest (drop space bytes))
    ∙ ap (λ l. l ++ drop space bytes) (take-append-drop (utf8_valid_len some) some) ∙ take-append-drop space bytes) in
    ap (take (length front)) whole ∙ take-append_seam front (rest ++ drop space bytes)

-- where there is no space nothing fits
pub fitting-none : (parts : List Part) → fitting 0 parts ≡ []
unfolding fitting
fitting-none [] = refl
fitting-none (kept b ∷ parts) = refl
fitting-none (declared [] ∷ parts) = fitting-none parts
fitting-none (declared (x ∷ xs) ∷ parts) =
    ap (λ b. cond b ((x ∷ xs) ++ fitting (0 - length (x ∷ xs)) parts) (utf8_front []))
    (too-long (length (x ∷ xs)) (omega arith))
    ∙ take_all (utf8_valid_len []) [] (omega arith)
  where
    too-long : (n : ℕ) → 0 < n → nat_le n 0 ≡ false
    too-long n h = grind (arith, nat_tests)

-- the space after some bytes
pub space-cut : (taken all space : ℕ) → taken < all → space_after taken all space ≡ 0
space-cut taken all space h =
    let yes : nat_lt taken all ≡ true = grind (arith, nat_tests) in ap (λ b. cond b 0 (space - taken)) yes

pub space-whole : (taken all space : ℕ) → all ≤ taken → space_after taken all space ≡ space - taken
space-whole taken all space h =
    let no : nat_lt taken all ≡ false = grind (arith, nat_tests) in ap (λ b. cond b 0 (space - taken)) no

after-one : (taken all space : ℕ) → space_after (suc taken) (suc all) (suc space) ≡ space_after taken all space
after-one taken all space = at (nat_lt taken all) refl
  where
    at : (b : Bool) → nat_lt taken all ≡ b → space_after (suc taken) (suc all) (suc space) ≡ space_after taken all space
    at true e =
        let less : taken < all = ltb-true taken all e in
        space-cut (suc taken) (suc all) (suc space) (omega arith) ∙ sym (space-cut taken all space less)
    at false e =
        let most : all ≤ taken = ltb-false taken all e in
        let same : suc space - suc taken ≡ space - taken = omega arith in
        space-whole (suc taken) (suc all) (suc space) (omega arith) ∙ same ∙ sym (space-whole taken all space most)

-- bytes that stay
pub fitting-kept : (bytes : List ℕ) (space : ℕ) (rest : List Part) → fitting space (map kept bytes ++ rest)
    ≡ take (min (length bytes) space) bytes
    ++ fitting (space_after (min (length bytes) space) (length bytes) space) rest
unfolding fitting
fitting-kept [] space rest =
    let none : min 0 space ≡ 0 = omega arith in
    let all : space - 0 ≡ space = omega arith in
    rw none (ap (λ n. fitting n rest) (sym all))
fitting-kept (b ∷ bytes) zero rest =
    let none : min (length (b ∷ bytes)) 0 ≡ 0 = omega arith in
    rw none (sym (ap (λ n. fitting n rest) (space-cut 0 (length (b ∷ bytes)) 0 (omega arith)) ∙ fitting-none rest))
fitting-kept (b ∷ bytes) (suc space) rest =
    let no : (suc space == 0) ≡ false = some space in
    let less : suc space - 1 ≡ space = omega arith in
    let count = min (length bytes) space in
    let one : min (length (b ∷ bytes)) (suc space) ≡ suc count = omega arith in
    ap (λ t. cond t [] (b ∷ fitting (suc space - 1) (map kept bytes ++ rest))) no
    ∙ ap (λ n. b ∷ fitting n (map kept bytes ++ rest)) less ∙ ap (λ l. b ∷ l) (fitting-kept bytes space rest)
    ∙ sym (ap (λ n. take n (b ∷ bytes) ++ fitting (space_after n (length (b ∷ bytes)) (suc space)) rest) one
    ∙ ap (λ n. b ∷ (take count bytes ++ fitting n rest)) (after-one count (length bytes) space))
  where
    some : (n : ℕ) → (suc n == 0) ≡ false
    some n = grind (arith, nat_tests)

-- a declaration
pub fitting-whole : (text : List ℕ) (space : ℕ) (rest : List Part) → length text ≤ space
    → fitting space (declared text ∷ rest)
    ≡ take (length text) text ++ fitting (space_after (length text) (length text) space) rest
unfolding fitting
fitting-whole text space rest fits =
    let yes : nat_le (length text) space ≡ true = grind (arith, nat_tests) in
    let after : space_after (length text) (length text) space ≡ space - length text = grind (arith, nat_tests) in
    let all : take (length text) text ≡ text = take_all (length text) text (omega arith) in
    rw (after, all) (ap (λ b. cond b (text ++ fitting (space - length text) rest) (utf8_front (take space text))) yes)

pub front-within : (text : List ℕ) (space : ℕ)
    → (length (utf8_front (take space text)) ≤ space) × (length (utf8_front (take space text)) ≤ length text)
front-within text space =
    let a = length-take (utf8_valid_len (take space text)) (take space text) in
    let b = length-take space text in (omega (arith, a, b), omega (arith, a, b))

pub fitting-cut : (text : List ℕ) (space : ℕ) (rest : List Part) → space < length text
    → fitting space (declared text ∷ rest)
    ≡ take (length (utf8_front (take space text))) text
    ++ fitting (space_after (length (utf8_front (take space text))) (length text) space) rest
unfolding fitting
fitting-cut text space rest cut =
    let no : nat_le (length text) space ≡ false = grind (arith, nat_tests) in
    let front = utf8_front (take space text) in
    let within = (front-within text space).0 in
    let less : nat_lt (length front) (length text) ≡ true = ltb-of (length front) (length text) (omega arith) in
    let after : space_after (length front) (length text) space ≡ 0 =
    ap (λ b. cond b 0 (space - length front)) less in
    ap (λ b. cond b (text ++ fitting (space - length text) rest) front) no
    ∙ sym (ap (λ n. take (length front) text ++ fitting n rest) after
    ∙ ap (λ l. take (length front) text ++ l) (fitting-none rest) ∙ append-nil (take (length front) text)
    ∙ front-taken text space)
  where
    ltb-of : (a b : ℕ) → a < b → nat_lt a b ≡ true
    ltb-of a b h = grind (arith, nat_tests)

pub IfOk-map : {A E : Type 0} (r : Result A E) (P Q : A → Type 0) → ((a : A) → P a → Q a) → IfOk r P → IfOk r Q
IfOk-map (Ok a) P Q f h = f a h
IfOk-map (Err e) P Q f h = h

-- before the first part
pub SliceWriter-start : (given : List ℕ) (writer : SliceWriter) → writer.length ≡ 0 → writer.written ≡ 0
    → writer.space ≡ length given → IsSliceWriter given [] writer given
SliceWriter-start given writer none nothing all = record {
  sent = [];
  length_is = none;
  written_is = nothing;
  inside = omega arith;
  holds = refl;
  fits = λ others. ap (λ n. fitting n others) (sym all);
}

-- some bytes are written
pub SliceWriter-more : (given : List ℕ) (parts others : List Part) (writer after : SliceWriter) (out later bytes : List
    ℕ)
    (taken : ℕ) → IsSliceWriter given parts writer out → text_of_parts others ≡ bytes
    → ((rest : List Part) → fitting writer.space (others ++ rest)
    ≡ take taken bytes ++ fitting (space_after taken (length bytes) writer.space) rest)
    → taken ≤ writer.space → taken ≤ length bytes
    → after.length ≡ writer.length + length bytes → after.written ≡ writer.written + taken
    → after.space ≡ space_after taken (length bytes) writer.space
    → later ≡ take writer.written out ++ (take taken bytes ++ drop (writer.written + length (take taken bytes)) out)
    → IsSliceWriter given (parts ++ others) after later
SliceWriter-more given parts others writer after out later bytes taken so text fits bound within all more left put =
    let count : length (take taken bytes) ≡ taken = omega (arith, length-take taken bytes) in
    let front : take writer.written out ≡ so.sent =
    ap (take writer.written) so.holds ∙ ap (λ n. take n (so.sent ++ drop (length so.sent) given)) so.written_is
    ∙ take-append_seam so.sent (drop (length so.sent) given) in
    let past : drop (writer.written + length (take taken bytes)) out
    ≡ drop (length (so.sent ++ take taken bytes)) given =
    ap (λ n. drop (n + length (take taken bytes)) out) so.written_is
    ∙ sym (drop-drop (length (take taken bytes)) (length so.sent) out)
    ∙ ap (drop (length (take taken bytes))) (ap (drop (length so.sent)) so.holds
    ∙ drop-append_seam so.sent (drop (length so.sent) given))
    ∙ drop-drop (length (take taken bytes)) (length so.sent) given
    ∙ ap (λ n. drop n given) (sym (length-append so.sent (take taken bytes))) in
    record {
      sent = so.sent ++ take taken bytes;
      length_is = all ∙ ap (λ n. n + length bytes) so.length_is
          ∙ ap (λ l. length (text_of_parts parts) + length l) (sym text)
          ∙ sym (ap length (text-append parts others) ∙ length-append (text_of_parts parts) (text_of_parts others));
      written_is = more ∙ sym (length-append so.sent (take taken bytes) ∙ ap (λ n. length so.sent + n) count
          ∙ ap (λ n. n + taken) (sym so.written_is));
      inside = omega (arith, so.inside, space-less taken (length bytes) writer.space, more, left);
      holds = put ∙ ap (λ l. l ++ (take taken bytes ++ drop (writer.written + length (take taken bytes)) out)) front
          ∙ ap (λ l. so.sent ++ (take taken bytes ++ l)) past
          ∙ sym (append_assoc so.sent (take taken bytes) (drop (length (so.sent ++ take taken bytes)) given));
      fits = λ rest. ap (fitting (length given)) (append_assoc parts others rest) ∙ so.fits (others ++ rest)
          ∙ ap (λ l. so.sent ++ l) (fits rest ∙ ap (λ n. take taken bytes ++ fitting n rest) (sym left))
          ∙ sym (append_assoc so.sent (take taken bytes) (fitting after.space rest));
    }
  where
    space-less : (taken all space : ℕ) → space_after taken all space ≤ space - taken
    space-less taken all space = at (nat_lt taken all)
      where
        at : (b : Bool) → cond b 0 (space - taken) ≤ space - taken
        at true = omega arith
        at false = omega arith

-- all that fits of the parts
pub SliceWriter-end : (given : List ℕ) (parts : List Part) (writer : SliceWriter) (out : List ℕ)
    → IsSliceWriter given parts writer out → (writer.written ≡ length (fitting (length given) parts))
    × (out ≡ fitting (length given) parts ++ drop (length (fitting (length given) parts)) given)
unfolding fitting
SliceWriter-end given parts writer out so =
    let all : fitting (length given) parts ≡ so.sent =
    ap (fitting (length given)) (sym (append-nil parts)) ∙ so.fits [] ∙ append-nil so.sent in
    (so.written_is ∙ ap length (sym all), so.holds ∙ ap (λ l. l ++ drop (length l) given) (sym all))

-- the slice keeps its length
pub SliceWriter-length : (given : List ℕ) (parts : List Part) (writer : SliceWriter) (out : List ℕ)
    → IsSliceWriter given parts writer out → length out ≡ length given
SliceWriter-length given parts writer out so =
    omega (
      arith,
      ap length so.holds,
      length-append so.sent (drop (length so.sent) given),
      length-drop (length so.sent) given,
      so.inside,
      so.written_is,
    )
