-- Each fact about buffers is computed: of two beginnings of a text that are the longest one, neither is longer.
use Rattle.std.proofs.Common.{ℕ, List, [], ◌∷◌, ◌++◌, ◌≡◌, ◌≤◌, ◌<◌, ◌∙◌, Bool, true, false, ap, arith, codes, drop}
use Rattle.std.proofs.Common.{length, nat_le, refl, subst, suc, sym, take, true≢false}
use Rattle.std.proofs.lemmas.Bool.{leb-false, leb-true}
use Rattle.std.proofs.lemmas.Str.{IsUtf8-from_is_utf8, is_utf8-from_IsUtf8}
use Rattle.std.specs.Str.{IsUtf8, is_utf8}
use Rattle.msvc_c_calls.specs.Buffers.{IsLongest}
use Rattle.msvc_demangler.specs.Filtered.{fitting}
use Rattle.msvc_facts.proofs.OnLiterals.{filtering}
use Rattle.msvc_facts.specs.Buffers.{AreBuffers, IsLeft, two_letters}

longest-only : (text : List ℕ) (room a b : ℕ) → IsLongest text room a → IsLongest text room b → a ≡ b
longest-only text room a b x y = on (nat_le a b) (nat_le b a) refl refl
  where
    on : (s t : Bool) → nat_le a b ≡ s → nat_le b a ≡ t → a ≡ b
    on true true e f = omega (arith, leb-true a b e, leb-true b a f)
    on false t e f = absurd (y.3 a (leb-false a b e) x.0 x.1 x.2)
    on true false e f = absurd (x.3 b (leb-false b a f) y.0 y.1 y.2)

left_of : (text : List ℕ) (first : ℕ) (old : List ℕ) (cut : ℕ) → IsLongest text (length old) cut
    → IsLeft text (first ∷ old) (take cut text ++ 0 ∷ drop cut old)
left_of text first old cut longest = record {
  written = (cut, longest, refl);
  only = λ others is.
      is.2 ∙ ap (λ n. take n text ++ 0 ∷ drop n old) (longest-only text (length old) is.0 cut is.1 longest);
}

-- the beginning of so many bytes is the longest one if the next is none, or there is none
abbrev IsLast : (text : List ℕ) (room cut : ℕ) → Type 0
IsLast text room cut = (more : ℕ) → cut < more → more ≤ length text → more ≤ room → ¬ (IsUtf8 (take more text))

abbrev is_longest : (text : List ℕ) (room cut : ℕ) → nat_le cut (length text) ≡ true → nat_le cut room ≡ true
    → is_utf8 (take cut text) ≡ true → IsLast text room cut → IsLongest text room cut
is_longest text room cut inside fits utf8 last =
    (leb-true cut (length text) inside, leb-true cut room fits, IsUtf8-from_is_utf8 (take cut text) utf8, last)

-- all of the text
all_of : (text : List ℕ) (room cut : ℕ) → nat_le (length text) cut ≡ true → IsLast text room cut
all_of text room cut end = λ more past inside has_room utf8. omega (arith, past, inside, leb-true _ _ end)

-- all of the room
room_of : (text : List ℕ) (room cut : ℕ) → nat_le room cut ≡ true → IsLast text room cut
room_of text room cut end = λ more past inside has_room utf8. omega (arith, past, has_room, leb-true _ _ end)

-- all of the room but one byte
but_one : (text : List ℕ) (room cut : ℕ) → nat_le room (suc cut) ≡ true → is_utf8 (take (suc cut) text) ≡ false
    → IsLast text room cut
but_one text room cut end none = λ more past inside has_room utf8.
    let next : more ≡ suc cut = omega (arith, past, has_room, leb-true _ _ end) in
    let one : IsUtf8 (take (suc cut) text) = subst (λ n. IsUtf8 (take n text)) next utf8 in
    true≢false (sym (is_utf8-from_IsUtf8 (take (suc cut) text) one) ∙ none)

pub buffers : AreBuffers
unfolding filtering fitting
buffers = record {
  no_bytes = record { written = refl; only = λ others is. is };
  one_byte = left_of (codes "ab") 46 [] 0 (is_longest (codes "ab") 0 0 refl refl refl (room_of (codes "ab") 0 0 refl));
  larger = left_of (codes "ab") 46 (codes "....") 2
      (is_longest (codes "ab") 4 2 refl refl refl (all_of (codes "ab") 4 2 refl));
  exact = left_of (codes "ab") 46 (codes "..") 2
      (is_longest (codes "ab") 2 2 refl refl refl (all_of (codes "ab") 2 2 refl));
  smaller = left_of (codes "abc") 46 (codes "..") 2
      (is_longest (codes "abc") 2 2 refl refl refl (room_of (codes "abc") 2 2 refl));
  whole_characters = left_of two_letters 46 (codes "..") 1
      (is_longest two_letters 2 1 refl refl refl (but_one two_letters 2 1 refl refl));
  parts = refl;
  parts_cut = refl;
  no_parts = refl;
}
