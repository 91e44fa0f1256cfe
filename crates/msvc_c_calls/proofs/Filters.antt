-- The parts that the filter writes, and a NUL after them.
use Rattle.std.proofs.Common.{◌≡◌, ◌≤◌, ◌<◌, ◌-◌, ◌+◌, ◌∙◌, ℕ, List, [], ◌∷◌, ◌++◌, Bool, true, false, suc, min}
use Rattle.std.proofs.Common.{Err, IfErr, IfOk, Ok, Result}
use Rattle.std.proofs.Common.{ap, append_assoc, arith, drop, length, refl, set, subst, sym, take}
use Rattle.std.proofs.lemmas.List.{drop-append-le, length-append, length-take, length-take-le, take-append-drop}
use Rattle.std.proofs.lemmas.Bool.{eqb-true, leb-true}
use Rattle.std.proofs.lemmas.Str.{utf8_valid_len_le}
use Rattle.std.specs.Prelude.{◌==◌, if◌then◌else◌, nat_le}
use Rattle.std.specs.Str.Lossy.{utf8_valid_len}
use Rattle.msvc_demangler.specs.Filtered.{AreOnlyPartsIn, Part, declared, fitting, kept, text_of_parts}
use Rattle.msvc_demangler.specs.GrammarNames.{Grammar}
use Rattle.msvc_demangler.specs.Grammars.{under}
use Rattle.msvc_demangler.specs.SymbolBounds.{utf8_front}
use Rattle.msvc_c_calls.proofs.Cuts.{one_more, set-copied}
use Rattle.msvc_c_calls.specs.Buffers.{ArePartsWritten, IsWritten}
use Rattle.msvc_c_calls.specs.Calls.{IsFilteredInto, filtered, not_filtered, out_of_memory_text}

take-room : (n : ℕ) (xs : List ℕ) → length (take n xs) ≤ n
take-room n xs = let e : length (take n xs) ≡ min n (length xs) = length-take n xs in omega (arith, e)

-- a declaration that does not fit is cut
cut-room : (room : ℕ) (text : List ℕ) → length (utf8_front (take room text)) ≤ room
cut-room room text =
    let e : length (take (utf8_valid_len (take room text)) (take room text)) ≤ utf8_valid_len (take room text) =
    take-room (utf8_valid_len (take room text)) (take room text) in
    let f = utf8_valid_len_le (take room text) in
    let g = take-room room text in
    omega (arith, e, f, g)

kept-room : (room b : ℕ) (rest : List ℕ) (full : Bool) → (room == 0) ≡ full → length rest ≤ room - 1
    → length (if full then [] else b ∷ rest) ≤ room
kept-room room b rest true is fits = omega (arith)
kept-room room b rest false is fits = let more = one_more room is in omega (arith, more, fits)

declared-room : (room : ℕ) (text rest : List ℕ) (whole : Bool) → nat_le (length text) room ≡ whole
    → length rest ≤ room - length text
    → length (if whole then text ++ rest else utf8_front (take room text)) ≤ room
declared-room room text rest true is fits =
    let both = length-append text rest in
    let first : length text ≤ room = leb-true (length text) room is in
    omega (arith, both, first, fits)
declared-room room text rest false is fits = cut-room room text

-- what fits into so many bytes is no longer
pub fitting-le : (room : ℕ) (parts : List Part) → length (fitting room parts) ≤ room
unfolding fitting
fitting-le room [] = omega (arith)
fitting-le room (kept b ∷ parts) =
    kept-room room b (fitting (room - 1) parts) (room == 0) refl (fitting-le (room - 1) parts)
fitting-le room (declared text ∷ parts) =
    declared-room room text (fitting (room - length text) parts) (nat_le (length text) room) refl
    (fitting-le (room - length text) parts)

-- a front of a buffer that begins with some bytes, and a NUL after these
nul-after : (part old : List ℕ) (room : ℕ) → length part ≤ room → room < length old
    → set ((part ++ drop (length part) (take room old)) ++ drop room old) (length part) 0
    ≡ part ++ 0 ∷ drop (suc (length part)) old
nul-after part old room fits inside =
    let n = length part in
    let before : length (take room old) ≡ room = length-take-le room old (omega (arith, inside)) in
    let seam = drop-append-le n (take room old) (drop room old) (omega (arith, before, fits)) in
    let whole : (part ++ drop n (take room old)) ++ drop room old ≡ part ++ drop n old =
    append_assoc part (drop n (take room old)) (drop room old)
    ∙ ap (λ xs. part ++ xs) (sym seam ∙ ap (drop n) (take-append-drop room old)) in
    ap (λ xs. set xs n 0) whole ∙ set-copied part old n refl (omega (arith, fits, inside))

-- what a buffer holds after parts were written into all of it but its last byte, and a NUL after them
pub parts-written : (parts : List Part) (old front : List ℕ) (room written : ℕ) → length old ≡ suc room
    → written ≡ length (fitting room parts)
    → front ≡ fitting room parts ++ drop (length (fitting room parts)) (take room old)
    → ArePartsWritten parts old (set (front ++ drop room old) written 0)
parts-written parts [] front room written some count is = absurd (omega (arith, some))
parts-written parts (first ∷ old) front room written some count is =
    let part = fitting room parts in
    let buffer = first ∷ old in
    let new = set (front ++ drop room buffer) written 0 in
    let at_room : new ≡ part ++ 0 ∷ drop (length part) old =
    ap (λ w. set (front ++ drop room buffer) w 0) count
    ∙ ap (λ f. set (f ++ drop room buffer) (length part) 0) is
    ∙ nul-after part buffer room (fitting-le room parts) (omega (arith, some)) in
    let Of : ℕ → Type 0 = λ r. new ≡ fitting r parts ++ 0 ∷ drop (length (fitting r parts)) old in
    subst Of (omega (arith, some)) at_room

-- a write to a front of a buffer keeps the buffer's length
pub kept-length : (front old : List ℕ) (room : ℕ) → length front ≡ length (take room old)
    → length (front ++ drop room old) ≡ length old
kept-length front old room same =
    length-append front (drop room old)
    ∙ ap (λ n. n + length (drop room old)) same
    ∙ sym (length-append (take room old) (drop room old))
    ∙ ap length (take-append-drop room old)

-- a call that reads in a grammar, and prints under flags, as a caller chose
pub filtered-into : (g h : Grammar) (flags bits : ℕ) (text old new : List ℕ) (parts : List Part) (count : ℕ) → h ≡ g
    → bits ≡ flags → AreOnlyPartsIn (under h bits) text parts → count ≡ length (text_of_parts parts)
    → ArePartsWritten parts old new → IsFilteredInto g flags text old new 0 count
filtered-into g h flags bits text old new parts count chosen same are is written =
    let Read : Grammar → Type 0 = λ k. AreOnlyPartsIn (under k bits) text parts in
    let Are : ℕ → Type 0 = λ n. AreOnlyPartsIn (under g n) text parts in
    let Into : ℕ → Type 0 = λ n. IsFilteredInto g flags text old new 0 n in
    subst Into (sym is) (filtered (subst Are same (subst Read chosen are)) written)

-- the same where parts were written into all of a buffer but its last byte, and a NUL after them
pub into-buffer : (parts : List Part) (old front : List ℕ) (room written : ℕ) → room ≡ length old - 1
    → length front ≡ length (take room old)
    → (length (front ++ drop room old) == 0) ≡ false
    → written ≡ length (fitting (length (take room old)) parts)
    → front ≡ fitting (length (take room old)) parts
    ++ drop (length (fitting (length (take room old)) parts)) (take room old)
    → ArePartsWritten parts old (set (front ++ drop room old) written 0)
into-buffer parts old front room written last same some count is =
    let not_empty : (length old == 0) ≡ false = ap (λ n. n == 0) (sym (kept-length front old room same)) ∙ some in
    let more = one_more (length old) not_empty in
    let at : length (take room old) ≡ room = length-take-le room old (omega (arith, last, more)) in
    let front_is : front ≡ fitting room parts ++ drop (length (fitting room parts)) (take room old) =
    is ∙ ap (λ r. fitting r parts ++ drop (length (fitting r parts)) (take room old)) at in
    parts-written parts old front room written (omega (arith, last, more))
    (count ∙ ap (λ r. length (fitting r parts)) at) front_is

is_empty : (bytes : List ℕ) → length bytes ≡ 0 → bytes ≡ []
is_empty [] e = refl
is_empty (b ∷ bytes) e = absurd (omega (arith, e))

not_zero : (n : ℕ) (is : Bool) → (suc n == 0) ≡ is → is ≡ false
not_zero n true e = let no : suc n ≡ 0 = eqb-true (suc n) 0 e in absurd (omega (arith, no))
not_zero n false e = refl

-- what the filter wrote into all of a buffer but its last byte, and a NUL after that
pub ended : (g h : Grammar) (flags bits : ℕ) (text old front : List ℕ) (parts : List Part) (room written count : ℕ)
    → h ≡ g → bits ≡ flags
    → AreOnlyPartsIn (under h bits) text parts → count ≡ length (text_of_parts parts) → room ≡ length old - 1
    → length front ≡ length (take room old)
    → written ≡ length (fitting (length (take room old)) parts)
    → front ≡ fitting (length (take room old)) parts
    ++ drop (length (fitting (length (take room old)) parts)) (take room old)
    → IsFilteredInto g flags text old (set (front ++ drop room old) written 0) 0 count
ended g h flags bits text [] front parts room written count chosen same are is last held written_is front_is =
    let front_none : front ≡ [] = is_empty front (held ∙ ap (λ r. length (take {A = ℕ} r [])) last) in
    let none : front ++ drop room [] ≡ [] =
    ap (λ xs. xs ++ drop room []) front_none ∙ ap (λ r. drop {A = ℕ} r []) last in
    filtered-into g h flags bits text [] _ parts count chosen same are is (ap (λ xs. set xs written 0) none)
ended g h flags bits text (first ∷ old) front parts room written count chosen same are is last held written_is
    front_is =
    let some : (length (front ++ drop room (first ∷ old)) == 0) ≡ false =
    ap (λ n. n == 0) (kept-length front (first ∷ old) room held)
    ∙ not_zero (length old) (suc (length old) == 0) refl in
    filtered-into g h flags bits text (first ∷ old) _ parts count chosen same are is
    (into-buffer parts (first ∷ old) front room written last held some written_is front_is)

moved : (g : Grammar) (flags : ℕ) (text old new made : List ℕ) (status is total count : ℕ) → status ≡ is
    → total ≡ count → new ≡ made
    → IsFilteredInto g flags text old made is count → IsFilteredInto g flags text old new status total
moved g flags text old new made status is total count s t n into =
    let Status : ℕ → Type 0 = λ k. IsFilteredInto g flags text old new k total in
    let Total : ℕ → Type 0 = λ k. IsFilteredInto g flags text old new is k in
    let New : List ℕ → Type 0 = λ xs. IsFilteredInto g flags text old xs is count in
    subst Status (sym s) (subst Total (sym t) (subst New (sym n) into))

-- what it returns and writes if memory runs out
pub filter_lost : (g : Grammar) (flags : ℕ) (text old others new : List ℕ) (status total : ℕ)
    → length others ≡ length old → status ≡ 3 → total ≡ length out_of_memory_text
    → IsWritten out_of_memory_text others new → IsFilteredInto g flags text old new status total
filter_lost g flags text old others new status total held s t written =
    moved g flags text old new new status 3 total _ s t refl (not_filtered others held written)

-- what a call of the filter from C returns and writes, from what the library did and how that was ended
pub filtered_call : {A E : Type 0} (count written : A → ℕ) (r : Result A E) (g h : Grammar) (flags bits : ℕ)
    (text old front new : List ℕ) (room status total : ℕ) → h ≡ g → bits ≡ flags → room ≡ length old - 1
    → length front ≡ length (take room old)
    → IfOk r (λ f. (parts : List Part) × AreOnlyPartsIn (under h bits) text parts
    × (count f ≡ length (text_of_parts parts))
    × (written f ≡ length (fitting (length (take room old)) parts))
    × (front ≡ fitting (length (take room old)) parts
    ++ drop (length (fitting (length (take room old)) parts)) (take room old)))
    → IfOk r (λ f. (status ≡ 0) × (total ≡ count f) × (new ≡ set (front ++ drop room old) (written f) 0))
    → IfErr r (λ _. (status ≡ 3) × (total ≡ length out_of_memory_text)
    × IsWritten out_of_memory_text (front ++ drop room old) new)
    → IsFilteredInto g flags text old new status total
filtered_call count written (Ok a) g h flags bits text old front new room status total chosen same last held f after
    failed =
    moved g flags text old new _ status 0 total (count a) after.0 after.1 after.2
    (ended g h flags bits text old front f.0 room (written a) (count a) chosen same f.1 f.2 last held f.3 f.4)
filtered_call count written (Err e) g h flags bits text old front new room status total chosen same last held f after
    failed =
    filter_lost g flags text old (front ++ drop room old) new status total (kept-length front old room held) failed.0
    failed.1 failed.2
