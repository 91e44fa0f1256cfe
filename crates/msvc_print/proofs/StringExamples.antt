-- Texts of strings: each width, cut and whole ones, and the escapes.
use Rattle.std.proofs.Common.{◌≡◌, ℕ, List, [], ◌∷◌, ◌++◌, Bool, true, false, codes, refl}
use Rattle.std.specs.Prelude.{⊤}
use Rattle.msvc_print.specs.Pieces.{resolve, settle_all}
use Rattle.msvc_print.specs.Strings.{character, character_at, escape, hex, literal, narrow_width}

-- the text of a literal
abbrev text_of : Bool → ℕ → List ℕ → List ℕ
text_of is_wide len bytes = resolve (literal is_wide len bytes)

unfoldable string_printing : ⊤
unfolding character character_at escape hex literal narrow_width settle_all
string_printing = tt

whole : text_of false 3 (codes "hi" ++ 0 ∷ []) ≡ codes "\"hi\""
unfolding string_printing
whole = refl

without_zero : text_of false 2 (codes "hi") ≡ codes "\"h\""
unfolding string_printing
without_zero = refl

no_characters : text_of true 0 (codes "a") ≡ codes "L\"\""
unfolding string_printing
no_characters = refl

cut_wide : text_of true 68 (0 ∷ 48 ∷ 0 ∷ 49 ∷ 0 ∷ 50 ∷ []) ≡ codes "L\"012\"..."
unfolding string_printing
cut_wide = refl

cut_after_one : text_of true 4 (0 ∷ 65 ∷ []) ≡ codes "L\"A\"..."
unfolding string_printing
cut_after_one = refl

cut : text_of false 37 (codes "012345678901234567890123456789AB") ≡ codes "\"012345678901234567890123456789AB\"..."
unfolding string_printing
cut = refl

tab : text_of true 4 (0 ∷ 9 ∷ 0 ∷ 0 ∷ []) ≡ codes "L\"\\t\""
unfolding string_printing
tab = refl

wide : text_of true 6 (0 ∷ 104 ∷ 0 ∷ 105 ∷ 0 ∷ 0 ∷ []) ≡ codes "L\"hi\""
unfolding string_printing
wide = refl

two_bytes : text_of false 6 (104 ∷ 0 ∷ 105 ∷ 0 ∷ 0 ∷ 0 ∷ []) ≡ codes "u\"hi\""
unfolding string_printing
two_bytes = refl

four_bytes : text_of false 12 (97 ∷ 0 ∷ 0 ∷ 0 ∷ 98 ∷ 0 ∷ 0 ∷ 0 ∷ 0 ∷ 0 ∷ 0 ∷ 0 ∷ []) ≡ codes "U\"ab\""
unfolding string_printing
four_bytes = refl

escapes : text_of false 7 (225 ∷ 193 ∷ 47 ∷ 39 ∷ 10 ∷ 34 ∷ []) ≡ codes "\"\\xE1\\xC1/\\'\\n\\\"\"..."
unfolding string_printing
escapes = refl

numbered : text_of true 6 (1 ∷ 2 ∷ 0 ∷ 127 ∷ 0 ∷ 0 ∷ []) ≡ codes "L\"\\x0102\\x7F\""
unfolding string_printing
numbered = refl
