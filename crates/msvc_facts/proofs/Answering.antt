-- The text of lines as a function that a proof computes, and that it is the one of the definition.
use Rattle.std.proofs.Common.{List, [], ◌++◌, ◌∷◌, ◌≡◌, ◌∙◌, ℕ, Bool, true, false, Option, Some, None, inl, inr, refl}
use Rattle.std.proofs.Common.{subst, sym, true≢false}
use Rattle.std.specs.Str.{is_utf8}
use Rattle.std.proofs.lemmas.Str.{IsUtf8-from_is_utf8, is_utf8-from_IsUtf8}
use Rattle.msvc_grammar.specs.Derived.{IsOnly}
use Rattle.msvc_grammar.proofs.Laws.{derived-only}
use Rattle.msvc_print.specs.Declaration.{declaration}
use Rattle.msvc_demangler.specs.Answers.{IsAnswer, IsText, answered, left_out, line_flags, nothing}
use Rattle.msvc_demangler.specs.Lines.{lines_of}
use Rattle.msvc_lines.proofs.Texts.{answers-joined}
use Rattle.msvc_facts.proofs.Symbols.{Reading, read-derived, read-rejected, read_of}
use Rattle.msvc_facts.specs.Texts.{IsAnswered}

abbrev if_read : List ℕ → Option Reading → List ℕ
if_read line None = line
if_read line (Some x) = declaration x.0 line_flags

if_read-is : (line : List ℕ) (found : Option Reading) → read_of line ≡ found → IsAnswer line (if_read line found)
if_read-is line None e = inr (read-rejected line e, refl)
if_read-is line (Some x) e =
    let derived = read-derived line x e in
    let only : IsOnly line x.0 x.1 x.2.notes = λ other remaining others d.
    derived-only line other x.0 remaining x.1 others x.2.notes d derived in
    inl (x.0, (x.1, x.2.notes, derived, only), refl)

abbrev if_utf8 : Bool → (line text : List ℕ) → List ℕ
if_utf8 true line text = (if_read line (read_of line) ++ 10 ∷ []) ++ text
if_utf8 false line text = text

if_utf8-is : (line : List ℕ) (lines : List (List ℕ)) (text : List ℕ) → IsText lines text
    → (utf8 : Bool) → is_utf8 line ≡ utf8 → IsText (line ∷ lines) (if_utf8 utf8 line text)
if_utf8-is line lines text is true e =
    answered (IsUtf8-from_is_utf8 line e) (if_read line (read_of line), if_read-is line (read_of line) refl, refl) is
if_utf8-is line lines text is false e =
    left_out (λ utf8. true≢false (sym (is_utf8-from_IsUtf8 line utf8) ∙ e)) is

unfoldable pub text_of : List (List ℕ) → List ℕ
text_of [] = []
text_of (line ∷ lines) = if_utf8 (is_utf8 line) line (text_of lines)

text_of-is : (lines : List (List ℕ)) → IsText lines (text_of lines)
unfolding text_of
text_of-is [] = nothing
text_of-is (line ∷ lines) = if_utf8-is line lines (text_of lines) (text_of-is lines) (is_utf8 line) refl

pub is_answered : {bytes text : List ℕ} → text_of (lines_of bytes) ≡ text → IsAnswered bytes text
is_answered {bytes} {text} e =
    let is : IsText (lines_of bytes) text = subst (IsText (lines_of bytes)) e (text_of-is (lines_of bytes)) in
    record { answered = answers-joined.whole bytes text is }
