-- Lines, and the text of lines that follow one another.
use Rattle.std.proofs.Common.{◌≡◌, ◌≢◌, ◌++◌, ◌∷◌, [], ℕ, List, ap, sym, subst, refl, ◌∙◌, append_assoc, append-nil}
use Rattle.std.proofs.Common.{Bool, None, inl, inr}
use Rattle.std.specs.Str.{IsUtf8}
use Rattle.msvc_nodes.specs.Trees.{SymbolTree}
use Rattle.msvc_rules.proofs.Rejections.{none-within-limit}
use Rattle.msvc_grammar.specs.Grammar.{crate_grammar}
use Rattle.msvc_grammar.specs.Parsed.{IsParsed}
use Rattle.msvc_cursor.specs.Failures.{Fails}
use Rattle.msvc_cursor.specs.Messages.{limit_of_message}
use Rattle.msvc_cursor.specs.declared.failure.Failure.{Failure}
use Rattle.msvc_cursor.specs.declared.failure.Failure.TheVariants as failure
use Rattle.msvc_print.specs.Declaration.{declaration}
use Rattle.msvc_lines.specs.Lines.{line_of, lines_of}
use Rattle.msvc_lines.specs.Answers.{IsAnswer, IsFilterText, IsLineText, IsText, IsTextOf, answered, left_out}
use Rattle.msvc_lines.specs.Answers.{line_flags, nothing}
use Rattle.msvc_lines.specs.Reports.{AreReports, IsFailureLine, IsReport, tree_line}
use Rattle.msvc_streams.specs.Runs.{IsLines, IsOfOneLine}
use Rattle.msvc_lines.proofs.LineTexts.{AreJoined}
use Rattle.msvc_lines.proofs.Pieces.{lines_of-append, lines_of-nil}

-- the answer to a symbol is its declaration
pub answer_declared : (symbol : List ℕ) (tree : SymbolTree) → IsParsed symbol tree
    → IsAnswer symbol (declaration tree line_flags)
answer_declared symbol tree is = inl (tree, (is.rest, is.notes, is.derived, is.only), refl)

-- and the symbol itself, if it is rejected
pub answer_rejected : (symbol : List ℕ) (reason : Failure) → Fails None symbol reason
    → reason ≢ failure.Memory → IsAnswer symbol symbol
answer_rejected symbol failure.Memory fails other = absurd (other refl)
answer_rejected symbol (failure.Rejected message left) fails other =
    inr (none-within-limit crate_grammar (limit_of_message message) None symbol fails.none, refl)
answer_rejected symbol (failure.TooLong read) fails other = absurd fails.none

-- the report on a symbol is the line of its tree
pub report_declared : (verbose : Bool) (symbol : List ℕ) (tree : SymbolTree) → IsParsed symbol tree
    → IsReport verbose symbol (tree_line verbose tree)
report_declared verbose symbol tree is = inl (tree, (is.rest, is.notes, is.derived, is.only), refl)

-- and the line of the error, if it is rejected
pub report_rejected : (verbose : Bool) (symbol : List ℕ) (reason : Failure) (line : List ℕ) → Fails None symbol reason
    → IsFailureLine reason symbol line → IsReport verbose symbol line
report_rejected verbose symbol reason line fails h = inr (h.0, h.1, fails.rejected h.0 h.2, h.3)

-- the text of one line
pub IsText-one : (P : List ℕ → List ℕ → Type 0) (line text : List ℕ) → IsUtf8 line → P line text
    → IsTextOf P (line ∷ []) text
IsText-one P line text utf8 h = subst (IsTextOf P (line ∷ [])) (append-nil text) (answered utf8 h nothing)

-- the text of lines, and then of others
pub IsText-append : {P : List ℕ → List ℕ → Type 0} {lines others : List (List ℕ)} {text more : List ℕ}
    → IsTextOf P lines text → IsTextOf P others more → IsTextOf P (lines ++ others) (text ++ more)
IsText-append nothing h = h
IsText-append (left_out broken t) h = left_out broken (IsText-append t h)
IsText-append {P = P} {others = others} {more = more}
    (answered {line = line} {lines = lines} {first = first} {text = text} utf8 a t) h =
    subst (IsTextOf P (line ∷ (lines ++ others))) (sym (append_assoc first text more))
    (answered utf8 a (IsText-append t h))

-- a symbol has one answer, and a line one text
IsAnswer-only : (symbol first second : List ℕ) → IsAnswer symbol first → IsAnswer symbol second → second ≡ first
IsAnswer-only symbol first second (inl a) (inl b) =
    b.2 ∙ ap (λ t. declaration t line_flags) (a.1.3 b.0 b.1.0 b.1.1 b.1.2).0 ∙ sym a.2
IsAnswer-only symbol first second (inl a) (inr b) = absurd (b.0 a.0 a.1.0 a.1.1 a.1.2)
IsAnswer-only symbol first second (inr a) (inl b) = absurd (a.0 b.0 b.1.0 b.1.1 b.1.2)
IsAnswer-only symbol first second (inr a) (inr b) = b.1 ∙ sym a.1

IsLineText-only : (symbol first second : List ℕ) → IsLineText symbol first → IsLineText symbol second → second ≡ first
IsLineText-only symbol first second a b =
    b.2 ∙ ap (λ l. l ++ 10 ∷ []) (IsAnswer-only symbol a.0 b.0 a.1 b.1) ∙ sym a.2

IsText-only : (lines : List (List ℕ)) (first second : List ℕ) → IsText lines first → IsText lines second
    → second ≡ first
IsText-only _ _ _ nothing nothing = refl
IsText-only _ _ _ (left_out broken t) (left_out again u) = IsText-only _ _ _ t u
IsText-only _ _ _ (left_out broken t) (answered utf8 a u) = absurd (broken utf8)
IsText-only _ _ _ (answered utf8 a t) (left_out broken u) = absurd (broken utf8)
IsText-only _ _ _ (answered {line = line} {first = first} {text = text} utf8 a t)
    (answered {first = other} {text = more} again b u) =
    ap (λ l. l ++ more) (IsLineText-only line first other a b) ∙ ap (λ l. first ++ l) (IsText-only _ text more t u)

-- as pieces of bytes have them
abbrev pub AreAnswered : List ℕ → List ℕ → Type 0
AreAnswered bytes text = IsText (lines_of bytes) text

abbrev pub IsAnswered : List ℕ → List ℕ → Type 0
IsAnswered piece text = IsText (line_of piece ∷ []) text

lines-joined : (P : List ℕ → List ℕ → Type 0) (finished part text more : List ℕ) → IsLines finished → part ≢ []
    → IsOfOneLine part → IsTextOf P (lines_of finished) text → IsTextOf P (line_of part ∷ []) more
    → IsTextOf P (lines_of (finished ++ part)) (text ++ more)
lines-joined P finished part text more lines some one is h =
    rw (lines_of-append finished part lines some one) (IsText-append is h)

pub answers-joined : AreJoined AreAnswered IsAnswered IsFilterText
answers-joined = record {
  none = rw lines_of-nil nothing;
  line = lines-joined IsLineText;
  whole = λ bytes text is. (is, λ other h. IsText-only (lines_of bytes) text other is h);
}

-- the same of the reports on lines
abbrev pub IsReported : Bool → List ℕ → List ℕ → Type 0
IsReported verbose piece text = IsTextOf (IsReport verbose) (line_of piece ∷ []) text

pub reports-joined : (verbose : Bool) → AreJoined (AreReports verbose) (IsReported verbose) (AreReports verbose)
reports-joined verbose = record {
  none = rw lines_of-nil nothing;
  line = lines-joined (IsReport verbose);
  whole = λ bytes text is. is;
}
