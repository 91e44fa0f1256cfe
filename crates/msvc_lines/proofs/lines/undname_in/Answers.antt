use Rattle.std.proofs.Common.{rules, ◌≡◌, ◌∙◌, ◌++◌, ◌∷◌, [], ℕ, Err, List, ap, refl, subst, sym}
use Rattle.std.proofs.lemmas.Result.{err_from_is_err_and}
use Rattle.std.proofs.KnownBytes.{Appends-nil}
use Rattle.msvc_print.specs.Declaration.{declaration}
use Rattle.msvc_streams.proofs.CallSequence.{Writes-map, Writes-whole, WritesPart-nothing}
use Rattle.msvc_lines.proofs.Texts.{answer_declared, answer_rejected, report_declared, report_rejected}
use Rattle.msvc_lines.specs.Answers.{IsLineText, line_flags}
use Rattle.std.specs.Prelude.{string_bytes}
use Rattle.msvc_lines.specs.Reports.{IsFailureLine, IsReport, tree_line}
use Rattle.msvc_lines.proofs.lines.undname_in.Goals as goal

pub returns-in_err-write_all-in-Ok-clause-text : goal.returns-in_err-write_all-in-Ok-clause-text
returns-in_err-write_all-in-Ok-clause-text g c =
    let p = err_from_is_err_and c.from_residual.result c.from_residual.ensures.1 in
    let e = c.in_err-write_all-in-Ok.ensures.sets_failed in
    let is = c.in-Ok.ensures.declared in
    let text = declaration is.0 line_flags in
    rw (p.1, p.2) (
      [],
      Appends-nil _,
      WritesPart-nothing _ _ _ _ (text ++ 10 ∷ []) (text, answer_declared _ is.0 is.1, refl) e,
    )

pub returns-in_err-report-in-Err-clause-text : goal.returns-in_err-report-in-Err-clause-text
returns-in_err-report-in-Err-clause-text g c =
    let at = c.from_residual-in_err-report-in-Err in
    let p = err_from_is_err_and at.result at.ensures.1 in
    let e = c.in_err-report-in-Err.ensures.sets_failed in
    rw (p.1, p.2) (
      [],
      Appends-nil _,
      WritesPart-nothing _ _ _ _ (c.args.symbol.now ++ 10 ∷ [])
          (c.args.symbol.now, answer_rejected _ _ c.in-Err.ensures.fails (search rules), refl) e,
    )

pub returns-clause-text : goal.returns-clause-text
returns-clause-text g c =
    let e = c.write_line-in-Err.ensures.text in
    let answer = answer_rejected _ _ c.in-Err.ensures.fails (search rules) in
    let line : (text : List ℕ) → text ≡ c.as_bytes-in-Err.result.now ++ 10 ∷ [] → IsLineText c.args.symbol.now text =
    λ text is. (c.args.symbol.now, answer, is ∙ ap (λ l. l ++ 10 ∷ []) c.as_bytes-in-Err.ensures.value) in
    (e.0, e.1, Writes-map _ _ _ line _ e.2)

-- the tree is the report on a symbol that was declared
pub returns-in_err-write_all-in-Ok-clause-errors : goal.returns-in_err-write_all-in-Ok-clause-errors
returns-in_err-write_all-in-Ok-clause-errors g c =
    let p = err_from_is_err_and c.from_residual.result c.from_residual.ensures.1 in
    let e = c.in_err-write_all-in-Ok.ensures.text in
    let is = c.in-Ok.ensures.declared in
    let none : string_bytes c.new-tree.result ≡ [] = search rules in
    let report : (text : List ℕ) → text ≡ c.as_bytes.result.now
    → IsReport c.args.verbose c.args.symbol.now text =
    λ text same. subst (IsReport c.args.verbose c.args.symbol.now)
    (sym (same ∙ c.as_bytes.ensures.value ∙ is.3 ∙ ap (λ l. l ++ tree_line c.args.verbose is.0) none))
    (report_declared c.args.verbose _ is.0 is.1) in
    rw (p.1, p.2) (e.0, e.1, Writes-map {A = ℕ} (Err _) _ _ report _ e.2)

pub returns-in-Ok-clause-errors : goal.returns-in-Ok-clause-errors
returns-in-Ok-clause-errors g c =
    let e = c.in_ok-write_all-in-Ok.ensures.text in
    let none : string_bytes c.new-tree.result ≡ [] = search rules in
    let is = c.in-Ok.ensures.declared in (
      e.0,
      e.1,
      Writes-whole c.write_line.result (IsReport c.args.verbose c.args.symbol.now) e.0 c.write_line.ensures.fault
          (subst (IsReport c.args.verbose c.args.symbol.now)
          (sym (e.2 ∙ c.as_bytes.ensures.value ∙ is.3 ∙ ap (λ l. l ++ tree_line c.args.verbose is.0) none))
          (report_declared c.args.verbose _ is.0 is.1)),
    )

-- and the line of the error that on one that was rejected
pub returns-in_err-report-in-Err-clause-errors : goal.returns-in_err-report-in-Err-clause-errors
returns-in_err-report-in-Err-clause-errors g c =
    let at = c.from_residual-in_err-report-in-Err in
    let p = err_from_is_err_and at.result at.ensures.1 in
    let e = c.in_err-report-in-Err.ensures.errors in
    let report = λ (text : List ℕ) (h : IsFailureLine c.in-Err.failure c.args.symbol.now text).
    report_rejected c.args.verbose _ _ text c.in-Err.ensures.fails h in
    rw (p.1, p.2) (e.0, e.1, Writes-map {A = ℕ} (Err _) _ _ report _ e.2)

pub returns-clause-errors : goal.returns-clause-errors
returns-clause-errors g c =
    let e = c.in_ok-report-in-Err.ensures.errors in (
      e.0,
      e.1,
      Writes-whole c.write_line-in-Err.result (IsReport c.args.verbose c.args.symbol.now) e.0
          c.write_line-in-Err.ensures.fault
          (report_rejected c.args.verbose _ _ e.0 c.in-Err.ensures.fails e.2),
    )
