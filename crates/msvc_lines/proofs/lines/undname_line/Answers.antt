use Rattle.std.proofs.Common.{[], List, ℕ, subst, sym}
use Rattle.std.proofs.KnownBytes.{Appends-nil}
use Rattle.std.specs.Str.{IsUtf8}
use Rattle.msvc_lines.specs.Answers.{IsLineText, left_out, nothing}
use Rattle.msvc_lines.specs.Reports.{IsReport}
use Rattle.msvc_lines.proofs.Texts.{IsText-one}
use Rattle.msvc_streams.proofs.CallSequence.{Writes-map}
use Rattle.msvc_lines.proofs.lines.undname_line.Goals as goal

pub returns-in-Ok-clause-text : goal.returns-in-Ok-clause-text
returns-in-Ok-clause-text g c =
    let e = c.undname_in.ensures.text in
    let u = c.in-Ok.ensures.cases in
    let utf8 = subst IsUtf8 (sym u.0) u.1 in
    let one = λ (text : List ℕ) (h : IsLineText c.in-Ok.line.now text). IsText-one IsLineText _ text utf8 h in
    rw (← c.without_end.ensures, ← u.0) (e.0, e.1, Writes-map _ _ _ one _ e.2)

pub returns-in-Err-clause-text : goal.returns-in-Err-clause-text
returns-in-Err-clause-text g c =
    let u = c.in-Err.ensures.cases in
    rw (← c.without_end.ensures) ([], Appends-nil _, left_out u.0 nothing)

pub returns-in-Ok-clause-errors : goal.returns-in-Ok-clause-errors
returns-in-Ok-clause-errors g c =
    let e = c.undname_in.ensures.errors in
    let u = c.in-Ok.ensures.cases in
    let utf8 = subst IsUtf8 (sym u.0) u.1 in
    let one = λ (text : List ℕ) (h : IsReport c.args.verbose c.in-Ok.line.now text).
    IsText-one (IsReport c.args.verbose) _ text utf8 h in
    rw (← c.without_end.ensures, ← u.0) (e.0, e.1, Writes-map _ _ _ one _ e.2)

pub returns-in-Err-clause-errors : goal.returns-in-Err-clause-errors
returns-in-Err-clause-errors g c =
    let u = c.in-Err.ensures.cases in
    rw (← c.without_end.ensures) ([], Appends-nil _, left_out u.0 nothing)
