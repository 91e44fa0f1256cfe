use Rattle.std.proofs.Common.{◌≡◌, ◌++◌, ◌∙◌, subst, sym}
use Rattle.std.proofs.lemmas.Result.{err_from_is_err_and}
use Rattle.std.proofs.KnownBytes.{Appends-trans}
use Rattle.msvc_streams.specs.Runs.{Writes, WritesPart}
use Rattle.msvc_streams.proofs.CallSequence.{WritesPart-first, Writes-second}
use Rattle.msvc_programs.specs.Faults.{fault_line, rest_of_line}
use Rattle.msvc_programs.proofs.faults.write_fault.Goals as goal

pub returns-in_err-write_all-clause-text : goal.returns-in_err-write_all-clause-text
returns-in_err-write_all-clause-text g c =
    let p = err_from_is_err_and c.from_residual.result c.from_residual.ensures.1 in
    let e = c.in_err-write_all.ensures.text in
    let fault = c.in_err-write_all.field-0.0 in
    let rest = rest_of_line c.args.fault in
    rw (p.1, p.2) (
      e.0,
      e.1,
      subst (λ l. WritesPart fault (λ whole. whole ≡ l ++ rest) e.0) c.as_bytes.ensures.value
          (WritesPart-first fault c.as_bytes.result.now rest e.0 e.2),
    )

pub returns-clause-text : goal.returns-clause-text
returns-clause-text g c =
    let first = c.in_ok-write_all.ensures.text in
    let second = c.write_all-2.ensures in
    let r = c.write_all-2.result in
    let program = c.args.program.now in
    let line = fault_line program c.args.fault in
    let end = subst (λ l. Writes r (λ whole. whole ≡ l) second.text.0) c.rest_of_line.ensures second.text.2 in (
      first.0 ++ second.text.0,
      Appends-trans _ _ _ _ _ first.1 second.text.1,
      subst (λ l. Writes r (λ whole. whole ≡ line) (l ++ second.text.0)) (sym (first.2 ∙ c.as_bytes.ensures.value))
          (Writes-second r program (rest_of_line c.args.fault) second.text.0 second.fault end),
    )
