use Rattle.std.proofs.Common.{◌++◌, ◌∷◌, []}
use Rattle.std.proofs.lemmas.Result.{err_from_is_err_and}
use Rattle.std.proofs.KnownBytes.{Appends-trans}
use Rattle.msvc_streams.proofs.CallSequence.{WritesPart-first, Writes-second}
use Rattle.msvc_streams.proofs.output.write_line.Goals as goal

pub returns-in_err-write_all-clause-text : goal.returns-in_err-write_all-clause-text
returns-in_err-write_all-clause-text g c =
    let p = err_from_is_err_and c.from_residual.result c.from_residual.ensures.1 in
    let e = c.in_err-write_all.ensures.text in
    rw (p.1, p.2) (e.0, e.1, WritesPart-first _ _ (10 ∷ []) _ e.2)

pub returns-clause-text : goal.returns-clause-text
returns-clause-text g c =
    let first = c.in_ok-write_all.ensures.text in
    let second = c.write_all-2.ensures in
    rw (← first.2) (
      first.0 ++ second.text.0,
      Appends-trans _ _ _ _ _ first.1 second.text.1,
      Writes-second _ _ _ _ second.fault second.text.2,
    )
