use Rattle.std.proofs.Common.{Err, refl}
use Rattle.std.proofs.KnownBytes.{Appends-trans}
use Rattle.msvc_programs.proofs.Prints.{flags-reported}
use Rattle.msvc_programs.proofs.run.undname.Goals as goal

pub returns-in-Err : goal.returns-in-Err
returns-in-Err g c =
    let fault = c.in-Err.fault in
    let e = c.in-Err.ensures.errors in
    let line = c.report_fault.ensures.line in (
      Err fault,
      refl,
      c.in-Err.ensures.text,
      (e.0, e.1, line.0, e.2, Appends-trans _ _ _ _ _ e.3 line.2, e.4, (line.1, line.3)),
      c.in-Err.ensures.end,
      flags-reported fault _ _ _ _ _ c.in-Err.ensures.sets_failed c.report_fault.ensures.failed,
    )
