use Rattle.std.proofs.Common.{arith, ◌∙◌, take, drop, take-add, take-append-drop}
use Rattle.std.proofs.Common.{length-drop}
use Rattle.std.proofs.KnownBytes.{Appends-trans, Appends-kept}
use Rattle.std.proofs.lemmas.Result.{err_from_is_err_and}
use Rattle.msvc_streams.proofs.CallSequence.{to_end}
use Rattle.msvc_streams.proofs.output.write_all.Goals as goal

pub returns-in_err-sent-clause-text : goal.returns-in_err-sent-clause-text
returns-in_err-sent-clause-text g c =
    let p = err_from_is_err_and c.from_residual.result c.from_residual.ensures.1 in
    let e = c.in_err-sent.ensures in
    rw (p.1, p.2, e.fault) (
      take c.writes.sent c.args.bytes.now,
      Appends-kept _ _ _ _ c.writes.invariant.1 e.err,
      (drop c.writes.sent c.args.bytes.now, take-append-drop c.writes.sent c.args.bytes.now),
    )

pub writes-preserved : goal.writes-preserved
writes-preserved g c =
    let inv = c.writes.invariant in
    let e = c.in_ok-sent.ensures in
    let all = c.args.bytes.now in
    let sent = c.writes.sent in
    let more = rw (to_end all sent) at e.ok in
    let bound = rw (to_end all sent) at e.bound in
    rw (take-add sent c.in_ok-sent.field-0 all) (
      omega (arith, inv.0, bound, length-drop sent all),
      Appends-trans _ _ _ _ _ inv.1 more,
      e.sets_failed.1 ∙ inv.2,
    )
