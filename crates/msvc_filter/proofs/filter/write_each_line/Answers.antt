use Rattle.std.proofs.Common.{◌∙◌, drop, subst, sym, take}
use Rattle.std.proofs.lemmas.List.{take-append-drop}
use Rattle.std.proofs.lemmas.Result.{err_from_is_err_and}
use Rattle.msvc_streams.specs.Faults.{SetsFailureFlag, no_stream}
use Rattle.msvc_streams.specs.Runs.{IsWithEnd}
use Rattle.msvc_streams.specs.Taking.{IsCut}
use Rattle.msvc_streams.proofs.CallSequence.{to_end}
use Rattle.msvc_filter.specs.Choices.{chosen}
use Rattle.msvc_filter.proofs.Replaced.{Keeps-fresh, fresh}
use Rattle.msvc_filter.proofs.Blocks.{LineRun-fault, LineRun-last, LineRun-more}
use Rattle.msvc_filter.proofs.filter.write_each_line.Goals as goal

pub returns-in_err-write_rest-in_default-Line-clause-text :
    goal.returns-in_err-write_rest-in_default-Line-clause-text
returns-in_err-write_rest-in_default-Line-clause-text g c =
    let p = err_from_is_err_and c.from_residual.result c.from_residual.ensures.1 in
    let how = chosen c.args.how in
    let left = c.lines.left.now in
    let end = c.line_end.result.0 in
    let line = take end left in
    let cut : IsWithEnd line = subst (λ t. IsCut t line) c.in_default-Line.is-1 c.line_end.ensures.taken in
    let text = c.in_err-write_rest-in_default-Line.ensures.text in
    rw (p.1, p.2)
    (LineRun-fault c.in_err-write_rest-in_default-Line.field-0.0 how c.args.scan c.lines.scan (fresh 10)
    c.args.lines.now _ _ _ left line (drop end left) text.0 c.lines.invariant.0 (sym (take-append-drop end left)) cut
    (Keeps-fresh 10) text.1 text.2)

pub lines-preserved : goal.lines-preserved
lines-preserved g c =
    let how = chosen c.args.how in
    let left = c.lines.left.now in
    let end = c.line_end.result.0 in
    let line = take end left in
    let cut : IsWithEnd line = subst (λ t. IsCut t line) c.in_default-Line.is-1 c.line_end.ensures.taken in
    let text = c.in_ok-write_rest-in_default-Line.ensures.text in
    rw (to_end left end) (
      LineRun-more how c.args.scan c.lines.scan c.new-scan.result c.args.lines.now _ _ _ left line (drop end left)
          text.0 c.lines.invariant.0 (sym (take-append-drop end left)) cut text.1 text.2 c.new-scan.ensures,
      c.in_ok-write_rest-in_default-Line.ensures.sets_failed.1 ∙ c.lines.invariant.1,
    )

pub returns-in_default-Part : goal.returns-in_default-Part
returns-in_default-Part g c =
    let how = chosen c.args.how in
    let last = c.write_rest-in_default-Part in
    let text = last.ensures.text in
    record {
      text = LineRun-last last.result how c.args.scan c.lines.scan c.args.lines.now _ _ _ c.lines.left.now text.0
          c.lines.invariant.0 text.1 text.2;
      sets_failed = subst (λ b. SetsFailureFlag last.result no_stream
          (record { before = b; after = last.new.out.failed }) no_stream) c.lines.invariant.1 last.ensures.sets_failed;
    }
