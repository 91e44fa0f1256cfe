use Rattle.std.proofs.Common.{◌∙◌, Err, Ok, drop, refl, subst, take}
use Rattle.msvc_lines.specs.Answers.{IsFilterText}
use Rattle.msvc_lines.specs.Arguments.{is_verbose}
use Rattle.msvc_lines.specs.Reports.{AreReports}
use Rattle.std.specs.Prelude.{map, string_bytes}
use Rattle.msvc_streams.specs.Runs.{IsLines, IsWithoutEnd}
use Rattle.msvc_programs.specs.Programs.{LeavesLines, PrintsAnswers, PrintsLines, PrintsReports}
use Rattle.msvc_programs.proofs.Prints.{BlockRun-end, BlockRun-fault, BlockRun-lines, BlockRun-polled, BlockRun-start}
use Rattle.msvc_programs.proofs.Prints.{answers, flags-polled, part-unended, reports}
use Rattle.msvc_programs.proofs.run.answer_lines.Goals as goal

pub blocks-2-init : goal.blocks-2-init
blocks-2-init g c =
    rw c.new-block.ensures.items (BlockRun-start answers _ _, BlockRun-start (reports _) _ _, refl, refl, refl)

pub returns-in-Err-clause-text : goal.returns-in-Err-clause-text
returns-in-Err-clause-text g c =
    let e = c.in-Err.ensures.taken in
    BlockRun-polled c.in-Err.fault _ _ _ _ _ _ e.0 c.blocks-2.invariant.0 e.2 e.3

pub returns-in-Err-clause-errors : goal.returns-in-Err-clause-errors
returns-in-Err-clause-errors g c =
    let e = c.in-Err.ensures.taken in
    BlockRun-polled c.in-Err.fault _ _ _ _ _ _ e.0 c.blocks-2.invariant.1 e.2 e.3

pub returns-in-Err-clause-sets_failed : goal.returns-in-Err-clause-sets_failed
returns-in-Err-clause-sets_failed g c =
    flags-polled c.in-Err.fault _ _ _ _ _ c.in-Err.ensures.sets_failed c.blocks-2.invariant.2 c.blocks-2.invariant.3

pub returns-then-not-more-clause-text : goal.returns-then-not-more-clause-text
returns-then-not-more-clause-text g c =
    let e = c.in-Ok.ensures.taken in
    let t = c.answer.ensures.text in
    let r = c.answer.result in
    let lines = subst (λ s. PrintsAnswers r s c.deref.result.now t.0) c.requires t.2 in
    let prints = subst (λ l. PrintsLines r IsFilterText l t.0) c.deref.ensures.value lines in
    BlockRun-end answers r _ _ _ _ _ _ _ e.0 _ c.blocks-2.invariant.0 e.2 e.1 c.answer.ensures.fault t.0 t.1 prints

pub returns-then-not-more-clause-errors : goal.returns-then-not-more-clause-errors
returns-then-not-more-clause-errors g c =
    let e = c.in-Ok.ensures.taken in
    let t = c.answer.ensures.errors in
    let r = c.answer.result in
    let verbose = is_verbose (map string_bytes c.args.words.now) in
    let lines = subst (λ s. PrintsReports r verbose s c.deref.result.now t.0) c.requires t.2 in
    let prints = subst (λ l. PrintsLines r (AreReports verbose) l t.0) c.deref.ensures.value lines in
    BlockRun-end (reports verbose) r _ _ _ _ _ _ _ e.0 _ c.blocks-2.invariant.1 e.2 e.1 c.answer.ensures.fault t.0 t.1
    prints

pub returns-in-Err-answer-clause-text : goal.returns-in-Err-answer-clause-text
returns-in-Err-answer-clause-text g c =
    let e = c.in-Ok.ensures.taken in
    let t = c.in-Err-answer.ensures.text in
    let fault = c.in-Err-answer.fault in
    let end = c.lines_len-end.result in
    let shown = c.deref-in-blocks-2-2.result.now in
    let lines = subst (λ s. PrintsAnswers {A = Unit {0}} (Err fault) s (take end shown) t.0) c.requires t.2 in
    let leaves = subst (λ l. LeavesLines fault IsFilterText (take end l) t.0)
    c.deref-in-blocks-2-2.ensures.value lines in
    BlockRun-fault answers fault _ _ _ _ _ _ _ e.0 _ end c.blocks-2.invariant.0 e.2 e.1 c.in-Err-answer.ensures.fault
    t.0 t.1 leaves

pub returns-in-Err-answer-clause-errors : goal.returns-in-Err-answer-clause-errors
returns-in-Err-answer-clause-errors g c =
    let e = c.in-Ok.ensures.taken in
    let t = c.in-Err-answer.ensures.errors in
    let fault = c.in-Err-answer.fault in
    let end = c.lines_len-end.result in
    let shown = c.deref-in-blocks-2-2.result.now in
    let verbose = is_verbose (map string_bytes c.args.words.now) in
    let lines = subst (λ s. PrintsReports {A = Unit {0}} (Err fault) verbose s (take end shown) t.0) c.requires t.2 in
    let leaves = subst (λ l. LeavesLines fault (AreReports verbose) (take end l) t.0)
    c.deref-in-blocks-2-2.ensures.value lines in
    BlockRun-fault (reports verbose) fault _ _ _ _ _ _ _ e.0 _ end c.blocks-2.invariant.1 e.2 e.1
    c.in-Err-answer.ensures.fault t.0 t.1 leaves

pub lines_len-end-requires-clause-unended : goal.lines_len-end-requires-clause-unended
lines_len-end-requires-clause-unended g c =
    let e = c.in-Ok.ensures.taken in
    part-unended c.blocks-2.block.items e.0 _ _ (c.len-from.ensures ∙ c.blocks-2.block.ok.0)
    (c.deref-in-blocks-2.ensures.value ∙ e.1) c.blocks-2.invariant.0.unended

pub blocks-2-preserved : goal.blocks-2-preserved
blocks-2-preserved g c =
    let e = c.in-Ok.ensures.taken in
    let was = c.blocks-2.invariant in
    let end = c.lines_len-end.result in
    let len = c.lines_len-end.ensures in
    let whole = subst (λ l. IsLines (take end l)) c.deref-in-blocks-2.ensures.value len.lines in
    let rest = subst (λ l. IsWithoutEnd (drop end l)) c.deref-in-blocks-2.ensures.value len.unended in
    let done = Ok c.in-Ok-answer.field-0 in
    let shown = c.deref-in-blocks-2-2.result.now in
    let same = c.deref-in-blocks-2-2.ensures.value in
    let t = c.in-Ok-answer.ensures.text in
    let answered = subst (λ s. PrintsAnswers {A = Unit {0}} done s (take end shown) t.0) c.requires t.2 in
    let text = subst (λ l. IsFilterText (take end l) t.0) same answered in
    let o = c.in-Ok-answer.ensures.errors in
    let verbose = is_verbose (map string_bytes c.args.words.now) in
    let reported = subst (λ s. PrintsReports {A = Unit {0}} done verbose s (take end shown) o.0) c.requires o.2 in
    let errors = subst (λ l. AreReports verbose (take end l) o.0) same reported in
    let flags = c.in-Ok-answer.ensures.sets_failed in
    rw c.drop_front.ensures (
      BlockRun-lines answers _ _ _ _ _ _ _ e.0 _ end was.0 e.2 e.1 whole rest t.0 t.1 text,
      BlockRun-lines (reports verbose) _ _ _ _ _ _ _ e.0 _ end was.1 e.2 e.1 whole rest o.0 o.1 errors,
      c.in-Ok.ensures.sets_failed.0 ∙ was.2,
      flags.1 ∙ was.3,
      flags.2 ∙ was.4,
    )
