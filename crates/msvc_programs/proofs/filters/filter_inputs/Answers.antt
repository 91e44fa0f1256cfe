use Rattle.std.proofs.Common.{◌≡◌, ◌∙◌, ap, refl, sym}
use Rattle.std.specs.Prelude.{◌&&◌}
use Rattle.std.proofs.lemmas.Result.{err_from_is_err_and}
use Rattle.msvc_filter.specs.Choices.{chosen}
use Rattle.msvc_programs.proofs.InputRun.{InputRun-fault, InputRun-more, InputRun-start}
use Rattle.msvc_programs.proofs.filters.filter_inputs.Goals as goal
use Rattle.msvc_programs.proofs.filters.filter_inputs.Goals.{then-all_read, else-all_read}

pub loop-name-init : goal.loop-name-init
loop-name-init g c = (InputRun-start _ _ _, refl)

pub returns-in_err-read-clause-text : goal.returns-in_err-read-clause-text
returns-in_err-read-clause-text g c =
    let p = err_from_is_err_and c.from_residual.result c.from_residual.ensures.1 in
    let text = c.in_err-read.ensures.text in
    rw (p.1, p.2)
    (InputRun-fault (chosen c.args.how) (g.H.Host.bytes c.args.host.now) c.args.names.now c.loop-name.name-index _
    c.loop-name.all_read c.in_err-read.field-0.0 _ _ _ c.loop-name-test.true c.loop-name.invariant.0 text.0 text.1
    text.2)

pub loop-name-preserved : goal.loop-name-preserved
loop-name-preserved g c =
    let read = c.in_ok-read.read in
    let text = c.in_ok-read.ensures.text in
    let all : c.loop-name.all_read && read ≡ c.if-all_read.all_read = elim c.if-all_read.branch [
      | then-all_read w ↦ ap (λ b. b && read) w.if-all_read.true ∙ sym w.all_read-is
      | else-all_read w ↦ ap (λ b. b && read) w.if-all_read.false ∙ sym w.if-all_read.false ∙ sym w.all_read-is
    ] in
    let more = InputRun-more (chosen c.args.how) (g.H.Host.bytes c.args.host.now) c.args.names.now
    c.loop-name.name-index _ c.loop-name.all_read read _ _ _ c.loop-name-test.true c.loop-name.invariant.0 text.0
    text.1 text.2 in (
      rw (← all) more,
      c.in_ok-read.ensures.sets_failed.1 ∙ c.loop-name.invariant.1,
    )
