use Rattle.std.proofs.Common.{rules, ◌≡◌, ◌++◌, ◌∙◌, List, ℕ}
use Rattle.msvc_streams.proofs.CallSequence.{Writes-map}
use Rattle.msvc_programs.proofs.Prints.{answers-held, reports-held}
use Rattle.msvc_programs.proofs.run.answer.Goals as goal

pub returns-in-Ok-clause-text : goal.returns-in-Ok-clause-text
returns-in-Ok-clause-text g c =
    let e = c.in-Ok.ensures.text in
    let w = c.write_both.ensures.text in
    let split : c.args.block.now ≡ e.0 ++ c.undname_run.new.input.stream.now = search rules in
    let held : c.deref.result.now ≡ e.1 = search rules in
    let whole = λ (l : List ℕ) (same : l ≡ c.deref.result.now). same ∙ held in (
      w.0,
      w.1,
      answers-held c.write_both.result c.in-Ok.field-0 _ _ _ e.0 e.1 w.0 c.requires split c.in-Ok.ensures.end
          e.4 c.write_both.ensures.fault (Writes-map _ _ _ whole _ w.2),
    )

pub returns-in-Ok-clause-errors : goal.returns-in-Ok-clause-errors
returns-in-Ok-clause-errors g c =
    let e = c.in-Ok.ensures.errors in
    let w = c.write_both.ensures.errors in
    let split : c.args.block.now ≡ e.0 ++ c.undname_run.new.input.stream.now = search rules in
    let held : c.deref-in-Ok.result.now ≡ e.1 = search rules in
    let whole = λ (l : List ℕ) (same : l ≡ c.deref-in-Ok.result.now). same ∙ held in (
      w.0,
      w.1,
      reports-held c.write_both.result c.in-Ok.field-0 _ _ _ _ e.0 e.1 w.0 c.requires split c.in-Ok.ensures.end
          e.4 c.write_both.ensures.fault (Writes-map _ _ _ whole _ w.2),
    )
