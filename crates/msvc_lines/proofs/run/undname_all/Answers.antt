use Rattle.std.proofs.Common.{◌∙◌, [], ap, refl, subst}
use Rattle.std.specs.Prelude.{string_bytes}
use Rattle.std.proofs.lemmas.Result.{err_from_is_err_and}
use Rattle.std.proofs.KnownBytes.{Appends-nil}
use Rattle.msvc_streams.specs.Runs.{WritesPart}
use Rattle.msvc_lines.specs.Answers.{IsLineText}
use Rattle.msvc_lines.specs.Arguments.{nothing}
use Rattle.msvc_lines.specs.Reports.{IsReport}
use Rattle.msvc_lines.proofs.SymbolRun.{SymbolRun-fault, SymbolRun-more}
use Rattle.msvc_lines.proofs.run.undname_all.Goals as goal

pub loop-symbol-init : goal.loop-symbol-init
loop-symbol-init g c = (([], Appends-nil _, nothing), refl, refl, ([], Appends-nil _, nothing))

pub loop-symbol-preserved : goal.loop-symbol-preserved
loop-symbol-preserved g c =
    let text = c.in_ok-undname_in.ensures.text in
    let errors = c.in_ok-undname_in.ensures.errors in
    let bytes = c.as_str.ensures.value ∙ ap string_bytes c.symbol-item.is in (
      SymbolRun-more string_bytes c.args.symbols.now c.loop-symbol.symbol-index _ _ _ _ c.loop-symbol-test.true
          c.loop-symbol.invariant.0 text.0 text.1 (subst (λ s. IsLineText s text.0) bytes text.2),
      c.in_ok-undname_in.ensures.sets_failed.1 ∙ c.loop-symbol.invariant.1,
      c.in_ok-undname_in.ensures.sets_failed.2 ∙ c.loop-symbol.invariant.2,
      SymbolRun-more string_bytes c.args.symbols.now c.loop-symbol.symbol-index _ _ _ _ c.loop-symbol-test.true
          c.loop-symbol.invariant.3 errors.0 errors.1
          (subst (λ s. IsReport c.args.verbose s errors.0) bytes errors.2),
    )

pub returns-in_err-undname_in-clause-text : goal.returns-in_err-undname_in-clause-text
returns-in_err-undname_in-clause-text g c =
    let p = err_from_is_err_and c.from_residual.result c.from_residual.ensures.1 in
    let text = c.in_err-undname_in.ensures.text in
    let bytes = c.as_str.ensures.value ∙ ap string_bytes c.symbol-item.is in
    rw (p.1, p.2)
    (SymbolRun-fault string_bytes c.args.symbols.now c.loop-symbol.symbol-index _ _ _ _ _ c.loop-symbol-test.true
    c.loop-symbol.invariant.0 text.0 text.1
    (subst (λ s. WritesPart c.in_err-undname_in.field-0.0 (IsLineText s) text.0) bytes text.2))

pub returns-in_err-undname_in-clause-errors : goal.returns-in_err-undname_in-clause-errors
returns-in_err-undname_in-clause-errors g c =
    let p = err_from_is_err_and c.from_residual.result c.from_residual.ensures.1 in
    let text = c.in_err-undname_in.ensures.errors in
    let bytes = c.as_str.ensures.value ∙ ap string_bytes c.symbol-item.is in
    rw (p.1, p.2)
    (SymbolRun-fault string_bytes c.args.symbols.now c.loop-symbol.symbol-index _ _ _ _ _ c.loop-symbol-test.true
    c.loop-symbol.invariant.3 text.0 text.1
    (subst (λ s. WritesPart c.in_err-undname_in.field-0.0 (IsReport c.args.verbose s) text.0) bytes text.2))
