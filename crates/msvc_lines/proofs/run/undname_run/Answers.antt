use Rattle.std.proofs.Common.{rules, ◌≢◌, [], subst}
use Rattle.std.specs.Prelude.{length, map, string_bytes}
use Rattle.std.proofs.KnownBytes.{Consumes-nil}
use Rattle.msvc_lines.specs.Arguments.{WritesAnswers, WritesRemarks, symbols_of}
use Rattle.msvc_lines.proofs.SymbolRun.{WritesAnswers-symbols, WritesRemarks-symbols, mapped-some}
use Rattle.msvc_lines.proofs.run.undname_run.Goals as goal

pub returns-clause-text : goal.returns-clause-text
returns-clause-text g c =
    let text = c.undname_all.ensures.text in
    let some : length c.options-verbose.result.0.now ≢ 0 = search rules in
    let r = c.undname_all.result in (
      [],
      text.0,
      Consumes-nil _,
      text.1,
      subst (λ symbols. WritesAnswers r symbols [] text.0) c.options-verbose.ensures.symbols
          (WritesAnswers-symbols r _ _ (mapped-some string_bytes _ some) text.2),
    )

pub returns-clause-errors : goal.returns-clause-errors
returns-clause-errors g c =
    let errors = c.undname_all.ensures.errors in
    let some : length c.options-verbose.result.0.now ≢ 0 = search rules in
    let r = c.undname_all.result in
    let verbose = c.options-verbose.result.1 in (
      [],
      errors.0,
      Consumes-nil _,
      errors.1,
      subst (λ v. WritesRemarks r v (symbols_of (map string_bytes c.args.words.now)) [] errors.0)
          c.options-verbose.ensures.verbose
          (subst (λ symbols. WritesRemarks r verbose symbols [] errors.0) c.options-verbose.ensures.symbols
          (WritesRemarks-symbols r verbose _ _ (mapped-some string_bytes _ some) errors.2)),
    )
