use Rattle.std.proofs.Common.{rules, ◌≡◌, None, ◌∙◌, refl}
use Rattle.msvc_full_grammar.specs.Reading.{read}
use Rattle.msvc_cursor.proofs.Rejecting.{none_read}
use Rattle.msvc_cursor.specs.Parser.{beyond, cut_at, name_length, state_of}
use Rattle.msvc_full_letters.proofs.StringSteps.{encoded_string_step}
use Rattle.msvc_full_letters.specs.Strings.{encoded_string}
use Rattle.msvc_full_letters.proofs.strings.encoded_string.Goals as goal

-- no @ ends the bytes
pub returns-in_default-clause-value : goal.returns-in_default-clause-value
returns-in_default-clause-value g c = λ extra.
    let before = c.args.parser.now in
    let checked = c.source_name.new.self in
    let endless : name_length checked.rest.now ≡ None = search rules in
    let none : read encoded_string before.rest.now (beyond extra (state_of before)) ≡ None =
    encoded_string_step before.rest.now (beyond extra (state_of before))
    ∙ rw (
      c.in_ok-expect.ensures.value extra,
      c.in_ok-width.ensures.value extra,
      c.in_ok-length.ensures.value extra,
      c.in_ok-source_name.ensures.value extra,
      endless,
    ) refl in
    rw none (c.no_end.ensures.value extra)

pub returns-in_default-clause-consumes : goal.returns-in_default-clause-consumes
returns-in_default-clause-consumes g c = none_read 0 _ _ c.no_end.result _ (c.no_end.ensures.value 0)
