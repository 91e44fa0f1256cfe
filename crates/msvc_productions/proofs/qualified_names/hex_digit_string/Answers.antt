use Rattle.std.proofs.Common.{rules, ℕ, ◌≡◌, ◌∷◌, [], ◌++◌, ◌<◌, Err, Some, None, sym, ap, ◌∙◌, arith, length}
use Rattle.std.specs.Prelude.{codes, string_bytes}
use Rattle.msvc_rules.specs.Readers.{and_then, letter_here}
use Rattle.msvc_rules.specs.Rules.{after}
use Rattle.msvc_grammar.specs.Letters.{hexadecimal_codes}
use Rattle.msvc_grammar.specs.Productions.{hexadecimal_digits}
use Rattle.msvc_grammar.specs.Reading.{read_name}
use Rattle.msvc_cursor.specs.Rows.{with_front}
use Rattle.msvc_cursor.proofs.RowSteps.{digits_more, digits_rejected}
use Rattle.msvc_cursor.proofs.Rejecting.{rejects_with}
use Rattle.msvc_cursor.specs.Parser.{beyond, state_of}
use Rattle.msvc_productions.proofs.qualified_names.hex_digit_string.Goals as goal

-- the new digit goes after those so far
pub digits-preserved : goal.digits-preserved
digits-preserved g c =
    let none : after (codes "@") c.digits.parser.rest.now ≡ None = search rules in
    let read : (extra : ℕ) → letter_here hexadecimal_codes c.digits.parser.rest.now (beyond extra (state_of c.digits.parser))
    ≡ Some (c.in_ok-digit.digit, c.hexadecimal_digit.new.parser.rest.now, beyond extra (state_of c.hexadecimal_digit.new.parser)) =
    search rules in
    let pushed : string_bytes c.push.new.self ≡ string_bytes c.digits.digits ++ c.in_ok-digit.digit ∷ [] =
    search rules in
    let shorter : length c.hexadecimal_digit.new.parser.rest.now < length c.digits.parser.rest.now = search rules in (
      λ extra. ap (λ ds. with_front ds
          (read_name hexadecimal_digits c.hexadecimal_digit.new.parser.rest.now
          (beyond extra (state_of c.hexadecimal_digit.new.parser))))
          pushed
          ∙ sym (digits_more (string_bytes c.digits.digits) c.digits.parser.rest.now
          c.hexadecimal_digit.new.parser.rest.now (beyond extra (state_of c.digits.parser)) (beyond extra (state_of c.hexadecimal_digit.new.parser))
          c.in_ok-digit.digit none (read extra))
          ∙ c.digits.invariant.0 extra,
      omega (arith, shorter, c.digits.invariant.1),
      c.in_ok-digit.ensures.consumes.1 ∙ c.consume.ensures.kept ∙ c.digits.invariant.2,
    )

-- a digit is rejected
pub returns-in_err-digit-clause-value : goal.returns-in_err-digit-clause-value
returns-in_err-digit-clause-value g c = λ extra.
    let parser = c.digits.parser in
    let none : after (codes "@") parser.rest.now ≡ None = search rules in
    let state : state_of c.consume.new.self ≡ state_of parser = c.consume.ensures.state in
    let failed : c.from_residual.result ≡ Err c.in_err-digit.field-0.0 = search rules in
    let read = c.in_err-digit.ensures.value extra in
    rw failed
    (rejects_with extra c.hexadecimal_digit.new.parser.last_error.reason
    (letter_here hexadecimal_codes parser.rest.now (beyond extra (state_of parser)))
    (and_then (read_name hexadecimal_digits c.args.parser.now.rest.now (beyond extra (state_of c.args.parser.now)))
    (λ ds left s. Some (codes "0x" ++ ds, left, s)))
    (λ no_digit. sym (c.digits.invariant.0 extra)
    ∙ digits_rejected (string_bytes c.digits.digits) parser.rest.now (beyond extra (state_of parser)) none no_digit)
    (search rules))
