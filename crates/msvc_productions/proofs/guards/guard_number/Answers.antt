use Rattle.std.proofs.Common.{rules, ℕ, ◌≡◌, ◌+◌, ◌*◌, ◌<◌, None, Some, false, sym, ap, ◌∙◌, arith, length}
use Rattle.std.specs.Prelude.{codes}
use Rattle.msvc_rules.specs.Readers.{letter_here}
use Rattle.msvc_rules.specs.Rules.{after}
use Rattle.msvc_grammar.specs.Grammar.{is_in_range}
use Rattle.msvc_grammar.specs.Letters.{digits}
use Rattle.msvc_grammar.specs.Productions.{decimal}
use Rattle.msvc_grammar.specs.Reading.{read_name}
use Rattle.msvc_cursor.specs.Parser.{beyond, state_of}
use Rattle.msvc_cursor.proofs.GuardSteps.{decimal_ends, decimal_more, decimal_too_large, kept}
use Rattle.msvc_productions.proofs.guards.guard_number.Goals as goal

-- the value with one more digit, before the rest
pub digits-preserved : goal.digits-preserved
digits-preserved g c =
    let same : c.digits.value * 10 + c.in_ok-digit.digit ≡ c.in-Some.longer =
    kept (c.digits.value * 10 + c.in_ok-digit.digit) c.in-Some.longer (sym c.in-Some.ensures.value) in
    let letter : (extra : ℕ) → letter_here digits c.digits.parser.rest.now (beyond extra (state_of c.digits.parser))
    ≡ Some (
      c.in_ok-digit.digit,
      c.guard_digit-in-digits.new.parser.rest.now,
      beyond extra (state_of c.guard_digit-in-digits.new.parser),
    ) = search rules in
    let shorter : length c.guard_digit-in-digits.new.parser.rest.now < length c.digits.parser.rest.now =
    search rules in (
      λ extra. ap (λ n. read_name (decimal n) c.guard_digit-in-digits.new.parser.rest.now
          (beyond extra (state_of c.guard_digit-in-digits.new.parser))) (sym same)
          ∙ sym (decimal_more c.digits.value c.in_ok-digit.digit c.digits.parser.rest.now
          c.guard_digit-in-digits.new.parser.rest.now (beyond extra (state_of c.digits.parser))
          (beyond extra (state_of c.guard_digit-in-digits.new.parser)) c.digits.invariant.2 (letter extra))
          ∙ c.digits.invariant.0 extra,
      omega (arith, shorter, c.digits.invariant.1),
      c.in-Some.ensures.small,
      c.in_ok-digit.ensures.consumes.1 ∙ c.consume.ensures.kept ∙ c.digits.invariant.3,
    )

-- one more digit makes it too large
pub returns-in_default-clause-value : goal.returns-in_default-clause-value
returns-in_default-clause-value g c = λ extra.
    let letter : letter_here digits c.digits.parser.rest.now (beyond extra (state_of c.digits.parser))
    ≡ Some (
      c.in_ok-digit.digit,
      c.guard_digit-in-digits.new.parser.rest.now,
      beyond extra (state_of c.guard_digit-in-digits.new.parser),
    ) = search rules in
    let large : is_in_range (c.digits.value * 10 + c.in_ok-digit.digit) ≡ false = search rules in
    let read : read_name (decimal c.digits.value) c.digits.parser.rest.now (beyond extra (state_of c.digits.parser)) ≡ None =
    decimal_too_large c.digits.value c.in_ok-digit.digit c.digits.parser.rest.now
    c.guard_digit-in-digits.new.parser.rest.now (beyond extra (state_of c.digits.parser))
    (beyond extra (state_of c.guard_digit-in-digits.new.parser)) c.digits.invariant.2 letter large in
    rw c.reject.ensures.last_error (sym (c.digits.invariant.0 extra) ∙ read)

-- the number ends
pub returns-then-consume-clause-value : goal.returns-then-consume-clause-value
returns-then-consume-clause-value g c = λ extra.
    let end = c.consume.new.self in
    let ends : after (codes "@") c.digits.parser.rest.now ≡ Some end.rest.now = search rules in
    let state : beyond extra (state_of c.digits.parser) ≡ beyond extra (state_of end) =
    ap (beyond extra) (sym c.consume.ensures.state) in
    sym (c.digits.invariant.0 extra)
    ∙ decimal_ends c.digits.value c.digits.parser.rest.now end.rest.now (beyond extra (state_of c.digits.parser))
    c.digits.invariant.2 ends
    ∙ ap (λ s. Some (c.digits.value, end.rest.now, s)) state
