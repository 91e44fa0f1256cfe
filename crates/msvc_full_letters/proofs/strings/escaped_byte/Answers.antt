use Rattle.std.proofs.Common.{rules, Some, false, ◌≡◌, ◌==◌, ◌∙◌, refl, slice_index_or}
use Rattle.msvc_full_letters.specs.Strings.{escape_of}
use Rattle.msvc_full_letters.proofs.StringSteps.{escaped_first}
use Rattle.msvc_full_letters.proofs.strings.escaped_byte.Goals as goal

pub returns-then-letter-eq36-clause-value : goal.returns-then-letter-eq36-clause-value
returns-then-letter-eq36-clause-value c =
    escaped_first c.args.bytes.now c.in-len1-up.len_at_least
    ∙ rw (c.if-letter-eq36.true) c.byte_of_digits.ensures.value

pub returns-clause-value : goal.returns-clause-value
returns-clause-value c =
    let other : (slice_index_or c.args.bytes.now 0 0 == 36) ≡ false = search rules in
    let known : escape_of (slice_index_or c.args.bytes.now 0 0) ≡ Some c.in_ok-escape.field-0 = search rules in
    escaped_first c.args.bytes.now c.in-len1-up.len_at_least ∙ rw (other, known) refl
