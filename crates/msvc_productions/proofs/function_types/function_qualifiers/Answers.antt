use Rattle.std.proofs.Common.{rules, ◌≡◌, ◌∙◌, refl}
use Rattle.std.specs.Prelude.{bit_or}
use Rattle.msvc_cursor.proofs.FunctionSteps.{function_qualifiers_step}
use Rattle.msvc_cursor.specs.Parser.{beyond, state_of}
use Rattle.msvc_productions.proofs.function_types.function_qualifiers.Goals as goal

-- five optional parts, one after another
pub returns-clause-value : goal.returns-clause-value
returns-clause-value g c = λ extra.
    let same : c.union-4.result.0 ≡ bit_or c.optional_flag-size.result.0 (bit_or c.optional_flag-restrict.result.0
    (bit_or c.optional_flag-alignment.result.0 (bit_or c.optional-reference.result.0 c.optional-qualifier.result.0))) = search rules in
    rw same
    (function_qualifiers_step c.args.parser.now.rest.now (beyond extra (state_of c.args.parser.now))
    ∙ rw (
      c.optional_flag-size.ensures.value extra,
      c.optional_flag-restrict.ensures.value extra,
      c.optional_flag-alignment.ensures.value extra,
      c.optional-reference.ensures.value extra,
      c.optional-qualifier.ensures.value extra,
    ) refl)
