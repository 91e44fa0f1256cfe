use Rattle.std.proofs.Common.{rules, ◌≡◌, ◌∙◌, refl}
use Rattle.msvc_cursor.proofs.FunctionSteps.{class_part_qualified}
use Rattle.msvc_cursor.specs.Parser.{beyond, state_of}
use Rattle.msvc_productions.proofs.function_types.class_part.Goals as goal

-- the qualifiers are optional
pub returns-in-Qualified-clause-value : goal.returns-in-Qualified-clause-value
returns-in-Qualified-clause-value g c = λ extra.
    let none : c.empty.result.0 ≡ 0 = search rules in
    rw (c.in-Qualified.is, none)
    (class_part_qualified c.args.parser.now.rest.now (beyond extra (state_of c.args.parser.now))
    ∙ rw (c.optional.ensures.value extra) refl)
