use Rattle.std.proofs.Common.{rules, ◌≡◌, None}
use Rattle.msvc_rules.specs.Readers.{letter_here}
use Rattle.msvc_full_grammar.specs.Letters.{qualifiers}
use Rattle.msvc_cursor.proofs.Rejecting.{no_letter_beyond}
use Rattle.msvc_cursor.specs.Parser.{beyond, state_of}
use Rattle.msvc_full_letters.proofs.qualifiers.qualifier.Goals as goal

-- the table has no such letter
pub returns-clause-value : goal.returns-clause-value
returns-clause-value g c = λ extra.
    let before = c.args.parser.now in
    let here : letter_here qualifiers before.rest.now (state_of before) ≡ None = search rules in
    let none : letter_here qualifiers before.rest.now (beyond extra (state_of before)) ≡ None =
    no_letter_beyond extra qualifiers before.rest.now (state_of before) here in
    rw none (c.no_qualifier.ensures.value extra)
