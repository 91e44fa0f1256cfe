use Rattle.std.proofs.Common.{rules, ◌≡◌, None}
use Rattle.msvc_nodes.specs.NodeView.{name_of, type_of}
use Rattle.msvc_rules.specs.Readers.{letter_here}
use Rattle.msvc_full_grammar.specs.Letters.{digits}
use Rattle.msvc_cursor.proofs.Rejecting.{no_letter_beyond}
use Rattle.msvc_cursor.specs.Parser.{beyond, state_of}
use Rattle.msvc_full_readers.proofs.Steps.{steps}
use Rattle.msvc_full_readers.proofs.repeated_classes.repeated_name.Goals as goal

pub returns-in_err-anonymous_name-clause-value : goal.returns-in_err-anonymous_name-clause-value
unfolding name_of type_of
returns-in_err-anonymous_name-clause-value g c = λ extra.
    let old = c.args.parser.now in
    let here : letter_here digits old.rest.now (state_of old) ≡ None = search rules in
    let none : letter_here digits old.rest.now (beyond extra (state_of old)) ≡ None =
    no_letter_beyond extra digits old.rest.now (state_of old) here in
    let anonymous_name = c.in_err-anonymous_name.ensures.value extra in
    search (rules, steps)

pub returns-in_err-text-clause-value : goal.returns-in_err-text-clause-value
unfolding name_of type_of
returns-in_err-text-clause-value g c = λ extra.
    let old = c.args.parser.now in
    let here : letter_here digits old.rest.now (state_of old) ≡ None = search rules in
    let none : letter_here digits old.rest.now (beyond extra (state_of old)) ≡ None =
    no_letter_beyond extra digits old.rest.now (state_of old) here in
    let text = c.in_err-text.ensures.value extra in
    search (rules, steps)

pub returns-in_err-put_and_add_name-clause-value : goal.returns-in_err-put_and_add_name-clause-value
unfolding name_of type_of
returns-in_err-put_and_add_name-clause-value g c = λ extra.
    let old = c.args.parser.now in
    let here : letter_here digits old.rest.now (state_of old) ≡ None = search rules in
    let none : letter_here digits old.rest.now (beyond extra (state_of old)) ≡ None =
    no_letter_beyond extra digits old.rest.now (state_of old) here in
    let text = c.in_ok-text.ensures.value extra in
    let put_and_add_name = c.in_err-put_and_add_name.ensures.value extra in
    search (rules, steps)

pub returns-clause-value : goal.returns-clause-value
unfolding name_of type_of
returns-clause-value g c = λ extra.
    let old = c.args.parser.now in
    let here : letter_here digits old.rest.now (state_of old) ≡ None = search rules in
    let none : letter_here digits old.rest.now (beyond extra (state_of old)) ≡ None =
    no_letter_beyond extra digits old.rest.now (state_of old) here in
    let text = c.in_ok-text.ensures.value extra in
    let put_and_add_name = c.in_ok-put_and_add_name.ensures.value extra in
    search (rules, steps)
