use Rattle.std.proofs.Common.{rules, None, Some, ◌≡◌, sym, ◌∙◌, arith}
use Rattle.std.proofs.lemmas.Grind.{common_steps}
use Rattle.msvc_rules.specs.Rules.{lookup}
use Rattle.msvc_grammar.proofs.Characters.{capital_first, capital_rows, digit_rows, other_rows, plain_other, small_rows}
use Rattle.msvc_cursor.proofs.letters.character.Goals as goal

-- none of the four parts of the table has the letter
pub returns-in_default : goal.returns-in_default
returns-in_default c =
    let digit : lookup c.args.letter digit_rows ≡ None = search rules in
    let small : lookup c.args.letter small_rows ≡ None = search rules in
    let capital : lookup c.args.letter capital_rows ≡ None = search rules in
    let other : lookup c.args.letter other_rows ≡ None = search rules in
    sym (plain_other c.args.letter digit small capital ∙ other)

pub returns-in_default-2 : goal.returns-in_default-2
returns-in_default-2 c =
    let digit : lookup c.args.letter digit_rows ≡ None = search rules in
    let small : lookup c.args.letter small_rows ≡ None = search rules in
    let capital : lookup c.args.letter capital_rows ≡ None = search rules in
    let other : lookup c.args.letter other_rows ≡ None = search rules in
    sym (plain_other c.args.letter digit small capital ∙ other)

pub returns-in_default-3 : goal.returns-in_default-3
returns-in_default-3 c =
    let digit : lookup c.args.letter digit_rows ≡ None = search rules in
    let small : lookup c.args.letter small_rows ≡ None = search rules in
    let capital : lookup c.args.letter capital_rows ≡ None = search rules in
    let other : lookup c.args.letter other_rows ≡ None = search rules in
    sym (plain_other c.args.letter digit small capital ∙ other)

pub returns-in_default-4 : goal.returns-in_default-4
returns-in_default-4 c =
    let digit : lookup c.args.letter digit_rows ≡ None = search rules in
    let small : lookup c.args.letter small_rows ≡ None = search rules in
    let capital : lookup c.args.letter capital_rows ≡ None = search rules in
    let other : lookup c.args.letter other_rows ≡ None = search rules in
    sym (plain_other c.args.letter digit small capital ∙ other)

-- a capital letter stands for itself, and so do those of the other parts
pub returns-in-48-to-57-3 : goal.returns-in-48-to-57-3
returns-in-48-to-57-3 c =
    let digit : lookup c.args.letter digit_rows ≡ None = search rules in
    let small : lookup c.args.letter small_rows ≡ None = search rules in
    let capital : lookup c.args.letter capital_rows ≡ Some c.args.letter = grind (arith, common_steps) in
    sym (capital_first c.args.letter digit small capital)
