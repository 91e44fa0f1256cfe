use Rattle.std.proofs.Common.{rules, None, Some, ◌≡◌, ◌+◌, sym, ◌∙◌, arith}
use Rattle.std.proofs.lemmas.Grind.{common_steps}
use Rattle.msvc_rules.specs.Rules.{lookup}
use Rattle.msvc_full_letters.specs.Strings.{escape_of}
use Rattle.msvc_full_letters.proofs.StringSteps.{capital_rows, escape_capital, escape_small, sign_rows, small_rows}
use Rattle.msvc_full_letters.proofs.strings.escape.Goals as goal

-- none of the three parts of the table has the letter
pub returns-in_default : goal.returns-in_default
unfolding escape_of
returns-in_default c =
    let sign : lookup c.args.letter sign_rows ≡ None = search rules in
    let small : lookup c.args.letter small_rows ≡ None = search rules in
    let capital : lookup c.args.letter capital_rows ≡ None = search rules in
    sym (escape_capital c.args.letter sign small ∙ capital)

pub returns-in_default-2 : goal.returns-in_default-2
unfolding escape_of
returns-in_default-2 c =
    let sign : lookup c.args.letter sign_rows ≡ None = search rules in
    let small : lookup c.args.letter small_rows ≡ None = search rules in
    let capital : lookup c.args.letter capital_rows ≡ None = search rules in
    sym (escape_capital c.args.letter sign small ∙ capital)

pub returns-in_default-3 : goal.returns-in_default-3
unfolding escape_of
returns-in_default-3 c =
    let sign : lookup c.args.letter sign_rows ≡ None = search rules in
    let small : lookup c.args.letter small_rows ≡ None = search rules in
    let capital : lookup c.args.letter capital_rows ≡ None = search rules in
    sym (escape_capital c.args.letter sign small ∙ capital)

-- a small letter is in the second
pub returns-in-97-to-122 : goal.returns-in-97-to-122
unfolding escape_of
returns-in-97-to-122 c =
    let small : lookup c.args.letter small_rows ≡ Some (c.args.letter + 128) = grind (arith, common_steps) in
    let sign : lookup c.args.letter sign_rows ≡ None = search rules in
    sym (escape_small c.args.letter (c.args.letter + 128) sign small)

-- a capital letter is in the third
pub returns-in-65-to-90 : goal.returns-in-65-to-90
unfolding escape_of
returns-in-65-to-90 c =
    let capital : lookup c.args.letter capital_rows ≡ Some (c.args.letter + 128) = grind (arith, common_steps) in
    let sign : lookup c.args.letter sign_rows ≡ None = search rules in
    let small : lookup c.args.letter small_rows ≡ None = search rules in
    sym (escape_capital c.args.letter sign small ∙ capital)
