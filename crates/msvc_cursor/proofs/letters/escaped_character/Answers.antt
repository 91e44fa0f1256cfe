use Rattle.std.proofs.Common.{rules, None, ◌≡◌, sym, ◌∙◌}
use Rattle.msvc_rules.specs.Rules.{lookup}
use Rattle.msvc_grammar.specs.Letters.{escaped_signs}
use Rattle.msvc_grammar.proofs.Characters.{escaped_other, first_escapes, last_escapes}
use Rattle.msvc_cursor.proofs.letters.escaped_character.Goals as goal

-- none of the three parts of the table has the letter
pub returns-in_default : goal.returns-in_default
returns-in_default c =
    let first : lookup c.args.letter first_escapes ≡ None = search rules in
    let last : lookup c.args.letter last_escapes ≡ None = search rules in
    let sign : lookup c.args.letter escaped_signs ≡ None = search rules in
    sym (escaped_other c.args.letter first last ∙ sign)
