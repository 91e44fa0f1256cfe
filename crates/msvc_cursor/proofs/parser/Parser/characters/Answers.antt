use Rattle.std.proofs.Common.{rules, ◌≡◌, ◌∷◌, ◌+◌, ◌-◌, suc, List, [], ◌++◌, Some, sym, ap, ◌∙◌, arith, ℕ}
use Rattle.std.proofs.lemmas.Grind.{common_steps}
use Rattle.msvc_grammar.specs.Productions.{character, characters}
use Rattle.msvc_grammar.specs.Reading.{read_name}
use Rattle.msvc_cursor.specs.Rows.{with_front}
use Rattle.msvc_cursor.proofs.StringSteps.{characters_more}
use Rattle.msvc_cursor.specs.Parser.{beyond, state_of}
use Rattle.msvc_cursor.proofs.parser.Parser.characters.Goals as goal

-- the new character goes after those so far
pub loop-preserved : goal.loop-preserved
loop-preserved g c =
    let items : c.push.new.self.items ≡ c.loop.text.items ++ c.in_ok-character.character ∷ [] =
    grind (arith, common_steps) in
    let one_less : c.args.count - c.loop.counter ≡ suc (c.args.count - (c.loop.counter + 1)) = omega arith in (
      λ extra. ap (λ (zs : List ℕ). with_front zs
          (read_name (characters (c.args.count - (c.loop.counter + 1))) c.character.new.self.rest.now
          (beyond extra (state_of c.character.new.self))))
          items
          ∙ sym (characters_more c.loop.text.items (c.args.count - c.loop.counter) (c.args.count - (c.loop.counter + 1))
          c.loop.self.rest.now c.character.new.self.rest.now (beyond extra (state_of c.loop.self))
          (beyond extra (state_of c.character.new.self)) c.in_ok-character.character one_less
          (c.in_ok-character.ensures.value extra))
          ∙ c.loop.invariant.0 extra,
      omega (arith, c.in_ok-character.ensures.consumes.0, c.loop.invariant.1),
      c.in_ok-character.ensures.consumes.1 ∙ c.loop.invariant.2,
    )
