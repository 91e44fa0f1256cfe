use Rattle.std.proofs.Common.{rules, ℕ, ◌≡◌, ◌∷◌, ◌+◌, ◌-◌, suc, List, [], ◌++◌, Some, sym, ap, ◌∙◌, arith}
use Rattle.std.proofs.lemmas.Grind.{common_steps}
use Rattle.msvc_nodes.specs.declared.nodes.Number.{Number}
use Rattle.msvc_full_grammar.specs.Productions.{number, numbers}
use Rattle.msvc_full_grammar.specs.Reading.{read_name}
use Rattle.msvc_cursor.specs.Rows.{with_front}
use Rattle.msvc_cursor.specs.Parser.{beyond, state_of}
use Rattle.msvc_full_letters.proofs.OffsetSteps.{numbers_more}
use Rattle.msvc_full_letters.proofs.offsets.numbers.Goals as goal

-- the new number goes after those so far
pub loop-preserved : goal.loop-preserved
loop-preserved g c =
    let items : c.push.new.self.items ≡ c.loop.numbers.items ++ c.in_ok-number.number ∷ [] =
    grind (arith, common_steps) in
    let read : (extra : ℕ) → read_name number c.loop.parser.rest.now (beyond extra (state_of c.loop.parser))
    ≡ Some (c.in_ok-number.number, c.number.new.parser.rest.now, beyond extra (state_of c.number.new.parser)) = search rules in
    let one_less : c.args.count - c.loop.counter ≡ suc (c.args.count - (c.loop.counter + 1)) = omega arith in (
      λ extra. ap (λ (zs : List Number). with_front zs
          (read_name (numbers (c.args.count - (c.loop.counter + 1))) c.number.new.parser.rest.now
          (beyond extra (state_of c.number.new.parser))))
          items
          ∙ sym (numbers_more c.loop.numbers.items (c.args.count - c.loop.counter)
          (c.args.count - (c.loop.counter + 1)) c.loop.parser.rest.now c.number.new.parser.rest.now
          (beyond extra (state_of c.loop.parser)) (beyond extra (state_of c.number.new.parser)) c.in_ok-number.number one_less (read extra))
          ∙ c.loop.invariant.0 extra,
      omega (arith, c.in_ok-number.ensures.consumes.0, c.loop.invariant.1),
      c.in_ok-number.ensures.consumes.1 ∙ c.loop.invariant.2,
    )
