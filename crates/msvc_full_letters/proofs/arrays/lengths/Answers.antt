use Rattle.std.proofs.Common.{rules, ℕ, ◌≡◌, ◌∷◌, ◌+◌, ◌-◌, suc, List, [], ◌++◌, Some, sym, ap, ◌∙◌, arith}
use Rattle.std.proofs.lemmas.Grind.{common_steps}
use Rattle.msvc_nodes.specs.declared.nodes.Number.{Number}
use Rattle.msvc_full_grammar.specs.Productions.{count, lengths}
use Rattle.msvc_full_grammar.specs.Reading.{read_name}
use Rattle.msvc_cursor.specs.Rows.{with_front}
use Rattle.msvc_cursor.specs.Parser.{beyond, state_of}
use Rattle.msvc_full_letters.proofs.LengthSteps.{lengths_more, unsigned}
use Rattle.msvc_full_letters.proofs.arrays.lengths.Goals as goal

-- the new length goes after those so far
pub loop-preserved : goal.loop-preserved
loop-preserved g c =
    let items : c.push.new.self.items ≡ c.loop.lengths.items ++ unsigned c.in_ok-value.value ∷ [] =
    grind (arith, common_steps) in
    let read : (extra : ℕ) → read_name count c.loop.parser.rest.now (beyond extra (state_of c.loop.parser))
    ≡ Some (c.in_ok-value.value, c.count.new.parser.rest.now, beyond extra (state_of c.count.new.parser)) = search rules in
    let one_less : c.args.levels - c.loop.counter ≡ suc (c.args.levels - (c.loop.counter + 1)) = omega arith in (
      λ extra. ap (λ (zs : List Number). with_front zs
          (read_name (lengths (c.args.levels - (c.loop.counter + 1))) c.count.new.parser.rest.now
          (beyond extra (state_of c.count.new.parser))))
          items
          ∙ sym (lengths_more c.loop.lengths.items (c.args.levels - c.loop.counter)
          (c.args.levels - (c.loop.counter + 1)) c.loop.parser.rest.now c.count.new.parser.rest.now
          (beyond extra (state_of c.loop.parser)) (beyond extra (state_of c.count.new.parser)) c.in_ok-value.value one_less (read extra))
          ∙ c.loop.invariant.0 extra,
      omega (arith, c.in_ok-value.ensures.consumes.0, c.loop.invariant.1),
      c.in_ok-value.ensures.consumes.1 ∙ c.loop.invariant.2,
    )
