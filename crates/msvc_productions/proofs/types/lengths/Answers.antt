use Rattle.std.proofs.Common.{rules, ℕ, ◌≡◌, ◌∷◌, ◌+◌, ◌-◌, suc, List, [], ◌++◌, Err, Some, sym, ap, ◌∙◌, arith, length, ℤ}
use Rattle.std.proofs.lemmas.Grind.{common_steps}
use Rattle.msvc_rules.specs.Readers.{counting}
use Rattle.msvc_grammar.specs.Productions.{lengths, number}
use Rattle.msvc_grammar.specs.Reading.{read_name}
use Rattle.msvc_cursor.specs.Rows.{with_front}
use Rattle.msvc_cursor.proofs.RowSteps.{lengths_more, lengths_rejected}
use Rattle.msvc_cursor.proofs.Rejecting.{rejects_with}
use Rattle.msvc_cursor.specs.Parser.{beyond, state_of}
use Rattle.msvc_productions.proofs.types.lengths.Goals as goal

-- the new length goes after those so far
pub loop-preserved : goal.loop-preserved
loop-preserved g c =
    let items : c.push.new.self.items ≡ c.loop.lengths.items ++ c.in_ok-length.length ∷ [] =
    grind (arith, common_steps) in
    let counts : (extra : ℕ) → counting (beyond extra (state_of c.loop.parser)).count.weight c.loop.parser.rest.now (beyond extra (state_of c.loop.parser))
    ≡ Some (tt, c.count_node.new.self.rest.now, beyond extra (state_of c.count_node.new.self)) = c.in_ok-count_node.ensures.value in
    let read : (extra : ℕ) → read_name number c.count_node.new.self.rest.now (beyond extra (state_of c.count_node.new.self))
    ≡ Some (c.in_ok-length.length, c.number.new.self.rest.now, beyond extra (state_of c.number.new.self)) = search rules in
    let one_less : c.args.count - c.loop.counter ≡ suc (c.args.count - (c.loop.counter + 1)) = omega arith in (
      λ extra. ap (λ (zs : List ℤ). with_front zs
          (read_name (lengths (c.args.count - (c.loop.counter + 1))) c.number.new.self.rest.now
          (beyond extra (state_of c.number.new.self))))
          items
          ∙ sym (lengths_more c.loop.lengths.items (c.args.count - c.loop.counter) (c.args.count - (c.loop.counter + 1))
          c.loop.parser.rest.now c.count_node.new.self.rest.now c.number.new.self.rest.now (beyond extra (state_of c.loop.parser))
          (beyond extra (state_of c.count_node.new.self)) (beyond extra (state_of c.number.new.self)) c.in_ok-length.length one_less (counts extra) (read extra))
          ∙ c.loop.invariant.0 extra,
      omega (
        arith,
        c.in_ok-length.ensures.consumes.0,
        ap length c.in_ok-count_node.ensures.stays.0,
        c.loop.invariant.1,
      ),
      c.in_ok-length.ensures.consumes.1 ∙ c.in_ok-count_node.ensures.stays.1 ∙ c.loop.invariant.2,
    )

-- a length is rejected
pub returns-in_err-length-clause-value : goal.returns-in_err-length-clause-value
returns-in_err-length-clause-value g c = λ extra.
    let failed : c.from_residual-in_err-length.result ≡ Err c.in_err-length.field-0.0 = search rules in
    rw failed
    (rejects_with extra c.number.new.self.last_error.reason _ _
    (λ none. sym (c.loop.invariant.0 extra)
    ∙ lengths_rejected c.loop.lengths.items (c.args.count - c.loop.counter) c.loop.parser.rest.now
    c.count_node.new.self.rest.now (beyond extra (state_of c.loop.parser)) (beyond extra (state_of c.count_node.new.self))
    (omega arith) (c.in_ok-count_node.ensures.value extra) none)
    (c.in_err-length.ensures.value extra))
