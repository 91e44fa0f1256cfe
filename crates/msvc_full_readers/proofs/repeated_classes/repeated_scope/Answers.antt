use Rattle.std.proofs.Common.{rules, ℕ, ◌≡◌, ◌<◌, None, Some, sym, ap, ◌∙◌, arith, length}
use Rattle.std.specs.Prelude.{codes}
use Rattle.msvc_rules.specs.Rules.{after}
use Rattle.msvc_rules.specs.State.{State}
use Rattle.msvc_full_grammar.specs.Productions.{repeated_name}
use Rattle.msvc_full_grammar.specs.Reading.{read_name}
use Rattle.msvc_cursor.specs.Parser.{beyond, state_of}
use Rattle.msvc_full_readers.proofs.EndSteps.{scope_repeated, scope_repeats}
use Rattle.msvc_full_readers.proofs.repeated_classes.repeated_scope.Goals as goal

-- no name more is read
pub returns-then-consume-clause-value : goal.returns-then-consume-clause-value
returns-then-consume-clause-value g c = λ extra.
    let end = c.consume.new.self in
    let ends : after (codes "@") c.names.parser.rest.now ≡ Some end.rest.now = search rules in
    let state : beyond extra (state_of c.names.parser) ≡ beyond extra (state_of end) =
    ap (beyond extra) (sym c.consume.ensures.state) in
    sym (c.names.invariant.0 extra)
    ∙ scope_repeated c.names.parser.rest.now end.rest.now (beyond extra (state_of c.names.parser)) ends
    ∙ ap (λ (s : State). Some (tt {0}, end.rest.now, s)) state

-- one name more is read
pub names-preserved : goal.names-preserved
names-preserved g c =
    let none : after (codes "@") c.names.parser.rest.now ≡ None = search rules in
    let read : (extra : ℕ) → read_name repeated_name c.names.parser.rest.now (beyond extra (state_of c.names.parser))
    ≡ Some (tt, c.repeated_name.new.parser.rest.now, beyond extra (state_of c.repeated_name.new.parser)) = search rules in
    let shorter : length c.repeated_name.new.parser.rest.now < length c.names.parser.rest.now = search rules in (
      λ extra. sym (scope_repeats c.names.parser.rest.now c.repeated_name.new.parser.rest.now (beyond extra (state_of c.names.parser))
          (beyond extra (state_of c.repeated_name.new.parser)) none (read extra))
          ∙ c.names.invariant.0 extra,
      omega (arith, shorter, c.names.invariant.1),
      c.in_ok-repeated_name.ensures.consumes.1 ∙ c.consume.ensures.kept ∙ c.names.invariant.2,
    )
