use Rattle.std.proofs.Common.{rules, ◌≡◌, Err, subst, sym}
use Rattle.msvc_nodes.specs.NodeView.{type_at, type_of}
use Rattle.msvc_nodes.specs.Trees.{TypeTree}
use Rattle.msvc_rules.specs.Readers.{Found}
use Rattle.msvc_grammar.specs.Grammar.{string_length}
use Rattle.msvc_cursor.proofs.Rejecting.{rejects_with}
use Rattle.msvc_cursor.proofs.StringSteps.{encoded_string_parts, encoded_string_rejected}
use Rattle.msvc_cursor.specs.Parser.{Gives, beyond, state_of}
use Rattle.msvc_cursor.proofs.parser.Parser.encoded_string.Goals as goal

-- a character is rejected
pub returns-in_err-text-clause-value : goal.returns-in_err-text-clause-value
returns-in_err-text-clause-value g c = λ extra.
    let many : c.string_length.result ≡ string_length c.in_ok-size.size c.in_ok-length.length = search rules in
    let failed : c.from_residual-in_err-text.result ≡ Err c.in_err-text.field-0.0 = search rules in
    rw failed
    (rejects_with extra c.characters.new.self.last_error.reason _ _
    (encoded_string_rejected _ _ _ _ _ _ _ _ _ _ _ _ _ _ (c.in_ok-count_node.ensures.value extra)
    (c.in_ok-size.ensures.value extra) (c.in_ok-length.ensures.value extra) (c.in_ok-number.ensures.value extra) many)
    (c.in_err-text.ensures.value extra))

-- all parts are read
pub returns-clause-value : goal.returns-clause-value
unfolding type_of
returns-clause-value g c = λ extra.
    let after = c.put_type.new.self in
    let Is : Found TypeTree → Type 0 = λ found.
    Gives extra (λ x. (type_at x, after.rest.now, beyond extra (state_of after))) after.last_error.reason c.put_type.result found in
    let many : c.string_length.result ≡ string_length c.in_ok-size.size c.in_ok-length.length =
    search rules in
    let same : c.into_bump_slice.result.now ≡ c.in_ok-text.text.items = search rules in
    subst Is
    (sym (encoded_string_parts _ _ _ _ _ _ _ _ _ _ _ _ _ _ _ _ _ (c.in_ok-count_node.ensures.value extra)
    (c.in_ok-size.ensures.value extra) (c.in_ok-length.ensures.value extra) (c.in_ok-number.ensures.value extra) many
    (c.in_ok-text.ensures.value extra)))
    (rw same at (c.put_type.ensures.value extra))
