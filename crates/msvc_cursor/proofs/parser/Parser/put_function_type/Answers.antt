use Rattle.std.proofs.Common.{ℕ, ◌≡◌, List, ap, subst, ◌∙◌}
use Rattle.std.specs.Prelude.{Some, map}
use Rattle.msvc_nodes.specs.NodeView.{type_at, type_of}
use Rattle.msvc_nodes.specs.Trees as tree
use Rattle.msvc_nodes.specs.Trees.{TypeTree, type_trees}
use Rattle.msvc_nodes.specs.declared.kinds.Convention.{Convention}
use Rattle.msvc_nodes.specs.declared.nodes.Type.TheVariants as node
use Rattle.msvc_nodes.proofs.NodeViews.{type_of-Function}
use Rattle.msvc_rules.specs.Readers.{with_value}
use Rattle.msvc_rules.specs.State.{State}
use Rattle.msvc_cursor.proofs.Nodes.{types_in-is}
use Rattle.msvc_cursor.specs.NestedList.{current}
use Rattle.msvc_cursor.specs.Parser.{Gives, beyond, state_of}
use Rattle.msvc_cursor.proofs.parser.Parser.put_function_type.Goals as goal

-- the node that is stored is the tree of its parts
pub returns-clause-value : goal.returns-clause-value
returns-clause-value g c = λ extra.
    let old = c.args.self.now in
    let mid = c.put_parts.new.self in
    let after = c.put_type.new.self in
    let f = c.in_ok-f.f in
    let stored : TypeTree = type_of (node.Function f) in
    let made : stored ≡ tree.function c.args.convention (type_trees (map type_at (current old.listed_types)))
    c.args.this_qualifiers.0 (type_of c.args.returned.now) =
    type_of-Function f
    ∙ ap (λ ts. tree.function f.now.convention ts f.now.qualifiers.0 (type_of f.now.returned.now))
    (types_in-is f.now.parameters.now)
    ∙ ap (λ q. tree.function f.now.convention (type_trees (map type_at f.now.parameters.now)) q
    (type_of f.now.returned.now)) c.in_ok-f.ensures.given.1
    ∙ ap (λ (parts : Convention × (TypeTree × List TypeTree)). tree.function parts.0 (type_trees parts.1.1)
    c.args.this_qualifiers.0 parts.1.0) c.in_ok-f.ensures.seen in
    let Is : List ℕ → State → TypeTree → Type 0 = λ left s t.
    Gives extra (λ x. (type_at x, after.rest.now, beyond extra (state_of after))) after.last_error.reason
    c.put_type.result (with_value (Some t) left (beyond extra s)) in
    subst (Is old.rest.now (state_of old)) made
    (subst (λ s. Is old.rest.now s stored) c.in_ok-f.ensures.state
    (subst (λ left. Is left (state_of mid) stored) c.in_ok-f.ensures.rest (c.put_type.ensures.value extra)))
