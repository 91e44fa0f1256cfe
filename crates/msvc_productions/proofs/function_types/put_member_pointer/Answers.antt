use Rattle.std.proofs.Common.{◌∙◌, ap, subst}
use Rattle.std.specs.Prelude.{Some, map}
use Rattle.msvc_nodes.specs.NodeView.{name_at, name_of, type_at, type_of, types_in}
use Rattle.msvc_nodes.specs.Trees as tree
use Rattle.msvc_nodes.specs.Trees.{TypeTree, name_trees}
use Rattle.msvc_nodes.proofs.NodeViews.{type_of-MemberPointer}
use Rattle.msvc_rules.specs.Readers.{with_value}
use Rattle.msvc_cursor.proofs.Nodes.{names_in-is, types_in-is}
use Rattle.msvc_cursor.specs.Parser.{Gives, beyond, state_of}
use Rattle.msvc_productions.proofs.function_types.put_member_pointer.Goals as goal

-- the node that is stored is the tree of its parts
pub returns-clause-value : goal.returns-clause-value
returns-clause-value g c = λ extra.
    let before = c.args.parser.now in
    let after = c.put_type.new.self in
    let symbol = c.args.symbol.now in
    let f = c.args.f.now in
    let Is : TypeTree → Type 0 = λ t.
    Gives extra (λ x. (type_at x, after.rest.now, beyond extra (state_of after))) after.last_error.reason
    c.put_type.result (with_value (Some t) before.rest.now (beyond extra (state_of before))) in
    subst Is
    (type_of-MemberPointer c.args.symbol c.args.f
    ∙ ap (λ ns. tree.member_pointer (name_of symbol.name.now) ns f.class.0 f.convention (types_in f.parameters.now)
    f.qualifiers.0 (type_of f.returned.now)) (names_in-is symbol.scope.now)
    ∙ ap (λ ts. tree.member_pointer (name_of symbol.name.now) (name_trees (map name_at symbol.scope.now)) f.class.0
    f.convention ts f.qualifiers.0 (type_of f.returned.now)) (types_in-is f.parameters.now))
    (c.put_type.ensures.value extra)
