-- What the view of a node is, by the views of its parts: a list stands in it as a row.
use Rattle.std.proofs.Common.{◌≡◌, List, refl, ap, ◌∙◌}
use Rattle.std.specs.Borrow.{Bor}
use Rattle.msvc_nodes.specs.Trees as tree
use Rattle.msvc_nodes.specs.NodeView.{name_of, type_of, names_of, types_of, names_in, types_in}
use Rattle.msvc_nodes.specs.declared.flags.StorageClass.{StorageClass}
use Rattle.msvc_nodes.specs.declared.kinds.SpecialTableKind.{SpecialTableKind}
use Rattle.msvc_nodes.specs.declared.kinds.TagKind.{TagKind}
use Rattle.msvc_nodes.specs.declared.nodes.Name as n
use Rattle.msvc_nodes.specs.declared.nodes.Name.{Name, Row_of-Function-parameters-1, Row_of-Scope-names-1}
use Rattle.msvc_nodes.specs.declared.nodes.Name.{items-the_row-Function-parameters-1, items-the_row-Scope-names-1}
use Rattle.msvc_nodes.specs.declared.nodes.Name.{items_hidden-the_row-Function-parameters-1-0}
use Rattle.msvc_nodes.specs.declared.nodes.Name.{items_hidden-the_row-Scope-names-1-1}
use Rattle.msvc_nodes.specs.declared.nodes.Name.TheBlock.{hidden-the_row-Function-parameters-1-0}
use Rattle.msvc_nodes.specs.declared.nodes.Name.TheBlock.{hidden-the_row-Scope-names-1-1}
use Rattle.msvc_nodes.specs.declared.nodes.Function.{Function}
use Rattle.msvc_nodes.specs.declared.nodes.Scope.{Scope}
use Rattle.msvc_nodes.specs.declared.nodes.Shape.{Shape}
use Rattle.msvc_nodes.specs.declared.nodes.Symbol.{Symbol}
use Rattle.msvc_nodes.specs.declared.nodes.Template.{Template}
use Rattle.msvc_nodes.specs.declared.nodes.Type as t
use Rattle.msvc_nodes.specs.declared.nodes.Type.{«Type»}
use Rattle.msvc_nodes.specs.declared.nodes.TypedSymbol.{TypedSymbol}

types_of-row : {m : _} (r : Row_of-Function-parameters-1 m)
    → types_of r ≡ types_in (items-the_row-Function-parameters-1 m r)
unfolding types_of
types_of-row n.end_of-Function-parameters-1 = refl
types_of-row (n.more_of-Function-parameters-1 p t r) = ap (tree.types (type_of t)) (types_of-row r)

names_of-row : {m : _} (r : Row_of-Scope-names-1 m) → names_of r ≡ names_in (items-the_row-Scope-names-1 m r)
unfolding names_of
names_of-row n.end_of-Scope-names-1 = refl
names_of-row (n.more_of-Scope-names-1 p n r) = ap (tree.names (name_of n)) (names_of-row r)

-- the row of a list of types is the list
pub types_of-hidden : (p : List (Bor «Type»)) → types_of (hidden-the_row-Function-parameters-1-0 p) ≡ types_in p
types_of-hidden p =
    types_of-row (hidden-the_row-Function-parameters-1-0 p)
    ∙ ap types_in (items_hidden-the_row-Function-parameters-1-0 p)

-- the row of a scope is the scope
pub names_of-hidden : (s : List (Bor Name)) → names_of (hidden-the_row-Scope-names-1-1 s) ≡ names_in s
names_of-hidden s =
    names_of-row (hidden-the_row-Scope-names-1-1 s) ∙ ap names_in (items_hidden-the_row-Scope-names-1-1 s)

pub name_of-Template : (b : Bor Template)
    → name_of (n.Template b) ≡ tree.template (name_of b.now.name.now) (types_in b.now.arguments.now)
unfolding name_of types_of
name_of-Template b = ap (tree.template (name_of b.now.name.now)) (types_of-hidden b.now.arguments.now)

pub name_of-Nested : (b : Bor TypedSymbol)
    → name_of (n.Nested b)
    ≡ tree.nested (name_of b.now.symbol.name.now) (names_in b.now.symbol.scope.now) (type_of b.now.symbol_type.now)
unfolding name_of names_of type_of
name_of-Nested b =
    ap (λ ns. tree.nested (name_of b.now.symbol.name.now) ns (type_of b.now.symbol_type.now))
    (names_of-hidden b.now.symbol.scope.now)

pub type_of-Tagged : (k : TagKind) (q : StorageClass) (b : Bor Symbol)
    → type_of (t.Tagged k q b) ≡ tree.tagged k (name_of b.now.name.now) (names_in b.now.scope.now) q.0
unfolding type_of name_of names_of
type_of-Tagged k q b = ap (λ ns. tree.tagged k (name_of b.now.name.now) ns q.0) (names_of-hidden b.now.scope.now)

pub type_of-Function : (b : Bor Function)
    → type_of (t.Function b)
    ≡ tree.function b.now.convention (types_in b.now.parameters.now) b.now.qualifiers.0 (type_of b.now.returned.now)
unfolding type_of types_of
type_of-Function b =
    ap (λ x. tree.function b.now.convention x b.now.qualifiers.0 (type_of b.now.returned.now))
    (types_of-hidden b.now.parameters.now)

pub type_of-MemberFunction : (b : Bor Function)
    → type_of (t.MemberFunction b)
    ≡ tree.member_function b.now.class.0 b.now.convention (types_in b.now.parameters.now) b.now.qualifiers.0
    (type_of b.now.returned.now)
unfolding type_of types_of
type_of-MemberFunction b =
    ap (λ x. tree.member_function b.now.class.0 b.now.convention x b.now.qualifiers.0 (type_of b.now.returned.now))
    (types_of-hidden b.now.parameters.now)

pub type_of-MemberPointer : (s : Bor Symbol) (b : Bor Function)
    → type_of (t.MemberPointer s b)
    ≡ tree.member_pointer (name_of s.now.name.now) (names_in s.now.scope.now) b.now.class.0 b.now.convention
    (types_in b.now.parameters.now) b.now.qualifiers.0 (type_of b.now.returned.now)
unfolding type_of name_of names_of types_of
type_of-MemberPointer s b =
    ap (λ x. tree.member_pointer (name_of s.now.name.now) x b.now.class.0 b.now.convention
    (types_of (hidden-the_row-Function-parameters-1-0 b.now.parameters.now)) b.now.qualifiers.0
    (type_of b.now.returned.now))
    (names_of-hidden s.now.scope.now)
    ∙ ap (λ x. tree.member_pointer (name_of s.now.name.now) (names_in s.now.scope.now) b.now.class.0 b.now.convention
    x b.now.qualifiers.0 (type_of b.now.returned.now)) (types_of-hidden b.now.parameters.now)

pub type_of-Table : (k : SpecialTableKind) (q : StorageClass) (b : Bor Scope)
    → type_of (t.Table k q b) ≡ tree.table k (names_in b.now.names.now) q.0
unfolding type_of names_of
type_of-Table k q b = ap (λ ns. tree.table k ns q.0) (names_of-hidden b.now.names.now)

pub name_of-Shape : (b : Bor Shape)
    → name_of (n.Shape b)
    ≡ tree.shaped b.now.row b.now.qualifiers.0 b.now.numbers.now b.now.text.now (names_in b.now.names.now)
    (types_in b.now.types.now)
unfolding name_of names_of types_of
name_of-Shape b =
    ap (λ x. tree.shaped b.now.row b.now.qualifiers.0 b.now.numbers.now b.now.text.now x
    (types_of (hidden-the_row-Function-parameters-1-0 b.now.types.now)))
    (names_of-hidden b.now.names.now)
    ∙ ap (λ x. tree.shaped b.now.row b.now.qualifiers.0 b.now.numbers.now b.now.text.now
    (names_in b.now.names.now) x) (types_of-hidden b.now.types.now)

pub type_of-Shape : (b : Bor Shape)
    → type_of (t.Shape b)
    ≡ tree.shape b.now.row b.now.qualifiers.0 b.now.numbers.now b.now.text.now (names_in b.now.names.now)
    (types_in b.now.types.now)
unfolding type_of names_of types_of
type_of-Shape b =
    ap (λ x. tree.shape b.now.row b.now.qualifiers.0 b.now.numbers.now b.now.text.now x
    (types_of (hidden-the_row-Function-parameters-1-0 b.now.types.now)))
    (names_of-hidden b.now.names.now)
    ∙ ap (λ x. tree.shape b.now.row b.now.qualifiers.0 b.now.numbers.now b.now.text.now
    (names_in b.now.names.now) x) (types_of-hidden b.now.types.now)

pub ruleset views = (
  types_of-hidden,
  names_of-hidden,
  name_of-Template,
  name_of-Nested,
  type_of-Tagged,
  type_of-Function,
  type_of-MemberFunction,
  type_of-MemberPointer,
  type_of-Table,
  name_of-Shape,
  type_of-Shape,
)
