-- The work of printing a tree, as a number that falls with each step of the printer. No public contract speaks of these
-- weights.
use Rattle.std.specs.Prelude.{ℕ, ◌+◌}
use Rattle.msvc_nodes.specs.Trees.{NameTree, NameTrees, TypeTree, TypeTrees, type_descriptor}
use Rattle.msvc_nodes.specs.Trees.{template, nested, no_names, names, no_types, types, tagged, pointing, array}
use Rattle.msvc_nodes.specs.Trees.{function, member_function, member_pointer, variable, table, shape, shaped}
use Rattle.msvc_print.specs.Shapes.{slots_weight}
use Rattle.msvc_shapes.specs.Layouts.{slots}
use Rattle.msvc_shapes.specs.declared.layouts.Side.TheVariants as side

-- the weight of a name in its scope, by the weights of the name, the scope and the type of the symbol
abbrev pub scoped_weight : ℕ → ℕ → ℕ → ℕ
scoped_weight name scope type = 6 + name + scope + scope + type + type

-- the weight of a symbol, whose type is printed on both sides of its name
abbrev pub typed_symbol_weight : ℕ → ℕ → ℕ
typed_symbol_weight symbol type = 3 + symbol + type + type

unfoldable mutual
  -- the weight of a name
  pub name_weight : NameTree → ℕ
  name_weight (template n ts) = 3 + name_weight n + types_weight ts
  name_weight (nested n ns t) = 3 + typed_symbol_weight
      (scoped_weight (name_weight n) (scope_weight ns) (type_weight t)) (type_weight t)
  name_weight (type_descriptor set t) = 3 + type_weight t
  name_weight (shaped row set zs bytes ns ts) =
      slots_weight (slots row side.Left) (scope_weight ns + types_weight ts)
  name_weight _ = 1

  -- the weight of the names of a scope
  pub scope_weight : NameTrees → ℕ
  scope_weight no_names = 1
  scope_weight (names n ns) = 3 + name_weight n + scope_weight ns

  -- the weight of one side of a type
  pub type_weight : TypeTree → ℕ
  type_weight (tagged tag n scope set) = 3 + scoped_weight (name_weight n) (scope_weight scope) 1
  type_weight (pointing m t set) = 3 + type_weight t
  type_weight (array n t set) = 3 + type_weight t
  type_weight (function convention ts set t) = 3 + types_weight ts + type_weight t
  type_weight (member_function class convention ts set t) = 3 + types_weight ts + type_weight t
  type_weight (member_pointer n scope class convention ts set t) =
      6 + types_weight ts + type_weight t + scoped_weight (name_weight n) (scope_weight scope) 1
  type_weight (variable t kind set) = 3 + type_weight t
  type_weight (table k scope set) = 3 + scope_weight scope
  type_weight (shape row set zs bytes ns ts) =
      slots_weight (slots row side.Left) (scope_weight ns + types_weight ts)
      + slots_weight (slots row side.Right) (scope_weight ns + types_weight ts) + types_weight ts
  type_weight _ = 1

  -- the weight of a list of types, each of which is printed on both sides of no name
  pub types_weight : TypeTrees → ℕ
  types_weight no_types = 1
  types_weight (types t ts) = 3 + type_weight t + type_weight t + types_weight ts

-- the weight of the name of a symbol of type `t`, in the scope of the symbol
abbrev pub symbol_weight : NameTree → NameTrees → TypeTree → ℕ
symbol_weight n scope t = scoped_weight (name_weight n) (scope_weight scope) (type_weight t)
