-- How many nodes a tree has. Each name and each type in it counts for the first argument: one, or nothing where there
-- is no limit.
use Rattle.std.specs.Prelude.{ℕ, ◌+◌}
use Rattle.msvc_nodes.specs.Trees.{NameTree, NameTrees, SymbolTree, TypeTree, TypeTrees, spelled, operator, guard}
use Rattle.msvc_nodes.specs.Trees.{type_descriptor, base_class_descriptor, template, discriminator, nested, anonymous}
use Rattle.msvc_nodes.specs.Trees.{no_names, names, plain, base, tagged, numbered, constant_string, pointing, array}
use Rattle.msvc_nodes.specs.Trees.{function, member_function, member_pointer, variable, table, vcall_thunk, no_types}
use Rattle.msvc_nodes.specs.Trees.{types, shape, shaped}

abbrev mutual
  pub name_count : ℕ → NameTree → ℕ
  name_count w (spelled how text) = w
  name_count w (operator o) = w
  name_count w (guard kind index) = w
  name_count w (type_descriptor q t) = w + type_count w t
  name_count w (base_class_descriptor a b c d) = w
  name_count w (template n ts) = w + (name_count w n + types_count w ts)
  name_count w (discriminator z) = w
  name_count w (nested n ns t) = w + ((name_count w n + names_count w ns) + type_count w t)
  name_count w (anonymous digits) = w
  name_count w (shaped row q zs bytes ns ts) = w + (names_count w ns + types_count w ts)

  pub names_count : ℕ → NameTrees → ℕ
  names_count w no_names = 0
  names_count w (names n ns) = name_count w n + names_count w ns

  pub type_count : ℕ → TypeTree → ℕ
  type_count w (plain kind) = w
  type_count w (base b q) = w
  type_count w (tagged tag n ns q) = w + (name_count w n + names_count w ns)
  type_count w (numbered kind z) = w
  type_count w (constant_string cs) = w
  type_count w (pointing mark t q) = w + type_count w t
  type_count w (array z t q) = w + type_count w t
  type_count w (function c ts q t) = w + (type_count w t + types_count w ts)
  type_count w (member_function class c ts q t) = w + (type_count w t + types_count w ts)
  type_count w (member_pointer n ns class c ts q t) =
      w + ((name_count w n + names_count w ns) + (type_count w t + types_count w ts))
  type_count w (variable t kind q) = w + type_count w t
  type_count w (table kind ns q) = w + names_count w ns
  type_count w (vcall_thunk z c) = w
  type_count w (shape row q zs bytes ns ts) = w + (names_count w ns + types_count w ts)

  pub types_count : ℕ → TypeTrees → ℕ
  types_count w no_types = 0
  types_count w (types t ts) = type_count w t + types_count w ts

abbrev pub symbol_count : ℕ → SymbolTree → ℕ
symbol_count w s = (name_count w s.name + names_count w s.scope) + type_count w s.symbol_type

-- how many nodes a tree has
abbrev pub node_count : SymbolTree → ℕ
node_count s = symbol_count 1 s
