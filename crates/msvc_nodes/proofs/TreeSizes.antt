-- How large a tree is: the bound on how deep a function on trees goes.
use Rattle.std.specs.Prelude.{ℕ, suc, ◌+◌}
use Rattle.msvc_nodes.specs.Trees.{NameTree, NameTrees, TypeTree, TypeTrees, type_descriptor, template, nested}
use Rattle.msvc_nodes.specs.Trees.{no_names, names, tagged, pointing, array, function, member_function, member_pointer}
use Rattle.msvc_nodes.specs.Trees.{variable, table, no_types, types, shape, shaped}

abbrev mutual
  pub name_size : NameTree → ℕ
  name_size (type_descriptor q t) = suc (type_size t)
  name_size (template n ts) = suc (name_size n + types_size ts)
  name_size (nested n ns t) = suc (name_size n + names_size ns + type_size t)
  name_size (shaped row q zs bytes ns ts) = suc (names_size ns + types_size ts)
  name_size _ = 1

  pub names_size : NameTrees → ℕ
  names_size no_names = 1
  names_size (names n ns) = suc (name_size n + names_size ns)

  pub type_size : TypeTree → ℕ
  type_size (tagged tag n ns q) = suc (name_size n + names_size ns)
  type_size (pointing m t q) = suc (type_size t)
  type_size (array n t q) = suc (type_size t)
  type_size (function c ts q t) = suc (types_size ts + type_size t)
  type_size (member_function f c ts q t) = suc (types_size ts + type_size t)
  type_size (member_pointer n ns f c ts q t) = suc (name_size n + names_size ns + types_size ts + type_size t)
  type_size (variable t k q) = suc (type_size t)
  type_size (table k ns q) = suc (names_size ns)
  type_size (shape row q zs bytes ns ts) = suc (names_size ns + types_size ts)
  type_size _ = 1

  pub types_size : TypeTrees → ℕ
  types_size no_types = 1
  types_size (types t ts) = suc (type_size t + types_size ts)
