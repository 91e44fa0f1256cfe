-- A fact P about every name that is spelled in a tree: a source name, the name of an interface, a hash, or the bytes of
-- a shape.
use Rattle.std.specs.Prelude.{ℕ, List}
use Rattle.msvc_nodes.specs.Trees.{NameTree, NameTrees, TypeTree, TypeTrees, SymbolTree, spelled, operator, guard}
use Rattle.msvc_nodes.specs.Trees.{type_descriptor, base_class_descriptor, template, discriminator, nested, anonymous}
use Rattle.msvc_nodes.specs.Trees.{no_names, names, plain, base, tagged, numbered, constant_string, pointing, array}
use Rattle.msvc_nodes.specs.Trees.{function, member_function, member_pointer, variable, table, vcall_thunk, no_types}
use Rattle.msvc_nodes.specs.Trees.{types, shape, shaped}

abbrev mutual
  -- P holds of every name that is spelled in a name
  pub EachNameOfName : (List ℕ → Type 0) → NameTree → Type 0
  EachNameOfName P (spelled how bytes) = P bytes
  EachNameOfName P (operator o) = Unit {0}
  EachNameOfName P (guard g n) = Unit {0}
  EachNameOfName P (type_descriptor q t) = EachNameOfType P t
  EachNameOfName P (base_class_descriptor a b c d) = Unit {0}
  EachNameOfName P (template n ts) = EachNameOfName P n × EachNameOfTypes P ts
  EachNameOfName P (discriminator z) = Unit {0}
  EachNameOfName P (nested n ns t) = EachNameOfName P n × EachNameOfNames P ns × EachNameOfType P t
  EachNameOfName P (anonymous digits) = Unit {0}
  EachNameOfName P (shaped row q zs bytes ns ts) = P bytes × EachNameOfNames P ns × EachNameOfTypes P ts

  -- P holds of every name that is spelled in the names of a scope
  pub EachNameOfNames : (List ℕ → Type 0) → NameTrees → Type 0
  EachNameOfNames P no_names = Unit {0}
  EachNameOfNames P (names n ns) = EachNameOfName P n × EachNameOfNames P ns

  -- P holds of every name that is spelled in a type
  pub EachNameOfType : (List ℕ → Type 0) → TypeTree → Type 0
  EachNameOfType P (plain p) = Unit {0}
  EachNameOfType P (base b q) = Unit {0}
  EachNameOfType P (tagged tag n ns q) = EachNameOfName P n × EachNameOfNames P ns
  EachNameOfType P (numbered k z) = Unit {0}
  EachNameOfType P (constant_string bytes) = Unit {0}
  EachNameOfType P (pointing mark t q) = EachNameOfType P t
  EachNameOfType P (array z t q) = EachNameOfType P t
  EachNameOfType P (function c ts q t) = EachNameOfTypes P ts × EachNameOfType P t
  EachNameOfType P (member_function class c ts q t) = EachNameOfTypes P ts × EachNameOfType P t
  EachNameOfType P (member_pointer n ns class c ts q t) =
      EachNameOfName P n × EachNameOfNames P ns × EachNameOfTypes P ts × EachNameOfType P t
  EachNameOfType P (variable t kind class) = EachNameOfType P t
  EachNameOfType P (table k ns q) = EachNameOfNames P ns
  EachNameOfType P (vcall_thunk z c) = Unit {0}
  EachNameOfType P (shape row q zs bytes ns ts) = P bytes × EachNameOfNames P ns × EachNameOfTypes P ts

  -- P holds of every name that is spelled in a list of types
  pub EachNameOfTypes : (List ℕ → Type 0) → TypeTrees → Type 0
  EachNameOfTypes P no_types = Unit {0}
  EachNameOfTypes P (types t ts) = EachNameOfType P t × EachNameOfTypes P ts

-- P holds of every name that is spelled in a symbol, in its name, its scope or its type
abbrev pub EachName : (List ℕ → Type 0) → SymbolTree → Type 0
EachName P tree =
    EachNameOfName P tree.name × EachNameOfNames P tree.scope × EachNameOfType P tree.symbol_type
