-- Trees that owned trees can hold: without shapes, and with no convention but those of `CallingConv`.
use Rattle.std.specs.Prelude.{◌≡◌}
use Rattle.msvc_nodes.specs.Trees.{NameTree, NameTrees, TypeTree, TypeTrees, SymbolTree, type_descriptor, template}
use Rattle.msvc_nodes.specs.Trees.{nested, shaped, no_names, names, tagged, pointing, array, function, member_function}
use Rattle.msvc_nodes.specs.Trees.{member_pointer, variable, table, vcall_thunk, shape, no_types, types}
use Rattle.msvc_nodes.specs.declared.kinds.CallingConv.{CallingConv}
use Rattle.msvc_nodes.specs.declared.kinds.Convention.{Convention}
use Rattle.msvc_tree.specs.View.{convention_of}

-- owned trees have the convention
abbrev pub IsOwnableConvention : Convention → Type 0
IsOwnableConvention convention = (owned : CallingConv) × (convention_of owned ≡ convention)

abbrev mutual
  pub IsOwnableName : NameTree → Type 0
  IsOwnableName (type_descriptor q t) = IsOwnableType t
  IsOwnableName (template n ts) = IsOwnableName n × IsOwnableTypes ts
  IsOwnableName (nested n ns t) = IsOwnableName n × IsOwnableNames ns × IsOwnableType t
  IsOwnableName (shaped row q zs bytes ns ts) = ⊥
  IsOwnableName _ = Unit {0}

  pub IsOwnableNames : NameTrees → Type 0
  IsOwnableNames no_names = Unit {0}
  IsOwnableNames (names n ns) = IsOwnableName n × IsOwnableNames ns

  pub IsOwnableType : TypeTree → Type 0
  IsOwnableType (tagged tag n ns q) = IsOwnableName n × IsOwnableNames ns
  IsOwnableType (pointing mark t q) = IsOwnableType t
  IsOwnableType (array z t q) = IsOwnableType t
  IsOwnableType (function c ts q t) = IsOwnableConvention c × IsOwnableTypes ts × IsOwnableType t
  IsOwnableType (member_function class c ts q t) = IsOwnableConvention c × IsOwnableTypes ts × IsOwnableType t
  IsOwnableType (member_pointer n ns class c ts q t) =
      IsOwnableName n × IsOwnableNames ns × IsOwnableConvention c × IsOwnableTypes ts × IsOwnableType t
  IsOwnableType (variable t kind class) = IsOwnableType t
  IsOwnableType (table k ns q) = IsOwnableNames ns
  IsOwnableType (vcall_thunk z c) = IsOwnableConvention c
  IsOwnableType (shape row q zs bytes ns ts) = ⊥
  IsOwnableType _ = Unit {0}

  pub IsOwnableTypes : TypeTrees → Type 0
  IsOwnableTypes no_types = Unit {0}
  IsOwnableTypes (types t ts) = IsOwnableType t × IsOwnableTypes ts

-- an owned tree can hold the symbol: its name, its scope and its type
abbrev pub IsOwnable : SymbolTree → Type 0
IsOwnable tree = IsOwnableName tree.name × IsOwnableNames tree.scope × IsOwnableType tree.symbol_type
