-- Each owned tree is seen as a tree that owned trees can hold; and what can be held has parts that can.
use Rattle.std.proofs.Common.{ℕ, zero, suc, ◌<◌, List, [], ◌∷◌, length, get_or, refl, arith}
use Rattle.std.specs.Borrow.{Bor}
use Rattle.msvc_nodes.specs.NodeView.{name_at, type_at}
use Rattle.msvc_nodes.specs.NodeView.{names_in as node_names, types_in as node_types}
use Rattle.msvc_nodes.specs.declared.kinds.CallingConv.{CallingConv}
use Rattle.msvc_nodes.specs.declared.nodes.Name.{Name as NodeName}
use Rattle.msvc_nodes.specs.declared.nodes.Type.{«Type» as NodeType}
use Rattle.msvc_tree.specs.Ownable.{IsOwnable, IsOwnableConvention, IsOwnableName, IsOwnableNames, IsOwnableType}
use Rattle.msvc_tree.specs.Ownable.{IsOwnableTypes}
use Rattle.msvc_tree.specs.View.{convention_of, name_of, operator_of, type_of, names_of, types_of, names_in, types_in}
use Rattle.msvc_tree.specs.View.{tree_of}
use Rattle.msvc_tree.specs.declared.tree.Name as code
use Rattle.msvc_tree.specs.declared.tree.Name.{Name, Row_of-Type, Row_of-Name, end_of-Type, more_of-Type, end_of-Name}
use Rattle.msvc_tree.specs.declared.tree.Name.{more_of-Name}
use Rattle.msvc_tree.specs.declared.tree.Operator as code_operator
use Rattle.msvc_tree.specs.declared.tree.ParseResult.{ParseResult}
use Rattle.msvc_tree.specs.declared.tree.Type as code_type

convention-ownable : (c : CallingConv) → IsOwnableConvention (convention_of c)
convention-ownable c = (c, refl)

mutual
  unfolding name_of operator_of type_of names_of types_of

  pub name-ownable : (n : Name) → IsOwnableName (name_of n)
  name-ownable (code.Operator o) = operator-ownable o
  name-ownable (code.Template' p n s r) = (name-ownable n, row_types-ownable r)
  name-ownable (code.ParsedName' p n s r t) = (name-ownable n, row_names-ownable r, type-ownable t)
  name-ownable _ = tt

  operator-ownable : (o : code_operator.Operator) → IsOwnableName (operator_of o)
  operator-ownable (code_operator.RTTITypeDescriptor' q p t) = type-ownable t
  operator-ownable _ = tt

  pub type-ownable : (t : code_type.«Type») → IsOwnableType (type_of t)
  type-ownable (code_type.Class' n s r q) = (name-ownable n, row_names-ownable r)
  type-ownable (code_type.Struct' n s r q) = (name-ownable n, row_names-ownable r)
  type-ownable (code_type.Union' n s r q) = (name-ownable n, row_names-ownable r)
  type-ownable (code_type.Enum' n s r q) = (name-ownable n, row_names-ownable r)
  type-ownable (code_type.Alias' n s r q) = (name-ownable n, row_names-ownable r)
  type-ownable (code_type.Ptr' p t q) = type-ownable t
  type-ownable (code_type.Ref' p t q) = type-ownable t
  type-ownable (code_type.RValueRef' p t q) = type-ownable t
  type-ownable (code_type.Array' n p t q) = type-ownable t
  type-ownable (code_type.NonMemberFunction' c s r w p t) =
      (convention-ownable c, row_types-ownable r, type-ownable t)
  type-ownable (code_type.MemberFunction' f c s r w p t) =
      (convention-ownable c, row_types-ownable r, type-ownable t)
  type-ownable (code_type.MemberFunctionPointer' n s r f c s' r' w p t) =
      (name-ownable n, row_names-ownable r, convention-ownable c, row_types-ownable r', type-ownable t)
  type-ownable (code_type.Var' p t k q) = type-ownable t
  type-ownable (code_type.CXXVFTable' s r q) = row_names-ownable r
  type-ownable (code_type.CXXVBTable' s r q) = row_names-ownable r
  type-ownable (code_type.VCallThunk n c) = convention-ownable c
  type-ownable _ = tt

  row_names-ownable : {m : _} (r : Row_of-Name m) → IsOwnableNames (names_of r)
  row_names-ownable end_of-Name = tt
  row_names-ownable (more_of-Name n r) = (name-ownable n, row_names-ownable r)

  row_types-ownable : {m : _} (r : Row_of-Type m) → IsOwnableTypes (types_of r)
  row_types-ownable end_of-Type = tt
  row_types-ownable (more_of-Type t r) = (type-ownable t, row_types-ownable r)

pub names-ownable : (ns : List Name) → IsOwnableNames (names_in ns)
names-ownable [] = tt
names-ownable (n ∷ ns) = (name-ownable n, names-ownable ns)

pub types-ownable : (ts : List code_type.«Type») → IsOwnableTypes (types_in ts)
types-ownable [] = tt
types-ownable (t ∷ ts) = (type-ownable t, types-ownable ts)

pub tree-ownable : (r : ParseResult) → IsOwnable (tree_of r)
tree-ownable r =
    (name-ownable r.symbol.name, names-ownable r.symbol.scope.names.items, type-ownable r.symbol_type)

-- an element of a list that can be held
pub names-ownable_at : (xs : List (Bor NodeName)) (d : Bor NodeName) (k : ℕ) → k < length xs
    → IsOwnableNames (node_names xs) → IsOwnableName (name_at (get_or xs k d))
names-ownable_at [] d k h o = absurd (omega arith)
names-ownable_at (x ∷ xs) d zero h o = o.0
names-ownable_at (x ∷ xs) d (suc k) h o = names-ownable_at xs d k (omega arith) o.1

pub types-ownable_at : (xs : List (Bor NodeType)) (d : Bor NodeType) (k : ℕ) → k < length xs
    → IsOwnableTypes (node_types xs) → IsOwnableType (type_at (get_or xs k d))
types-ownable_at [] d k h o = absurd (omega arith)
types-ownable_at (x ∷ xs) d zero h o = o.0
types-ownable_at (x ∷ xs) d (suc k) h o = types-ownable_at xs d k (omega arith) o.1

-- copies ask this of the trees that they are made of
pub ruleset owned = (name-ownable, names-ownable, type-ownable, types-ownable, tree-ownable)
