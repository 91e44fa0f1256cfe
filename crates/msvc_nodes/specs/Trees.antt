-- The trees that definitions and contracts speak of: those of the program, without where they lie in memory.
-- An integer is a number, a set is its bits, a name or a text is its bytes. Variants with the same fields stand
-- under one constructor, which says by an enumeration which one it is.
use Rattle.std.specs.Prelude.{ℕ, ℤ, List, [], ◌∷◌, Option}
use Rattle.msvc_nodes.specs.declared.kinds.PrimitiveKind.{PrimitiveKind}
use Rattle.msvc_nodes.specs.declared.kinds.Guard.{Guard}
use Rattle.msvc_nodes.specs.declared.kinds.PointerAffinity.{PointerAffinity}
use Rattle.msvc_nodes.specs.declared.kinds.NumberedType.{NumberedType}
use Rattle.msvc_nodes.specs.declared.kinds.PlainOperator.{PlainOperator}
use Rattle.msvc_nodes.specs.declared.kinds.PlainType.{PlainType}
use Rattle.msvc_nodes.specs.declared.kinds.PlainType.TheVariants as plain_kind
use Rattle.msvc_nodes.specs.declared.kinds.Spelling.{Spelling}
use Rattle.msvc_nodes.specs.declared.kinds.Spelling.TheVariants as spelling_kind
use Rattle.msvc_nodes.specs.declared.kinds.SpecialTableKind.{SpecialTableKind}
use Rattle.msvc_nodes.specs.declared.kinds.TagKind.{TagKind}
use Rattle.msvc_nodes.specs.declared.kinds.Convention.{Convention}
use Rattle.msvc_nodes.specs.declared.kinds.VarStorageKind.{VarStorageKind}
use Rattle.msvc_nodes.specs.declared.nodes.Number.{Number}

mutual
  pub data NameTree : Type 0 where
    spelled : Spelling → List ℕ → NameTree
    operator : PlainOperator → NameTree
    guard : Guard → Option ℕ → NameTree
    -- the qualifiers that were read for the type, and the type
    type_descriptor : ℕ → TypeTree → NameTree
    base_class_descriptor : ℤ → ℤ → ℤ → ℤ → NameTree
    template : NameTree → TypeTrees → NameTree
    discriminator : ℤ → NameTree
    -- a whole symbol: its name, its scope and its type
    nested : NameTree → NameTrees → TypeTree → NameTree
    anonymous : Option (List ℕ) → NameTree
    -- a row of the table of shapes, its qualifiers, numbers, bytes, names and types
    shaped : ℕ → ℕ → List Number → List ℕ → NameTrees → TypeTrees → NameTree
    deriving Discrete as NameTree-discrete

  -- the names of a scope, the innermost first
  pub data NameTrees : Type 0 where
    no_names : NameTrees
    names : NameTree → NameTrees → NameTrees
    deriving Discrete as NameTrees-discrete

  pub data TypeTree : Type 0 where
    plain : PlainType → TypeTree
    base : PrimitiveKind → ℕ → TypeTree
    -- name, scope, qualifiers
    tagged : TagKind → NameTree → NameTrees → ℕ → TypeTree
    numbered : NumberedType → ℤ → TypeTree
    constant_string : List ℕ → TypeTree
    pointing : PointerAffinity → TypeTree → ℕ → TypeTree
    -- the length of the outermost level, the elements, the qualifiers of the level
    array : ℤ → TypeTree → ℕ → TypeTree
    -- convention, parameters, the function's qualifiers, what it returns
    function : Convention → TypeTrees → ℕ → TypeTree → TypeTree
    -- the class of the member function, its convention, its parameters, its qualifiers, what it returns
    member_function : ℕ → Convention → TypeTrees → ℕ → TypeTree → TypeTree
    -- the name and the scope of the class, then the class of the member function, its convention, its parameters, its
    -- qualifiers, what it returns
    member_pointer : NameTree → NameTrees → ℕ → Convention → TypeTrees → ℕ → TypeTree → TypeTree
    -- the type, who may name the variable and where it lives, the storage class after the type
    variable : TypeTree → VarStorageKind → ℕ → TypeTree
    -- what the table is of, the scope of the base that it is for, the qualifiers
    table : SpecialTableKind → NameTrees → ℕ → TypeTree
    vcall_thunk : ℤ → Convention → TypeTree
    -- a row of the table of shapes, its qualifiers, numbers, bytes, names and types
    shape : ℕ → ℕ → List Number → List ℕ → NameTrees → TypeTrees → TypeTree
    deriving Discrete as TypeTree-discrete

  pub data TypeTrees : Type 0 where
    no_types : TypeTrees
    types : TypeTree → TypeTrees → TypeTrees
    deriving Discrete as TypeTrees-discrete

-- a whole symbol: its name, the names of its scope, the innermost first, and its type
pub record SymbolTree : Type 0 where
  pub name : NameTree
  pub scope : NameTrees
  pub symbol_type : TypeTree

-- the names of a list, in its order, as a tree
abbrev pub name_trees : List NameTree → NameTrees
name_trees [] = no_names
name_trees (n ∷ ns) = names n (name_trees ns)

-- the types of a list, in its order, as a tree
abbrev pub type_trees : List TypeTree → TypeTrees
type_trees [] = no_types
type_trees (t ∷ ts) = types t (type_trees ts)

-- the symbol that is a hash and nothing else
abbrev pub md5_symbol : List ℕ → SymbolTree
md5_symbol digits =
    record { name = spelled spelling_kind.Md5 digits; scope = no_names; symbol_type = plain plain_kind.None }
