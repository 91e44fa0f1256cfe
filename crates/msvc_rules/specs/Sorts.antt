-- What the rules of the grammar read: names of the sorts of values, and the values of each. The names are data, so
-- that a law of all rules is one induction.
use Rattle.std.specs.Prelude.{ℕ, ℤ, List, Option}
use Rattle.msvc_nodes.specs.declared.kinds.Convention.{Convention}
use Rattle.msvc_nodes.specs.declared.kinds.VarStorageKind.{VarStorageKind}
use Rattle.msvc_nodes.specs.declared.kinds.PrimitiveKind.{PrimitiveKind}
use Rattle.msvc_nodes.specs.declared.kinds.PointerAffinity.{PointerAffinity}
use Rattle.msvc_nodes.specs.declared.kinds.SpecialTableKind.{SpecialTableKind}
use Rattle.msvc_nodes.specs.declared.kinds.TagKind.{TagKind}
use Rattle.msvc_nodes.specs.declared.nodes.Number.{Number}
use Rattle.msvc_nodes.specs.Trees.{NameTree, SymbolTree, TypeTree}

-- what a plain type begins with, by its first byte
pub data TypeLetter : Type 0 where
  based : PrimitiveKind → TypeLetter
  -- a second letter follows
  extended : TypeLetter
  -- a class, and its name follows
  named : TagKind → TypeLetter
  -- a pointer or a reference, with the qualifiers on itself if it has any, and what it points to follows
  points : PointerAffinity → Option ℕ → TypeLetter
  arrayed : TypeLetter
  -- a parameter of a template, and its number follows
  indexed : TypeLetter
  -- an entry of the table of types
  referred : ℕ → TypeLetter

-- what the type of a symbol begins with, by its first byte
pub data EncodingLetter : Type 0 where
  variable_of : VarStorageKind → EncodingLetter
  -- a table of a class
  table_of : SpecialTableKind → EncodingLetter
  type_information : EncodingLetter
  untyped : EncodingLetter
  -- the characters of a text
  encoded_string : EncodingLetter
  virtual_call : EncodingLetter
  plain_function : EncodingLetter
  -- a member function of this class
  member_of : ℕ → EncodingLetter

pub data Sort : Type 0 where
  -- what only has to stand there
  nothing : Sort
  -- sets of bits, and numbers that are no values of the language
  bits integer : Sort
  -- numbers with a sign of their own, which nothing can have too
  number : Sort
  bytes : Sort
  name_tree type_tree symbol_tree : Sort
  base_type type_letter encoding_letter convention : Sort
  perhaps : Sort → Sort
  list : Sort → Sort
  both : Sort → Sort → Sort

abbrev pub Value : Sort → Type 0
Value nothing = Unit {0}
Value bits = ℕ
Value integer = ℤ
Value number = Number
Value bytes = List ℕ
Value name_tree = NameTree
Value type_tree = TypeTree
Value symbol_tree = SymbolTree
Value base_type = PrimitiveKind
Value type_letter = TypeLetter
Value encoding_letter = EncodingLetter
Value convention = Convention
Value (perhaps a) = Option (Value a)
Value (list a) = List (Value a)
Value (both a b) = Value a × Value b
