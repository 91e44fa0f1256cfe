-- The text of a symbol's tree, on one line: of `?f@A@@QBEHPBD@Z`,
-- `A::f: MemberFunction(PUBLIC Thiscall CONST [Ptr(CONST Char)] Int)`.
use Rattle.std.specs.Prelude.{ℕ, ℤ, List, [], ◌++◌, None, Some, codes}
use Rattle.std.specs.Fmt.{decimal, signed_decimal}
use Rattle.std.specs.Str.Lossy.{utf8_lossy}
use Rattle.msvc_nodes.specs.declared.kinds.Convention.{Convention}
use Rattle.msvc_nodes.specs.declared.kinds.Spelling.{Spelling}
use Rattle.msvc_nodes.specs.declared.kinds.Spelling.TheVariants as spelling_kind
use Rattle.msvc_nodes.specs.declared.nodes.Number.{Number}
use Rattle.msvc_nodes.specs.Trees.{NameTree, NameTrees, SymbolTree, TypeTree, TypeTrees, spelled, operator, guard}
use Rattle.msvc_nodes.specs.Trees.{type_descriptor, base_class_descriptor, template, discriminator, nested, anonymous}
use Rattle.msvc_nodes.specs.Trees.{no_names, names, no_types, types, plain, base, tagged, numbered, constant_string}
use Rattle.msvc_nodes.specs.Trees.{pointing, array, function, member_function, member_pointer, variable, table}
use Rattle.msvc_nodes.specs.Trees.{vcall_thunk, shape, shaped}
use Rattle.msvc_debug.specs.Literals.{literal_text}
use Rattle.msvc_debug.specs.Words.{base_word, bracketed, class_names, convention_word, guard_word, index_text}
use Rattle.msvc_debug.specs.Words.{mark_word, numbered_word, numbers_text, operator_word, plain_word}
use Rattle.msvc_debug.specs.Words.{qualifier_names, table_word, tag_word, variable_word}

-- a name that is a part of the mangled text; what is no UTF-8 is U+FFFD here
abbrev pub spelled_text : Spelling → List ℕ → List ℕ
spelled_text spelling_kind.Source bytes = utf8_lossy bytes
spelled_text spelling_kind.Interface bytes = bracketed (codes "AsInterface") (utf8_lossy bytes)
spelled_text spelling_kind.Md5 bytes = bracketed (codes "Md5") (utf8_lossy bytes)

-- of a function its convention, its qualifiers, its parameters and what it returns
abbrev pub function_text : Convention → List ℕ → ℕ → List ℕ → List ℕ
function_text convention parameters set returned =
    convention_word convention ++ codes " " ++ qualifier_names set ++ codes "[" ++ parameters ++ codes "] " ++ returned

-- of a member function the names of its class, and the same
abbrev pub member_text : ℕ → Convention → List ℕ → ℕ → List ℕ → List ℕ
member_text class convention parameters set returned =
    class_names class ++ function_text convention parameters set returned

-- the numbers of the place of a base class
abbrev pub place_text : ℤ → ℤ → ℤ → ℤ → List ℕ
place_text member pointer entry attributes = signed_decimal member ++ codes " " ++ signed_decimal pointer ++ codes " "
    ++ signed_decimal entry ++ codes " " ++ signed_decimal attributes

-- the row of a shape, its qualifiers, its numbers and its bytes
abbrev pub shape_values : ℕ → ℕ → List Number → List ℕ → List ℕ
shape_values row set numbers bytes = decimal row ++ codes " " ++ qualifier_names set ++ numbers_text numbers
    ++ codes "\"" ++ utf8_lossy bytes ++ codes "\""

-- the names and the types of a shape, each list in square brackets
abbrev pub shape_lists : List ℕ → List ℕ → List ℕ
shape_lists ns ts = codes " [" ++ ns ++ codes "] [" ++ ts ++ codes "]"

-- a name or a type of the table of shapes
abbrev pub shape_text : ℕ → ℕ → List Number → List ℕ → List ℕ → List ℕ → List ℕ
shape_text row set numbers bytes ns ts =
    bracketed (codes "Shape") (shape_values row set numbers bytes ++ shape_lists ns ts)

-- a name in its scope, and the type of what is named
abbrev pub symbol_text : List ℕ → List ℕ → List ℕ → List ℕ
symbol_text scope name symbol_type = scope ++ name ++ codes ": " ++ symbol_type

unfoldable mutual
  -- a name without its scope
  pub name_text : NameTree → List ℕ
  name_text (spelled how bytes) = spelled_text how bytes
  name_text (operator o) = operator_word o
  name_text (guard kind n) = bracketed (guard_word kind) (index_text n)
  name_text (type_descriptor set t) = bracketed (codes "RTTITypeDescriptor") (qualifier_names set ++ type_text t)
  name_text (base_class_descriptor member pointer entry attributes) =
      bracketed (codes "RTTIBaseClassDescriptor") (place_text member pointer entry attributes)
  name_text (template n ts) = name_text n ++ codes "<" ++ types_text ts ++ codes ">"
  name_text (discriminator n) = bracketed (codes "Discriminator") (signed_decimal n)
  name_text (nested n ns t) = bracketed [] (symbol_text (scope_text ns) (name_text n) (type_text t))
  name_text (anonymous None) = codes "AnonymousNamespace"
  name_text (anonymous (Some digits)) = bracketed (codes "AnonymousNamespace") digits
  name_text (shaped row set numbers bytes ns ts) = shape_text row set numbers bytes (names_text ns) (types_text ts)

  -- the names of a scope, the outermost first, each with `::` after it
  pub scope_text : NameTrees → List ℕ
  scope_text no_names = []
  scope_text (names n ns) = scope_text ns ++ name_text n ++ codes "::"

  -- names in their order, with commas between them
  pub names_text : NameTrees → List ℕ
  names_text no_names = []
  names_text (names n ns) = name_text n ++ more_names ns

  -- the names after the first
  pub more_names : NameTrees → List ℕ
  more_names no_names = []
  more_names (names n ns) = codes ", " ++ name_text n ++ more_names ns

  -- a type, or what stands in the place of one
  pub type_text : TypeTree → List ℕ
  type_text (plain kind) = plain_word kind
  type_text (base kind set) = qualifier_names set ++ base_word kind
  type_text (tagged tag n ns set) = bracketed (tag_word tag) (qualifier_names set ++ scope_text ns ++ name_text n)
  type_text (numbered kind n) = bracketed (numbered_word kind) (signed_decimal n)
  type_text (constant_string bytes) = bracketed (codes "ConstantString") (literal_text bytes)
  type_text (pointing mark t set) = bracketed (mark_word mark) (qualifier_names set ++ type_text t)
  type_text (array n t set) = bracketed (codes "Array")
      (signed_decimal n ++ codes " " ++ qualifier_names set ++ type_text t)
  type_text (function convention ts set t) = bracketed (codes "NonMemberFunction")
      (function_text convention (types_text ts) set (type_text t))
  type_text (member_function class convention ts set t) = bracketed (codes "MemberFunction")
      (member_text class convention (types_text ts) set (type_text t))
  type_text (member_pointer n ns class convention ts set t) = bracketed (codes "MemberFunctionPointer")
      (scope_text ns ++ name_text n ++ codes " " ++ member_text class convention (types_text ts) set (type_text t))
  type_text (variable t kind set) = bracketed (codes "Var")
      (variable_word kind ++ codes " " ++ qualifier_names set ++ type_text t)
  type_text (table kind ns set) = bracketed (table_word kind) (qualifier_names set ++ scope_text ns)
  type_text (vcall_thunk n convention) = bracketed (codes "VCallThunk")
      (signed_decimal n ++ codes " " ++ convention_word convention)
  type_text (shape row set numbers bytes ns ts) = shape_text row set numbers bytes (names_text ns) (types_text ts)

  -- types in their order, with commas between them
  pub types_text : TypeTrees → List ℕ
  types_text no_types = []
  types_text (types t ts) = type_text t ++ more_types ts

  -- the types after the first
  pub more_types : TypeTrees → List ℕ
  more_types no_types = []
  more_types (types t ts) = codes ", " ++ type_text t ++ more_types ts

-- the text of a symbol
unfoldable pub tree_text : SymbolTree → List ℕ
tree_text symbol =
    symbol_text (scope_text symbol.scope) (name_text symbol.name) (type_text symbol.symbol_type)
