-- The declaration of a symbol. It grows from the name outwards: each type, the one nearest the name first, adds pieces
-- on the left and on the right of the pieces that are there. A pointer to an array of arrays of `int` grows `x`, `*x`,
-- `(*x)[3500]`, `(*x)[3500][6]`, `int (*x)[3500][6]`.
use Rattle.std.specs.Prelude.{ℕ, ℤ, List, [], ◌∷◌, ◌++◌, Bool, true, false, cond, codes, Option, Some, None}
use Rattle.std.specs.Fmt.{signed_decimal}
use Rattle.msvc_nodes.specs.declared.kinds.Convention.{Convention}
use Rattle.msvc_nodes.specs.declared.kinds.NumberedType.TheVariants as number_kind
use Rattle.msvc_nodes.specs.declared.kinds.PlainType.TheVariants as plain_kind
use Rattle.msvc_nodes.specs.declared.kinds.Spelling.{Spelling}
use Rattle.msvc_nodes.specs.declared.kinds.Spelling.TheVariants as spelling_kind
use Rattle.msvc_nodes.specs.declared.kinds.SpecialTableKind.{SpecialTableKind}
use Rattle.msvc_nodes.specs.declared.kinds.SpecialTableKind.TheVariants as table_kind
use Rattle.msvc_nodes.specs.Trees.{NameTree, NameTrees, SymbolTree, TypeTree, TypeTrees, spelled, operator, guard}
use Rattle.msvc_nodes.specs.Trees.{type_descriptor, base_class_descriptor, template, discriminator, nested, anonymous}
use Rattle.msvc_nodes.specs.Trees.{no_names, names, no_types, types, plain, base, tagged, numbered, pointing, array}
use Rattle.msvc_nodes.specs.Trees.{function, member_function, member_pointer, variable, table, vcall_thunk, shape}
use Rattle.msvc_nodes.specs.Trees.{shaped}
use Rattle.msvc_print.specs.Flags.{full_style, has, llvm_no_return, llvm_no_variable}
use Rattle.msvc_print.specs.Functions.{calling, member_start, function_qualifier, parameter_list, separator}
use Rattle.msvc_print.specs.Operators.{base_class_pieces, guard_pieces, name_kind, operator_pieces, scoped}
use Rattle.msvc_print.specs.Operators.{unqualified_name}
use Rattle.msvc_print.specs.declared.operators.NameKind.{NameKind}
use Rattle.msvc_print.specs.Pieces.{Piece, text, space, resolve}
use Rattle.msvc_print.specs.Pointed.{leaves_out, passed_on, pointed_by, unaligned_mark, unaligned_shape, under}
use Rattle.msvc_print.specs.declared.pointed.Pointed.{Pointed}
use Rattle.msvc_print.specs.declared.pointed.Pointed.TheVariants.{Inner, No, Yes}
use Rattle.msvc_print.specs.Shapes.{laid, parts}
use Rattle.msvc_print.specs.Sides.{Sides, alone, around, between, kept}
use Rattle.msvc_print.specs.declared.spaces.Space.TheVariants.{AfterPointer}
use Rattle.msvc_print.specs.Words.{base_word, shown_variable_word, tag_word, mark_word, qualifiers, marked}
use Rattle.msvc_print.specs.Words.{opening, closing, angle_end}
use Rattle.msvc_shapes.specs.Layouts.{layout_of, slots}
use Rattle.msvc_shapes.specs.declared.layouts.Side.TheVariants as side

-- the pieces of a name that is spelled in the mangled text
abbrev pub spelled_name : Spelling → List ℕ → List Piece
spelled_name spelling_kind.Source bytes = text bytes ∷ []
spelled_name spelling_kind.Interface bytes = text (codes "[") ∷ text bytes ∷ text (codes "]") ∷ []
spelled_name spelling_kind.Md5 bytes = text (codes "??@") ∷ text bytes ∷ text (codes "@") ∷ []

-- the pieces of a name that no source has, between a backquote and a quote
abbrev pub quoted : List Piece → List Piece
quoted pieces = text (codes "`") ∷ (pieces ++ text (codes "'") ∷ [])

-- the pieces of a nested symbol, quoted unless the nested symbol is the name of a symbol itself
unfoldable pub quoted_unless : Bool → List Piece → List Piece
quoted_unless of_symbol pieces = cond of_symbol pieces (quoted pieces)

-- the arguments of a template, between `<` and `>`
abbrev pub angled : List Piece → ℕ → List Piece
angled arguments flags = text (codes "<") ∷ (arguments ++ angle_end flags)

-- The pieces of a scope: its names, the outermost first, with `::` after each name (`prefix`) or between the names
-- (`path`), and its innermost name.
pub record ScopePieces : Type 0 where
  pub prefix : List Piece
  pub path : List Piece
  pub innermost : Option (List Piece)

-- the pieces of a scope that has one more name inside the names of `outer`
abbrev pub with_inner : ScopePieces → List Piece → ScopePieces
with_inner outer name = record {
  prefix = outer.prefix ++ (name ++ text (codes "::") ∷ []);
  path = outer.prefix ++ name;
  innermost = Some name;
}

-- the `~` before the name of a destructor
abbrev pub tilde : List Piece
tilde = text (codes "~") ∷ []

-- the name of a constructor or a destructor: the name of its class after `word`, or `[invalid]` if it has no class
abbrev pub class_after : List Piece → Option (List Piece) → List Piece
class_after word None = text (codes "[invalid]") ∷ []
class_after word (Some class) = word ++ class

-- The name of a symbol in its scope. `name` has its pieces as a name of any scope, `conversion` those of a conversion
-- operator, and `list` the arguments of a template, which stand behind the name of a constructor or a destructor.
abbrev pub named : NameKind → ScopePieces → List Piece → List Piece → List Piece → ℕ → List Piece
named kind scope list conversion name flags = scoped kind scope.prefix scope.path
    (unqualified_name kind (class_after [] scope.innermost ++ list) (class_after tilde scope.innermost ++ list)
    conversion name) flags

-- the name of a class or an enumeration in its scope, which has no type that a conversion operator could print
abbrev pub named_class : NameKind → ScopePieces → List Piece → List Piece → ℕ → List Piece
named_class kind scope list name flags = named kind scope list name name flags

-- a conversion operator in the second grammar's style: the arguments of its template stand before the type that it
-- converts to, `value`; if that is none, it has its `name`
unfoldable pub full_conversion : Bool → List Piece → List Piece → List Piece → List Piece
full_conversion none list value name =
    cond none name (text (codes "operator") ∷ (list ++ (text (codes " ") ∷ value)))

-- the class of a pointer to a member function, with `::*` after its name
abbrev pub pointed_class : List Piece → List Piece
pointed_class class = space AfterPointer ∷ (class ++ text (codes "::*") ∷ [])

-- the length of a level of an array, in brackets
abbrev pub length_pieces : ℤ → List Piece
length_pieces n = text (codes "[") ∷ text (signed_decimal n) ∷ text (codes "]") ∷ []

-- the pieces on the right of the name of a table: the scope that the table is for
unfoldable pub table_end : SpecialTableKind → NameTrees → List Piece → List Piece
table_end table_kind.Functions no_names path = []
table_end table_kind.Functions (names n ns) path = text (codes "{for `") ∷ (path ++ text (codes "'}") ∷ [])
table_end table_kind.Bases scope path = path ++ text (codes "'}}") ∷ []

-- the pieces on the right of the name of a thunk: its offset in a table of virtual functions, and the memory model
abbrev pub thunk_end : ℤ → ℕ → List Piece
thunk_end n flags =
    text (codes "{") ∷ text (signed_decimal n) ∷ (separator false flags ++ text (codes "{flat}}") ∷ [])

-- whether a type is a pack without parameters, which no list of parameters shows
unfoldable pub is_empty_pack : TypeTree → Bool
is_empty_pack (plain plain_kind.EmptyPack) = true
is_empty_pack _ = false

-- whether a type is none
unfoldable pub is_none : TypeTree → Bool
is_none (plain plain_kind.None) = true
is_none _ = false

-- the space after what a function returns, of type `t`, in the second grammar's style
unfoldable pub returned_end : TypeTree → ℕ → List Piece
returned_end t flags = cond (has flags full_style) (cond (is_none t) [] (text (codes " ") ∷ [])) []

-- the sides of the name of a function: its calling convention after `end`, and its parameters
abbrev pub called : List Piece → Pointed → Convention → List Piece → ℕ → Sides → ℕ → Sides
called end pointed convention parameters set sides flags = between (end ++ calling pointed convention flags) sides
    (parameter_list pointed parameters set flags)

unfoldable mutual
  -- The pieces of a name. `of_symbol` says whether the name is that of a symbol itself, where a nested symbol has no
  -- quotes, or stands in a scope.
  pub name_pieces : NameTree → Bool → ℕ → List Piece
  name_pieces (spelled how bytes) of_symbol flags = spelled_name how bytes
  name_pieces (template n ts) of_symbol flags = name_pieces n false flags ++ angled (parameters ts true flags) flags
  name_pieces (discriminator z) of_symbol flags = quoted (text (signed_decimal z) ∷ [])
  name_pieces (nested n ns t) of_symbol flags = quoted_unless of_symbol (around
      (kept (grown t Inner alone flags) flags)
      (named (name_kind n flags) (scope_pieces ns flags) (arguments n flags)
      (conversion t (arguments n flags) (name_pieces n true flags) flags) (name_pieces n true flags) flags))
  name_pieces (anonymous digits) of_symbol flags = text (codes "`anonymous namespace'") ∷ []
  name_pieces (operator o) of_symbol flags = operator_pieces o flags
  name_pieces (guard g n) of_symbol flags = guard_pieces g n
  name_pieces (type_descriptor set t) of_symbol flags =
      space AfterPointer ∷ ((grown t No alone flags).left ++ text (codes "::`RTTI Type Descriptor'") ∷ [])
  name_pieces (base_class_descriptor a b c d) of_symbol flags = base_class_pieces a b c d flags
  name_pieces (shaped row set zs bytes ns ts) of_symbol flags = laid (slots row side.Left) No
      (parts (unaligned_shape set ts flags) set zs bytes (each_name ns true flags) (each_name ns false flags)
      (each_type ts flags)) flags

  -- the pieces of each name of a list, with `of_symbol` for each
  pub each_name : NameTrees → Bool → ℕ → List (List Piece)
  each_name no_names of_symbol flags = []
  each_name (names n ns) of_symbol flags = name_pieces n of_symbol flags ∷ each_name ns of_symbol flags

  -- the pieces of a scope, whose innermost name stands first in the tree
  pub scope_pieces : NameTrees → ℕ → ScopePieces
  scope_pieces no_names flags = record { prefix = []; path = []; innermost = None }
  scope_pieces (names n ns) flags = with_inner (scope_pieces ns flags) (name_pieces n false flags)

  -- the arguments of a name that is a template
  pub arguments : NameTree → ℕ → List Piece
  arguments (template n ts) flags = angled (parameters ts true flags) flags
  arguments _ flags = []

  -- the pieces of a conversion operator, by the type of its symbol: the type that a member function returns, or `name`
  -- where the symbol is no member function; in the second grammar's style the type that any function returns, also
  -- one that moves its `this`
  pub conversion : TypeTree → List Piece → List Piece → ℕ → List Piece
  conversion (function convention ts set t) list name flags = cond (has flags full_style)
      (full_conversion (is_none t) list (around (grown t No alone flags) []) name) name
  conversion (member_function class convention ts set t) list name flags = cond (has flags full_style)
      (full_conversion (is_none t) list (around (grown t No alone flags) []) name)
      (text (codes "operator ") ∷ around (grown t No alone flags) [])
  conversion (shape row q zs bytes ns (types (member_function class convention ts set t) us)) list name flags =
      cond (has flags full_style) (full_conversion (is_none t) list (around (grown t No alone flags) []) name) name
  conversion _ list name flags = name

  -- The sides of a name with one more type: the pieces of the type on the left and on the right of `sides`, and around
  -- these the pieces of the types inside the type. `pointed` says how the type stands under a pointer or a reference,
  -- whose mark `sides` then has: some types put parentheses round the mark.
  pub grown : TypeTree → Pointed → Sides → ℕ → Sides
  grown (base b set) pointed sides flags = between (text (base_word b flags) ∷ qualifiers set flags) sides []
  grown (tagged tag n scope set) pointed sides flags = between (text (tag_word tag flags)
      ∷ (named_class (name_kind n flags) (scope_pieces scope flags) (arguments n flags) (name_pieces n true flags) flags
      ++ qualifiers set flags)) sides []
  grown (pointing m t set) pointed sides flags =
      grown t (pointed_by set flags)
      (between (marked (unaligned_mark set t flags) (mark_word m) set flags) sides []) flags
  grown (array n t set) pointed sides flags = grown t No
      (between (qualifiers set flags ++ opening pointed flags) sides (closing pointed ++ length_pieces n)) flags
  grown (function convention ts set t) pointed sides flags = cond (leaves_out pointed llvm_no_return flags)
      (called [] pointed convention (parameters ts true flags) set sides flags)
      (grown t No (called (returned_end t flags) pointed convention (parameters ts true flags) set sides flags) flags)
  -- A member function grows as a function does. Its words stand before all other pieces.
  grown (member_function class convention ts set t) pointed sides flags = between (member_start pointed class flags)
      (cond (leaves_out pointed llvm_no_return flags)
      (called [] pointed convention (parameters ts true flags) set sides flags)
      (grown t No (called (returned_end t flags) pointed convention (parameters ts true flags) set sides flags) flags))
      []
  -- A pointer to a member function grows as a pointer to a function does, with the name of the class. The `const` of
  -- the member function stands after all other pieces.
  grown (member_pointer n scope class convention ts set t) pointed sides flags = between []
      (grown t No
      (between ((returned_end t flags ++ calling Yes convention flags) ++ pointed_class
      (named_class (name_kind n flags) (scope_pieces scope flags) (arguments n flags) (name_pieces n true flags) flags))
      sides
      (text (codes ")(") ∷ (parameters ts true flags ++ text (codes ")") ∷ []))) flags)
      (function_qualifier 1 (codes "const") set)
  -- A variable has its qualifiers and its type. Its words stand before all other pieces.
  grown (variable t kind set) pointed sides flags = between (text (shown_variable_word pointed kind flags) ∷ [])
      (cond (leaves_out pointed llvm_no_variable flags) sides
      (grown t No (between (qualifiers set flags) sides []) flags)) []
  grown (table k scope set) pointed sides flags =
      between (qualifiers set flags) sides (table_end k scope (scope_pieces scope flags).path)
  grown (vcall_thunk n convention) pointed sides flags =
      between (text (codes "[thunk]: ") ∷ calling (passed_on pointed) convention flags) sides (thunk_end n flags)
  grown (numbered number_kind.Constant n) pointed sides flags = between (text (signed_decimal n) ∷ []) sides []
  grown (numbered number_kind.TemplateParameter n) pointed sides flags = between
      (text (codes "`template-parameter") ∷ text (signed_decimal n) ∷ text (codes "'") ∷ []) sides []
  grown (numbered number_kind.ThreadSafeGuard n) pointed sides flags =
      between (text (codes "TSS") ∷ text (signed_decimal n) ∷ []) sides []
  grown (plain plain_kind.Variadic) pointed sides flags = between (text (codes "...") ∷ []) sides []
  grown (plain plain_kind.Nullptr) pointed sides flags = between (text (codes "std::nullptr_t") ∷ []) sides []
  -- A shape has what its row prints on both sides, and around these the first of its types, if its layout says so.
  grown (shape row set zs bytes ns ts) pointed sides flags = grown_around ts (layout_of row).around set pointed (between
      (laid (slots row side.Left) pointed
      (parts (unaligned_shape set ts flags) set zs bytes (each_name ns true flags) (each_name ns false flags)
      (each_type ts flags)) flags)
      sides
      (laid (slots row side.Right) pointed
      (parts (unaligned_shape set ts flags) set zs bytes (each_name ns true flags) (each_name ns false flags)
      (each_type ts flags)) flags))
      flags
  grown _ pointed sides flags = sides

  -- the sides of a name with the first of some types around them, under which a shape with the qualifiers `set` stands
  -- as a mark or not; the same sides where no type is around them
  pub grown_around : TypeTrees → Option Bool → ℕ → Pointed → Sides → ℕ → Sides
  grown_around (types t ts) (Some is_mark) set pointed sides flags =
      grown t (under pointed is_mark set flags) sides flags
  grown_around _ _ set pointed sides flags = sides

  -- the pieces of each type of a list, on both sides of no name
  pub each_type : TypeTrees → ℕ → List (List Piece)
  each_type no_types flags = []
  each_type (types t ts) flags = around (grown t No alone flags) [] ∷ each_type ts flags

  -- The types of a list, each on both sides of no name, with a comma before each but the first. `first` says whether
  -- none of the list was printed before.
  pub parameters : TypeTrees → Bool → ℕ → List Piece
  parameters no_types first flags = []
  parameters (types t ts) first flags = cond (is_empty_pack t) (parameters ts first flags)
      (separator first flags ++ (around (grown t No alone flags) [] ++ parameters ts false flags))

-- the names of a scope, the outermost first, with `::` after each name
abbrev pub scope_prefix : NameTrees → ℕ → List Piece
scope_prefix ns flags = (scope_pieces ns flags).prefix

-- the names of a scope, the outermost first, with `::` between them
abbrev pub scope_path : NameTrees → ℕ → List Piece
scope_path ns flags = (scope_pieces ns flags).path

-- the name of a constructor or a destructor in a scope: the innermost name of the scope after `word`
abbrev pub class_name : NameTrees → List Piece → ℕ → List Piece
class_name ns word flags = class_after word (scope_pieces ns flags).innermost

-- the name `n` of a symbol of type `t`, in the scope of the symbol
abbrev pub symbol_name : NameTree → NameTrees → TypeTree → ℕ → List Piece
symbol_name n scope t flags = named (name_kind n flags) (scope_pieces scope flags) (arguments n flags)
    (conversion t (arguments n flags) (name_pieces n true flags) flags) (name_pieces n true flags) flags

-- the pieces of a symbol: its name, and what the flags keep of both sides of the name
abbrev pub symbol_pieces : NameTree → NameTrees → TypeTree → Pointed → ℕ → List Piece
symbol_pieces n scope t pointed flags = around (kept (grown t pointed alone flags) flags) (symbol_name n scope t flags)

-- the declaration of a symbol under flags
unfoldable pub declaration : SymbolTree → ℕ → List ℕ
declaration s flags = resolve (symbol_pieces s.name s.scope s.symbol_type No flags)
