-- The pieces that the printer's two passes over a type print: `before` has what the type and the types inside it put on
-- the left of a name, the type nearest the name last; `after` has what they put on the right, the type nearest the name
-- first. No public contract speaks of these definitions. `proofs/Halves` shows that they are what `grown` puts on the
-- two sides.
use Rattle.std.specs.Prelude.{ℕ, List, [], ◌∷◌, ◌++◌, Bool, true, false, codes, cond, Option, Some, None}
use Rattle.std.specs.Fmt.{signed_decimal}
use Rattle.msvc_nodes.specs.declared.kinds.Convention.{Convention}
use Rattle.msvc_nodes.specs.declared.kinds.NumberedType.TheVariants as number_kind
use Rattle.msvc_nodes.specs.declared.kinds.PlainType.TheVariants as plain_kind
use Rattle.msvc_nodes.specs.Trees.{NameTree, NameTrees, TypeTree, TypeTrees, plain, base, tagged, numbered, pointing}
use Rattle.msvc_nodes.specs.Trees.{array}
use Rattle.msvc_nodes.specs.Trees.{function, member_function, member_pointer, variable, table, vcall_thunk}
use Rattle.msvc_nodes.specs.Trees.{shape, no_types, types}
use Rattle.msvc_nodes.specs.declared.nodes.Number.{Number}
use Rattle.msvc_print.specs.Declaration.{length_pieces, parameters, pointed_class, scope_path, symbol_name, table_end}
use Rattle.msvc_print.specs.Declaration.{each_name, each_type, thunk_end, returned_end}
use Rattle.msvc_print.specs.Functions.{calling, member_start, function_qualifier, function_qualifiers}
use Rattle.msvc_print.specs.Flags.{llvm_no_return, llvm_no_variable}
use Rattle.msvc_print.specs.Pointed.{leaves_out, passed_on, pointed_by, unaligned_mark, unaligned_shape, under}
use Rattle.msvc_print.specs.declared.pointed.Pointed.{Pointed}
use Rattle.msvc_print.specs.declared.pointed.Pointed.TheVariants.{No, Yes}
use Rattle.msvc_print.specs.Pieces.{Piece, text}
use Rattle.msvc_print.specs.Shapes.{Parts, laid, parts}
use Rattle.msvc_print.specs.Words.{base_word, shown_variable_word, tag_word, mark_word, qualifiers, marked}
use Rattle.msvc_print.specs.Words.{opening, closing}
use Rattle.msvc_shapes.specs.Layouts.{layout_of, slots}
use Rattle.msvc_shapes.specs.declared.layouts.Side.TheVariants as side

-- the name `n` of a symbol without a type, in the scope of the symbol
abbrev pub plain_name : NameTree → NameTrees → ℕ → List Piece
plain_name n scope flags = symbol_name n scope (plain plain_kind.None) flags

-- the class of a pointer to a member function, by its name in its scope
abbrev pub pointed_name : NameTree → NameTrees → ℕ → List Piece
pointed_name n scope flags = pointed_class (plain_name n scope flags)

-- the pieces after the name of a function: its parameters, its qualifiers, and `returned`, the pieces that the returned
-- type has after the name
abbrev pub function_end : Pointed → List Piece → ℕ → ℕ → List Piece → List Piece
function_end pointed parameters set flags returned = closing pointed
    ++ (text (codes "(") ∷ (parameters ++ (text (codes ")") ∷ (function_qualifiers set flags ++ returned))))

-- the pieces after the name of a pointer to a member function: the parameters of the function, `returned`, the pieces
-- that the returned type has after the name, and the `const` of the function
unfoldable pub member_pointer_end : List Piece → ℕ → List Piece → List Piece
member_pointer_end parameters set returned = text (codes ")(") ∷ (parameters
    ++ (text (codes ")") ∷ (returned ++ function_qualifier 1 (codes "const") set)))

-- the pieces before the name of a function: `returned`, the pieces that the returned type has before the name, with
-- `end` after them, unless a flag drops both, and the calling convention
abbrev pub before_called : Pointed → Convention → List Piece → List Piece → ℕ → List Piece
before_called pointed convention end returned flags = cond (leaves_out pointed llvm_no_return flags)
    (calling pointed convention flags) (returned ++ (end ++ calling pointed convention flags))

-- the pieces that the returned type has after the name of a function, unless a flag drops them
abbrev pub after_called : Pointed → List Piece → ℕ → List Piece
after_called pointed returned flags = cond (leaves_out pointed llvm_no_return flags) [] returned

-- the parts of a shape, by its qualifiers, its numbers, its bytes, its names and its types
abbrev pub shape_parts : ℕ → List Number → List ℕ → NameTrees → TypeTrees → ℕ → Parts
shape_parts set zs bytes ns ts flags =
    parts (unaligned_shape set ts flags) set zs bytes (each_name ns true flags) (each_name ns false flags)
    (each_type ts flags)

-- the pieces of the type around a shape, which is told whether the shape stands under it as the mark of a pointer does
abbrev pub pieces_around : Option Bool → Pointed → ℕ → ℕ → (Pointed → List Piece) → List Piece
pieces_around None pointed set flags pieces = []
pieces_around (Some is_mark) pointed set flags pieces = pieces (under pointed is_mark set flags)

-- the pieces of a type before the name
unfoldable pub before : TypeTree → Pointed → ℕ → List Piece
before (base b set) pointed flags = text (base_word b flags) ∷ qualifiers set flags
before (tagged tag n scope set) pointed flags =
    text (tag_word tag flags) ∷ (plain_name n scope flags ++ qualifiers set flags)
before (numbered number_kind.Constant n) pointed flags = text (signed_decimal n) ∷ []
before (numbered number_kind.TemplateParameter n) pointed flags =
    text (codes "`template-parameter") ∷ text (signed_decimal n) ∷ text (codes "'") ∷ []
before (numbered number_kind.ThreadSafeGuard n) pointed flags = text (codes "TSS") ∷ text (signed_decimal n) ∷ []
before (pointing m t set) pointed flags =
    before t (pointed_by set flags) flags ++ marked (unaligned_mark set t flags) (mark_word m) set flags
before (array n t set) pointed flags = before t No flags ++ (qualifiers set flags ++ opening pointed flags)
before (function convention ts set t) pointed flags =
    before_called pointed convention (returned_end t flags) (before t No flags) flags
before (member_function class convention ts set t) pointed flags = member_start pointed class flags
    ++ before_called pointed convention (returned_end t flags) (before t No flags) flags
before (member_pointer n scope class convention ts set t) pointed flags =
    before t No flags ++ ((returned_end t flags ++ calling Yes convention flags) ++ pointed_name n scope flags)
before (plain plain_kind.Variadic) pointed flags = text (codes "...") ∷ []
before (plain plain_kind.Nullptr) pointed flags = text (codes "std::nullptr_t") ∷ []
before (table k scope set) pointed flags = qualifiers set flags
before (vcall_thunk n convention) pointed flags =
    text (codes "[thunk]: ") ∷ calling (passed_on pointed) convention flags
before (variable t kind set) pointed flags = text (shown_variable_word pointed kind flags)
    ∷ cond (leaves_out pointed llvm_no_variable flags) [] (before t No flags ++ qualifiers set flags)
before (shape row set zs bytes ns no_types) pointed flags =
    laid (slots row side.Left) pointed (shape_parts set zs bytes ns no_types flags) flags
before (shape row set zs bytes ns (types t ts)) pointed flags =
    pieces_around (layout_of row).around pointed set flags (λ p. before t p flags)
    ++ laid (slots row side.Left) pointed (shape_parts set zs bytes ns (types t ts) flags) flags
before _ pointed flags = []

-- the pieces of a type after the name
unfoldable pub after : TypeTree → Pointed → ℕ → List Piece
after (pointing m t set) pointed flags = after t (pointed_by set flags) flags
after (array n t set) pointed flags = closing pointed ++ (length_pieces n ++ after t No flags)
after (function convention ts set t) pointed flags = function_end pointed (parameters ts true flags) set flags
    (after_called pointed (after t No flags) flags)
after (member_function class convention ts set t) pointed flags =
    function_end pointed (parameters ts true flags) set flags (after_called pointed (after t No flags) flags)
after (member_pointer n scope class convention ts set t) pointed flags =
    member_pointer_end (parameters ts true flags) set (after t No flags)
after (variable t kind set) pointed flags = cond (leaves_out pointed llvm_no_variable flags) [] (after t No flags)
after (table k scope set) pointed flags = table_end k scope (scope_path scope flags)
after (vcall_thunk n convention) pointed flags = thunk_end n flags
after (shape row set zs bytes ns no_types) pointed flags =
    laid (slots row side.Right) pointed (shape_parts set zs bytes ns no_types flags) flags
after (shape row set zs bytes ns (types t ts)) pointed flags =
    laid (slots row side.Right) pointed (shape_parts set zs bytes ns (types t ts) flags) flags
    ++ pieces_around (layout_of row).around pointed set flags (λ p. after t p flags)
after _ pointed flags = []
