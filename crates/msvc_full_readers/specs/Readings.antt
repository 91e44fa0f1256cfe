-- Parts of productions that readers read by themselves.
use Rattle.std.specs.Prelude.{ℕ, List, [], ◌∷◌, Option, Some, None, Bool, true, false, bit_or, codes, ◌==◌}
use Rattle.std.specs.Prelude.{if◌then◌else◌}
use Rattle.std.specs.Borrow.{Bor}
use Rattle.std.specs.Prelude.{map}
use Prim.Native.Char.{code}
use Rattle.msvc_nodes.specs.NodeView.{name_at, type_at}
use Rattle.msvc_nodes.specs.Trees.{NameTree, TypeTree, anonymous, name_trees, names, no_names, no_types}
use Rattle.msvc_nodes.specs.Trees.{SymbolTree, base, nested, pointing, shape, shaped, spelled, tagged, types, variable}
use Rattle.msvc_nodes.specs.declared.kinds.VarStorageKind.TheVariants as storage_kind
use Rattle.msvc_nodes.specs.declared.nodes.Function.{Function}
use Rattle.msvc_nodes.specs.declared.nodes.Number.{Number}
use Rattle.msvc_nodes.specs.declared.kinds.Convention.{Convention}
use Rattle.msvc_nodes.specs.declared.kinds.PointerAffinity.{PointerAffinity}
use Rattle.msvc_nodes.specs.declared.kinds.TagKind.{TagKind}
use Rattle.msvc_rules.specs.Rules.{Rule, call, give, letter, letter_or, literal, literal_or, node, some_of, text_or}
use Rattle.msvc_rules.specs.Rules.{◌>>=◌, ◌>>◌}
use Rattle.msvc_rules.specs.Rules.{◌or◌}
use Rattle.msvc_rules.specs.Sorts.{bits, both, list, name_tree, symbol_tree, type_tree}
use Rattle.msvc_rules.specs.Sorts as sort
use Rattle.msvc_rules.specs.Readers.{Found}
use Rattle.msvc_rules.specs.State.{State, remember_name}
use Rattle.msvc_full_grammar.specs.Forms.{TypeForm, VariableEnd, of_pointer, of_value}
use Rattle.msvc_full_grammar.specs.declared.forms.OwnQualifiers.TheVariants.{Absent as absent, Present as present}
use Rattle.msvc_full_grammar.specs.Letters.{at_sign, base_types, capitals, funclet_texts, managed_rows, noexcept}
use Rattle.msvc_full_grammar.specs.Letters.{qualifiers}
use Rattle.msvc_full_grammar.specs.Productions.{Production, anonymous_digits, class_symbol, dimensions, funclet}
use Rattle.msvc_full_grammar.specs.Productions.{funclet_or_symbol, source_name, symbol, whole_hash}
use Rattle.msvc_full_grammar.specs.Productions.{function_type, lengths, marked_symbol, named_symbol, parameters, scope}
use Rattle.msvc_full_grammar.specs.Productions.{symbol_name}
use Rattle.msvc_full_grammar.specs.Productions.{template_symbol, type_, type_after, type_symbol}
use Rattle.msvc_full_grammar.specs.Reading.{read_name}
use Rattle.msvc_cursor.specs.Rows.{with_front}
use Rattle.msvc_full_letters.specs.Texts.{base_by}
use Rattle.msvc_full_grammar.specs.Rows.{arrays_row, block_row, member_pointer_row}
use Rattle.msvc_full_grammar.specs.declared.forms.Stub.{Stub}
use Rattle.msvc_full_grammar.specs.Fragments.{made_name, managed_array, managed_type, no_type, pointer_rows, stub_row}
use Rattle.msvc_full_readers.specs.declared.store.FuncletHome.{FuncletHome}
use Rattle.msvc_nodes.specs.declared.kinds.PrimitiveKind.TheVariants as base_kind
use Rattle.msvc_nodes.specs.declared.kinds.Spelling.TheVariants as spelling_kind
use Rattle.msvc_grammar.specs.declared.forms.Ellipsis.{Ellipsis}
use Rattle.msvc_grammar.specs.declared.forms.Ellipsis.TheVariants as ellipsis

-- whether a digit is a capital
abbrev pub is_capital : ℕ → Bool
is_capital d = some_of (λ c. d == c) capitals

-- the digits of an anonymous namespace, as a name that isn't counted
abbrev pub anonymous_name : Rule Production name_tree
anonymous_name = do ds ← call anonymous_digits; give (anonymous ds)

-- a symbol after its ?
abbrev pub symbol_body : Rule Production symbol_tree
symbol_body =
    literal_or (codes "?$") (call template_symbol) (literal_or (codes "?") (call marked_symbol) (call named_symbol))

-- the marker of a guard
abbrev pub guard_marker : Rule Production sort.nothing
guard_marker = literal (codes "4IA") or literal (codes "5")

-- a text that begins with a ?
abbrev pub marked_text : Rule Production symbol_tree
marked_text =
    text_or funclet_texts (λ row. call (funclet row)) (literal_or (codes "??@") (call whole_hash) (call symbol))

-- the function of C that a funclet is a part of
abbrev pub c_function_name : Rule Production name_tree
c_function_name = node (do
  x ← call source_name
  n ← made_name (spelled spelling_kind.Source x)
  t ← no_type
  literal (codes "4HA")
  give (nested n no_names t))

-- the function that a funclet is a part of, in other cases
abbrev pub whole_function_name : Rule Production name_tree
whole_function_name = node (do
  s ← call funclet_or_symbol
  literal (codes "@4HA")
  give (nested s.name s.scope s.symbol_type))

-- what a funclet has beside its name
abbrev pub home_at : FuncletHome → NameTree × TypeTree
home_at h = (name_at h.scope, type_at h.symbol_type)

-- a funclet, by the rest of its name
abbrev pub funclet_of : ℕ → List ℕ → NameTree × TypeTree → SymbolTree
funclet_of row label home = record {
  name = shaped row 0 [] label no_names no_types;
  scope = names home.0 no_names;
  symbol_type = home.1;
}

-- the type of a funclet that is written as a static variable
abbrev pub funclet_variable : TypeTree
funclet_variable = variable (base base_kind.Int 0) storage_kind.FunctionLocalStatic 0

-- what stands after a variable whose type is a shape but no pointer to a member, by its row
abbrev pub end_of_other : ℕ → VariableEnd
end_of_other row = if some_of (λ r. row == r) pointer_rows then of_pointer else of_value

-- the name of a stub
abbrev pub stub_name_of : Stub → SymbolTree → NameTree
stub_name_of stub s =
    shaped (stub_row stub s.symbol_type) 0 [] [] (names (nested s.name s.scope s.symbol_type) no_names) no_types

-- the text behind the variable of a stub
abbrev pub end_of_stub : (required : Bool) → List ℕ
end_of_stub true = codes "@@"
end_of_stub false = codes "@"

-- an array of managed code, behind its $
abbrev pub numbered_managed : ℕ → Rule Production type_tree
numbered_managed q = literal (codes "0") >> managed_array q

-- what a pointer or a reference of managed code refers to, behind its $
abbrev pub managed : ℕ → ℕ → Rule Production type_tree
managed own_row q = letter_or (managed_rows own_row) (λ row. managed_type row q) (numbered_managed q)

-- the function that a pointer to a block refers to
abbrev pub block : ℕ → Rule Production type_tree
block q = do
  f ← call (function_type absent)
  give (shape block_row q [] [] no_names (types f no_types))

-- the descriptor or the name of a type, by its row
abbrev pub descriptor_of : ℕ → TypeTree → SymbolTree
descriptor_of row t = record {
  name = shaped row 0 [] [] no_names no_types;
  scope = no_names;
  symbol_type = variable t storage_kind.Global 0;
}

-- the name of a symbol in its scope
abbrev pub name_in_scope : Rule Production (both name_tree (list name_tree))
name_in_scope = do
  n ← call symbol_name
  ns ← call scope
  give (n, ns)

-- the type behind marks: by its text, or a base type by its letter
abbrev pub type_from : Option TypeForm → ℕ → List ℕ → State → Found TypeTree
type_from None q = base_by base_types q
type_from (Some f) q = read_name (type_after q f)

-- a type known by a name
abbrev pub tagged_type : TagKind → ℕ → Rule Production type_tree
tagged_type tag q = node (do
  s ← call type_symbol
  give (tagged tag s.0 (name_trees s.1) q))

-- what a pointer or a reference to a function holds
abbrev pub pointed_function : PointerAffinity → ℕ → Rule Production type_tree
pointed_function mark q = do
  f ← call (function_type absent)
  give (pointing mark f q)

-- a pointer to a member of this class and this type
abbrev pub member_pointer : NameTree → TypeTree → ℕ → TypeTree
member_pointer c t q = shape member_pointer_row q [] [] (names c no_names) (types t no_types)

-- what a pointer to a member function holds
abbrev pub pointed_member_function : ℕ → Rule Production type_tree
pointed_member_function q = do
  c ← call class_symbol
  f ← call (function_type present)
  give (member_pointer c f q)

-- what a pointer to any other member holds, whose type has the qualifiers s
abbrev pub pointed_member : ℕ → ℕ → Rule Production type_tree
pointed_member s q = do
  c ← call class_symbol
  t ← call (type_ s)
  give (member_pointer c t q)

-- the lengths of arrays, as many as the number before them says
abbrev pub array_lengths : Rule Production (list sort.number)
array_lengths = do
  n ← call dimensions
  call (lengths n)

-- arrays of these lengths and of this type
abbrev pub arrays_of : List Number → TypeTree → ℕ → TypeTree
arrays_of zs t q = shape arrays_row q zs [] no_names (types t no_types)

-- what follows the lengths of arrays
abbrev pub elements : List Number → ℕ → Rule Production type_tree
elements zs q =
    literal_or (codes "$$C")
    (do
      more ← letter bits qualifiers
      t ← call (type_ 0)
      give (arrays_of zs t (bit_or q more)))
    (do
      t ← call (type_ 0)
      give (arrays_of zs t q))

-- the parts of a signature, and its end
abbrev pub signature_end : ℕ → Convention → TypeTree → List TypeTree → Rule Production (both bits
    (both sort.convention (both type_tree (list type_tree))))
signature_end q c t ts =
    (do literal (codes "_E"); give (bit_or noexcept q, (c, (t, ts))))
    or (do literal (codes "Z"); give (q, (c, (t, ts))))

-- the parts of a function, as a signature gives them
abbrev pub signature_at : Bor Function → ℕ × (Convention × (TypeTree × List TypeTree))
signature_at f =
    (f.now.qualifiers.0, (f.now.convention, (type_at f.now.returned, map type_at f.now.parameters.now)))

-- the Z that ends parameters with an ellipsis
abbrev pub ellipsis_letter : ℕ
ellipsis_letter = code "Z"

-- whether a list of parameters that ends here has an ellipsis, and the bytes after it
unfoldable pub parameters_stop : List ℕ → Option (Ellipsis × List ℕ)
parameters_stop [] = None
parameters_stop (b ∷ bs) =
    if b == at_sign then Some (ellipsis.Absent, bs)
    else (if b == ellipsis_letter then Some (ellipsis.Present, bs) else None)

-- what is read of parameters, behind these types
abbrev pub parameters_behind : List TypeTree → List ℕ → State → Found (List TypeTree)
parameters_behind xs left s = with_front xs (read_name parameters left s)

-- the state after the name of a template, which is memorized where the text of a variable is found
abbrev pub entered : {A : Type 0} → Option A → NameTree → State → State
entered None n s = s
entered (Some x) n s = remember_name n s
