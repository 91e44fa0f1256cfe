-- What the productions of Full are made of: values of what is read, and rules that stand in several productions.
use Rattle.std.specs.Prelude.{ℕ, ℤ, pos, negsuc, List, [], ◌∷◌, ◌==◌, ◌%◌, ◌^◌, Bool, true, false}
use Rattle.std.specs.Int.{cast_signed, cast_unsigned, int_wrapping_neg, w32}
use Rattle.std.specs.Prelude.{bit_and, bit_or, suc, codes, if◌then◌else◌}
use Rattle.msvc_nodes.specs.Trees.{NameTree, TypeTree, spelled, template, nested, anonymous, shaped, no_names}
use Rattle.msvc_nodes.specs.Trees.{names, name_trees, base, pointing, shape, no_types}
use Rattle.msvc_nodes.specs.Trees.{types, type_trees}
use Rattle.msvc_nodes.specs.declared.nodes.Number.{Number}
use Rattle.msvc_nodes.specs.declared.kinds.Guard.{Guard}
use Rattle.msvc_nodes.specs.declared.kinds.Guard.TheVariants as guard_kind
use Rattle.msvc_nodes.specs.declared.kinds.VarStorageKind.TheVariants as storage_kind
use Rattle.msvc_nodes.specs.Trees as tree
use Rattle.msvc_nodes.specs.declared.kinds.PlainType.TheVariants as plain_kind
use Rattle.msvc_nodes.specs.declared.kinds.PointerAffinity.{PointerAffinity}
use Rattle.msvc_nodes.specs.declared.kinds.PrimitiveKind.TheVariants as base_kind
use Rattle.msvc_nodes.specs.declared.kinds.Spelling.TheVariants as spelling_kind
use Rattle.msvc_rules.specs.Rules.{Rule, some_of, give, letter, literal, ◌>>=◌}
use Rattle.msvc_rules.specs.Rules.{◌>>◌, ◌or◌, begins_of, call, entering, here, letter_or, literal_or, node, none_of}
use Rattle.msvc_rules.specs.Rules.{noted, remember}
use Rattle.msvc_rules.specs.Sorts.{Sort, nothing, bits, name_tree, type_tree}
use Rattle.msvc_full_grammar.specs.Forms.{OwnQualifiers, absent, present}
use Rattle.msvc_full_grammar.specs.Forms.{EncodingForm, free_function, function_of, thunk_of}
use Rattle.msvc_full_grammar.specs.Forms.{Adjustment, adjustor, vtordisp, vtordispex}
use Rattle.msvc_full_grammar.specs.Forms.{Listed, Stub, initializer, destructor}
use Rattle.msvc_full_grammar.specs.Forms.{an_argument}
use Rattle.msvc_full_grammar.specs.Forms.{VariableEnd, of_pointer, of_member_pointer, of_value}
use Rattle.msvc_full_grammar.specs.Letters.{digits, capitals}
use Rattle.msvc_full_grammar.specs.Letters.{qualifiers}
use Rattle.msvc_full_grammar.specs.Letters.{global, static}
use Rattle.msvc_full_grammar.specs.Letters.{managed_rows}
use Rattle.msvc_full_grammar.specs.Letters.{c_linkage}
use Rattle.msvc_full_grammar.specs.Productions.{Production, count, number, symbol}
use Rattle.msvc_full_grammar.specs.Productions.{symbol_name, type_name}
use Rattle.msvc_full_grammar.specs.Productions.{class_symbol, template_name, scope}
use Rattle.msvc_full_grammar.specs.Productions.{anonymous_digits}
use Rattle.msvc_full_grammar.specs.Productions.{source_name}
use Rattle.msvc_full_grammar.specs.Productions.{type_}
use Rattle.msvc_full_grammar.specs.Productions.{listed}
use Rattle.msvc_full_grammar.specs.Productions.{member_value}
use Rattle.msvc_full_grammar.specs.Productions.{funclet_function}
use Rattle.msvc_full_grammar.specs.Productions.{result_type}
use Rattle.msvc_full_grammar.specs.Productions.{template_value}
use Rattle.msvc_full_grammar.specs.Rows.{member_pointer_row, Field}
use Rattle.msvc_full_grammar.specs.Rows.{typed_row, adjustor_row, explicit_this_row}
use Rattle.msvc_full_grammar.specs.Rows.{vtordisp_row, vtordispex_row, md5_locator_row}
use Rattle.msvc_full_grammar.specs.Rows.{static_guard_row, thread_guard_row, string_literal_row}
use Rattle.msvc_full_grammar.specs.Rows.{wide_string_literal_row}
use Rattle.msvc_full_grammar.specs.Rows.{initializer_of_name_row, initializer_of_variable_row}
use Rattle.msvc_full_grammar.specs.Rows.{destructor_of_name_row, destructor_of_variable_row, block_row, handle_row}
use Rattle.msvc_full_grammar.specs.Rows.{tracking_row, interface_row, frame_row, cli_array_row, pin_row}
use Rattle.msvc_full_grammar.specs.Rows.{template_object_row}
use Rattle.msvc_full_grammar.specs.Rows.{values_row}
use Rattle.msvc_full_grammar.specs.Rows.{a_number, a_count, a_type_name, a_source_name, a_symbol, a_text}
use Rattle.msvc_full_grammar.specs.Rows.{Held, with_number, with_name}

-- What values are made of

-- whether a class has a bit
abbrev pub has : ℕ → ℕ → Bool
has class bit = bit_and class bit == bit

-- whether a function of a class has qualifiers of its own: a static one has none, and one outside all classes has none
abbrev pub own_of_class : ℕ → OwnQualifiers
own_of_class class = if has class static then absent else (if has class global then absent else present)

-- whether capitals are among some digits
abbrev pub has_capital : List ℕ → Bool
has_capital ds = some_of (λ d. some_of (λ c. d == c) capitals) ds

-- the rows of pointers and references of managed code and of blocks
abbrev pub pointer_rows : List ℕ
pointer_rows = block_row ∷ handle_row ∷ tracking_row ∷ pin_row ∷ cli_array_row ∷ []

-- what stands after the type of a variable, by that type; of a shape, by its row
abbrev pub end_of_row : ℕ → VariableEnd
end_of_row row = if row == member_pointer_row then of_member_pointer
    else (if some_of (λ r. row == r) pointer_rows then of_pointer else of_value)

abbrev pub end_of : TypeTree → VariableEnd
end_of (pointing mark t q) = of_pointer
end_of (shape row q zs bytes ns ts) = end_of_row row
end_of _ = of_value

-- a number without a sign
abbrev pub plain : ℕ → Number
plain n = record { is_negative = false; value = n }

abbrev pub each_plain : List ℕ → List Number
each_plain [] = []
each_plain (n ∷ ns) = plain n ∷ each_plain ns

-- the low 32 bits of a number, signed
abbrev pub small : Number → ℤ
small n = if n.is_negative then int_wrapping_neg w32 (cast_signed w32 (n.value % 2 ^ 32))
    else cast_signed w32 (n.value % 2 ^ 32)

-- a number of 32 bits with its sign, and one whose bits have no sign
abbrev pub signed_number : ℤ → Number
signed_number (pos n) = plain n
signed_number (negsuc n) = record { is_negative = true; value = suc n }

abbrev pub unsigned_number : ℤ → Number
unsigned_number z = plain (cast_unsigned w32 z)

-- the same class of function, of C
abbrev pub of_c : EncodingForm → EncodingForm
of_c free_function = function_of (bit_or global c_linkage)
of_c (function_of class) = function_of (bit_or class c_linkage)
of_c (thunk_of moved class) = thunk_of moved (bit_or class c_linkage)
of_c form = form

-- the rows of functions that move their this, of guards, and of strings by the width of their characters
abbrev pub adjusted_row : Adjustment → ℕ
adjusted_row adjustor = adjustor_row
adjusted_row vtordisp = vtordisp_row
adjusted_row vtordispex = vtordispex_row

abbrev pub guard_row : Guard → ℕ
guard_row guard_kind.Static = static_guard_row
guard_row guard_kind.Thread = thread_guard_row

-- the rows of stubs by the type of what they are of: a variable, or the name of one
abbrev pub stub_row : Stub → TypeTree → ℕ
stub_row initializer (tree.plain plain_kind.None) = initializer_of_name_row
stub_row initializer _ = initializer_of_variable_row
stub_row destructor (tree.plain plain_kind.None) = destructor_of_name_row
stub_row destructor _ = destructor_of_variable_row

abbrev pub string_row : ℕ → ℕ
string_row width = if width == 0 then string_literal_row else wide_string_literal_row

-- Parts of productions

-- what stands for a type where there is none
abbrev pub no_type : Rule Production type_tree
no_type = node (give (tree.plain plain_kind.None))

-- a name that is read of no bytes
abbrev pub made_name : NameTree → Rule Production name_tree
made_name n = node (give n)

-- the hash of a name
abbrev pub hash_name : List ℕ → Rule Production name_tree
hash_name digits = made_name (spelled spelling_kind.Md5 digits)

-- the hash of a name, or of a locator
abbrev pub whole_hash_name : List ℕ → Rule Production name_tree
whole_hash_name digits = literal_or (codes "??_R4@")
    (made_name (shaped md5_locator_row 0 [] digits no_names no_types))
    (hash_name digits)

-- a variable of the type that a descriptor has
abbrev pub described : Rule Production type_tree
described = node (do t ← call result_type; give (tree.variable t storage_kind.Global 0))

-- a name that enters the table of names
abbrev pub entering_name : Rule Production name_tree → Rule Production name_tree
entering_name r = do
  n ← r
  remember n
  give n

-- a source name, which enters the table of names
abbrev pub new_source_name : Rule Production name_tree
new_source_name = entering_name (node (do n ← call source_name; give (spelled spelling_kind.Source n)))

-- a template that enters the table of names, after its ?$
abbrev pub new_template : Rule Production name_tree
new_template = entering_name (call template_name)

-- a name and arguments
abbrev pub template_inside : Rule Production name_tree
template_inside = node (do
  n ← call symbol_name
  ts ← call (listed an_argument)
  give (template n (type_trees ts)))

-- an anonymous namespace, after its ?A
abbrev pub anonymous_namespace : Rule Production name_tree
anonymous_namespace = node (do ds ← call anonymous_digits; give (anonymous ds))

-- a whole symbol inside a scope
abbrev pub nested_symbol : Rule Production name_tree
nested_symbol = node (do
  s ← call symbol
  give (nested s.name s.scope s.symbol_type))

-- a name in a scope, as a symbol without a type
abbrev pub name_alone : Rule Production name_tree
name_alone = node (do
  n ← call symbol_name
  ns ← call scope
  t ← no_type
  give (nested n (name_trees ns) t))

-- a digit is the type of an entry, and is noted; a type that was read enters the table
abbrev pub parameter : Rule Production type_tree
parameter =
    noted digits
    or here (none_of (begins_of digits)) (entering (call (type_ 0)))

-- an explicit `this`, after its _V
abbrev pub explicit_this : Rule Production type_tree
explicit_this = node (do
  t ← parameter
  give (shape explicit_this_row 0 [] [] no_names (types t no_types)))

-- what a pointer or a reference of no managed code holds behind its marks
abbrev pub pointed_type : PointerAffinity → ℕ → Rule Production type_tree
pointed_type mark q = do
  s ← letter bits qualifiers
  t ← call (type_ s)
  give (pointing mark t q)

-- the same of managed code, by its row
abbrev pub managed_type : ℕ → ℕ → Rule Production type_tree
managed_type row q = do
  s ← letter bits qualifiers
  t ← call (type_ s)
  give (shape row q [] [] no_names (types t no_types))

-- the scope of a funclet inside a function, and its type
abbrev pub funclet_frame : Rule Production name_tree
funclet_frame = node (do
  f ← call funclet_function
  give (shaped frame_row 0 (plain 1 ∷ []) [] (names f no_names) no_types))

abbrev pub funclet_type : Rule Production type_tree
funclet_type = node (node (give (tree.variable (base base_kind.Int 0) storage_kind.FunctionLocalStatic 0)))

-- an array of managed code by the number of its dimensions
abbrev pub managed_array : ℕ → Rule Production type_tree
managed_array q = do
  d ← letter bits digits
  s ← letter bits qualifiers
  t ← call (type_ s)
  give (shape cli_array_row q (plain d ∷ []) [] no_names (types t no_types))

-- values in braces
abbrev pub values_of : Listed → Rule Production type_tree
values_of kind = node (do ts ← call (listed kind); give (shape values_row 0 [] [] no_names (type_trees ts)))

-- a member by its type and its value, if there is one
abbrev pub typed_member : Rule Production type_tree
typed_member = node (do
  t ← call (type_ 0)
  v ← call member_value
  give (shape typed_row 0 [] [] no_names (types v (types t no_types))))

-- a value as the name of an object
abbrev pub object_name : Rule Production name_tree
object_name = node (do
  v ← call template_value
  literal (codes "@")
  give (shaped template_object_row 0 [] [] no_names (types v no_types)))

-- what any pointer or reference holds behind its marks; one row is that of its own $A
abbrev pub pointed : ℕ → PointerAffinity → ℕ → Rule Production type_tree
pointed own_row mark q =
    literal_or (codes "$")
    (letter_or (managed_rows own_row) (λ row. managed_type row q) (literal (codes "0") >> managed_array q))
    (pointed_type mark q)

-- the class of an interface
abbrev pub interface_name : Rule Production name_tree
interface_name = node (do
  n ← call class_symbol
  give (shaped interface_row 0 [] [] (names n no_names) no_types))

-- the mark of a function of managed code, which has no meaning
abbrev pub managed_mark : Rule Production nothing
managed_mark = literal_or (codes "$A") (give tt) (give tt)

-- a field of a row, and what follows with what it holds
abbrev pub field_rule : {a : Sort} → Field → Held → (Held → Rule Production a) → Rule Production a
field_rule a_number h f = call number >>= λ n. f (with_number h n)
field_rule a_count h f = call count >>= λ n. f (with_number h (plain n))
field_rule a_type_name h f = call type_name >>= λ n. f (with_name h n)
field_rule a_source_name h f = new_source_name >>= λ n. f (with_name h n)
field_rule a_symbol h f = nested_symbol >>= λ n. f (with_name h n)
field_rule (a_text bytes) h f = literal bytes >> f h

-- fields, and what follows with all that they hold
abbrev pub fields_rule : {a : Sort} → List Field → Held → (Held → Rule Production a) → Rule Production a
fields_rule [] h f = f h
fields_rule (field ∷ fields) h f = field_rule field h (λ held. fields_rule fields held f)
