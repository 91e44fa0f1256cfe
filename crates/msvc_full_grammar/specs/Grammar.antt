-- Full, the second grammar of symbols. Its trees have the forms that LLVM reads too. Texts stand in the rules, and what
-- letters stand for is in the tables of Letters.
use Rattle.std.specs.Prelude.{pos, negsuc, [], ◌∷◌, ◌++◌, ◌+◌, ◌*◌, ◌%◌, ◌^◌, true, false}
use Rattle.std.specs.Prelude.{Some, None}
use Rattle.std.specs.Prelude.{bit_or, suc, zero, codes, reverse}
use Rattle.msvc_nodes.specs.Trees.{spelled, operator, nested, anonymous, shaped, no_names}
use Rattle.msvc_nodes.specs.Trees.{names, name_trees, base, tagged, pointing, member_function, shape, no_types}
use Rattle.msvc_nodes.specs.Trees.{types, type_trees, base_class_descriptor, vcall_thunk}
use Rattle.msvc_nodes.specs.Trees as tree
use Rattle.msvc_nodes.specs.declared.kinds.PlainType.TheVariants as plain_kind
use Rattle.msvc_nodes.specs.declared.kinds.PointerAffinity.TheVariants as mark_kind
use Rattle.msvc_nodes.specs.declared.kinds.PrimitiveKind.TheVariants as base_kind
use Rattle.msvc_nodes.specs.declared.kinds.Spelling.TheVariants as spelling_kind
use Rattle.msvc_nodes.specs.declared.kinds.TagKind.TheVariants as tag_kind
use Rattle.msvc_rules.specs.Rules.{none_of, at_end, Grammar, Rule, give, letter, literal, up_to, here}
use Rattle.msvc_rules.specs.Rules.{◌>>=◌, ◌>>◌, ◌or◌, call, known_name, remember, stands, apart}
use Rattle.msvc_rules.specs.Rules.{letter_or}
use Rattle.msvc_rules.specs.Rules.{literal_or, node, text_and, text_or, optional, never}
use Rattle.msvc_rules.specs.Sorts.{Sort, bits, base_type, convention}
use Rattle.msvc_full_grammar.specs.Forms.{absent, present}
use Rattle.msvc_full_grammar.specs.Forms.{plain_operator, operator_word, operator_by_row, base_class}
use Rattle.msvc_full_grammar.specs.Forms.{encoding_by_row, free_function, function_of, thunk_of}
use Rattle.msvc_full_grammar.specs.Forms.{c_function, managed_function, table_of_class, type_information}
use Rattle.msvc_full_grammar.specs.Forms.{virtual_call, displaced}
use Rattle.msvc_full_grammar.specs.Forms.{adjustor, vtordisp, vtordispex}
use Rattle.msvc_full_grammar.specs.Forms.{hashed, string, descriptor, guard_of, stub_of}
use Rattle.msvc_full_grammar.specs.Forms.{value_by_row, of_symbol, offsets, member_offsets, bits_of, value_word}
use Rattle.msvc_full_grammar.specs.Forms.{aggregate, elements, subobject, element, union_value, member_of}
use Rattle.msvc_full_grammar.specs.Forms.{template_object}
use Rattle.msvc_full_grammar.specs.Forms.{member as member_form, an_argument, a_member, an_element}
use Rattle.msvc_full_grammar.specs.Forms.{of_pointer, of_member_pointer, of_value}
use Rattle.msvc_full_grammar.specs.Forms.{named, pointer_with, reference_by, volatile_reference, arrayed}
use Rattle.msvc_full_grammar.specs.Forms.{function_with, the_same}
use Rattle.msvc_full_grammar.specs.Forms.{qualified, type_by_row, extended}
use Rattle.msvc_full_grammar.specs.Forms.{empty_pack, alias, typed, argument_value}
use Rattle.msvc_full_grammar.specs.Letters.{digits, hexadecimal, hexadecimal_base, hexadecimal_codes}
use Rattle.msvc_full_grammar.specs.Letters.{noexcept}
use Rattle.msvc_full_grammar.specs.Letters.{qualifiers, member_qualifiers, pointer_sizes, restricts, alignments}
use Rattle.msvc_full_grammar.specs.Letters.{reference_qualifiers, base_types, extended_types, type_texts}
use Rattle.msvc_full_grammar.specs.Letters.{argument_texts, conventions, encoding_texts, variable_texts}
use Rattle.msvc_full_grammar.specs.Letters.{operator_texts, at_sign, funclet_texts, symbol_texts, value_texts}
use Rattle.msvc_full_grammar.specs.Letters.{code_texts, deduced_types, member_texts, volatile}
use Rattle.msvc_full_grammar.specs.Letters.{function_texts, widths}
use Rattle.msvc_full_grammar.specs.Strings.{decoded}
use Rattle.msvc_full_grammar.specs.Productions.{Production, count, letters, number, symbol, encoding, other_encoding}
use Rattle.msvc_full_grammar.specs.Productions.{encoding_after, variable, variable_end, repeated_class, repeated_scope}
use Rattle.msvc_full_grammar.specs.Productions.{repeated_name, symbol_name, operator_name, operator_after, type_name}
use Rattle.msvc_full_grammar.specs.Productions.{type_symbol, class_symbol, template_name, scope, nested_name}
use Rattle.msvc_full_grammar.specs.Productions.{anonymous_digits, anonymous_kept, hexadecimal_digits, name_row}
use Rattle.msvc_full_grammar.specs.Productions.{source_name, function_type, signature, own_qualifiers, marks, returned}
use Rattle.msvc_full_grammar.specs.Productions.{function_parameters, explicit_parameters, parameters}
use Rattle.msvc_full_grammar.specs.Productions.{type_, type_after, pointer}
use Rattle.msvc_full_grammar.specs.Productions.{reference, arrays, dimensions, positive, lengths, listed, one_listed}
use Rattle.msvc_full_grammar.specs.Productions.{argument, member, member_value}
use Rattle.msvc_full_grammar.specs.Productions.{argument_after, template_symbol, named_symbol, type_row, whole_text}
use Rattle.msvc_full_grammar.specs.Productions.{numbers, small_number, unsigned, whole_hash, symbol_after, string_of}
use Rattle.msvc_full_grammar.specs.Productions.{named_type, funclet, funclet_or_symbol, funclet_function}
use Rattle.msvc_full_grammar.specs.Productions.{funclet_home, stub_name, stubbed, stubbed_template, stubbed_name}
use Rattle.msvc_full_grammar.specs.Productions.{marked_stubbed, variable_or_none, stubbed_variable, no_variable}
use Rattle.msvc_full_grammar.specs.Productions.{function_code, marked_scope}
use Rattle.msvc_full_grammar.specs.Productions.{marked_symbol, operator_symbol}
use Rattle.msvc_full_grammar.specs.Productions.{guard_name, guard_index, offsets_of, targets, result_type}
use Rattle.msvc_full_grammar.specs.Productions.{template_value, value_after}
use Rattle.msvc_full_grammar.specs.Rows.{arrays_row, member_pointer_row, frame, type_row_number, name_row_number}
use Rattle.msvc_full_grammar.specs.Rows.{offsets_row, symbol_offsets_row, typed_row, tables_row}
use Rattle.msvc_full_grammar.specs.Rows.{type_descriptor_row}
use Rattle.msvc_full_grammar.specs.Rows.{type_descriptor_name_row, displacement_row}
use Rattle.msvc_full_grammar.specs.Rows.{block_row, handle_row}
use Rattle.msvc_full_grammar.specs.Rows.{tracking_row}
use Rattle.msvc_full_grammar.specs.Rows.{subobject_row, member_row, element_row}
use Rattle.msvc_full_grammar.specs.Rows.{aggregate_row, empty_union_row, union_value_row, absent_row, member_of_row}
use Rattle.msvc_full_grammar.specs.Rows.{fields_of_type, fields_of_name, nothing_held}
use Rattle.msvc_full_grammar.specs.Fragments.{adjusted_row, anonymous_namespace, described, each_plain, end_of}
use Rattle.msvc_full_grammar.specs.Fragments.{explicit_this, fields_rule}
use Rattle.msvc_full_grammar.specs.Fragments.{funclet_frame, funclet_type, guard_row, has_capital, hash_name}
use Rattle.msvc_full_grammar.specs.Fragments.{interface_name, made_name, managed_mark, name_alone}
use Rattle.msvc_full_grammar.specs.Fragments.{nested_symbol, new_source_name, new_template, no_type, object_name}
use Rattle.msvc_full_grammar.specs.Fragments.{of_c, own_of_class, parameter}
use Rattle.msvc_full_grammar.specs.Fragments.{plain, pointed, signed_number, small, string_row, stub_row}
use Rattle.msvc_full_grammar.specs.Fragments.{template_inside}
use Rattle.msvc_full_grammar.specs.Fragments.{typed_member, unsigned_number, values_of, whole_hash_name}

-- The productions

unfoldable pub grammar : {a : Sort} → Production a → Rule Production a
-- Numbers.
-- A digit, which stands for the number after it, or letters up to an @.
grammar count =
    (do d ← letter bits digits; give (d + 1))
    or (do v ← call (letters 0); give (v % 2 ^ 64))
-- letters up to an @, each a digit to base 16, which continue the value of the letters before them
grammar (letters value) =
    (do literal (codes "@"); give value)
    or (do d ← letter bits hexadecimal; call (letters (value * hexadecimal_base + d)))
-- a count, and a ? before it for a minus
grammar number =
    literal_or (codes "?")
    (do n ← call count; give (record { is_negative = true; value = n }))
    (do n ← call count; give (record { is_negative = false; value = n }))
-- as many numbers as the number says
grammar (numbers zero) = give []
grammar (numbers (suc n)) = do
  z ← call number
  zs ← call (numbers n)
  give (z ∷ zs)
-- a number of which the low 32 bits count
grammar small_number = do
  n ← call number
  give (small n)
grammar (unsigned (pos n)) = give n
grammar (unsigned (negsuc n)) = never
-- Symbols.
-- The name of a type, a funclet or a symbol. A hash that is no part of a name may be that of a locator.
grammar whole_text =
    literal_or (codes ".") (call named_type)
    (text_or funclet_texts (λ row. call (funclet row))
    (literal_or (codes "??@") (call whole_hash) (call symbol)))
grammar named_type = do
  n ← made_name (shaped type_descriptor_name_row 0 [] [] no_names no_types)
  t ← described
  give (record { name = n; scope = no_names; symbol_type = t })
-- the rest of a funclet's name, and the function that it is a part of
grammar (funclet row) = do
  label ← up_to at_sign
  n ← made_name (shaped row 0 [] label no_names no_types)
  h ← call funclet_home
  give (record { name = n; scope = names h.0 no_names; symbol_type = h.1 })
-- the function by its name, or as one whose static variable the funclet would be
grammar funclet_home =
    literal_or (codes "0@")
    (do x ← name_alone; t ← no_type; give (x, t))
    (do literal (codes "?0?"); x ← funclet_frame; t ← funclet_type; give (x, t))
grammar funclet_or_symbol = text_or funclet_texts (λ row. call (funclet row)) (call symbol)
-- a name of C up to an @, or a function with an @ behind it
grammar funclet_function =
    here (none_of (codes "?" ∷ [])) (node (do
      x ← call source_name
      n ← made_name (spelled spelling_kind.Source x)
      t ← no_type
      literal (codes "4HA")
      give (nested n no_names t)))
    or node (do
      s ← call funclet_or_symbol
      literal (codes "@4HA")
      give (nested s.name s.scope s.symbol_type))
grammar whole_hash = do
  digits ← up_to at_sign
  n ← whole_hash_name digits
  t ← no_type
  give (record { name = n; scope = no_names; symbol_type = t })
-- A ?, the name, its scope and its type. A template begins with ?$, and an operator or what has no name with a ?.
grammar symbol = literal (codes "?")
    >> literal_or (codes "?$") (call template_symbol)
    (literal_or (codes "?") (call marked_symbol) (call named_symbol))
grammar marked_symbol = text_or symbol_texts (λ f. call (symbol_after f)) (call operator_symbol)
grammar operator_symbol = do
  n ← call operator_name
  ns ← call scope
  t ← call encoding
  give (record { name = n; scope = name_trees ns; symbol_type = t })
grammar (symbol_after hashed) = do
  digits ← up_to at_sign
  n ← hash_name digits
  t ← no_type
  give (record { name = n; scope = no_names; symbol_type = t })
-- the width of the characters, the length in bytes, a checksum, and the bytes
grammar (symbol_after string) = do
  literal (codes "@_")
  width ← letter bits widths
  length ← call count
  _ ← up_to at_sign
  encoded ← up_to at_sign
  n ← call (string_of width length (decoded encoded))
  t ← no_type
  give (record { name = n; scope = no_names; symbol_type = t })
-- the type, as a function returns it, and an @8
grammar (symbol_after descriptor) = do
  n ← made_name (shaped type_descriptor_row 0 [] [] no_names no_types)
  t ← described
  literal (codes "@8")
  give (record { name = n; scope = no_names; symbol_type = t })
-- the scope, and the index of the guard behind it
grammar (symbol_after (guard_of kind)) = do
  ns ← call scope
  n ← call (guard_name kind)
  t ← no_type
  give (record { name = n; scope = name_trees ns; symbol_type = t })
grammar (symbol_after template_object) = do
  n ← object_name
  t ← no_type
  give (record { name = n; scope = no_names; symbol_type = t })
-- a function that begins or ends the life of a variable, and its signature
grammar (symbol_after (stub_of stub)) = do
  n ← call (stub_name stub)
  t ← call function_code
  give (record { name = n; scope = no_names; symbol_type = t })
grammar (string_of width length None) = never
grammar (string_of width length (Some bytes)) =
    made_name (shaped (string_row width) 0 (each_plain (length ∷ bytes)) [] no_names no_types)
grammar (guard_name kind) = node (do
  literal (codes "4IA") or literal (codes "5")
  zs ← call guard_index
  give (shaped (guard_row kind) 0 zs [] no_names no_types))
-- at the end of the text a guard has no index
grammar guard_index =
    here at_end (give [])
    or (do
      n ← call number
      i ← call (unsigned (small n))
      give (plain i ∷ []))
grammar (stub_name stub) = node (node (do
  s ← call stubbed
  give (shaped (stub_row stub s.symbol_type) 0 [] [] (names (nested s.name s.scope s.symbol_type) no_names) no_types)))
-- What a stub is of: behind a ? a variable and @@, and else a variable and an @, or the name of one. The name of a
-- template enters the table where a variable follows, as in symbols.
grammar stubbed =
    literal_or (codes "?$") (call (stubbed_template false))
    (literal_or (codes "?") (call marked_stubbed) (call (stubbed_name false)))
grammar marked_stubbed = literal_or (codes "?$") (call (stubbed_template true)) (call (stubbed_name true))
grammar (stubbed_template required) = do
  n ← call template_name
  ns ← call scope
  text_or variable_texts
      (λ k. do
        remember n
        t ← call (stubbed_variable required k)
        give (record { name = n; scope = name_trees ns; symbol_type = t }))
      (do
        t ← call (no_variable required)
        give (record { name = n; scope = name_trees ns; symbol_type = t }))
grammar (stubbed_name required) = do
  n ← call symbol_name
  ns ← call scope
  t ← call (variable_or_none required)
  give (record { name = n; scope = name_trees ns; symbol_type = t })
grammar (variable_or_none required) =
    text_or variable_texts (λ k. call (stubbed_variable required k)) (call (no_variable required))
grammar (stubbed_variable true k) = do t ← call (variable k); literal (codes "@@"); give t
grammar (stubbed_variable false k) = do t ← call (variable k); literal (codes "@"); give t
grammar (no_variable true) = never
grammar (no_variable false) = no_type
-- What follows the ?$ of a symbol. The template's name enters the table behind the names of its scope where a variable
-- follows, and else not at all.
grammar template_symbol = do
  n ← call template_name
  ns ← call scope
  text_or variable_texts
      (λ k. do
        remember n
        t ← call (variable k)
        give (record { name = n; scope = name_trees ns; symbol_type = t }))
      (do
        t ← call other_encoding
        give (record { name = n; scope = name_trees ns; symbol_type = t }))
-- what follows the ? of any other symbol
grammar named_symbol = do
  n ← call symbol_name
  ns ← call scope
  t ← call encoding
  give (record { name = n; scope = name_trees ns; symbol_type = t })
grammar encoding = text_or variable_texts (λ k. call (variable k)) (call other_encoding)
-- the type of a symbol that is no variable; at the end of the text none
grammar other_encoding =
    here at_end no_type
    or text_and encoding_texts (λ e. call (encoding_after e))
grammar (encoding_after (encoding_by_row r)) = call (type_row 0 r)
grammar (encoding_after free_function) = call (function_type absent)
grammar (encoding_after (function_of class)) = node (do
  f ← call (signature (own_of_class class))
  give (member_function class f.1.0 (type_trees f.1.1.1) f.0 f.1.1.0))
grammar (encoding_after (thunk_of moved class)) = node (do
  zs ← call (offsets_of moved)
  f ← call (encoding_after (function_of class))
  give (shape (adjusted_row moved) 0 zs [] no_names (types f no_types)))
grammar (encoding_after c_function) = text_and function_texts (λ f. call (encoding_after (of_c f)))
grammar (encoding_after managed_function) = text_and function_texts (λ f. call (encoding_after f))
-- a qualifier, and the classes that the table is for
grammar (encoding_after table_of_class) = node (do
  q ← letter bits qualifiers
  ns ← call targets
  give (shape tables_row q [] [] (name_trees ns) no_types))
grammar (encoding_after type_information) = node (give (tree.plain plain_kind.Rtti))
grammar (encoding_after virtual_call) = node (do
  z ← call small_number
  literal (codes "A")
  c ← letter convention conventions
  give (vcall_thunk z c))
grammar (encoding_after displaced) = node (do
  n ← call class_symbol
  give (shape displacement_row 0 [] [] (names n no_names) no_types))
-- the type of a symbol that is a function
grammar function_code = text_and code_texts (λ f. call (encoding_after f))
-- the offsets by which a function moves its this, of which the last has no sign
grammar (offsets_of adjustor) = do
  z ← call small_number
  give (unsigned_number z ∷ [])
grammar (offsets_of vtordisp) = do
  v ← call small_number
  z ← call small_number
  give (signed_number v ∷ unsigned_number z ∷ [])
grammar (offsets_of vtordispex) = do
  p ← call small_number
  o ← call small_number
  v ← call small_number
  z ← call small_number
  give (signed_number p ∷ signed_number o ∷ signed_number v ∷ unsigned_number z ∷ [])
-- classes up to an @
grammar targets = literal_or (codes "@") (give []) (do n ← call class_symbol; ns ← call targets; give (n ∷ ns))
-- a type, and what stands after it by that type
grammar (variable k) = node (do
  t ← call (type_ 0)
  q ← call (variable_end (end_of t))
  give (tree.variable t k q))
grammar (variable_end of_pointer) = do
  _ ← call marks
  _ ← letter bits qualifiers
  give 0
grammar (variable_end of_member_pointer) = do
  _ ← call marks
  _ ← letter bits qualifiers
  call repeated_class
  give 0
grammar (variable_end of_value) = letter bits qualifiers
-- The class of a member once more, which is dropped. So it makes no node, and its names are those that are read without
-- one: entries of the table of names, source names and anonymous namespaces.
grammar repeated_class = call repeated_name >> call repeated_scope
grammar repeated_scope = literal_or (codes "@") (give tt) (call repeated_name >> call repeated_scope)
grammar repeated_name =
    letter_or digits
    (λ i. stands i)
    (literal_or (codes "?A")
    (do _ ← call anonymous_digits; give tt)
    (do n ← call source_name; remember (spelled spelling_kind.Source n)))
-- Names.
-- A digit is an entry of the table of names. A source name enters that table; a template and an operator don't.
grammar symbol_name =
    letter_or digits
    (λ i. known_name i)
    (literal_or (codes "?$") (call template_name) (literal_or (codes "?") (call operator_name) new_source_name))
grammar operator_name = text_and operator_texts (λ o. call (operator_after o))
grammar (operator_after (plain_operator o)) = node (give (operator o))
grammar (operator_after (operator_word row)) = node (give (shaped row 0 [] [] no_names no_types))
grammar (operator_after (operator_by_row r)) = call (name_row r)
-- the places of a base class in an object, and its attributes
grammar (operator_after base_class) = node (do
  in_class ← call small_number
  in_table ← call small_number
  entry ← call small_number
  attributes ← call small_number
  give (base_class_descriptor in_class in_table entry attributes))
-- the fields of a row of names
grammar (name_row r) = node (fields_rule (fields_of_name r) nothing_held (λ h.
    give (shaped (name_row_number r) 0 h.numbers [] (name_trees h.names) (type_trees h.types))))
-- the name of a type, which enters the table of names
grammar type_name = letter_or digits (λ i. known_name i) (literal_or (codes "?$") new_template new_source_name)
grammar type_symbol = do
  n ← call type_name
  ns ← call scope
  give (n, ns)
-- the class of a member, as a symbol without a type
grammar class_symbol = node (do
  s ← call type_symbol
  t ← no_type
  give (nested s.0 (name_trees s.1) t))
-- a name and arguments, which have tables of their own
grammar template_name = apart template_inside
-- names up to an @
grammar scope = literal_or (codes "@") (give []) (do n ← call nested_name; ns ← call scope; give (n ∷ ns))
-- A name of a type, or after a ? an anonymous namespace, an interface, a scope inside a function, or a symbol that has
-- its own ?.
grammar nested_name =
    letter_or digits
    (λ i. known_name i)
    (literal_or (codes "?$") new_template
    (literal_or (codes "?A") anonymous_namespace
    (literal_or (codes "?") (call marked_scope) new_source_name)))
grammar marked_scope =
    literal_or (codes "Q") interface_name
    (here (none_of (codes "?" ∷ [])) (call (name_row frame)) or nested_symbol)
-- An @ alone, or 0x, digits to base 16 and an @. With these the name enters the table unless a digit is a capital.
grammar anonymous_digits =
    (do literal (codes "@"); give None)
    or (do
      literal (codes "0x")
      ds ← call hexadecimal_digits
      call (anonymous_kept (has_capital ds) ds)
      give (Some (codes "0x" ++ ds)))
grammar (anonymous_kept true ds) = give tt
grammar (anonymous_kept false ds) = remember (anonymous (Some (codes "0x" ++ ds)))
grammar hexadecimal_digits =
    literal_or (codes "@") (give []) (do d ← letter bits hexadecimal_codes; ds ← call hexadecimal_digits; give (d ∷ ds))
-- the bytes up to an @, of which there is one at least
grammar source_name = here (none_of (codes "?" ∷ codes "@" ∷ [])) (up_to at_sign)
-- Functions.
grammar (function_type own) = node (do
  f ← call (signature own)
  give (tree.function f.1.0 (type_trees f.1.1.1) f.0 f.1.1.0))
-- own qualifiers, a convention, what is returned, the parameters, and _E or Z
grammar (signature own) = do
  q ← call (own_qualifiers own)
  c ← letter convention conventions
  t ← call returned
  ts ← call function_parameters
  (do literal (codes "_E"); give (bit_or noexcept q, (c, (t, ts))))
      or (do literal (codes "Z"); give (q, (c, (t, ts))))
grammar (own_qualifiers absent) = give 0
grammar (own_qualifiers present) = do
  m ← call marks
  managed_mark
  kind ← optional reference_qualifiers
  q ← letter bits qualifiers
  give (bit_or m (bit_or kind q))
grammar marks = do
  size ← optional pointer_sizes
  restrict ← optional restricts
  alignment ← optional alignments
  give (bit_or size (bit_or restrict alignment))
-- an @ for no type, as a constructor has none
grammar returned = literal_or (codes "@") no_type (call result_type)
-- a type, before which a ? and a qualifier may stand
grammar result_type = literal_or (codes "?") (do q ← letter bits qualifiers; call (type_ q)) (call (type_ 0))
-- X for one void, or parameters, of which the first is an explicit `this` behind a _V; no type begins so
grammar function_parameters =
    literal_or (codes "X") (node (give (base base_kind.Void 0 ∷ [])))
    ((literal (codes "_V") >> call explicit_parameters) or call parameters)
grammar explicit_parameters = do
  t ← explicit_this
  ts ← call parameters
  give (t ∷ ts)
-- parameters up to an @ or a Z, which adds an ellipsis
grammar parameters =
    (do literal (codes "@"); give [])
    or (do literal (codes "Z"); node (give (tree.plain plain_kind.Variadic ∷ [])))
    or here (none_of (codes "@" ∷ codes "Z" ∷ [])) (do t ← parameter; ts ← call parameters; give (t ∷ ts))
-- Types, with the qualifiers that they are read with.
grammar (type_ q) =
    text_or type_texts (λ f. call (type_after q f)) (node (do b ← letter base_type base_types; give (base b q)))
grammar (type_after q (named tag)) = node (do
  s ← call type_symbol
  give (tagged tag s.0 (name_trees s.1) q))
grammar (type_after q (pointer_with more)) = call (pointer (bit_or q more))
grammar (type_after q (reference_by mark)) = call (reference mark q)
grammar (type_after q volatile_reference) = call (reference mark_kind.Reference (bit_or q volatile))
grammar (type_after q arrayed) = call (arrays q)
grammar (type_after q (function_with own)) = call (function_type own)
grammar (type_after q the_same) = call (type_ q)
grammar (type_after q qualified) = do
  more ← letter bits qualifiers
  call (type_ (bit_or q more))
grammar (type_after q (type_by_row r)) = call (type_row q r)
grammar (type_after q extended) = node (
    letter_or deduced_types
    (λ row. give (shape row q [] [] no_names no_types))
    (do b ← letter base_type extended_types; give (base b q)))
-- the fields of a row of types, with qualifiers
grammar (type_row q r) = node (fields_rule (fields_of_type r) nothing_held (λ h.
    give (shape (type_row_number r) q h.numbers [] (name_trees h.names) (type_trees h.types))))
-- a function; a member function of a class; a block; marks and a member of a class; marks and a type
grammar (pointer q) = node (
    literal_or (codes "6") (do f ← call (function_type absent); give (pointing mark_kind.Pointer f q))
    (literal_or (codes "8")
    (do
      c ← call class_symbol
      f ← call (function_type present)
      give (shape member_pointer_row q [] [] (names c no_names) (types f no_types)))
    (literal_or (codes "_E")
    (do f ← call (function_type absent); give (shape block_row q [] [] no_names (types f no_types)))
    (do
      m ← call marks
      letter_or member_qualifiers
          (λ s. do
            c ← call class_symbol
            t ← call (type_ s)
            give (shape member_pointer_row (bit_or q m) [] [] (names c no_names) (types t no_types)))
          (pointed handle_row mark_kind.Pointer (bit_or q m))))))
-- a function; marks and a type
grammar (reference mark q) = node (
    literal_or (codes "6") (do f ← call (function_type absent); give (pointing mark f q))
    (do
      m ← call marks
      pointed tracking_row mark (bit_or q m)))
-- A number above 0, that many lengths, a qualifier after a $$C, and the type of the elements. The type stands in both
-- alternatives, since its bytes tell that no $$C begins.
grammar (arrays q) = node (do
  n ← call dimensions
  zs ← call (lengths n)
  literal_or (codes "$$C")
      (do
        more ← letter bits qualifiers
        t ← call (type_ 0)
        give (shape arrays_row (bit_or q more) zs [] no_names (types t no_types)))
      (do
        t ← call (type_ 0)
        give (shape arrays_row q zs [] no_names (types t no_types))))
grammar dimensions = do
  n ← call count
  call (positive n)
grammar (positive zero) = never
grammar (positive (suc n)) = give (suc n)
-- as many lengths as the number says
grammar (lengths zero) = give []
grammar (lengths (suc n)) = do
  z ← call count
  zs ← call (lengths n)
  give (record { is_negative = false; value = z } ∷ zs)
-- Arguments of templates, members of classes and elements of arrays, up to an @.
grammar (listed kind) =
    literal_or (codes "@") (give []) (do t ← call (one_listed kind); ts ← call (listed kind); give (t ∷ ts))
grammar (one_listed an_argument) = call argument
grammar (one_listed a_member) = call member
grammar (one_listed an_element) = do v ← call template_value; literal (codes "@"); give v
grammar argument = text_or argument_texts (λ f. call (argument_after f)) (call (type_ 0))
grammar (argument_after empty_pack) = node (give (tree.plain plain_kind.EmptyPack))
grammar (argument_after alias) = node (do
  s ← call type_symbol
  give (tagged tag_kind.Alias s.0 (name_trees s.1) 0))
-- a value behind its type
grammar (argument_after typed) = node (do
  t ← call (type_ 0)
  v ← call template_value
  give (shape typed_row 0 [] [] no_names (types v (types t no_types))))
grammar (argument_after (argument_value v)) = call (value_after v)
-- Values among the arguments of templates.
grammar template_value = text_and value_texts (λ v. call (value_after v))
grammar (value_after (value_by_row r)) = call (type_row 0 r)
grammar (value_after (of_symbol row)) = node (do
  x ← nested_symbol
  give (shape row 0 [] [] (names x no_names) no_types))
grammar (value_after (offsets n)) = node (do
  zs ← call (numbers n)
  give (shape offsets_row 0 zs [] no_names no_types))
-- the bits of a number
grammar (value_after (bits_of row)) = node (do
  n ← call count
  give (shape row 0 (plain n ∷ []) [] no_names no_types))
grammar (value_after (value_word row)) = node (give (shape row 0 [] [] no_names no_types))
-- the type, and the values of members or of elements
grammar (value_after aggregate) = node (do
  t ← call (type_ 0)
  v ← values_of a_member
  give (shape aggregate_row 0 [] [] no_names (types t (types v no_types))))
grammar (value_after elements) = node (do
  t ← call (type_ 0)
  v ← values_of an_element
  give (shape typed_row 0 [] [] no_names (types v (types t no_types))))
-- a value, which is a part of another, or of which a member or an element is meant
grammar (value_after subobject) = node (do
  v ← call template_value
  literal (codes "@")
  give (shape subobject_row 0 [] [] no_names (types v no_types)))
grammar (value_after member_form) = node (do
  v ← call template_value
  n ← call type_name
  literal (codes "@")
  give (shape member_row 0 [] [] (names n no_names) (types v no_types)))
grammar (value_after element) = node (do
  v ← call template_value
  literal (codes "0")
  n ← call number
  literal (codes "@")
  give (shape element_row 0 (n ∷ []) [] no_names (types v no_types)))
-- the type of a union, and the name and the value of the member that it has, if any
grammar (value_after union_value) = node (do
  t ← call (type_ 0)
  literal_or (codes "@")
      (give (shape empty_union_row 0 [] [] no_names (types t no_types)))
      (do
        n ← call type_name
        v ← call template_value
        literal (codes "@")
        give (shape union_value_row 0 [] [] (names n no_names) (types t (types v no_types)))))
-- the scope of a member, the innermost name first, and the name of the member
grammar (value_after member_of) = node (do
  ns ← call scope
  n ← call type_name
  literal (codes "@")
  give (shape member_of_row 0 [] [] (name_trees (reverse ns ++ n ∷ [])) no_types))
-- a value that needs no type, or a type and the value, if there is one
grammar member = text_or member_texts (λ v. call (value_after v)) typed_member
grammar member_value =
    literal_or (codes "@") (node (give (shape absent_row 0 [] [] no_names no_types))) (call template_value)
-- the function that is pointed to, if a ? stands, and offsets
grammar (value_after (member_offsets n)) = node (
    here (none_of (codes "?" ∷ [])) (do
      zs ← call (numbers n)
      give (shape offsets_row 0 zs [] no_names no_types))
    or (do
      x ← nested_symbol
      zs ← call (numbers n)
      give (shape symbol_offsets_row 0 zs [] (names x no_names) no_types)))

-- Full, as a grammar
abbrev pub full_grammar : Grammar
full_grammar = record { family = Production; rule = grammar; start = whole_text; parameter_type = type_ 0 }
