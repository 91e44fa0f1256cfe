-- The grammar of symbols. Most productions have one name here, in docs/grammar.md and as the function that reads them;
-- the other productions are parts of one. Texts stand in the rules, and what letters stand for is in the tables of
-- Letters.
use Rattle.std.specs.Prelude.{ℕ, ℤ, pos, List, [], ◌∷◌, ◌++◌, ◌==◌, ◌+◌, ◌*◌, ◌%◌, ◌^◌, Bool, true, false, Some, None}
use Rattle.std.specs.Prelude.{negsuc, Option, bit_and, bit_or, suc, zero, codes, is_some, length, nat_lt, not, min}
use Rattle.std.specs.Prelude.{if◌then◌else◌, unwrap_or}
use Rattle.std.specs.Int.{cast_signed, int_wrapping_neg, w32}
use Rattle.msvc_nodes.specs.Trees as tree
use Rattle.msvc_nodes.specs.declared.kinds.TagKind.TheVariants as tag_kind
use Rattle.msvc_nodes.specs.declared.kinds.PrimitiveKind.TheVariants as base_kind
use Rattle.msvc_nodes.specs.declared.kinds.PointerAffinity.TheVariants as mark_kind
use Rattle.msvc_nodes.specs.declared.kinds.NumberedType.TheVariants as number_kind
use Rattle.msvc_nodes.specs.declared.kinds.PlainType.TheVariants as plain_kind
use Rattle.msvc_nodes.specs.declared.kinds.Spelling.TheVariants as spelling_kind
use Rattle.msvc_nodes.specs.Trees.{NameTree, TypeTree, spelled, template, discriminator, nested, anonymous, no_names}
use Rattle.msvc_nodes.specs.Trees.{plain}
use Rattle.msvc_nodes.specs.Trees.{operator, guard, type_descriptor, base_class_descriptor, base, tagged, numbered}
use Rattle.msvc_nodes.specs.Trees.{pointing, constant_string, vcall_thunk, function}
use Rattle.msvc_nodes.specs.Trees.{member_function, variable, name_trees, type_trees}
use Rattle.msvc_rules.specs.Rules.{none_of, at_end, Grammar, Rule, give, letter, literal, up_to, here, ◌>>=◌, ◌>>◌}
use Rattle.msvc_rules.specs.Rules.{◌or◌, lookup, every, call, known_name, remember, known_type, noted, entering, apart}
use Rattle.msvc_rules.specs.Rules.{begins_of, letter_or, literal_or, node, text_and, text_or, optional, never}
use Rattle.msvc_rules.specs.Sorts.{based, extended, named, points, arrayed, indexed, referred, variable_of, table_of}
use Rattle.msvc_rules.specs.Sorts.{type_information, untyped, encoded_string, virtual_call, plain_function, member_of}
use Rattle.msvc_rules.specs.Sorts.{Sort, nothing, bits, integer, name_tree, base_type, type_letter, encoding_letter}
use Rattle.msvc_rules.specs.Sorts.{convention, symbol_tree}
use Rattle.msvc_grammar.specs.Letters.{digits, hexadecimal, hexadecimal_codes, qualifiers, storage_classes, alignments}
use Rattle.msvc_grammar.specs.Letters.{qualifiers_of_returns, qualifiers_of_arrays, pointer_sizes, restricts, static}
use Rattle.msvc_grammar.specs.Letters.{reference_qualifiers, extended_types, type_letters, type_texts, conventions}
use Rattle.msvc_grammar.specs.Letters.{thunk, function_classes, encoding_letters, special_texts, character_sizes}
use Rattle.msvc_grammar.specs.Letters.{plain_characters, escaped_characters, at_sign, decimal_base, hexadecimal_base}
use Rattle.msvc_grammar.specs.Productions.{Production, symbol, symbol_body, guard_index, unsigned, decimal, encoding}
use Rattle.msvc_grammar.specs.Productions.{encoding_after, characters, character, thunk_number, this_qualifiers}
use Rattle.msvc_grammar.specs.Productions.{function_qualifiers, signature, return_qualifiers, returned}
use Rattle.msvc_grammar.specs.Productions.{function_parameters, parameters, parameter, type_, plain_type, type_after}
use Rattle.msvc_grammar.specs.Productions.{pointee, array, dimension, positive, lengths, qualified_name}
use Rattle.msvc_grammar.specs.Productions.{unqualified_name, template_name, scope, nested_name, locally_scoped_name}
use Rattle.msvc_grammar.specs.Productions.{anonymous_namespace, hexadecimal_digits, source_name, number, magnitude}
use Rattle.msvc_grammar.specs.Productions.{letters, required, prefixed_type, function_type, member_pointer, class_part}
use Rattle.msvc_grammar.specs.Productions.{special_name, special_after}
use Rattle.msvc_grammar.specs.declared.forms.FunctionKind.TheVariants as function_kind
use Rattle.msvc_grammar.specs.declared.forms.MemberPointerForm.TheVariants as pointer_form
use Rattle.msvc_grammar.specs.declared.forms.ObjectQualifiers.{ObjectQualifiers}
use Rattle.msvc_grammar.specs.declared.forms.ObjectQualifiers.TheVariants as object_qualifiers
use Rattle.msvc_grammar.specs.declared.forms.TemplateNames.{TemplateNames}
use Rattle.msvc_grammar.specs.declared.forms.TemplateNames.TheVariants as templates
use Rattle.msvc_grammar.specs.declared.forms.TypePrefix.TheVariants as form
use Rattle.msvc_grammar.specs.declared.forms.SpecialForm.TheVariants as special

-- What values are made of

-- whether a class has a bit
abbrev pub has : ℕ → ℕ → Bool
has class bit = bit_and class bit == bit

-- whether a member function of a class has qualifiers on its object: a static one has none
abbrev pub qualifiers_of_class : ℕ → ObjectQualifiers
qualifiers_of_class class = if has class static then object_qualifiers.Absent else object_qualifiers.Present

-- a value modulo 2 ^ 32, signed
abbrev pub signed : ℕ → ℤ
signed value = cast_signed w32 (value % 2 ^ 32)

-- an array of these lengths, the outermost first, with the same qualifiers at each level
unfoldable pub arrays : List ℤ → TypeTree → ℕ → TypeTree
arrays [] t q = t
arrays (n ∷ ns) t q = tree.array n (arrays ns t q) q

-- how many characters of one byte are kept of a string at most
abbrev pub most_characters : ℕ
most_characters = 32

-- how many bytes are kept of a string of this length, whose characters have `size` bytes each
abbrev pub string_length : ℕ → ℤ → ℕ
string_length size (pos n) = min n (most_characters * size)
string_length size (negsuc n) = 0

-- how many digits to base 16 a hash has
abbrev pub hash_length : ℕ
hash_length = 32

-- whether bytes are a hash: `hash_length` digits to base 16
abbrev pub is_hash : List ℕ → Bool
is_hash digits =
    if length digits == hash_length then every (λ b. is_some (lookup b hexadecimal_codes)) digits else false

-- the greatest number of 32 bits with a sign
abbrev pub greatest_number : ℕ
greatest_number = 2147483647

-- whether a number is at most the greatest number
abbrev pub is_in_range : ℕ → Bool
is_in_range value = not (nat_lt greatest_number value)

-- whether a name is that of a guard
abbrev pub is_guard : NameTree → Bool
is_guard (guard kind index) = true
is_guard _ = false

-- a name with an index, which only the name of a guard takes
abbrev pub with_index : Option ℕ → NameTree → NameTree
with_index index (guard kind before) = guard kind index
with_index index n = n

-- Parts of productions

-- a name that enters the table of names
abbrev pub entering_name : Rule Production name_tree → Rule Production name_tree
entering_name r = do
  n ← r
  remember n
  give n

-- a source name, which enters the table of names
abbrev pub new_source_name : Rule Production name_tree
new_source_name = entering_name (node (do n ← call source_name; give (spelled spelling_kind.Source n)))

-- a whole symbol inside a scope, after its own ?
abbrev pub nested_symbol : Rule Production name_tree
nested_symbol = node (do
  s ← call symbol_body
  give (nested s.name s.scope s.symbol_type))

-- an interface, after its ?Q
abbrev pub new_interface : Rule Production name_tree
new_interface = entering_name (node (do
  n ← call source_name
  literal (codes "@")
  give (spelled spelling_kind.Interface n)))

-- a name and arguments
abbrev pub template_inside : Rule Production name_tree
template_inside = node (do
  n ← call (unqualified_name templates.Memorized)
  ts ← call parameters
  give (template n (type_trees ts)))

-- a template, whose name enters the table of names if template names are memorized
abbrev pub template_kept : TemplateNames → Rule Production name_tree
template_kept templates.NotMemorized = call template_name
template_kept templates.Memorized = entering_name (call template_name)

-- letters to base 16, as a number of 32 bits
abbrev pub signed_letters : Rule Production integer
signed_letters = do
  v ← call (letters 0)
  give (signed v)

-- the qualifiers of what a function returns that is part of a type
abbrev pub pointed_return_qualifiers : Rule Production bits
pointed_return_qualifiers = literal_or (codes "?") (optional storage_classes) (give 0)

-- the qualifiers of each level of an array
abbrev pub array_class : Rule Production bits
array_class = literal_or (codes "$$C") (letter bits qualifiers_of_arrays) (give 0)

-- what follows the ?$ of a symbol that is a template and nothing else
abbrev pub template_symbol : Rule Production symbol_tree
template_symbol = do
  n ← call template_name
  node (give (record { name = n; scope = no_names; symbol_type = plain plain_kind.None }))

-- what follows the ? of a symbol that has a scope
abbrev pub named_symbol : Rule Production symbol_tree
named_symbol = do
  n ← call (qualified_name templates.NotMemorized)
  index ← call (guard_index (is_guard n.0))
  t ← call encoding
  give (record { name = with_index index n.0; scope = name_trees n.1; symbol_type = t })

-- what follows the ??@ of a symbol of which there is a hash alone
abbrev pub hashed_symbol : Rule Production symbol_tree
hashed_symbol = node (node (do
  n ← call source_name
  call (required (is_hash n))
  give (record { name = spelled spelling_kind.Md5 n; scope = no_names; symbol_type = plain plain_kind.None })))

-- one decimal digit or more, up to an @
abbrev pub guard_number : Rule Production bits
guard_number = do
  d ← letter bits digits
  call (decimal d)

-- what follows the ?$TSS of the guard of a thread-safe static variable
abbrev pub numbered_guard : Rule Production symbol_tree
numbered_guard = do
  z ← guard_number
  n ← call nested_name
  ns ← call scope
  literal (codes "4HA")
  node (give (record { name = n; scope = name_trees ns; symbol_type = numbered number_kind.ThreadSafeGuard (pos z) }))

-- what stands after the name of a guard, as the type of a variable does after another name
abbrev pub guard_marker : Rule Production nothing
guard_marker = literal (codes "4IA") or literal (codes "5")

-- the two halves of a byte
abbrev pub halves : Rule Production bits
halves = do
  high ← letter bits hexadecimal
  low ← letter bits hexadecimal
  give (high * hexadecimal_base + low)

-- what stands for a byte after a ?
abbrev pub escaped_character : Rule Production bits
escaped_character = literal_or (codes "$") halves (letter bits escaped_characters)

-- The productions

unfoldable pub grammar : {a : Sort} → Production a → Rule Production a
-- A ?, and what follows it.
grammar symbol = do
  literal (codes "?")
  call symbol_body
grammar symbol_body =
    literal_or (codes "?@") hashed_symbol
    (literal_or (codes "$TSS") numbered_guard
    (literal_or (codes "$") template_symbol named_symbol))
-- at the end of the text a guard has no index
grammar (guard_index true) = do
  guard_marker
  here at_end (give None) or (do z ← call number; index ← call (unsigned z); give (Some index))
grammar (guard_index false) = give None
grammar (unsigned (pos n)) = give n
grammar (unsigned (negsuc n)) = never
-- decimal digits up to an @, which continue the value of the digits before them
grammar (decimal value) = do
  call (required (is_in_range value))
  letter_or digits (λ d. call (decimal (value * decimal_base + d))) (do literal (codes "@"); give value)
-- the type of a symbol, by its first byte; at the end of the text none
grammar encoding =
    here at_end (node (give (plain plain_kind.None)))
    or (do l ← letter encoding_letter encoding_letters; call (encoding_after l))
grammar (encoding_after (variable_of kind)) = node (do
  t ← call (type_ 0)
  class ← optional storage_classes
  give (variable t kind class))
grammar (encoding_after (table_of kind)) = node (do
  q ← optional qualifiers
  ns ← call scope
  give (tree.table kind (name_trees ns) q))
grammar (encoding_after type_information) = node (give (plain plain_kind.Rtti))
grammar (encoding_after untyped) = node (give (plain plain_kind.None))
-- the size of a character, the length of the string, a number, which is dropped, and the first characters
grammar (encoding_after encoded_string) = node (do
  size ← letter bits character_sizes
  z ← call number
  _ ← call number
  cs ← call (characters (string_length size z))
  give (constant_string cs))
grammar (encoding_after virtual_call) = node (do
  literal (codes "B")
  z ← call number
  literal (codes "A")
  c ← letter convention conventions
  give (vcall_thunk z c))
grammar (encoding_after plain_function) = node (do
  f ← call (signature function_kind.Free)
  give (function f.0 (type_trees f.1.1) 0 f.1.0))
grammar (encoding_after (member_of class)) = node (do
  call (thunk_number (has class thunk))
  on_this ← call (this_qualifiers (qualifiers_of_class class))
  f ← call (signature function_kind.Member)
  give (member_function class f.0 (type_trees f.1.1) on_this f.1.0))
-- as many characters as the number says
grammar (characters zero) = give []
grammar (characters (suc n)) = do
  c ← call character
  cs ← call (characters n)
  give (c ∷ cs)
-- a byte as it stands, or what stands for one after a ?
grammar character = literal_or (codes "?") escaped_character (letter bits plain_characters)
-- a thunk has a number, which is dropped
grammar (thunk_number true) = do
  z ← call number
  give tt
grammar (thunk_number false) = give tt
-- the qualifiers of the object that a function is called on, which a static function lacks
grammar (this_qualifiers object_qualifiers.Absent) = give 0
grammar (this_qualifiers object_qualifiers.Present) = call function_qualifiers
grammar function_qualifiers = do
  size ← optional pointer_sizes
  restrict ← optional restricts
  alignment ← optional alignments
  reference ← optional reference_qualifiers
  qualifier ← optional qualifiers
  give (bit_or size (bit_or restrict (bit_or alignment (bit_or reference qualifier))))
-- a convention, what is returned and the parameters, of a member function or of another
grammar (signature kind) = do
  c ← letter convention conventions
  q ← call return_qualifiers
  t ← call (returned kind q)
  ts ← call function_parameters
  give (c, (t, ts))
grammar return_qualifiers = literal_or (codes "?") (letter bits qualifiers_of_returns) (give 0)
-- an @ for no type, as a constructor has none, or a type
grammar (returned function_kind.Member q) =
    literal_or (codes "@") (node (give (plain plain_kind.None))) (call (type_ q))
grammar (returned function_kind.Free q) = call (type_ q)
-- X for one void, or parameters, and a Z after either
grammar function_parameters =
    literal_or (codes "X")
    (do literal (codes "Z"); node (give (base base_kind.Void 0 ∷ [])))
    (do ts ← call parameters; literal (codes "Z"); give ts)
-- parameters up to an @, a Z, which adds an ellipsis, or the end of the text
grammar parameters =
    here at_end (give [])
    or (do literal (codes "@"); give [])
    or (do literal (codes "Z"); node (give (plain plain_kind.Variadic ∷ [])))
    or here (none_of (codes "@" ∷ codes "Z" ∷ [])) (do t ← call parameter; ts ← call parameters; give (t ∷ ts))
-- a digit is the type of an entry, and is noted; a type that was read enters the table
grammar parameter =
    noted digits
    or here (none_of (begins_of digits)) (entering (call (type_ 0)))
-- A type with qualifiers: by its text, or a plain type, before which a $ is dropped.
grammar (type_ q) =
    text_or type_texts (λ f. call (prefixed_type q f)) (literal_or (codes "$") (call (plain_type q)) (call (plain_type
    q)))
grammar (plain_type q) = do
  l ← letter type_letter type_letters
  call (type_after q l)
grammar (type_after q (based b)) = node (give (base b q))
grammar (type_after q extended) = node (do
  b ← letter base_type extended_types
  give (base b q))
grammar (type_after q (named tag)) = node (do
  n ← call (qualified_name templates.Memorized)
  give (tagged tag n.0 (name_trees n.1) q))
grammar (type_after q (points mark on_pointer)) = node (do
  t ← call pointee
  give (pointing mark t (unwrap_or on_pointer q)))
grammar (type_after q arrayed) = call array
grammar (type_after q indexed) = node (do
  z ← call number
  give (numbered number_kind.TemplateParameter (int_wrapping_neg w32 z)))
-- the type of an entry keeps its own qualifiers
grammar (type_after q (referred i)) = known_type i
grammar (prefixed_type q form.Enumeration) = node (do
  n ← call (qualified_name templates.Memorized)
  give (tagged tag_kind.Enum n.0 (name_trees n.1) q))
grammar (prefixed_type q form.ReferenceToFunction) = node (do
  t ← call (function_type object_qualifiers.Absent)
  give (pointing mark_kind.Reference t q))
grammar (prefixed_type q form.PointerToFunction) = node (do
  t ← call (function_type object_qualifiers.Absent)
  give (pointing mark_kind.Pointer t q))
grammar (prefixed_type q form.QualifiedMemberPointer) = call (member_pointer pointer_form.Qualified)
grammar (prefixed_type q form.Constant) = node (do
  z ← call number
  give (numbered number_kind.Constant z))
grammar (prefixed_type q form.TemplateParameter) = node (do
  z ← call number
  give (numbered number_kind.TemplateParameter z))
grammar (prefixed_type q form.Array) = call array
grammar (prefixed_type q form.RValueReference) = node (do
  t ← call pointee
  give (pointing mark_kind.RValueReference t q))
grammar (prefixed_type q form.EmptyPack) = node (give (plain plain_kind.EmptyPack))
grammar (prefixed_type q form.Nullptr) = node (give (plain plain_kind.Nullptr))
grammar (prefixed_type q form.Function) = call (function_type object_qualifiers.Absent)
grammar (prefixed_type q form.QualifiedFunction) = call (function_type object_qualifiers.Present)
grammar (prefixed_type q form.Alias) = node (do
  n ← call (qualified_name templates.NotMemorized)
  give (tagged tag_kind.Alias n.0 (name_trees n.1) q))
-- the qualifiers that are read here replace those before the type
grammar (prefixed_type q form.CvQualified) = do
  q ← optional qualifiers
  call (plain_type q)
grammar (prefixed_type q form.MemberPointer) = do
  literal (codes "?")
  call (member_pointer pointer_form.OfClass)
-- a function type has `pointed_return_qualifiers`, where the function of a symbol has `return_qualifiers`
grammar (function_type object) = node (do
  on_this ← call (this_qualifiers object)
  c ← letter convention conventions
  q ← pointed_return_qualifiers
  t ← call (type_ q)
  ts ← call function_parameters
  give (function c (type_trees ts) on_this t))
grammar (member_pointer which) = node (do
  n ← call (qualified_name templates.NotMemorized)
  size ← optional pointer_sizes
  part ← call (class_part which)
  f ← call (signature function_kind.Member)
  give (tree.member_pointer n.0 (name_trees n.1) part.0 f.0 (type_trees f.1.1) (bit_or size part.1) f.1.0))
-- the class of the member function and the qualifiers of its object, of which a pointer has one
grammar (class_part pointer_form.Qualified) = do
  q ← optional qualifiers
  give (0, q)
grammar (class_part pointer_form.OfClass) = do
  class ← letter bits function_classes
  call (thunk_number (has class thunk))
  give (class, 0)
-- an optional E, an optional storage class, and a type with both
grammar pointee = do
  size ← optional pointer_sizes
  class ← optional storage_classes
  call (type_ (bit_or size class))
-- A number above 0, that many lengths, the qualifiers of each level after a $$C, and the type of the elements. The type
-- stands in both alternatives, since its bytes tell that no $$C begins.
grammar array = do
  n ← call dimension
  zs ← call (lengths n)
  literal_or (codes "$$C")
      (do q ← letter bits qualifiers_of_arrays; t ← call (type_ 0); give (arrays zs t q))
      (do t ← call (type_ 0); give (arrays zs t 0))
grammar dimension = do
  z ← call number
  call (positive z)
grammar (positive (pos (suc n))) = give (suc n)
grammar (positive _) = never
-- the lengths of nested arrays, as many as the number says; each array is a node
grammar (lengths zero) = give []
grammar (lengths (suc n)) = node (do
  z ← call number
  zs ← call (lengths n)
  give (z ∷ zs))
grammar (qualified_name kept) = do
  n ← call (unqualified_name kept)
  ns ← call scope
  give (n, ns)
-- A digit is an entry of the table of names. A source name always enters that table, a template if template names are
-- memorized, and a special name never.
grammar (unqualified_name kept) =
    letter_or digits
    (λ i. known_name i)
    (literal_or (codes "?$") (template_kept kept) (literal_or (codes "?") (call special_name) new_source_name))
grammar special_name = text_and special_texts (λ f. call (special_after f))
grammar (special_after (special.Plain o)) = node (give (operator o))
-- an index follows after the scope, where a guard is a symbol's own name
grammar (special_after (special.Guard kind)) = node (give (guard kind None))
-- the type keeps its qualifiers, and the descriptor has them too
grammar (special_after special.TypeDescriptor) = node (do
  literal (codes "?")
  q ← optional storage_classes
  t ← call (type_ q)
  give (type_descriptor q t))
grammar (special_after special.BaseClass) = node (do
  a ← call number
  b ← call number
  c ← call number
  d ← call number
  give (base_class_descriptor a b c d))
-- a name and arguments, which have tables of their own
grammar template_name = apart template_inside
-- names up to an @
grammar scope = literal_or (codes "@") (give []) (do n ← call nested_name; ns ← call scope; give (n ∷ ns))
grammar nested_name = letter_or digits (λ i. known_name i) (literal_or (codes "?") (call locally_scoped_name)
    new_source_name)
-- What follows a ?: a whole symbol from a second ? on, a template, an anonymous namespace, an interface, or a number,
-- which tells apart what one function declares.
grammar locally_scoped_name =
    literal_or (codes "?") nested_symbol
    (literal_or (codes "$") (entering_name (call template_name))
    (literal_or (codes "A") (call anonymous_namespace)
    (literal_or (codes "Q") new_interface
    (node (do z ← call number; give (discriminator z))))))
-- 0x, any digits, and an @, of which there may be the @ alone; with the 0x the name enters the table
grammar anonymous_namespace =
    literal_or (codes "0x")
    (entering_name (node (do ds ← call hexadecimal_digits; give (anonymous (Some (codes "0x" ++ ds))))))
    (node (do literal (codes "@"); give (anonymous None)))
-- digits up to an @
grammar hexadecimal_digits =
    literal_or (codes "@") (give []) (do d ← letter bits hexadecimal_codes; ds ← call hexadecimal_digits; give (d ∷ ds))
-- the bytes up to the first @
grammar source_name = up_to at_sign
-- a ? negates
grammar number = literal_or (codes "?") (do z ← call magnitude; give (int_wrapping_neg w32 z)) (call magnitude)
-- one digit stands for one more than itself
grammar magnitude = letter_or digits (λ d. give (cast_signed w32 (d + 1))) signed_letters
-- letters up to an @, each a digit to base 16, which continue the value of the letters before them
grammar (letters value) =
    (do literal (codes "@"); give value)
    or (do d ← letter bits hexadecimal; call (letters (value * hexadecimal_base + d)))
-- no byte is read where the condition holds; else the text is rejected
grammar (required true) = give tt
grammar (required false) = never

-- the grammar of this crate
abbrev pub crate_grammar : Grammar
crate_grammar = record { family = Production; rule = grammar; start = symbol; parameter_type = type_ 0 }
