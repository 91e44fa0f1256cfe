-- Worked symbols: the trees that Full reads of a text, and texts that it refuses. A name's digit stands in a text only
-- where no two names were compared before it, since the test of equality isn't computed.
use Rattle.std.proofs.Common.{ℕ, List, [], ◌∷◌, Option, Some, None, ◌≡◌, true, false, codes, refl}
use Rattle.std.specs.Prelude.{negsuc, option_map, pos}
use Prim.Native.String.{String}
use Rattle.msvc_nodes.specs.Trees.{NameTree, SymbolTree, TypeTree, spelled, no_names, names, no_types, types}
use Rattle.msvc_nodes.specs.Trees.{name_trees, type_trees, plain, base, tagged, pointing, function, member_function}
use Rattle.msvc_nodes.specs.Trees.{variable, shape, shaped, nested, anonymous, template, operator}
use Rattle.msvc_nodes.specs.Trees.{base_class_descriptor}
use Rattle.msvc_nodes.specs.declared.kinds.PrimitiveKind.TheVariants as b
use Rattle.msvc_nodes.specs.declared.kinds.Convention.TheVariants as c
use Rattle.msvc_nodes.specs.declared.kinds.PointerAffinity.TheVariants as m
use Rattle.msvc_nodes.specs.declared.kinds.PlainType.TheVariants as p
use Rattle.msvc_nodes.specs.declared.kinds.PlainOperator.TheVariants as o
use Rattle.msvc_nodes.specs.declared.kinds.Spelling.TheVariants as s
use Rattle.msvc_nodes.specs.declared.kinds.TagKind.TheVariants as t
use Rattle.msvc_nodes.specs.declared.kinds.VarStorageKind.TheVariants as v
use Rattle.msvc_nodes.specs.declared.nodes.Number.{Number}
use Rattle.msvc_rules.specs.Readers.{read_name_in, read_within, read_by, part_here, counting}
use Rattle.msvc_rules.specs.State.{beginning}
use Rattle.msvc_full_grammar.specs.Grammar.{grammar}
use Rattle.msvc_full_grammar.specs.Productions.{whole_text}
use Rattle.msvc_full_grammar.specs.Reading.{read_name}
use Rattle.msvc_full_grammar.specs.Rows.{integer_row, custom_row, nullptr_row, arrays_row, member_pointer_row}
use Rattle.msvc_full_grammar.specs.Rows.{extern_c_row, frame_row, literal_operator_row, spaceship_row, adjustor_row}
use Rattle.msvc_full_grammar.specs.Rows.{tables_row, md5_locator_row, string_literal_row, static_guard_row}
use Rattle.msvc_full_grammar.specs.Rows.{type_descriptor_row, address_row, offsets_row, type_descriptor_name_row}
use Rattle.msvc_full_grammar.specs.Rows.{initializer_of_name_row, initializer_of_variable_row, handle_row}
use Rattle.msvc_full_grammar.specs.Rows.{destructor_row, explicit_this_row, member_of_row}
use Rattle.msvc_full_grammar.specs.Strings.{decoded}

-- the tree that is read of a text, and the bytes left
abbrev read_of : String → Option (SymbolTree × List ℕ)
read_of text = option_map (λ x. (x.0, x.1)) (read_name whole_text (codes text) (beginning (codes text)))

-- a source name
abbrev source : String → NameTree
source text = spelled s.Source (codes text)

-- what is read of a text that a symbol of this name, scope and type ends
abbrev whole : NameTree → List NameTree → TypeTree → Option (SymbolTree × List ℕ)
whole n scope t = Some (record { name = n; scope = name_trees scope; symbol_type = t }, [])

-- a number without a minus
abbrev plus : ℕ → Number
plus n = record { is_negative = false; value = n }

-- a class as a symbol without a type
abbrev class_of : NameTree → NameTree
class_of n = nested n no_names (plain p.None)

-- a pointer to a member of a class
abbrev member_of : NameTree → ℕ → TypeTree → TypeTree
member_of n q t = shape member_pointer_row q [] [] (names (class_of n) no_names) (types t no_types)

-- a function outside all classes that is given nothing
abbrev plain_function : TypeTree → TypeTree
plain_function t = function c.Cdecl (types (base b.Void 0) no_types) 0 t

-- a function whose parameter is a pointer of 64 bits
pub a_function : read_of "?f@@YAXPEAH@Z" ≡ whole (source "f") []
    (function c.Cdecl (types (pointing m.Pointer (base b.Int 0) 64) no_types) 0 (base b.Void 0))
unfolding read_name read_name_in read_within read_by part_here counting grammar
a_function = refl

-- a digit is a parameter of the type that entered the table
pub a_digit : read_of "?f@@YAXPAH0ZZ" ≡ whole (source "f") []
    (function c.Cdecl (type_trees (pointing m.Pointer (base b.Int 0) 0 ∷ pointing m.Pointer (base b.Int 0) 0
    ∷ plain p.Variadic ∷ [])) 0 (base b.Void 0))
unfolding read_name read_name_in read_within read_by part_here counting grammar
a_digit = refl

-- what a function returns is left open
pub a_placeholder : read_of "?f@@YA?B?<auto>@@XZ" ≡ whole (source "f") []
    (plain_function (shape custom_row 1 [] [] (names (source "<auto>") no_names) no_types))
unfolding read_name read_name_in read_within read_by part_here counting grammar
a_placeholder = refl

-- a function that is a template in a scope
pub a_template : read_of "??$f@H@ns@@YAXXZ" ≡ whole (template (source "f") (types (base b.Int 0) no_types))
    (source "ns" ∷ []) (plain_function (base b.Void 0))
unfolding read_name read_name_in read_within read_by part_here counting grammar
a_template = refl

-- the name of a variable that is a template stands in the table where its type is read
pub a_variable_template : read_of "??$x@H@@3U0@A" ≡ whole (template (source "x") (types (base b.Int 0) no_types)) []
    (variable (tagged t.Struct (template (source "x") (types (base b.Int 0) no_types)) no_names 0) v.Global 0)
unfolding read_name read_name_in read_within read_by part_here counting grammar
a_variable_template = refl

-- a pointer to a member, whose class stands once more behind the variable's type
pub a_member : read_of "?C@@3PEQ0@HEQ0@" ≡ whole (source "C") []
    (variable (member_of (source "C") 64 (base b.Int 0)) v.Global 0)
unfolding read_name read_name_in read_within read_by part_here counting grammar
a_member = refl

-- the same of a class in an anonymous namespace, which a capital keeps out of the table
pub an_anonymous_member : read_of "?C@@3PEQ0?A0x5B@@HEQ0?A0x5B@@" ≡ whole (source "C") []
    (variable (shape member_pointer_row 64 [] [] (names (nested (source "C")
    (name_trees (anonymous (Some (codes "0x5B")) ∷ [])) (plain p.None)) no_names)
    (types (base b.Int 0) no_types)) v.Global 0)
unfolding read_name read_name_in read_within read_by part_here counting grammar
an_anonymous_member = refl

-- a pointer to a member function
pub a_member_function : read_of "?C@@3P80@AEXXZQ0@" ≡ whole (source "C") []
    (variable (member_of (source "C") 0 (function c.Thiscall (types (base b.Void 0) no_types) 0 (base b.Void 0)))
    v.Global 0)
unfolding read_name read_name_in read_within read_by part_here counting grammar
a_member_function = refl

-- a pointer to an array of arrays, the outer of unknown length
pub an_array : read_of "?x@@3PEAY1A@2HEA" ≡ whole (source "x") []
    (variable (pointing m.Pointer (shape arrays_row 0 (plus 0 ∷ plus 3 ∷ []) [] no_names
    (types (base b.Int 0) no_types)) 64) v.Global 0)
unfolding read_name read_name_in read_within read_by part_here counting grammar
an_array = refl

-- the elements of an array are constant
pub an_array_of_constants : read_of "?f@@YAXPAY01$$CBH@Z" ≡ whole (source "f") []
    (function c.Cdecl (types (pointing m.Pointer (shape arrays_row 1 (plus 2 ∷ []) [] no_names (types (base b.Int 0)
    no_types)) 0) no_types) 0 (base b.Void 0))
unfolding read_name read_name_in read_within read_by part_here counting grammar
an_array_of_constants = refl

-- a static variable of a function
pub a_frame : read_of "?M@?BA@??L@@YAHXZ@4HA" ≡ whole (source "M") (shaped frame_row 0 (plus 16 ∷ []) []
    (names (nested (source "L") no_names (plain_function (base b.Int 0))) no_names) no_types ∷ [])
    (variable (base b.Int 0) v.FunctionLocalStatic 0)
unfolding read_name read_name_in read_within read_by part_here counting grammar
a_frame = refl

-- a static variable of a function of C
pub a_frame_of_c : read_of "?cs@?1??f@@9@4HA" ≡ whole (source "cs") (shaped frame_row 0 (plus 2 ∷ []) []
    (names (nested (source "f") no_names (shape extern_c_row 0 [] [] no_names no_types)) no_names) no_types ∷ [])
    (variable (base b.Int 0) v.FunctionLocalStatic 0)
unfolding read_name read_name_in read_within read_by part_here counting grammar
a_frame_of_c = refl

-- an anonymous namespace by its digits
pub an_anonymous_namespace : read_of "?a@?A0xaB@@3HA" ≡ whole (source "a") (anonymous (Some (codes "0xaB")) ∷ [])
    (variable (base b.Int 0) v.Global 0)
unfolding read_name read_name_in read_within read_by part_here counting grammar
an_anonymous_namespace = refl

-- an anonymous namespace without a capital has a place in the table
pub a_kept_namespace : read_of "??0?A0xab@@3U0@A" ≡ whole (operator o.Ctor) (anonymous (Some (codes "0xab")) ∷ [])
    (variable (tagged t.Struct (anonymous (Some (codes "0xab"))) no_names 0) v.Global 0)
unfolding read_name read_name_in read_within read_by part_here counting grammar
a_kept_namespace = refl

-- with a capital it has none
pub no_kept_namespace : read_of "??0?A0xaB@@3U0@A" ≡ None
unfolding read_name read_name_in read_within read_by part_here counting grammar
no_kept_namespace = refl

-- an operator for a suffix of literals
pub a_literal_operator : read_of "??__K_deg@@YAHXZ" ≡ whole
    (shaped literal_operator_row 0 [] [] (names (source "_deg") no_names) no_types) []
    (plain_function (base b.Int 0))
unfolding read_name read_name_in read_within read_by part_here counting grammar
a_literal_operator = refl

-- an operator of three-way comparison, in a class
pub a_comparison : read_of "??__MC@@QEBAHXZ" ≡ whole (shaped spaceship_row 0 [] [] no_names no_types)
    (source "C" ∷ []) (member_function 1 c.Cdecl (types (base b.Void 0) no_types) 65 (base b.Int 0))
unfolding read_name read_name_in read_within read_by part_here counting grammar
a_comparison = refl

-- a class of functions of far memory, which are static
pub a_far_class : read_of "?f@C@@DWXXZ" ≡ whole (source "f") (source "C" ∷ [])
    (member_function 84 c.SwiftAsync (types (base b.Void 0) no_types) 0 (base b.Void 0))
unfolding read_name read_name_in read_within read_by part_here counting grammar
a_far_class = refl

-- a convention of registers, and no exceptions
pub a_convention : read_of "?f@@YwXX_E" ≡ whole (source "f") []
    (function c._Regcall (types (base b.Void 0) no_types) 512 (base b.Void 0))
unfolding read_name read_name_in read_within read_by part_here counting grammar
a_convention = refl

-- a constant reference to the type of the null pointer
pub a_null_pointer : read_of "?f@@YAAB$$TXZ" ≡ whole (source "f") []
    (plain_function (pointing m.Reference (shape nullptr_row 1 [] [] no_names no_types) 0))
unfolding read_name read_name_in read_within read_by part_here counting grammar
a_null_pointer = refl

-- a template of a number below nothing, and of no types
pub a_number : read_of "?x@@3U?$A@$0?0$$V@@A" ≡ whole (source "x") []
    (variable (tagged t.Struct (template (source "A") (type_trees (shape integer_row 0 (record {
      is_negative = true;
      value = 1;
    } ∷ []) [] no_names no_types ∷ plain p.EmptyPack ∷ []))) no_names 0) v.Global 0)
unfolding read_name read_name_in read_within read_by part_here counting grammar
a_number = refl

-- a variable ends with its qualifier
pub no_qualifier_1 : read_of "?x@@3H" ≡ None
unfolding read_name read_name_in read_within read_by part_here counting grammar
no_qualifier_1 = refl

pub no_qualifier_2 : read_of "?x@@3HE" ≡ None
unfolding read_name read_name_in read_within read_by part_here counting grammar
no_qualifier_2 = refl

-- an array has a rank above 0
pub no_rank : read_of "?f@@YAXPAYA@H@Z" ≡ None
unfolding read_name read_name_in read_within read_by part_here counting grammar
no_rank = refl

-- a source name is not empty
pub no_name : read_of "?@@3HA" ≡ None
unfolding read_name read_name_in read_within read_by part_here counting grammar
no_name = refl

-- a scope that begins with ? is a template, an anonymous namespace or a frame
pub no_frame_1 : read_of "?a@?Aab@@3HA" ≡ None
unfolding read_name read_name_in read_within read_by part_here counting grammar
no_frame_1 = refl

pub no_frame_2 : read_of "?a@?1?@4HA" ≡ None
unfolding read_name read_name_in read_within read_by part_here counting grammar
no_frame_2 = refl

-- a symbol as a scope
pub a_symbol_as_scope : read_of "?a@??f@@YAXXZ@3HA" ≡ whole (source "a")
    (nested (source "f") no_names (plain_function (base b.Void 0)) ∷ []) (variable (base b.Int 0) v.Global 0)
unfolding read_name read_name_in read_within read_by part_here counting grammar
a_symbol_as_scope = refl

-- codes that stand for no operator
pub no_operator_1 : read_of "??_P4A@@QEAAHH@Z" ≡ None
unfolding read_name read_name_in read_within read_by part_here counting grammar
no_operator_1 = refl

-- texts that no type begins with
pub no_type_1 : read_of "?f@@YAX_D@Z" ≡ None
unfolding read_name read_name_in read_within read_by part_here counting grammar
no_type_1 = refl

pub no_type_2 : read_of "?f@@YAXP7AXXZ@Z" ≡ None
unfolding read_name read_name_in read_within read_by part_here counting grammar
no_type_2 = refl

pub no_type_3 : read_of "?x@@3?4A" ≡ None
unfolding read_name read_name_in read_within read_by part_here counting grammar
no_type_3 = refl

-- no function is of C twice
pub no_function : read_of "?f@@$$J09" ≡ None
unfolding read_name read_name_in read_within read_by part_here counting grammar
no_function = refl

-- a function of C, and one that moves its this
pub a_function_of_c : read_of "?f@@$$J0YAXXZ" ≡ whole (source "f") []
    (member_function 264 c.Cdecl (types (base b.Void 0) no_types) 0 (base b.Void 0))
unfolding read_name read_name_in read_within read_by part_here counting grammar
a_function_of_c = refl

pub a_thunk : read_of "?f@@W?3AEXXZ" ≡ whole (source "f") []
    (shape adjustor_row 0 (plus 4294967292 ∷ []) [] no_names (types
    (member_function 161 c.Thiscall (types (base b.Void 0) no_types) 0 (base b.Void 0)) no_types))
unfolding read_name read_name_in read_within read_by part_here counting grammar
a_thunk = refl

-- a table for two classes
pub a_table : read_of "??_7A@@6BB@@C@@@" ≡ whole (operator o.VFTable) (source "A" ∷ [])
    (shape tables_row 1 [] [] (names (class_of (source "B")) (names (class_of (source "C")) no_names)) no_types)
unfolding read_name read_name_in read_within read_by part_here counting grammar
a_table = refl

-- hashes of a name and of a locator
pub a_hash : read_of "??@ab@rest" ≡ Some (
  record {
    name = spelled s.Md5 (codes "ab");
    scope = no_names;
    symbol_type = plain p.None;
  },
  codes "rest",
)
unfolding read_name read_name_in read_within read_by part_here counting grammar
a_hash = refl

pub a_locator : read_of "??@ab@??_R4@" ≡ whole (shaped md5_locator_row 0 [] (codes "ab") no_names no_types) []
    (plain p.None)
unfolding read_name read_name_in read_within read_by part_here counting grammar
a_locator = refl

-- a string of two bytes, of which a ? and a digit stand for one
pub a_string : read_of "??_C@_01A@?0@"
    ≡ whole (shaped string_literal_row 0 (plus 2 ∷ plus 44 ∷ []) [] no_names no_types) [] (plain p.None)
unfolding read_name read_name_in read_within read_by part_here counting grammar decoded
a_string = refl

pub no_string : read_of "??_C@_01A@?_@" ≡ None
unfolding read_name read_name_in read_within read_by part_here counting grammar decoded
no_string = refl

-- the second guard of a function
pub a_guard : read_of "??_Bf@@51" ≡ whole (shaped static_guard_row 0 (plus 2 ∷ []) [] no_names no_types)
    (source "f" ∷ []) (plain p.None)
unfolding read_name read_name_in read_within read_by part_here counting grammar
a_guard = refl

-- a descriptor of a type, and a part of one of a class
pub a_descriptor : read_of "??_R0H@8" ≡ whole (shaped type_descriptor_row 0 [] [] no_names no_types) []
    (variable (base b.Int 0) v.Global 0)
unfolding read_name read_name_in read_within read_by part_here counting grammar
a_descriptor = refl

pub a_base_class : read_of "??_R1A@?0A@EA@B@@8"
    ≡ whole (base_class_descriptor (pos 0) (negsuc 0) (pos 0) (pos 64)) (source "B" ∷ []) (plain p.Rtti)
unfolding read_name read_name_in read_within read_by part_here counting grammar
a_base_class = refl

-- the address of a variable as an argument
pub an_address : read_of "?x@@3U?$A@$1?y@@3HA@@A" ≡ whole (source "x") [] (variable
    (tagged t.Struct (template (source "A") (types
    (shape address_row 0 [] [] (names (nested (source "y") no_names (variable (base b.Int 0) v.Global 0)) no_names)
    no_types) no_types)) no_names 0) v.Global 0)
unfolding read_name read_name_in read_within read_by part_here counting grammar
an_address = refl

-- offsets of a pointer to a member
pub some_offsets : read_of "?x@@3U?$A@$FA@?0@@A" ≡ whole (source "x") [] (variable
    (tagged t.Struct (template (source "A") (types (shape offsets_row 0
    (plus 0 ∷ record { is_negative = true; value = 1 } ∷ []) [] no_names no_types) no_types)) no_names 0) v.Global 0)
unfolding read_name read_name_in read_within read_by part_here counting grammar
some_offsets = refl

-- the name of a type begins with a full stop, and any other text with a ?
pub a_type_name : read_of ".?AUA@@" ≡ whole (shaped type_descriptor_name_row 0 [] [] no_names no_types) []
    (variable (tagged t.Struct (source "A") no_names 0) v.Global 0)
unfolding read_name read_name_in read_within read_by part_here counting grammar
a_type_name = refl

pub no_question_mark : read_of "AUA@@" ≡ None
unfolding read_name read_name_in read_within read_by part_here counting grammar
no_question_mark = refl

-- an initializer, by the name of its variable and by the variable
pub a_stub : read_of "??__Ex@@YAXXZ" ≡ whole (shaped initializer_of_name_row 0 [] []
    (names (class_of (source "x")) no_names) no_types) [] (plain_function (base b.Void 0))
unfolding read_name read_name_in read_within read_by part_here counting grammar
a_stub = refl

pub a_stub_of_a_variable : read_of "??__E?x@@3HA@@YAXXZ" ≡ whole (shaped initializer_of_variable_row 0 [] []
    (names (nested (source "x") no_names (variable (base b.Int 0) v.Global 0)) no_names) no_types) []
    (plain_function (base b.Void 0))
unfolding read_name read_name_in read_within read_by part_here counting grammar
a_stub_of_a_variable = refl

-- an explicit `this`, of which the type alone enters the table, is the first parameter
pub an_explicit_this : read_of "?f@@YAX_VPAH0@Z" ≡ whole (source "f") [] (function c.Cdecl
    (types (shape explicit_this_row 0 [] [] no_names (types (pointing m.Pointer (base b.Int 0) 0) no_types))
    (types (pointing m.Pointer (base b.Int 0) 0) no_types)) 0 (base b.Void 0))
unfolding read_name read_name_in read_within read_by part_here counting grammar
an_explicit_this = refl

pub a_second_this : read_of "?f@@YAXH_VH@Z" ≡ None
unfolding read_name read_name_in read_within read_by part_here counting grammar
a_second_this = refl

-- a pointer to a member by its scope and its name
pub a_member_by_name : read_of "?x@@3U?$T@$8C@N@@m@@@@A" ≡ whole (source "x") []
    (variable (tagged t.Struct (template (source "T") (types (shape member_of_row 0 [] []
    (names (source "N") (names (source "C") (names (source "m") no_names))) no_types) no_types)) no_names 0) v.Global 0)
unfolding read_name read_name_in read_within read_by part_here counting grammar
a_member_by_name = refl

-- a handle, as a parameter of a function of managed code
pub a_handle : read_of "?f@@$$FYMXP$AAUA@@@Z" ≡ whole (source "f") [] (function c.Clrcall
    (types (shape handle_row 0 [] [] no_names (types (tagged t.Struct (source "A") no_names 0) no_types)) no_types)
    0 (base b.Void 0))
unfolding read_name read_name_in read_within read_by part_here counting grammar
a_handle = refl

-- a funclet of a function of C
pub a_funclet : read_of "?dtor$2@?0?u@4HA" ≡ whole (shaped destructor_row 0 [] (codes "2") no_names no_types)
    (shaped frame_row 0 (plus 1 ∷ []) [] (names (class_of (source "u")) no_names) no_types ∷ [])
    (variable (base b.Int 0) v.FunctionLocalStatic 0)
unfolding read_name read_name_in read_within read_by part_here counting grammar
a_funclet = refl

-- funclets have a function
pub no_label : read_of "?dtor$5@x@@YAXXZ" ≡ None
unfolding read_name read_name_in read_within read_by part_here counting grammar
no_label = refl
