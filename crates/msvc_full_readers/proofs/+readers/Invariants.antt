use Rattle.std.proofs.Common.{ℕ, List, ◌≡◌, ◌≤◌, ◌+◌, ◌*◌, ◌++◌, length}
use Rattle.std.specs.Prelude.{map}
use Rattle.msvc_nodes.specs.NodeView.{name_at, type_at}
use Rattle.msvc_full_grammar.specs.Productions.{listed, parameters, scope, targets}
use Rattle.msvc_full_grammar.specs.Reading.{read_name}
use Rattle.msvc_cursor.specs.Parser.{beyond, frame_of, state_of}
use Rattle.msvc_cursor.specs.NestedList.{current, enclosing}
use Rattle.msvc_cursor.specs.Rows.{with_front}
use Rattle.msvc_full_readers.specs.Readings.{parameters_behind}
use Rattle.msvc_full_readers.proofs.+readers.Given as goal

-- Where as many bytes are left, a reader calls only those with a smaller number.

abbrev level : List ℕ → ℕ → ℕ
level left n = 8 * length left + n

abbrev pub decreases-types::type_ : goal.decreases-types::type_
decreases-types::type_ g l = level l.parser.now.rest.now 1

abbrev pub decreases-types::type_after : goal.decreases-types::type_after
decreases-types::type_after g l = level l.parser.now.rest.now 4

abbrev pub decreases-types::tagged_type : goal.decreases-types::tagged_type
decreases-types::tagged_type g l = level l.parser.now.rest.now 2

abbrev pub decreases-types::qualified_type : goal.decreases-types::qualified_type
decreases-types::qualified_type g l = level l.parser.now.rest.now 0

abbrev pub decreases-types::type_row : goal.decreases-types::type_row
decreases-types::type_row g l = level l.parser.now.rest.now 3

abbrev pub decreases-types::arrays : goal.decreases-types::arrays
decreases-types::arrays g l = level l.parser.now.rest.now 0

abbrev pub decreases-types::elements : goal.decreases-types::elements
decreases-types::elements g l = level l.parser.now.rest.now 2

abbrev pub decreases-pointers::pointer : goal.decreases-pointers::pointer
decreases-pointers::pointer g l = level l.parser.now.rest.now 2

abbrev pub decreases-pointers::reference : goal.decreases-pointers::reference
decreases-pointers::reference g l = level l.parser.now.rest.now 2

abbrev pub decreases-pointers::pointed_function : goal.decreases-pointers::pointed_function
decreases-pointers::pointed_function g l = level l.parser.now.rest.now 2

abbrev pub decreases-pointers::pointed_type : goal.decreases-pointers::pointed_type
decreases-pointers::pointed_type g l = level l.parser.now.rest.now 0

abbrev pub decreases-pointers::pointed_member_function : goal.decreases-pointers::pointed_member_function
decreases-pointers::pointed_member_function g l = level l.parser.now.rest.now 3

abbrev pub decreases-pointers::pointed_member : goal.decreases-pointers::pointed_member
decreases-pointers::pointed_member g l = level l.parser.now.rest.now 3

abbrev pub decreases-functions::function_type : goal.decreases-functions::function_type
decreases-functions::function_type g l = level l.parser.now.rest.now 1

abbrev pub decreases-functions::member_function : goal.decreases-functions::member_function
decreases-functions::member_function g l = level l.parser.now.rest.now 1

abbrev pub decreases-functions::signature : goal.decreases-functions::signature
decreases-functions::signature g l = level l.parser.now.rest.now 0

abbrev pub decreases-functions::returned : goal.decreases-functions::returned
decreases-functions::returned g l = level l.parser.now.rest.now 3

abbrev pub decreases-parameters::function_parameters : goal.decreases-parameters::function_parameters
decreases-parameters::function_parameters g l = level l.parser.now.rest.now 4

abbrev pub decreases-parameters::explicit_parameters : goal.decreases-parameters::explicit_parameters
decreases-parameters::explicit_parameters g l = level l.parser.now.rest.now 3

abbrev pub decreases-parameters::parameters : goal.decreases-parameters::parameters
decreases-parameters::parameters g l = level l.parser.now.rest.now 3

abbrev pub decreases-parameters::parameter : goal.decreases-parameters::parameter
decreases-parameters::parameter g l = level l.parser.now.rest.now 2

abbrev pub decreases-arguments::listed : goal.decreases-arguments::listed
decreases-arguments::listed g l = level l.parser.now.rest.now 5

abbrev pub decreases-arguments::argument_after : goal.decreases-arguments::argument_after
decreases-arguments::argument_after g l = level l.parser.now.rest.now 5

abbrev pub decreases-names::symbol_name : goal.decreases-names::symbol_name
decreases-names::symbol_name g l = level l.parser.now.rest.now 0

abbrev pub decreases-names::operator_name : goal.decreases-names::operator_name
decreases-names::operator_name g l = level l.parser.now.rest.now 0

abbrev pub decreases-names::frame : goal.decreases-names::frame
decreases-names::frame g l = level l.parser.now.rest.now 0

abbrev pub decreases-names::nested_symbol : goal.decreases-names::nested_symbol
decreases-names::nested_symbol g l = level l.parser.now.rest.now 1

abbrev pub decreases-names::type_name : goal.decreases-names::type_name
decreases-names::type_name g l = level l.parser.now.rest.now 0

abbrev pub decreases-names::type_symbol : goal.decreases-names::type_symbol
decreases-names::type_symbol g l = level l.parser.now.rest.now 1

abbrev pub decreases-names::class_symbol : goal.decreases-names::class_symbol
decreases-names::class_symbol g l = level l.parser.now.rest.now 2

abbrev pub decreases-names::new_template : goal.decreases-names::new_template
decreases-names::new_template g l = level l.parser.now.rest.now 3

abbrev pub decreases-names::template_name : goal.decreases-names::template_name
decreases-names::template_name g l = level l.parser.now.rest.now 2

abbrev pub decreases-names::template : goal.decreases-names::template
decreases-names::template g l = level l.parser.now.rest.now 1

abbrev pub decreases-names::scope : goal.decreases-names::scope
decreases-names::scope g l = level l.parser.now.rest.now 1

abbrev pub decreases-names::nested_name : goal.decreases-names::nested_name
decreases-names::nested_name g l = level l.parser.now.rest.now 0

abbrev pub decreases-symbols::symbol_body : goal.decreases-symbols::symbol_body
decreases-symbols::symbol_body g l = level l.parser.now.rest.now 3

abbrev pub decreases-symbols::template_symbol : goal.decreases-symbols::template_symbol
decreases-symbols::template_symbol g l = level l.parser.now.rest.now 3

abbrev pub decreases-symbols::named_symbol : goal.decreases-symbols::named_symbol
decreases-symbols::named_symbol g l = level l.parser.now.rest.now 2

abbrev pub decreases-symbols::name_in_scope : goal.decreases-symbols::name_in_scope
decreases-symbols::name_in_scope g l = level l.parser.now.rest.now 1

abbrev pub decreases-symbols::encoding : goal.decreases-symbols::encoding
decreases-symbols::encoding g l = level l.parser.now.rest.now 1

abbrev pub decreases-symbols::encoding_after : goal.decreases-symbols::encoding_after
decreases-symbols::encoding_after g l = level l.parser.now.rest.now 4

abbrev pub decreases-symbols::variable : goal.decreases-symbols::variable
decreases-symbols::variable g l = level l.parser.now.rest.now 2

abbrev pub decreases-functions::result_type : goal.decreases-functions::result_type
decreases-functions::result_type g l = level l.parser.now.rest.now 2

abbrev pub decreases-arguments::typed_value : goal.decreases-arguments::typed_value
decreases-arguments::typed_value g l = level l.parser.now.rest.now 2

abbrev pub decreases-arguments::template_value : goal.decreases-arguments::template_value
decreases-arguments::template_value g l = level l.parser.now.rest.now 0

abbrev pub decreases-arguments::value_after : goal.decreases-arguments::value_after
decreases-arguments::value_after g l = level l.parser.now.rest.now 4

abbrev pub decreases-arguments::symbol_value : goal.decreases-arguments::symbol_value
decreases-arguments::symbol_value g l = level l.parser.now.rest.now 2

abbrev pub decreases-arguments::member_offsets : goal.decreases-arguments::member_offsets
decreases-arguments::member_offsets g l = level l.parser.now.rest.now 2

abbrev pub decreases-names::targets : goal.decreases-names::targets
decreases-names::targets g l = level l.parser.now.rest.now 3

abbrev pub decreases-symbols::marked_symbol : goal.decreases-symbols::marked_symbol
decreases-symbols::marked_symbol g l = level l.parser.now.rest.now 2

abbrev pub decreases-symbols::operator_symbol : goal.decreases-symbols::operator_symbol
decreases-symbols::operator_symbol g l = level l.parser.now.rest.now 1

abbrev pub decreases-symbols::symbol_after : goal.decreases-symbols::symbol_after
decreases-symbols::symbol_after g l = level l.parser.now.rest.now 6

abbrev pub decreases-symbols::descriptor_symbol : goal.decreases-symbols::descriptor_symbol
decreases-symbols::descriptor_symbol g l = level l.parser.now.rest.now 3

abbrev pub decreases-symbols::guard_symbol : goal.decreases-symbols::guard_symbol
decreases-symbols::guard_symbol g l = level l.parser.now.rest.now 2

abbrev pub decreases-symbols::c_function : goal.decreases-symbols::c_function
decreases-symbols::c_function g l = level l.parser.now.rest.now 0

abbrev pub decreases-symbols::thunk : goal.decreases-symbols::thunk
decreases-symbols::thunk g l = level l.parser.now.rest.now 0

abbrev pub decreases-symbols::table : goal.decreases-symbols::table
decreases-symbols::table g l = level l.parser.now.rest.now 0

abbrev pub decreases-names::marked_scope : goal.decreases-names::marked_scope
decreases-names::marked_scope g l = level l.parser.now.rest.now 2

abbrev pub decreases-pointers::pointed : goal.decreases-pointers::pointed
decreases-pointers::pointed g l = level l.parser.now.rest.now 1

abbrev pub decreases-pointers::managed : goal.decreases-pointers::managed
decreases-pointers::managed g l = level l.parser.now.rest.now 2

abbrev pub decreases-pointers::numbered_managed : goal.decreases-pointers::numbered_managed
decreases-pointers::numbered_managed g l = level l.parser.now.rest.now 1

abbrev pub decreases-pointers::managed_type : goal.decreases-pointers::managed_type
decreases-pointers::managed_type g l = level l.parser.now.rest.now 0

abbrev pub decreases-pointers::block : goal.decreases-pointers::block
decreases-pointers::block g l = level l.parser.now.rest.now 2

abbrev pub decreases-symbols::stub_symbol : goal.decreases-symbols::stub_symbol
decreases-symbols::stub_symbol g l = level l.parser.now.rest.now 5

abbrev pub decreases-symbols::stubbed : goal.decreases-symbols::stubbed
decreases-symbols::stubbed g l = level l.parser.now.rest.now 3

abbrev pub decreases-symbols::stubbed_template : goal.decreases-symbols::stubbed_template
decreases-symbols::stubbed_template g l = level l.parser.now.rest.now 3

abbrev pub decreases-symbols::stubbed_name : goal.decreases-symbols::stubbed_name
decreases-symbols::stubbed_name g l = level l.parser.now.rest.now 2

abbrev pub decreases-symbols::variable_or_none : goal.decreases-symbols::variable_or_none
decreases-symbols::variable_or_none g l = level l.parser.now.rest.now 0

abbrev pub decreases-symbols::function_code : goal.decreases-symbols::function_code
decreases-symbols::function_code g l = level l.parser.now.rest.now 0

abbrev pub decreases-symbols::managed_function : goal.decreases-symbols::managed_function
decreases-symbols::managed_function g l = level l.parser.now.rest.now 0

abbrev pub decreases-symbols::displacement : goal.decreases-symbols::displacement
decreases-symbols::displacement g l = level l.parser.now.rest.now 3

abbrev pub decreases-symbols::object_symbol : goal.decreases-symbols::object_symbol
decreases-symbols::object_symbol g l = level l.parser.now.rest.now 2

abbrev pub decreases-arguments::one_listed : goal.decreases-arguments::one_listed
decreases-arguments::one_listed g l = level l.parser.now.rest.now 4

abbrev pub decreases-arguments::member : goal.decreases-arguments::member
decreases-arguments::member g l = level l.parser.now.rest.now 3

abbrev pub decreases-arguments::member_value : goal.decreases-arguments::member_value
decreases-arguments::member_value g l = level l.parser.now.rest.now 1

abbrev pub decreases-arguments::values : goal.decreases-arguments::values
decreases-arguments::values g l = level l.parser.now.rest.now 6

abbrev pub decreases-arguments::aggregate : goal.decreases-arguments::aggregate
decreases-arguments::aggregate g l = level l.parser.now.rest.now 2

abbrev pub decreases-arguments::elements : goal.decreases-arguments::elements
decreases-arguments::elements g l = level l.parser.now.rest.now 2

abbrev pub decreases-arguments::subobject : goal.decreases-arguments::subobject
decreases-arguments::subobject g l = level l.parser.now.rest.now 1

abbrev pub decreases-arguments::member_of_value : goal.decreases-arguments::member_of_value
decreases-arguments::member_of_value g l = level l.parser.now.rest.now 1

abbrev pub decreases-arguments::element_of_value : goal.decreases-arguments::element_of_value
decreases-arguments::element_of_value g l = level l.parser.now.rest.now 1

abbrev pub decreases-arguments::union_value : goal.decreases-arguments::union_value
decreases-arguments::union_value g l = level l.parser.now.rest.now 2

abbrev pub decreases-arguments::member_by_name : goal.decreases-arguments::member_by_name
decreases-arguments::member_by_name g l = level l.parser.now.rest.now 2

-- the names so far, before what is read of the rest, are what is read of all; those that others gather stay
abbrev pub invariant-names::scope-names : goal.invariant-names::scope-names
invariant-names::scope-names g l =
    ((extra : ℕ) → with_front (map name_at (current l.parser.listed_names)) (read_name scope l.parser.rest.now (beyond extra (state_of l.parser)))
    ≡ read_name scope l.fn.parser.rest.now (beyond extra (state_of l.fn.parser)))
    × (length l.parser.rest.now ≤ length l.fn.parser.rest.now)
    × (l.checkpoint.from ≡ length (enclosing l.fn.parser.listed_names))
    × (frame_of l.parser
    ≡ record (frame_of l.fn.parser) {
      listed_names = current l.parser.listed_names;
      names_before = enclosing l.fn.parser.listed_names ++ current l.fn.parser.listed_names;
    })

abbrev pub decreases-names::scope-names : goal.decreases-names::scope-names
decreases-names::scope-names g l = length l.parser.rest.now

-- and the classes that a table is for
abbrev pub invariant-names::targets-names : goal.invariant-names::targets-names
invariant-names::targets-names g l =
    ((extra : ℕ) → with_front (map name_at (current l.parser.listed_names)) (read_name targets l.parser.rest.now (beyond extra (state_of l.parser)))
    ≡ read_name targets l.fn.parser.rest.now (beyond extra (state_of l.fn.parser)))
    × (length l.parser.rest.now ≤ length l.fn.parser.rest.now)
    × (l.checkpoint.from ≡ length (enclosing l.fn.parser.listed_names))
    × (frame_of l.parser
    ≡ record (frame_of l.fn.parser) {
      listed_names = current l.parser.listed_names;
      names_before = enclosing l.fn.parser.listed_names ++ current l.fn.parser.listed_names;
    })

abbrev pub decreases-names::targets-names : goal.decreases-names::targets-names
decreases-names::targets-names g l = length l.parser.rest.now

-- the parameters so far, before what is read of the rest, are what is read of all behind the first ones
abbrev pub invariant-parameters::parameters-parameters : goal.invariant-parameters::parameters-parameters
invariant-parameters::parameters-parameters g l =
    ((extra : ℕ) → with_front (map type_at (current l.parser.listed_types))
    (read_name parameters l.parser.rest.now (beyond extra (state_of l.parser)))
    ≡ parameters_behind (map type_at (current l.fn.parser.listed_types)) l.fn.parser.rest.now (beyond extra (state_of l.fn.parser)))
    × (length l.parser.rest.now ≤ length l.fn.parser.rest.now)
    × (frame_of l.parser ≡ record (frame_of l.fn.parser) { listed_types = current l.parser.listed_types })

abbrev pub decreases-parameters::parameters-parameters : goal.decreases-parameters::parameters-parameters
decreases-parameters::parameters-parameters g l = length l.parser.rest.now

-- and the arguments, the members and the elements
abbrev pub invariant-arguments::listed-listed : goal.invariant-arguments::listed-listed
invariant-arguments::listed-listed g l =
    ((extra : ℕ) → with_front (map type_at (current l.parser.listed_types))
    (read_name (listed l.fn.kind) l.parser.rest.now (beyond extra (state_of l.parser)))
    ≡ read_name (listed l.fn.kind) l.fn.parser.rest.now (beyond extra (state_of l.fn.parser)))
    × (length l.parser.rest.now ≤ length l.fn.parser.rest.now)
    × (l.checkpoint.from ≡ length (enclosing l.fn.parser.listed_types))
    × (frame_of l.parser
    ≡ record (frame_of l.fn.parser) {
      listed_types = current l.parser.listed_types;
      types_before = enclosing l.fn.parser.listed_types ++ current l.fn.parser.listed_types;
    })

abbrev pub decreases-arguments::listed-listed : goal.decreases-arguments::listed-listed
decreases-arguments::listed-listed g l = length l.parser.rest.now
