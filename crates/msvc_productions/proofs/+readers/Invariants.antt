use Rattle.std.proofs.Common.{ℕ, List, ◌≡◌, ◌≤◌, ◌+◌, ◌*◌, ◌++◌, length}
use Rattle.std.specs.Prelude.{map}
use Rattle.msvc_nodes.specs.NodeView.{name_at, type_at}
use Rattle.msvc_grammar.specs.Productions.{parameters, scope}
use Rattle.msvc_grammar.specs.Reading.{read_name}
use Rattle.msvc_cursor.specs.Parser.{beyond, frame_of, state_of}
use Rattle.msvc_cursor.specs.NestedList.{current, enclosing}
use Rattle.msvc_cursor.specs.Rows.{with_front}
use Rattle.msvc_productions.proofs.+readers.Given as goal

-- Where as many bytes are left, a reader calls only those with a smaller number.

abbrev level : List ℕ → ℕ → ℕ
level left n = 12 * length left + n

abbrev pub decreases-types::type_ : goal.decreases-types::type_
decreases-types::type_ g l = level l.parser.now.rest.now 1

abbrev pub decreases-types::array : goal.decreases-types::array
decreases-types::array g l = level l.parser.now.rest.now 3

abbrev pub decreases-types::prefixed_type : goal.decreases-types::prefixed_type
decreases-types::prefixed_type g l = level l.parser.now.rest.now 6

abbrev pub decreases-function_types::function_type : goal.decreases-function_types::function_type
decreases-function_types::function_type g l = level l.parser.now.rest.now 4

abbrev pub decreases-function_types::member_pointer : goal.decreases-function_types::member_pointer
decreases-function_types::member_pointer g l = level l.parser.now.rest.now 4

abbrev pub decreases-symbols::encoding : goal.decreases-symbols::encoding
decreases-symbols::encoding g l = level l.parser.now.rest.now 10

abbrev pub decreases-function_types::function : goal.decreases-function_types::function
decreases-function_types::function g l = level l.parser.now.rest.now 7

abbrev pub decreases-parameters::function_parameters : goal.decreases-parameters::function_parameters
decreases-parameters::function_parameters g l = level l.parser.now.rest.now 5

abbrev pub decreases-qualified_names::locally_scoped_name : goal.decreases-qualified_names::locally_scoped_name
decreases-qualified_names::locally_scoped_name g l = level l.parser.now.rest.now 7

abbrev pub decreases-function_types::member : goal.decreases-function_types::member
decreases-function_types::member g l = level l.parser.now.rest.now 7

abbrev pub decreases-symbols::named_symbol : goal.decreases-symbols::named_symbol
decreases-symbols::named_symbol g l = level l.parser.now.rest.now 4

abbrev pub decreases-qualified_names::nested_name : goal.decreases-qualified_names::nested_name
decreases-qualified_names::nested_name g l = level l.parser.now.rest.now 1

abbrev pub decreases-parameters::parameter : goal.decreases-parameters::parameter
decreases-parameters::parameter g l = level l.parser.now.rest.now 3

abbrev pub decreases-parameters::parameters : goal.decreases-parameters::parameters
decreases-parameters::parameters g l = level l.parser.now.rest.now 4

abbrev pub decreases-types::plain_type : goal.decreases-types::plain_type
decreases-types::plain_type g l = level l.parser.now.rest.now 0

abbrev pub decreases-qualified_names::qualified_name : goal.decreases-qualified_names::qualified_name
decreases-qualified_names::qualified_name g l = level l.parser.now.rest.now 3

abbrev pub decreases-function_types::returned : goal.decreases-function_types::returned
decreases-function_types::returned g l = level l.parser.now.rest.now 3

abbrev pub decreases-function_types::member_returned : goal.decreases-function_types::member_returned
decreases-function_types::member_returned g l = level l.parser.now.rest.now 2

abbrev pub decreases-qualified_names::scope : goal.decreases-qualified_names::scope
decreases-qualified_names::scope g l = level l.parser.now.rest.now 2

abbrev pub decreases-function_types::signature : goal.decreases-function_types::signature
decreases-function_types::signature g l = level l.parser.now.rest.now 6

abbrev pub decreases-symbols::symbol_body : goal.decreases-symbols::symbol_body
decreases-symbols::symbol_body g l = level l.parser.now.rest.now 5

abbrev pub decreases-qualified_names::template : goal.decreases-qualified_names::template
decreases-qualified_names::template g l = level l.parser.now.rest.now 5

abbrev pub decreases-qualified_names::template_name : goal.decreases-qualified_names::template_name
decreases-qualified_names::template_name g l = level l.parser.now.rest.now 6

abbrev pub decreases-qualified_names::unqualified_name : goal.decreases-qualified_names::unqualified_name
decreases-qualified_names::unqualified_name g l = level l.parser.now.rest.now 1

abbrev pub decreases-symbols::variable : goal.decreases-symbols::variable
decreases-symbols::variable g l = level l.parser.now.rest.now 8

abbrev pub decreases-special_names::special_name : goal.decreases-special_names::special_name
decreases-special_names::special_name g l = level l.parser.now.rest.now 8

abbrev pub decreases-guards::numbered_guard : goal.decreases-guards::numbered_guard
decreases-guards::numbered_guard g l = level l.parser.now.rest.now 8

abbrev pub decreases-special_names::type_descriptor : goal.decreases-special_names::type_descriptor
decreases-special_names::type_descriptor g l = level l.parser.now.rest.now 8

abbrev pub decreases-symbols::template_symbol : goal.decreases-symbols::template_symbol
decreases-symbols::template_symbol g l = level l.parser.now.rest.now 7

abbrev pub decreases-types::cv_type : goal.decreases-types::cv_type
decreases-types::cv_type g l = level l.parser.now.rest.now 5

abbrev pub decreases-types::marked_member_pointer : goal.decreases-types::marked_member_pointer
decreases-types::marked_member_pointer g l = level l.parser.now.rest.now 5

abbrev pub decreases-symbols::table : goal.decreases-symbols::table
decreases-symbols::table g l = level l.parser.now.rest.now 8

abbrev pub decreases-types::tagged_type : goal.decreases-types::tagged_type
decreases-types::tagged_type g l = level l.parser.now.rest.now 4

abbrev pub decreases-types::pointing_type : goal.decreases-types::pointing_type
decreases-types::pointing_type g l = level l.parser.now.rest.now 4

abbrev pub decreases-types::pointed_function : goal.decreases-types::pointed_function
decreases-types::pointed_function g l = level l.parser.now.rest.now 5

-- the names so far, before what is read of the rest, are what is read of all; those that others gather stay
abbrev pub invariant-qualified_names::scope-names : goal.invariant-qualified_names::scope-names
invariant-qualified_names::scope-names g l =
    ((extra : ℕ) → with_front (map name_at (current l.parser.listed_names)) (read_name scope l.parser.rest.now (beyond extra (state_of l.parser)))
    ≡ read_name scope l.fn.parser.rest.now (beyond extra (state_of l.fn.parser)))
    × (length l.parser.rest.now ≤ length l.fn.parser.rest.now)
    × (l.checkpoint.from ≡ length (enclosing l.fn.parser.listed_names))
    × (frame_of l.parser
    ≡ record (frame_of l.fn.parser) {
      listed_names = current l.parser.listed_names;
      names_before = enclosing l.fn.parser.listed_names ++ current l.fn.parser.listed_names;
    })

abbrev pub decreases-qualified_names::scope-names : goal.decreases-qualified_names::scope-names
decreases-qualified_names::scope-names g l = length l.parser.rest.now

-- the parameters so far, before what is read of the rest, are what is read of all; those that others gather stay
abbrev pub invariant-parameters::parameters-parameters : goal.invariant-parameters::parameters-parameters
invariant-parameters::parameters-parameters g l =
    ((extra : ℕ) → with_front (map type_at (current l.parser.listed_types)) (read_name parameters l.parser.rest.now (beyond extra (state_of l.parser)))
    ≡ read_name parameters l.fn.parser.rest.now (beyond extra (state_of l.fn.parser)))
    × (length l.parser.rest.now ≤ length l.fn.parser.rest.now)
    × (l.checkpoint.from ≡ length (enclosing l.fn.parser.listed_types))
    × (frame_of l.parser
    ≡ record (frame_of l.fn.parser) {
      listed_types = current l.parser.listed_types;
      types_before = enclosing l.fn.parser.listed_types ++ current l.fn.parser.listed_types;
    })

abbrev pub decreases-parameters::parameters-parameters : goal.decreases-parameters::parameters-parameters
decreases-parameters::parameters-parameters g l = length l.parser.rest.now
