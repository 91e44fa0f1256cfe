-- The rows of the table of shapes that Full's trees have, and what is read of those that are fields and nothing else.
use Rattle.std.specs.Prelude.{ℕ, List, [], ◌∷◌, ◌++◌, codes}
use Rattle.msvc_nodes.specs.Trees.{NameTree, TypeTree}
use Rattle.msvc_nodes.specs.declared.nodes.Number.{Number}
pub use Rattle.msvc_shapes.specs.Rows.{integer as integer_row, custom as custom_row, nullptr as nullptr_row}
pub use Rattle.msvc_shapes.specs.Rows.{arrays as arrays_row, member_pointer as member_pointer_row}
pub use Rattle.msvc_shapes.specs.Rows.{extern_c as extern_c_row, frame as frame_row}
pub use Rattle.msvc_shapes.specs.Rows.{literal_operator as literal_operator_row, spaceship as spaceship_row}
pub use Rattle.msvc_shapes.specs.Rows.{address as address_row, object as object_row, offsets as offsets_row}
pub use Rattle.msvc_shapes.specs.Rows.{symbol_offsets as symbol_offsets_row, typed as typed_row, tables as tables_row}
pub use Rattle.msvc_shapes.specs.Rows.{adjustor as adjustor_row, vtordisp as vtordisp_row}
pub use Rattle.msvc_shapes.specs.Rows.{vtordispex as vtordispex_row, type_descriptor as type_descriptor_row}
pub use Rattle.msvc_shapes.specs.Rows.{md5_locator as md5_locator_row, static_guard as static_guard_row}
pub use Rattle.msvc_shapes.specs.Rows.{thread_guard as thread_guard_row, string_literal as string_literal_row}
pub use Rattle.msvc_shapes.specs.Rows.{wide_string_literal as wide_string_literal_row}
pub use Rattle.msvc_shapes.specs.Rows.{initializer_of_name as initializer_of_name_row}
pub use Rattle.msvc_shapes.specs.Rows.{initializer_of_variable as initializer_of_variable_row}
pub use Rattle.msvc_shapes.specs.Rows.{destructor_of_name as destructor_of_name_row}
pub use Rattle.msvc_shapes.specs.Rows.{destructor_of_variable as destructor_of_variable_row}
pub use Rattle.msvc_shapes.specs.Rows.{type_descriptor_name as type_descriptor_name_row}
pub use Rattle.msvc_shapes.specs.Rows.{displacement as displacement_row, auto as auto_row}
pub use Rattle.msvc_shapes.specs.Rows.{decltype_auto as decltype_auto_row, block as block_row, handle as handle_row}
pub use Rattle.msvc_shapes.specs.Rows.{tracking as tracking_row, interface as interface_row}
pub use Rattle.msvc_shapes.specs.Rows.{null_member as null_member_row, float as float_row, double as double_row}
pub use Rattle.msvc_shapes.specs.Rows.{float16 as float16_row, bfloat16 as bfloat16_row, float80 as float80_row}
pub use Rattle.msvc_shapes.specs.Rows.{float128 as float128_row, ibm128 as ibm128_row, absent as absent_row}
pub use Rattle.msvc_shapes.specs.Rows.{pin as pin_row, cli_array as cli_array_row}
pub use Rattle.msvc_shapes.specs.Rows.{template_object as template_object_row}
pub use Rattle.msvc_shapes.specs.Rows.{subobject as subobject_row, member as member_row, element as element_row}
pub use Rattle.msvc_shapes.specs.Rows.{aggregate as aggregate_row, values as values_row}
pub use Rattle.msvc_shapes.specs.Rows.{empty_union as empty_union_row, union_value as union_value_row}
pub use Rattle.msvc_shapes.specs.Rows.{member_of as member_of_row, explicit_this as explicit_this_row}
pub use Rattle.msvc_shapes.specs.Rows.{catch_funclet as catch_row, destructor_funclet as destructor_row}
pub use Rattle.msvc_shapes.specs.Rows.{filter_funclet as filter_row, finally_funclet as finally_row}
pub use Rattle.msvc_shapes.specs.Rows.{managed_vector_ctor_iterator, managed_vector_dtor_iterator}
pub use Rattle.msvc_shapes.specs.Rows.{eh_vector_copy_ctor_iterator, eh_vector_vbase_copy_ctor_iterator}
pub use Rattle.msvc_shapes.specs.Rows.{vector_copy_ctor_iterator, vector_vbase_copy_ctor_iterator}
pub use Rattle.msvc_shapes.specs.Rows.{managed_vector_vbase_copy_ctor_iterator}
pub use Rattle.msvc_full_grammar.specs.declared.forms.NameRow.{NameRow}
pub use Rattle.msvc_full_grammar.specs.declared.forms.NameRow.TheVariants.{Frame as frame}
pub use Rattle.msvc_full_grammar.specs.declared.forms.NameRow.TheVariants.{LiteralOperator as literal_operator}
pub use Rattle.msvc_full_grammar.specs.declared.forms.TypeRow.{TypeRow}
pub use Rattle.msvc_full_grammar.specs.declared.forms.TypeRow.TheVariants.{Integer as integer, Custom as custom}
pub use Rattle.msvc_full_grammar.specs.declared.forms.TypeRow.TheVariants.{Nullptr as nullptr, ExternC as extern_c}

-- Rows that are read field by field

abbrev pub type_row_number : TypeRow → ℕ
type_row_number integer = integer_row
type_row_number custom = custom_row
type_row_number nullptr = nullptr_row
type_row_number extern_c = extern_c_row

abbrev pub name_row_number : NameRow → ℕ
name_row_number frame = frame_row
name_row_number literal_operator = literal_operator_row

pub data Field : Type 0 where
  -- a number, and one without a sign
  a_number a_count : Field
  -- a name of a type, and a source name
  a_type_name a_source_name : Field
  -- a whole symbol with its ?
  a_symbol : Field
  -- this text, of which nothing is held
  a_text : List ℕ → Field

abbrev pub fields_of_type : TypeRow → List Field
fields_of_type integer = a_number ∷ []
fields_of_type custom = a_type_name ∷ a_text (codes "@") ∷ []
fields_of_type nullptr = []
fields_of_type extern_c = []

abbrev pub fields_of_name : NameRow → List Field
fields_of_name frame = a_count ∷ a_text (codes "?") ∷ a_symbol ∷ []
fields_of_name literal_operator = a_source_name ∷ []

-- what the fields that were read hold, in their order
pub record Held : Type 0 where
  pub numbers : List Number
  pub names : List NameTree
  pub types : List TypeTree

-- what no field holds
abbrev pub nothing_held : Held
nothing_held = record { numbers = []; names = []; types = [] }

abbrev pub with_number : Held → Number → Held
with_number h n = record h { numbers = h.numbers ++ n ∷ [] }

abbrev pub with_name : Held → NameTree → Held
with_name h n = record h { names = h.names ++ n ∷ [] }
