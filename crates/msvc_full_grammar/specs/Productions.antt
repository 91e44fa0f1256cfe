-- The productions of Full, by name.
use Rattle.std.specs.Prelude.{ℕ, ℤ, List, Bool, Option}
use Rattle.msvc_nodes.specs.declared.kinds.PointerAffinity.{PointerAffinity}
use Rattle.msvc_nodes.specs.declared.kinds.VarStorageKind.{VarStorageKind}
use Rattle.msvc_rules.specs.Sorts.{Sort, nothing, bits, bytes, name_tree, type_tree, symbol_tree, convention, list}
use Rattle.msvc_rules.specs.Sorts.{both, perhaps, integer}
use Rattle.msvc_rules.specs.Sorts as sort
use Rattle.msvc_full_grammar.specs.Forms.{OwnQualifiers, OperatorForm, EncodingForm, VariableEnd, TypeForm}
use Rattle.msvc_full_grammar.specs.Forms.{ArgumentForm, ValueForm, Adjustment, Listed, Stub, SymbolForm}
use Rattle.msvc_nodes.specs.declared.kinds.Guard.{Guard}
use Rattle.msvc_full_grammar.specs.Rows.{NameRow, TypeRow}

-- The names of the productions, each with the sort of what it reads. What stands after a name is what the production
-- is given: a value so far, the qualifiers of a type, the case that is read, or a condition on what was read before.
pub data Production : Sort → Type 0 where
  -- numbers
  count : Production bits
  letters : ℕ → Production bits
  number : Production sort.number
  numbers : ℕ → Production (list sort.number)
  small_number : Production integer
  unsigned : ℤ → Production bits
  -- symbols
  whole_text : Production symbol_tree
  whole_hash : Production symbol_tree
  named_type : Production symbol_tree
  funclet : ℕ → Production symbol_tree
  funclet_home : Production (both name_tree type_tree)
  funclet_or_symbol : Production symbol_tree
  funclet_function : Production name_tree
  symbol : Production symbol_tree
  marked_symbol : Production symbol_tree
  symbol_after : SymbolForm → Production symbol_tree
  operator_symbol : Production symbol_tree
  string_of : ℕ → ℕ → Option (List ℕ) → Production name_tree
  guard_name : Guard → Production name_tree
  guard_index : Production (list sort.number)
  stub_name : Stub → Production name_tree
  stubbed : Production symbol_tree
  marked_stubbed : Production symbol_tree
  stubbed_template : (required : Bool) → Production symbol_tree
  stubbed_name : (required : Bool) → Production symbol_tree
  variable_or_none : (required : Bool) → Production type_tree
  stubbed_variable : (required : Bool) → VarStorageKind → Production type_tree
  no_variable : (required : Bool) → Production type_tree
  template_symbol : Production symbol_tree
  named_symbol : Production symbol_tree
  encoding : Production type_tree
  other_encoding : Production type_tree
  encoding_after : EncodingForm → Production type_tree
  function_code : Production type_tree
  offsets_of : Adjustment → Production (list sort.number)
  targets : Production (list name_tree)
  variable : VarStorageKind → Production type_tree
  variable_end : VariableEnd → Production bits
  repeated_class : Production nothing
  repeated_scope : Production nothing
  repeated_name : Production nothing
  -- names
  symbol_name : Production name_tree
  operator_name : Production name_tree
  operator_after : OperatorForm → Production name_tree
  type_name : Production name_tree
  type_symbol : Production (both name_tree (list name_tree))
  class_symbol : Production name_tree
  template_name : Production name_tree
  scope : Production (list name_tree)
  nested_name : Production name_tree
  marked_scope : Production name_tree
  anonymous_digits : Production (perhaps (list bits))
  anonymous_kept : (has_capital : Bool) → List ℕ → Production nothing
  hexadecimal_digits : Production (list bits)
  name_row : NameRow → Production name_tree
  source_name : Production bytes
  -- functions
  function_type : OwnQualifiers → Production type_tree
  signature : OwnQualifiers → Production (both bits (both convention (both type_tree (list type_tree))))
  own_qualifiers : OwnQualifiers → Production bits
  marks : Production bits
  returned : Production type_tree
  result_type : Production type_tree
  function_parameters : Production (list type_tree)
  explicit_parameters : Production (list type_tree)
  parameters : Production (list type_tree)
  -- types
  type_ : ℕ → Production type_tree
  type_after : ℕ → TypeForm → Production type_tree
  type_row : ℕ → TypeRow → Production type_tree
  pointer : ℕ → Production type_tree
  reference : PointerAffinity → ℕ → Production type_tree
  arrays : ℕ → Production type_tree
  dimensions : Production bits
  positive : ℕ → Production bits
  lengths : ℕ → Production (list sort.number)
  -- arguments of templates
  -- up to an @
  listed : Listed → Production (list type_tree)
  one_listed : Listed → Production type_tree
  argument : Production type_tree
  argument_after : ArgumentForm → Production type_tree
  template_value : Production type_tree
  value_after : ValueForm → Production type_tree
  member : Production type_tree
  member_value : Production type_tree
