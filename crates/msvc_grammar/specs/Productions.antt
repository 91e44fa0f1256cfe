-- The productions of the grammar, by name.
use Rattle.std.specs.Prelude.{ℕ, ℤ, Bool}
use Rattle.msvc_rules.specs.Sorts.{TypeLetter, EncodingLetter, Sort, nothing, bits, integer, bytes, name_tree}
use Rattle.msvc_rules.specs.Sorts.{type_tree, symbol_tree, convention, perhaps, list, both}
use Rattle.msvc_grammar.specs.declared.forms.FunctionKind.{FunctionKind}
use Rattle.msvc_grammar.specs.declared.forms.MemberPointerForm.{MemberPointerForm}
use Rattle.msvc_grammar.specs.declared.forms.ObjectQualifiers.{ObjectQualifiers}
use Rattle.msvc_grammar.specs.declared.forms.SpecialForm.{SpecialForm}
use Rattle.msvc_grammar.specs.declared.forms.TemplateNames.{TemplateNames}
use Rattle.msvc_grammar.specs.declared.forms.TypePrefix.{TypePrefix}

-- The names of the productions, each with the sort of what it reads. What stands after a name is what the production
-- is given: a value so far, the qualifiers of a type, the case that is read, what was read before it, or a condition on
-- that.
pub data Production : Sort → Type 0 where
  -- symbols
  symbol : Production symbol_tree
  symbol_body : Production symbol_tree
  guard_index : (is_guard : Bool) → Production (perhaps bits)
  unsigned : ℤ → Production bits
  decimal : ℕ → Production bits
  encoding : Production type_tree
  encoding_after : EncodingLetter → Production type_tree
  -- strings
  characters : ℕ → Production (list bits)
  character : Production bits
  -- functions
  thunk_number : (is_thunk : Bool) → Production nothing
  this_qualifiers : ObjectQualifiers → Production bits
  function_qualifiers : Production bits
  signature : FunctionKind → Production (both convention (both type_tree (list type_tree)))
  return_qualifiers : Production bits
  returned : FunctionKind → ℕ → Production type_tree
  -- parameters
  function_parameters : Production (list type_tree)
  parameters : Production (list type_tree)
  parameter : Production type_tree
  -- types
  type_ : ℕ → Production type_tree
  plain_type : ℕ → Production type_tree
  type_after : ℕ → TypeLetter → Production type_tree
  prefixed_type : ℕ → TypePrefix → Production type_tree
  function_type : ObjectQualifiers → Production type_tree
  member_pointer : MemberPointerForm → Production type_tree
  class_part : MemberPointerForm → Production (both bits bits)
  pointee : Production type_tree
  array : Production type_tree
  dimension : Production bits
  positive : ℤ → Production bits
  lengths : ℕ → Production (list integer)
  -- names
  qualified_name : TemplateNames → Production (both name_tree (list name_tree))
  unqualified_name : TemplateNames → Production name_tree
  special_name : Production name_tree
  special_after : SpecialForm → Production name_tree
  template_name : Production name_tree
  scope : Production (list name_tree)
  nested_name : Production name_tree
  locally_scoped_name : Production name_tree
  anonymous_namespace : Production name_tree
  hexadecimal_digits : Production (list bits)
  source_name : Production bytes
  -- numbers
  number : Production integer
  magnitude : Production integer
  letters : ℕ → Production bits
  -- conditions on what was read
  required : (holds : Bool) → Production nothing
