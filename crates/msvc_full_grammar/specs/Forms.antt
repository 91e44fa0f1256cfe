-- What the texts of the tables stand for, and the cases that one production has.
use Rattle.std.specs.Prelude.{ℕ}
use Rattle.msvc_nodes.specs.declared.kinds.PointerAffinity.{PointerAffinity}
use Rattle.msvc_nodes.specs.declared.kinds.TagKind.{TagKind}
use Rattle.msvc_full_grammar.specs.Rows.{TypeRow}
pub use Rattle.msvc_full_grammar.specs.declared.forms.OwnQualifiers.{OwnQualifiers}
pub use Rattle.msvc_full_grammar.specs.declared.forms.OwnQualifiers.TheVariants.{Absent as absent, Present as present}
pub use Rattle.msvc_full_grammar.specs.declared.forms.OperatorForm.{OperatorForm}
pub use Rattle.msvc_full_grammar.specs.declared.forms.OperatorForm.TheVariants.{Plain as plain_operator}
pub use Rattle.msvc_full_grammar.specs.declared.forms.OperatorForm.TheVariants.{Word as operator_word}
pub use Rattle.msvc_full_grammar.specs.declared.forms.OperatorForm.TheVariants.{Row as operator_by_row}
pub use Rattle.msvc_full_grammar.specs.declared.forms.OperatorForm.TheVariants.{BaseClass as base_class}
pub use Rattle.msvc_full_grammar.specs.declared.forms.ValueForm.{ValueForm}
pub use Rattle.msvc_full_grammar.specs.declared.forms.ValueForm.TheVariants.{Row as value_by_row, Symbol as of_symbol}
pub use Rattle.msvc_full_grammar.specs.declared.forms.ValueForm.TheVariants.{Offsets as offsets}
pub use Rattle.msvc_full_grammar.specs.declared.forms.ValueForm.TheVariants.{MemberOffsets as member_offsets}
pub use Rattle.msvc_full_grammar.specs.declared.forms.ValueForm.TheVariants.{Bits as bits_of, Word as value_word}
pub use Rattle.msvc_full_grammar.specs.declared.forms.ValueForm.TheVariants.{Aggregate as aggregate}
pub use Rattle.msvc_full_grammar.specs.declared.forms.ValueForm.TheVariants.{Elements as elements}
pub use Rattle.msvc_full_grammar.specs.declared.forms.ValueForm.TheVariants.{Subobject as subobject, Member as member}
pub use Rattle.msvc_full_grammar.specs.declared.forms.ValueForm.TheVariants.{Element as element, Union as union_value}
pub use Rattle.msvc_full_grammar.specs.declared.forms.ValueForm.TheVariants.{MemberOf as member_of}
pub use Rattle.msvc_full_grammar.specs.declared.forms.Listed.{Listed}
pub use Rattle.msvc_full_grammar.specs.declared.forms.Listed.TheVariants.{Argument as an_argument, Member as a_member}
pub use Rattle.msvc_full_grammar.specs.declared.forms.Listed.TheVariants.{Element as an_element}
pub use Rattle.msvc_full_grammar.specs.declared.forms.Adjustment.{Adjustment}
pub use Rattle.msvc_full_grammar.specs.declared.forms.Adjustment.TheVariants.{Adjustor as adjustor}
pub use Rattle.msvc_full_grammar.specs.declared.forms.Adjustment.TheVariants.{VtorDisp as vtordisp}
pub use Rattle.msvc_full_grammar.specs.declared.forms.Adjustment.TheVariants.{VtorDispEx as vtordispex}
pub use Rattle.msvc_full_grammar.specs.declared.forms.SymbolForm.{SymbolForm}
pub use Rattle.msvc_full_grammar.specs.declared.forms.SymbolForm.TheVariants.{Hashed as hashed, String as string}
pub use Rattle.msvc_full_grammar.specs.declared.forms.SymbolForm.TheVariants.{Descriptor as descriptor}
pub use Rattle.msvc_full_grammar.specs.declared.forms.SymbolForm.TheVariants.{Guard as guard_of, Stub as stub_of}
pub use Rattle.msvc_full_grammar.specs.declared.forms.SymbolForm.TheVariants.{Object as template_object}
pub use Rattle.msvc_full_grammar.specs.declared.forms.Stub.{Stub}
pub use Rattle.msvc_full_grammar.specs.declared.forms.Stub.TheVariants.{Initializer as initializer}
pub use Rattle.msvc_full_grammar.specs.declared.forms.Stub.TheVariants.{Destructor as destructor}
pub use Rattle.msvc_full_grammar.specs.declared.forms.ArgumentForm.{ArgumentForm}
pub use Rattle.msvc_full_grammar.specs.declared.forms.ArgumentForm.TheVariants.{EmptyPack as empty_pack}
pub use Rattle.msvc_full_grammar.specs.declared.forms.ArgumentForm.TheVariants.{Alias as alias, Typed as typed}
pub use Rattle.msvc_full_grammar.specs.declared.forms.ArgumentForm.TheVariants.{Value as argument_value}

-- what the type of a symbol begins with, where the symbol is no variable
pub data EncodingForm : Type 0 where
  -- the fields of a row follow
  encoding_by_row : TypeRow → EncodingForm
  -- a function outside all classes
  free_function : EncodingForm
  -- a function of this class
  function_of : ℕ → EncodingForm
  -- a function of this class that moves its this before it calls another one
  thunk_of : Adjustment → ℕ → EncodingForm
  -- a function of C, whose class follows
  c_function : EncodingForm
  -- a function of managed code, whose class follows
  managed_function : EncodingForm
  -- a table of a class, and what it is for follows
  table_of_class : EncodingForm
  -- nothing follows the names of run-time type information
  type_information : EncodingForm
  -- a call of a virtual function by its place in a table
  virtual_call : EncodingForm
  -- the class that a map of displacements is for
  displaced : EncodingForm

-- what stands after the type of a variable
pub data VariableEnd : Type 0 where
  -- after a pointer or a reference, its marks and what it points to has for a qualifier once more
  of_pointer : VariableEnd
  -- the same and, once more, the class that the member is of
  of_member_pointer : VariableEnd
  -- the qualifier of the variable
  of_value : VariableEnd

-- what a type begins with, but for the base types of one letter
pub data TypeForm : Type 0 where
  -- a class, and its name follows
  named : TagKind → TypeForm
  -- a pointer with these qualifiers beside those that it is read with
  pointer_with : ℕ → TypeForm
  -- a reference of this kind
  reference_by : PointerAffinity → TypeForm
  -- a reference that is volatile itself
  volatile_reference : TypeForm
  arrayed : TypeForm
  function_with : OwnQualifiers → TypeForm
  -- a type as it stands
  the_same : TypeForm
  -- a type behind a qualifier
  qualified : TypeForm
  -- the fields of a row follow
  type_by_row : TypeRow → TypeForm
  -- a base type of a second letter
  extended : TypeForm
