-- What the program's enumerations of forms stand for in the grammar.
use Rattle.msvc_full_grammar.specs.Forms as form
use Rattle.msvc_full_letters.specs.declared.forms.EncodingForm.{EncodingForm}
use Rattle.msvc_full_letters.specs.declared.forms.EncodingForm.TheVariants as encodings
use Rattle.msvc_full_letters.specs.declared.forms.TypeForm.{TypeForm}
use Rattle.msvc_full_letters.specs.declared.forms.TypeForm.TheVariants as types

abbrev pub encoding_form_of : EncodingForm → form.EncodingForm
encoding_form_of (encodings.Row r) = form.encoding_by_row r
encoding_form_of encodings.FreeFunction = form.free_function
encoding_form_of (encodings.Function class) = form.function_of class.0
encoding_form_of (encodings.Thunk moved class) = form.thunk_of moved class.0
encoding_form_of encodings.CFunction = form.c_function
encoding_form_of encodings.ManagedFunction = form.managed_function
encoding_form_of encodings.Table = form.table_of_class
encoding_form_of encodings.TypeInformation = form.type_information
encoding_form_of encodings.VirtualCall = form.virtual_call
encoding_form_of encodings.Displacement = form.displaced

abbrev pub type_form_of : TypeForm → form.TypeForm
type_form_of (types.Named tag) = form.named tag
type_form_of (types.Pointer q) = form.pointer_with q.0
type_form_of (types.Reference mark) = form.reference_by mark
type_form_of types.VolatileReference = form.volatile_reference
type_form_of types.Arrays = form.arrayed
type_form_of (types.Function own) = form.function_with own
type_form_of types.Same = form.the_same
type_form_of types.Qualified = form.qualified
type_form_of (types.Row r) = form.type_by_row r
type_form_of types.Extended = form.extended
