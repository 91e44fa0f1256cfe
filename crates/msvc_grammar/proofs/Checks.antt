-- The figures of the grammar of this crate, and that it passes the checks.
use Rattle.std.proofs.Common.{ℕ, zero, suc, pos, negsuc, true, false, ◌≡◌}
use Rattle.std.proofs.Common.{refl}
use Rattle.std.specs.Prelude.{codes}
use Rattle.msvc_rules.specs.Rules.{call, literal_or}
use Rattle.msvc_rules.specs.Sorts.{Sort, based, extended, named, points, arrayed, indexed, referred, variable_of}
use Rattle.msvc_rules.specs.Sorts.{table_of, type_information, untyped, encoded_string, virtual_call, plain_function}
use Rattle.msvc_rules.specs.Sorts.{member_of}
use Rattle.msvc_grammar.specs.Grammar.{grammar, crate_grammar}
use Rattle.msvc_grammar.specs.Letters.{type_texts, special_texts}
use Rattle.msvc_grammar.specs.Productions.{Production, symbol, symbol_body, guard_index, unsigned, decimal, encoding}
use Rattle.msvc_grammar.specs.Productions.{encoding_after, characters, character, thunk_number, this_qualifiers}
use Rattle.msvc_grammar.specs.Productions.{function_qualifiers, signature, return_qualifiers, returned}
use Rattle.msvc_grammar.specs.Productions.{function_parameters, parameters, parameter, type_, plain_type, type_after}
use Rattle.msvc_grammar.specs.Productions.{pointee, array, dimension, positive, lengths, qualified_name}
use Rattle.msvc_grammar.specs.Productions.{unqualified_name, template_name, scope, nested_name, locally_scoped_name}
use Rattle.msvc_grammar.specs.Productions.{anonymous_namespace, hexadecimal_digits, source_name, number, magnitude}
use Rattle.msvc_grammar.specs.Productions.{letters, required, prefixed_type, function_type, member_pointer, class_part}
use Rattle.msvc_grammar.specs.Productions.{special_name, special_after}
use Rattle.msvc_rules.proofs.Checks.{Figures, Fit, Checked, Fine, Local, Even, consumes, firsts_by, firsts_within}
use Rattle.msvc_rules.proofs.Checks.{firsts, exclude, settled, decided, fine_text_or, fine_texts, local_texts}
use Rattle.msvc_rules.proofs.Checks.{apart_texts, anything, others, none_below}
use Rattle.msvc_grammar.specs.declared.forms.TypePrefix.TheVariants as form
use Rattle.msvc_grammar.specs.declared.forms.SpecialForm.TheVariants as special
use Rattle.msvc_grammar.specs.declared.forms.ObjectQualifiers.TheVariants as object_qualifiers
use Rattle.msvc_grammar.specs.declared.forms.FunctionKind.TheVariants as function_kind
use Rattle.msvc_grammar.specs.declared.forms.MemberPointerForm.TheVariants as pointer_form
use Rattle.msvc_grammar.specs.declared.forms.TemplateNames.TheVariants as templates

-- a production that calls another before it has consumed a byte stands above it
unfoldable pub rank : {a : Sort} → Production a → ℕ
rank symbol = 0
rank symbol_body = 3
rank (guard_index is_guard) = 0
rank (unsigned z) = 0
rank (decimal value) = 1
rank encoding = 0
rank (encoding_after l) = 4
rank (characters n) = 1
rank character = 0
rank (thunk_number is_thunk) = 3
rank (this_qualifiers object) = 1
rank function_qualifiers = 0
rank (signature kind) = 0
rank return_qualifiers = 0
rank (returned kind q) = 2
rank function_parameters = 4
rank parameters = 3
rank parameter = 2
rank (type_ q) = 1
rank (plain_type q) = 0
rank (type_after q l) = 5
rank (prefixed_type q f) = 5
rank (function_type object) = 2
rank (member_pointer which) = 3
rank (class_part which) = 0
rank pointee = 2
rank array = 4
rank dimension = 3
rank (positive z) = 0
rank (lengths n) = 3
rank (qualified_name kept) = 2
rank (unqualified_name kept) = 1
rank special_name = 0
rank (special_after f) = 3
rank template_name = 2
rank scope = 2
rank nested_name = 1
rank locally_scoped_name = 3
rank anonymous_namespace = 0
rank hexadecimal_digits = 0
rank source_name = 0
rank number = 2
rank magnitude = 1
rank (letters value) = 0
rank (required condition) = 0

-- by the name of a production
unfoldable pub consumer : {a : Sort} → Production a → ℕ
consumer (guard_index is_guard) = 0
consumer (unsigned z) = 0
consumer encoding = 0
consumer (encoding_after l) = 0
consumer (characters n) = 0
consumer (thunk_number is_thunk) = 0
consumer (this_qualifiers object) = 0
consumer function_qualifiers = 0
consumer return_qualifiers = 0
consumer parameters = 0
consumer (type_after q (points mark on_pointer)) = 1
consumer (type_after q l) = 0
consumer (prefixed_type q f) = 0
consumer (class_part which) = 0
consumer (positive z) = 0
consumer (lengths n) = 0
consumer (qualified_name kept) = 2
consumer (special_after f) = 0
consumer (required condition) = 0
consumer _ = 1

-- how many bytes must follow a production, so that it can be read again whatever follows these
unfoldable pub needs : {a : Sort} → Production a → ℕ
needs symbol = 1
needs symbol_body = 1
needs (unqualified_name kept) = 1
needs template_name = 1
needs nested_name = 1
needs locally_scoped_name = 1
needs (guard_index is_guard) = 1
needs encoding = 1
needs (encoding_after l) = 1
needs (this_qualifiers object) = 1
needs function_qualifiers = 1
needs return_qualifiers = 1
needs parameters = 1
needs (class_part which) = 1
needs _ = 0

-- the same where some byte stood after these: that it was the end of the text is no question then
unfoldable pub needs_inside : {a : Sort} → Production a → ℕ
needs_inside symbol = 1
needs_inside symbol_body = 1
needs_inside nested_name = 1
needs_inside locally_scoped_name = 1
needs_inside encoding = 1
needs_inside (encoding_after l) = 1
needs_inside (this_qualifiers object) = 1
needs_inside function_qualifiers = 1
needs_inside return_qualifiers = 1
needs_inside (class_part which) = 1
needs_inside _ = 0

-- no text of a type begins another, and no code of an operator does
pub no_text_begins_another : apart_texts type_texts ≡ true
no_text_begins_another = refl

pub no_code_begins_another : apart_texts special_texts ≡ true
no_code_begins_another = refl

-- how many bytes a production reads at least before a digit that it notes
unfoldable pub runs_up : {a : Sort} → Production a → ℕ
runs_up function_parameters = 0
runs_up parameters = 0
runs_up parameter = 0
runs_up _ = 1

abbrev pub crate_figures : Figures crate_grammar
crate_figures = record {
  rank = rank;
  consumer = consumer;
  needs = needs;
  needs_inside = needs_inside;
  runs_up = runs_up;
}

pub checked : {a : Sort} (n : Production a) → Checked crate_figures n
unfolding Checked Fine Local Even consumes firsts_by firsts_within firsts exclude settled decided grammar rank
    consumer needs needs_inside
checked (guard_index true) = search
checked (guard_index false) = search
checked (unsigned (pos n)) = search
checked (unsigned (negsuc n)) = search
checked (encoding_after (variable_of kind)) = search
checked (encoding_after (table_of kind)) = search
checked (encoding_after type_information) = search
checked (encoding_after untyped) = search
checked (encoding_after encoded_string) = search
checked (encoding_after virtual_call) = search
checked (encoding_after plain_function) = search
checked (encoding_after (member_of class)) = search
checked (characters zero) = search
checked (characters (suc n)) = search
checked (thunk_number true) = search
checked (thunk_number false) = search
checked (this_qualifiers object_qualifiers.Absent) = search
checked (this_qualifiers object_qualifiers.Present) = search
checked (returned function_kind.Member q) = search
checked (returned function_kind.Free q) = search
checked (type_after q (based b)) = search
checked (type_after q extended) = search
checked (type_after q (named tag)) = search
checked (type_after q (points mark on_pointer)) = search
checked (type_after q arrayed) = search
checked (type_after q indexed) = search
checked (type_after q (referred i)) = search
checked (prefixed_type q form.Enumeration) = search
checked (prefixed_type q form.ReferenceToFunction) = search
checked (prefixed_type q form.PointerToFunction) = search
checked (prefixed_type q form.QualifiedMemberPointer) = search
checked (prefixed_type q form.Constant) = search
checked (prefixed_type q form.TemplateParameter) = search
checked (prefixed_type q form.Array) = search
checked (prefixed_type q form.RValueReference) = search
checked (prefixed_type q form.EmptyPack) = search
checked (prefixed_type q form.Nullptr) = search
checked (prefixed_type q form.Function) = search
checked (prefixed_type q form.QualifiedFunction) = search
checked (prefixed_type q form.Alias) = search
checked (prefixed_type q form.CvQualified) = search
checked (prefixed_type q form.MemberPointer) = search
checked (function_type object_qualifiers.Absent) = search depth 20
checked (function_type object_qualifiers.Present) = search depth 20
checked (class_part pointer_form.Qualified) = search
checked (class_part pointer_form.OfClass) = search
checked (positive (pos zero)) = search
checked (positive (pos (suc n))) = search
checked (positive (negsuc n)) = search
checked (lengths zero) = search
checked (lengths (suc n)) = search
checked (plain_type q) = search none_below
checked (unqualified_name templates.NotMemorized) = search
checked (unqualified_name templates.Memorized) = search
checked (type_ q) = (
  fine_text_or crate_figures 1 type_texts (λ f. call (prefixed_type q f))
      (literal_or (codes "$") (call (plain_type q)) (call (plain_type q)))
      no_text_begins_another refl (λ f. refl) search,
  refl,
  refl,
  (local_texts crate_figures anything 0 type_texts (λ f. call (prefixed_type q f)) (λ f. refl), search),
  (local_texts crate_figures others 0 type_texts (λ f. call (prefixed_type q f)) (λ f. refl), search),
)
checked special_name = (
  fine_texts crate_figures 0 special_texts (λ f. call (special_after f)) no_code_begins_another refl (λ f. refl),
  refl,
  refl,
  local_texts crate_figures anything 0 special_texts (λ f. call (special_after f)) (λ f. refl),
  local_texts crate_figures others 0 special_texts (λ f. call (special_after f)) (λ f. refl),
)
checked (special_after (special.Plain o)) = search
checked (special_after (special.Guard kind)) = search
checked (special_after special.TypeDescriptor) = search
checked (special_after special.BaseClass) = search
checked (required true) = search
checked (required false) = search
checked _ = search depth 12

pub crate_fit : Fit crate_figures
crate_fit = record { checked = λ n. checked n }
