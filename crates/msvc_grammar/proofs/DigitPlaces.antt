-- That the digits of this crate's grammar stand in their places.
use Rattle.std.proofs.Common.{zero, suc, pos, negsuc, true, false}
use Rattle.std.proofs.Common.{refl}
use Rattle.msvc_rules.specs.Rules.{call}
use Rattle.msvc_rules.specs.Sorts.{Sort, based, extended, named, points, arrayed, indexed, referred, variable_of}
use Rattle.msvc_rules.specs.Sorts.{table_of, type_information, untyped, encoded_string, virtual_call, plain_function}
use Rattle.msvc_rules.specs.Sorts.{member_of}
use Rattle.msvc_grammar.specs.Grammar.{grammar}
use Rattle.msvc_grammar.specs.Letters.{type_texts, special_texts}
use Rattle.msvc_grammar.specs.Productions.{Production, guard_index, unsigned, encoding_after, characters, thunk_number}
use Rattle.msvc_grammar.specs.Productions.{this_qualifiers, returned, required, type_, type_after, positive, lengths}
use Rattle.msvc_grammar.specs.Productions.{plain_type, prefixed_type, function_type, class_part, special_name}
use Rattle.msvc_grammar.specs.Productions.{special_after, unqualified_name}
use Rattle.msvc_rules.proofs.Checks.{consumes, Local, firsts, firsts_by, firsts_within, decided, settled}
use Rattle.msvc_rules.proofs.DigitPlaces.{WellPlaced, Placed, Beside, ahead, keeps, clear_by, clear_within, misses}
use Rattle.msvc_rules.proofs.DigitPlaces.{misses_by, misses_within, placed_texts, Placing}
use Rattle.msvc_grammar.proofs.Checks.{crate_figures, runs_up, consumer, needs_inside}
use Rattle.msvc_grammar.specs.declared.forms.SpecialForm.TheVariants as special
use Rattle.msvc_grammar.specs.declared.forms.ObjectQualifiers.TheVariants as object_qualifiers
use Rattle.msvc_grammar.specs.declared.forms.FunctionKind.TheVariants as function_kind
use Rattle.msvc_grammar.specs.declared.forms.MemberPointerForm.TheVariants as pointer_form
use Rattle.msvc_grammar.specs.declared.forms.TemplateNames.TheVariants as templates
use Rattle.msvc_grammar.specs.declared.forms.TypePrefix.TheVariants as form

pub well_placed : {a : Sort} (n : Production a) → WellPlaced crate_figures n
unfolding WellPlaced Placed Beside ahead keeps Local consumes clear_by clear_within misses misses_by misses_within
    firsts firsts_by firsts_within decided settled grammar runs_up consumer needs_inside
well_placed (guard_index true) = search depth 12
well_placed (guard_index false) = search depth 12
well_placed (unsigned (pos n)) = search depth 12
well_placed (unsigned (negsuc n)) = search depth 12
well_placed (encoding_after (variable_of kind)) = search depth 12
well_placed (encoding_after (table_of kind)) = search depth 12
well_placed (encoding_after type_information) = search depth 12
well_placed (encoding_after untyped) = search depth 12
well_placed (encoding_after encoded_string) = search depth 12
well_placed (encoding_after virtual_call) = search depth 12
well_placed (encoding_after plain_function) = search depth 12
well_placed (encoding_after (member_of class)) = search depth 12
well_placed (characters zero) = search depth 12
well_placed (characters (suc n)) = search depth 12
well_placed (thunk_number true) = search depth 12
well_placed (thunk_number false) = search depth 12
well_placed (this_qualifiers object_qualifiers.Absent) = search depth 12
well_placed (this_qualifiers object_qualifiers.Present) = search depth 12
well_placed (returned function_kind.Member q) = search depth 12
well_placed (returned function_kind.Free q) = search depth 12
well_placed (type_after q (based b)) = search depth 12
well_placed (type_after q extended) = search depth 12
well_placed (type_after q (named tag)) = search depth 12
well_placed (type_after q (points mark on_pointer)) = search depth 12
well_placed (type_after q arrayed) = search depth 12
well_placed (type_after q indexed) = search depth 12
well_placed (type_after q (referred i)) = search depth 12
well_placed (prefixed_type q form.Enumeration) = search depth 12
well_placed (prefixed_type q form.ReferenceToFunction) = search depth 12
well_placed (prefixed_type q form.PointerToFunction) = search depth 12
well_placed (prefixed_type q form.QualifiedMemberPointer) = search depth 12
well_placed (prefixed_type q form.Constant) = search depth 12
well_placed (prefixed_type q form.TemplateParameter) = search depth 12
well_placed (prefixed_type q form.Array) = search depth 12
well_placed (prefixed_type q form.RValueReference) = search depth 12
well_placed (prefixed_type q form.EmptyPack) = search depth 12
well_placed (prefixed_type q form.Nullptr) = search depth 12
well_placed (prefixed_type q form.Function) = search depth 12
well_placed (prefixed_type q form.QualifiedFunction) = search depth 12
well_placed (prefixed_type q form.Alias) = search depth 12
well_placed (prefixed_type q form.CvQualified) = search depth 12
well_placed (prefixed_type q form.MemberPointer) = search depth 12
well_placed (function_type object_qualifiers.Absent) = search depth 12
well_placed (function_type object_qualifiers.Present) = search depth 12
well_placed (class_part pointer_form.Qualified) = search depth 12
well_placed (class_part pointer_form.OfClass) = search depth 12
well_placed (positive (pos zero)) = search depth 12
well_placed (positive (pos (suc n))) = search depth 12
well_placed (positive (negsuc n)) = search depth 12
well_placed (lengths zero) = search depth 12
well_placed (lengths (suc n)) = search depth 12
well_placed (plain_type q) = search depth 12
well_placed (unqualified_name templates.NotMemorized) = search depth 12
well_placed (unqualified_name templates.Memorized) = search depth 12
well_placed (type_ q) = (
  (
    placed_texts crate_figures type_texts (λ f. call (prefixed_type q f))
        (λ f. tt),
    search,
  ),
  refl,
)
well_placed special_name = (placed_texts crate_figures special_texts (λ f. call (special_after f)) (λ f. tt), refl)
well_placed (special_after (special.Plain o)) = search depth 12
well_placed (special_after (special.Guard kind)) = search depth 12
well_placed (special_after special.TypeDescriptor) = search depth 12
well_placed (special_after special.BaseClass) = search depth 12
well_placed (required true) = search depth 12
well_placed (required false) = search depth 12
well_placed _ = search depth 12

pub crate_placing : Placing crate_figures
crate_placing = record { well_placed = λ n. well_placed n }
