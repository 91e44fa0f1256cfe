-- That the digits of Full stand in their places.
use Rattle.std.proofs.Common.{zero, suc, true, false, None, Some}
use Rattle.std.specs.Prelude.{pos, negsuc}
use Rattle.std.proofs.Common.{refl}
use Rattle.msvc_rules.specs.Rules.{call}
use Rattle.msvc_rules.specs.Sorts.{Sort}
use Rattle.msvc_full_grammar.specs.Forms.{absent, present, plain_operator, operator_word, operator_by_row, base_class}
use Rattle.msvc_full_grammar.specs.Forms.{encoding_by_row, thunk_of, c_function, managed_function, table_of_class}
use Rattle.msvc_full_grammar.specs.Forms.{type_information, virtual_call, displaced}
use Rattle.msvc_full_grammar.specs.Forms.{adjustor, vtordisp, vtordispex, hashed, string, descriptor, guard_of, stub_of}
use Rattle.msvc_full_grammar.specs.Forms.{value_by_row, of_symbol, offsets, member_offsets, bits_of, value_word}
use Rattle.msvc_full_grammar.specs.Forms.{aggregate, elements, subobject, element, union_value, member_of}
use Rattle.msvc_full_grammar.specs.Forms.{template_object}
use Rattle.msvc_full_grammar.specs.Forms.{member as member_form, an_argument, a_member, an_element}
use Rattle.msvc_full_grammar.specs.Forms.{free_function, function_of, of_pointer, of_member_pointer, of_value, named}
use Rattle.msvc_full_grammar.specs.Forms.{pointer_with, reference_by, volatile_reference, arrayed, function_with}
use Rattle.msvc_full_grammar.specs.Forms.{the_same, qualified}
use Rattle.msvc_full_grammar.specs.Forms.{type_by_row, extended, empty_pack, alias, typed, argument_value}
use Rattle.msvc_full_grammar.specs.Rows.{integer, frame}
use Rattle.msvc_full_grammar.specs.Grammar.{grammar}
use Rattle.msvc_full_grammar.specs.Fragments.{of_c}
use Rattle.msvc_full_grammar.specs.Letters.{type_texts, encoding_texts, operator_texts, function_texts, symbol_texts}
use Rattle.msvc_full_grammar.specs.Letters.{code_texts, argument_texts}
use Rattle.msvc_full_grammar.specs.Productions.{Production, marked_symbol, template_symbol, other_encoding}
use Rattle.msvc_full_grammar.specs.Productions.{encoding_after}
use Rattle.msvc_full_grammar.specs.Productions.{variable_end, operator_name}
use Rattle.msvc_full_grammar.specs.Productions.{operator_after, anonymous_kept, own_qualifiers, type_, type_after}
use Rattle.msvc_full_grammar.specs.Productions.{positive, lengths, argument, argument_after, name_row, type_row}
use Rattle.msvc_full_grammar.specs.Productions.{numbers, unsigned, symbol_after, string_of, offsets_of, value_after}
use Rattle.msvc_full_grammar.specs.Productions.{listed, one_listed}
use Rattle.msvc_full_grammar.specs.Productions.{function_code, no_variable, stubbed_template, stubbed_variable}
use Rattle.msvc_rules.proofs.Checks.{consumes, Local, firsts, firsts_by, firsts_within, decided, settled}
use Rattle.msvc_rules.proofs.DigitPlaces.{WellPlaced, Placed, Beside, ahead, keeps, clear_by, clear_within, misses}
use Rattle.msvc_rules.proofs.DigitPlaces.{misses_by, misses_within, placed_texts, Placing}
use Rattle.msvc_full_grammar.proofs.Checks.{full_figures, runs_up, consumer, needs_inside}

pub well_placed : {a : Sort} (n : Production a) → WellPlaced full_figures n
unfolding WellPlaced Placed Beside ahead keeps Local consumes clear_by clear_within misses misses_by misses_within
    firsts firsts_by firsts_within decided settled grammar runs_up consumer needs_inside
well_placed (encoding_after (encoding_by_row r)) = search depth 12
well_placed (encoding_after free_function) = search depth 12
well_placed (encoding_after (function_of class)) = search depth 12
well_placed (encoding_after (thunk_of moved class)) = search depth 12
well_placed (encoding_after c_function) =
    (placed_texts full_figures function_texts (λ f. call (encoding_after (of_c f))) (λ f. tt), refl)
well_placed (encoding_after managed_function) =
    (placed_texts full_figures function_texts (λ f. call (encoding_after f)) (λ f. tt), refl)
well_placed function_code = (placed_texts full_figures code_texts (λ f. call (encoding_after f)) (λ f. tt), refl)
well_placed (encoding_after displaced) = search depth 12
well_placed (encoding_after table_of_class) = search depth 12
well_placed (encoding_after type_information) = search depth 12
well_placed (encoding_after virtual_call) = search depth 12
well_placed (offsets_of adjustor) = search depth 12
well_placed (offsets_of vtordisp) = search depth 12
well_placed (offsets_of vtordispex) = search depth 12
well_placed (numbers zero) = search depth 12
well_placed (numbers (suc n)) = search depth 12
well_placed (unsigned (pos n)) = search depth 12
well_placed (unsigned (negsuc n)) = search depth 12
well_placed (symbol_after hashed) = search depth 12
well_placed (symbol_after string) = search depth 12
well_placed (symbol_after descriptor) = search depth 12
well_placed (symbol_after (guard_of kind)) = search depth 12
well_placed (symbol_after (stub_of stub)) = search depth 12
well_placed (symbol_after template_object) = search depth 12
well_placed (string_of width length None) = search depth 12
well_placed (string_of width length (Some bytes)) = search depth 12
well_placed (variable_end of_pointer) = search depth 12
well_placed (variable_end of_member_pointer) = search depth 12
well_placed (variable_end of_value) = search depth 12
well_placed (operator_after (plain_operator o)) = search depth 12
well_placed (operator_after (operator_word row)) = search depth 12
well_placed (operator_after (operator_by_row r)) = search depth 12
well_placed (operator_after base_class) = search depth 12
well_placed (name_row frame) = search depth 12
well_placed (name_row r) = search depth 12
well_placed (anonymous_kept true ds) = search depth 12
well_placed (anonymous_kept false ds) = search depth 12
well_placed (own_qualifiers absent) = search depth 12
well_placed (own_qualifiers present) = search depth 12
well_placed (positive zero) = search depth 12
well_placed (positive (suc n)) = search depth 12
well_placed (lengths zero) = search depth 12
well_placed (lengths (suc n)) = search depth 12
well_placed (type_after q (named tag)) = search depth 12
well_placed (type_after q (pointer_with more)) = search depth 12
well_placed (type_after q (reference_by mark)) = search depth 12
well_placed (type_after q volatile_reference) = search depth 12
well_placed (type_after q arrayed) = search depth 12
well_placed (type_after q (function_with own)) = search depth 12
well_placed (type_after q the_same) = search depth 12
well_placed (type_after q qualified) = search depth 12
well_placed (type_after q (type_by_row r)) = search depth 12
well_placed (type_row q integer) = search depth 12
well_placed (type_row q r) = search depth 12
well_placed (type_after q extended) = search depth 12
well_placed argument =
    ((placed_texts full_figures argument_texts (λ f. call (argument_after f)) (λ f. tt), search depth 12), refl)
well_placed (argument_after empty_pack) = search depth 12
well_placed (argument_after alias) = search depth 12
well_placed (argument_after typed) = search depth 12
well_placed (argument_after (argument_value v)) = search depth 12
well_placed (value_after (value_by_row r)) = search depth 12
well_placed (value_after (of_symbol row)) = search depth 12
well_placed (value_after (offsets n)) = search depth 12
well_placed (value_after (bits_of row)) = search depth 12
well_placed (value_after (value_word row)) = search depth 12
well_placed (value_after aggregate) = search depth 12
well_placed (value_after elements) = search depth 12
well_placed (value_after subobject) = search depth 12
well_placed (value_after member_form) = search depth 12
well_placed (value_after element) = search depth 12
well_placed (value_after union_value) = search depth 12
well_placed (value_after member_of) = search depth 12
well_placed (listed an_argument) = search depth 12
well_placed (listed a_member) = search depth 12
well_placed (listed an_element) = search depth 12
well_placed (one_listed an_argument) = search depth 12
well_placed (one_listed a_member) = search depth 12
well_placed (one_listed an_element) = search depth 12
well_placed (value_after (member_offsets zero)) = search depth 12
well_placed (value_after (member_offsets (suc n))) = search depth 12
well_placed (type_ q) = ((placed_texts full_figures type_texts (λ f. call (type_after q f)) (λ f. tt), search), refl)
well_placed operator_name = (placed_texts full_figures operator_texts (λ o. call (operator_after o)) (λ o. tt), refl)
well_placed other_encoding =
    ((search, placed_texts full_figures encoding_texts (λ e. call (encoding_after e)) (λ e. tt)), refl)
well_placed marked_symbol =
    ((placed_texts full_figures symbol_texts (λ f. call (symbol_after f)) (λ f. tt), search depth 12), refl)
well_placed template_symbol = ((tt, λ n. (tt, λ ns. search depth 12, refl, λ ns. refl), refl, λ n. refl), refl)
well_placed (stubbed_template true) =
    ((tt, λ n. (tt, λ ns. search depth 12, refl, λ ns. refl), refl, λ n. refl), refl)
well_placed (stubbed_template false) =
    ((tt, λ n. (tt, λ ns. search depth 12, refl, λ ns. refl), refl, λ n. refl), refl)
well_placed (stubbed_variable true k) = search depth 12
well_placed (stubbed_variable false k) = search depth 12
well_placed (no_variable true) = search depth 12
well_placed (no_variable false) = search depth 12
well_placed _ = search depth 12

pub full_placing : Placing full_figures
full_placing = record { well_placed = λ n. well_placed n }
