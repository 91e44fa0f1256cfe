-- The figures of Full, and that it passes the checks.
use Rattle.std.proofs.Common.{ℕ, zero, suc, true, false, ◌≡◌, None, Some}
use Rattle.std.specs.Prelude.{pos, negsuc}
use Rattle.std.proofs.Common.{refl}
use Rattle.msvc_rules.specs.Rules.{call, letter, node, ◌>>=◌, give}
use Rattle.msvc_rules.specs.Sorts.{Sort, base_type}
use Rattle.msvc_nodes.specs.Trees.{base}
use Rattle.msvc_full_grammar.specs.Forms.{absent, present, plain_operator, operator_word, operator_by_row, base_class}
use Rattle.msvc_full_grammar.specs.Forms.{encoding_by_row, thunk_of, c_function, managed_function, table_of_class}
use Rattle.msvc_full_grammar.specs.Forms.{type_information, virtual_call, displaced}
use Rattle.msvc_full_grammar.specs.Forms.{adjustor, vtordisp, vtordispex, hashed, string, descriptor, guard_of, stub_of}
use Rattle.msvc_full_grammar.specs.Forms.{value_by_row, of_symbol, offsets, member_offsets, bits_of, value_word}
use Rattle.msvc_full_grammar.specs.Forms.{aggregate, elements, subobject, element, union_value, member_of}
use Rattle.msvc_full_grammar.specs.Forms.{template_object}
use Rattle.msvc_full_grammar.specs.Forms.{member as member_form, an_argument, a_member, an_element}
use Rattle.msvc_full_grammar.specs.Forms.{free_function, function_of, of_pointer, of_member_pointer, of_value, named}
use Rattle.msvc_full_grammar.specs.Forms.{pointer_with, reference_by, volatile_reference, arrayed, function_with}
use Rattle.msvc_full_grammar.specs.Forms.{the_same, qualified}
use Rattle.msvc_full_grammar.specs.Forms.{type_by_row, extended, empty_pack, alias, typed, argument_value}
use Rattle.msvc_full_grammar.specs.Rows.{integer, frame}
use Rattle.msvc_full_grammar.specs.Grammar.{grammar, full_grammar}
use Rattle.msvc_full_grammar.specs.Fragments.{of_c, typed_member}
use Rattle.msvc_full_grammar.specs.Letters.{type_texts, encoding_texts, operator_texts, variable_texts}
use Rattle.msvc_full_grammar.specs.Letters.{symbol_texts, function_texts, argument_texts, value_texts, code_texts}
use Rattle.msvc_full_grammar.specs.Letters.{member_texts}
use Rattle.msvc_full_grammar.specs.Letters.{funclet_texts}
use Rattle.msvc_full_grammar.specs.Letters.{base_types}
use Rattle.msvc_full_grammar.specs.Productions.{Production, count, number, symbol, encoding, other_encoding}
use Rattle.msvc_full_grammar.specs.Productions.{encoding_after, variable, variable_end, repeated_class, repeated_scope}
use Rattle.msvc_full_grammar.specs.Productions.{repeated_name, symbol_name, operator_name, operator_after, type_name}
use Rattle.msvc_full_grammar.specs.Productions.{type_symbol, class_symbol, template_name, scope, nested_name}
use Rattle.msvc_full_grammar.specs.Productions.{anonymous_kept, name_row, type_row}
use Rattle.msvc_full_grammar.specs.Productions.{source_name, function_type, signature, own_qualifiers, marks, returned}
use Rattle.msvc_full_grammar.specs.Productions.{function_parameters, explicit_parameters, parameters}
use Rattle.msvc_full_grammar.specs.Productions.{type_, type_after, pointer}
use Rattle.msvc_full_grammar.specs.Productions.{reference, arrays, dimensions, positive, lengths, listed, one_listed}
use Rattle.msvc_full_grammar.specs.Productions.{argument}
use Rattle.msvc_full_grammar.specs.Productions.{member, member_value}
use Rattle.msvc_full_grammar.specs.Productions.{argument_after, template_symbol, named_symbol, whole_text}
use Rattle.msvc_full_grammar.specs.Productions.{numbers, small_number, unsigned, whole_hash, symbol_after, string_of}
use Rattle.msvc_full_grammar.specs.Productions.{named_type, funclet, funclet_or_symbol, funclet_function}
use Rattle.msvc_full_grammar.specs.Productions.{funclet_home, stub_name, stubbed, stubbed_template, stubbed_name}
use Rattle.msvc_full_grammar.specs.Productions.{marked_stubbed, variable_or_none, stubbed_variable, no_variable}
use Rattle.msvc_full_grammar.specs.Productions.{function_code, marked_scope}
use Rattle.msvc_full_grammar.specs.Productions.{marked_symbol, operator_symbol}
use Rattle.msvc_full_grammar.specs.Productions.{guard_name, guard_index, offsets_of, targets, result_type}
use Rattle.msvc_full_grammar.specs.Productions.{template_value, value_after}
use Rattle.msvc_rules.proofs.Checks.{Figures, Fit, Checked, Fine, Local, Even, consumes, firsts_by, firsts_within}
use Rattle.msvc_rules.proofs.Checks.{firsts, exclude, settled, decided, fine_text_or, fine_texts, local_texts}
use Rattle.msvc_rules.proofs.Checks.{apart_texts, anything, others}

-- a production that calls another before it has consumed a byte stands above it
unfoldable pub rank : {a : Sort} → Production a → ℕ
rank count = 1
rank number = 2
rank (numbers n) = 3
rank small_number = 3
rank (offsets_of moved) = 4
rank targets = 4
rank guard_index = 4
rank (guard_name kind) = 5
rank (symbol_after f) = 5
rank marked_symbol = 3
rank operator_symbol = 2
rank whole_text = 1
rank named_type = 2
rank funclet_or_symbol = 1
rank funclet_function = 2
rank (funclet row) = 1
rank stubbed = 3
rank marked_stubbed = 3
rank (stub_name stub) = 4
rank (stubbed_template required) = 3
rank (stubbed_name required) = 2
rank (variable_or_none required) = 2
rank (stubbed_variable required k) = 2
rank (no_variable required) = 1
rank function_code = 1
rank template_symbol = 3
rank named_symbol = 2
rank encoding = 1
rank (encoding_after e) = 5
rank (variable k) = 1
rank (variable_end e) = 1
rank repeated_class = 2
rank repeated_scope = 2
rank repeated_name = 1
rank symbol_name = 1
rank (operator_after o) = 4
rank type_name = 1
rank type_symbol = 2
rank class_symbol = 3
rank template_name = 2
rank scope = 2
rank nested_name = 1
rank marked_scope = 3
rank (name_row r) = 2
rank (function_type own) = 3
rank (signature own) = 2
rank (own_qualifiers own) = 1
rank returned = 2
rank result_type = 1
rank function_parameters = 3
rank explicit_parameters = 2
rank parameters = 2
rank (type_after q f) = 4
rank (type_row q r) = 3
rank (pointer q) = 1
rank (reference mark q) = 1
rank (arrays q) = 3
rank dimensions = 2
rank (lengths n) = 2
rank (listed kind) = 3
rank (one_listed kind) = 2
rank member = 1
rank member_value = 1
rank argument = 1
rank (argument_after f) = 5
rank (value_after f) = 4
rank _ = 0

-- how many bytes a production consumes at least, or fewer
unfoldable pub consumer : {a : Sort} → Production a → ℕ
consumer encoding = 0
consumer other_encoding = 0
consumer (encoding_after e) = 0
consumer (operator_after o) = 0
consumer (anonymous_kept has_capital ds) = 0
consumer (own_qualifiers own) = 0
consumer marks = 0
consumer (type_after q f) = 0
consumer (name_row r) = 0
consumer (type_row q r) = 0
consumer (positive n) = 0
consumer (lengths n) = 0
consumer (argument_after f) = 0
consumer (value_after f) = 0
consumer (numbers n) = 0
consumer (unsigned z) = 0
consumer (string_of width length bytes) = 0
consumer guard_index = 0
consumer marked_scope = 0
consumer (variable_or_none required) = 0
consumer (no_variable required) = 0
consumer type_symbol = 2
consumer _ = 1

-- how many bytes must follow a production, so that it can be read again whatever follows these
unfoldable pub needs : {a : Sort} → Production a → ℕ
needs whole_text = 7
needs (funclet row) = 3
needs funclet_home = 3
needs stubbed = 1
needs marked_stubbed = 1
needs (stub_name stub) = 1
needs (stubbed_template required) = 1
needs (stubbed_name required) = 1
needs (variable_or_none required) = 1
needs funclet_function = 3
needs funclet_or_symbol = 7
needs function_code = 1
needs symbol = 1
needs (symbol_after f) = 1
needs marked_symbol = 1
needs argument = 1
needs (argument_after f) = 1
needs template_value = 1
needs (one_listed kind) = 1
needs member = 1
needs member_value = 1
needs (value_after f) = 1
needs operator_symbol = 1
needs (guard_name kind) = 1
needs guard_index = 1
needs whole_hash = 7
needs template_symbol = 1
needs named_symbol = 1
needs encoding = 1
needs other_encoding = 1
needs nested_name = 1
needs marked_scope = 1
needs (own_qualifiers own) = 1
needs symbol_name = 1
needs operator_name = 1
needs (operator_after o) = 1
needs (name_row r) = 1
needs marks = 1
needs _ = 0

-- the same where some byte stood after these: that it was the end of the text is no question then
unfoldable pub needs_inside : {a : Sort} → Production a → ℕ
needs_inside whole_text = 7
needs_inside (funclet row) = 3
needs_inside funclet_home = 3
needs_inside stubbed = 1
needs_inside marked_stubbed = 1
needs_inside (stub_name stub) = 1
needs_inside (stubbed_template required) = 1
needs_inside (stubbed_name required) = 1
needs_inside (variable_or_none required) = 1
needs_inside funclet_function = 3
needs_inside funclet_or_symbol = 7
needs_inside function_code = 1
needs_inside symbol = 1
needs_inside (symbol_after f) = 1
needs_inside marked_symbol = 1
needs_inside argument = 1
needs_inside (argument_after f) = 1
needs_inside template_value = 1
needs_inside (one_listed kind) = 1
needs_inside member = 1
needs_inside member_value = 1
needs_inside (value_after f) = 1
needs_inside operator_symbol = 1
needs_inside (guard_name kind) = 1
needs_inside whole_hash = 7
needs_inside template_symbol = 1
needs_inside named_symbol = 1
needs_inside encoding = 1
needs_inside nested_name = 1
needs_inside marked_scope = 1
needs_inside (own_qualifiers own) = 1
needs_inside symbol_name = 1
needs_inside operator_name = 1
needs_inside (operator_after o) = 1
needs_inside (name_row r) = 1
needs_inside marks = 1
needs_inside _ = 0

-- no text of a type begins another, nor does one of a symbol's type, of a variable or of an operator
pub no_type_begins_another : apart_texts type_texts ≡ true
no_type_begins_another = refl

pub no_encoding_begins_another : apart_texts encoding_texts ≡ true
no_encoding_begins_another = refl

pub no_variable_begins_another : apart_texts variable_texts ≡ true
no_variable_begins_another = refl

pub no_symbol_begins_another : apart_texts symbol_texts ≡ true
no_symbol_begins_another = refl

pub no_function_begins_another : apart_texts function_texts ≡ true
no_function_begins_another = refl

pub no_code_begins_another : apart_texts code_texts ≡ true
no_code_begins_another = refl

pub no_funclet_begins_another : apart_texts funclet_texts ≡ true
no_funclet_begins_another = refl

pub no_argument_begins_another : apart_texts argument_texts ≡ true
no_argument_begins_another = refl

pub no_member_begins_another : apart_texts member_texts ≡ true
no_member_begins_another = refl

pub no_value_begins_another : apart_texts value_texts ≡ true
no_value_begins_another = refl

pub no_operator_begins_another : apart_texts operator_texts ≡ true
no_operator_begins_another = refl

-- how many bytes a production reads at least before a digit that it notes
unfoldable pub runs_up : {a : Sort} → Production a → ℕ
runs_up function_parameters = 0
runs_up explicit_parameters = 0
runs_up parameters = 0
runs_up source_name = 9
runs_up scope = 2
runs_up nested_name = 2
runs_up _ = 1

abbrev pub full_figures : Figures full_grammar
full_figures = record {
  rank = rank;
  consumer = consumer;
  needs = needs;
  needs_inside = needs_inside;
  runs_up = runs_up;
}

pub checked : {a : Sort} (n : Production a) → Checked full_figures n
unfolding Checked Fine Local Even consumes firsts_by firsts_within firsts exclude settled decided grammar rank
    consumer needs needs_inside
checked (encoding_after (encoding_by_row r)) = search
checked (encoding_after free_function) = search
checked (encoding_after (function_of class)) = search
checked (encoding_after (thunk_of moved class)) = search depth 20
checked (encoding_after c_function) = (
  fine_texts full_figures 0 function_texts (λ f. call (encoding_after (of_c f))) no_function_begins_another refl
      (λ f. refl),
  refl,
  refl,
  local_texts full_figures anything 0 function_texts (λ f. call (encoding_after (of_c f))) (λ f. refl),
  local_texts full_figures others 0 function_texts (λ f. call (encoding_after (of_c f))) (λ f. refl),
)
checked (encoding_after managed_function) = (
  fine_texts full_figures 0 function_texts (λ f. call (encoding_after f)) no_function_begins_another refl (λ f. refl),
  refl,
  refl,
  local_texts full_figures anything 0 function_texts (λ f. call (encoding_after f)) (λ f. refl),
  local_texts full_figures others 0 function_texts (λ f. call (encoding_after f)) (λ f. refl),
)
checked function_code = (
  fine_texts full_figures 0 code_texts (λ f. call (encoding_after f)) no_code_begins_another refl (λ f. refl),
  refl,
  refl,
  local_texts full_figures anything 1 code_texts (λ f. call (encoding_after f)) (λ f. refl),
  local_texts full_figures others 1 code_texts (λ f. call (encoding_after f)) (λ f. refl),
)
checked (encoding_after displaced) = search
checked (encoding_after table_of_class) = search depth 20
checked (encoding_after type_information) = search
checked (encoding_after virtual_call) = search depth 20
checked (offsets_of adjustor) = search
checked (offsets_of vtordisp) = search
checked (offsets_of vtordispex) = search depth 20
checked (numbers zero) = search
checked (numbers (suc n)) = search
checked (unsigned (pos n)) = search
checked (unsigned (negsuc n)) = search
checked (symbol_after hashed) = search depth 20
checked (symbol_after string) = search depth 20
checked (symbol_after descriptor) = search depth 20
checked (symbol_after (guard_of kind)) = search depth 20
checked (symbol_after (stub_of stub)) = search depth 20
checked (symbol_after template_object) = search depth 20
checked (string_of width length None) = search
checked (string_of width length (Some bytes)) = search
checked (variable_end of_pointer) = search depth 20
checked (variable_end of_member_pointer) = search depth 20
checked (variable_end of_value) = search depth 20
checked (operator_after (plain_operator o)) = search
checked (operator_after (operator_word row)) = search
checked (operator_after (operator_by_row r)) = search
checked (operator_after base_class) = search depth 20
checked (name_row frame) = search depth 20
checked (name_row r) = search depth 20
checked (anonymous_kept true ds) = search
checked (anonymous_kept false ds) = search
checked (own_qualifiers absent) = search
checked (own_qualifiers present) = search depth 20
checked (positive zero) = search
checked (positive (suc n)) = search
checked (lengths zero) = search
checked (lengths (suc n)) = search
checked (type_after q (named tag)) = search
checked (type_after q (pointer_with more)) = search
checked (type_after q (reference_by mark)) = search
checked (type_after q volatile_reference) = search
checked (type_after q arrayed) = search
checked (type_after q (function_with own)) = search
checked (type_after q the_same) = search
checked (type_after q qualified) = search
checked (type_after q (type_by_row r)) = search
checked (type_row q integer) = search depth 20
checked (type_row q r) = search depth 20
checked (type_after q extended) = search
checked (argument_after empty_pack) = search
checked (argument_after alias) = search
checked (argument_after typed) = search
checked (argument_after (argument_value v)) = search
checked (value_after (value_by_row r)) = search
checked (value_after (of_symbol row)) = search depth 20
checked (value_after (offsets n)) = search
checked (value_after (bits_of row)) = search
checked (value_after (value_word row)) = search
checked (value_after aggregate) = search
checked (value_after elements) = search
checked (value_after subobject) = search depth 20
checked (value_after member_form) = search depth 20
checked (value_after element) = search depth 20
checked (value_after union_value) = search depth 20
checked (value_after member_of) = search depth 20
checked (one_listed an_argument) = search
checked (one_listed a_member) = search
checked (one_listed an_element) = search depth 20
checked (listed an_argument) = search depth 20
checked (listed a_member) = search depth 20
checked (listed an_element) = search depth 20
checked member = (
  fine_text_or full_figures 1 member_texts (λ v. call (value_after v)) typed_member no_member_begins_another refl
      (λ v. refl) search,
  refl,
  refl,
  (local_texts full_figures anything 1 member_texts (λ v. call (value_after v)) (λ v. refl), search depth 20),
  (local_texts full_figures others 1 member_texts (λ v. call (value_after v)) (λ v. refl), search depth 20),
)
checked (value_after (member_offsets zero)) = search depth 30
checked (value_after (member_offsets (suc n))) = search depth 30
checked (type_ q) = (
  fine_text_or full_figures 0 type_texts (λ f. call (type_after q f))
      (node (letter base_type base_types >>= λ b. give (base b q)))
      no_type_begins_another refl (λ f. refl) search,
  refl,
  refl,
  (local_texts full_figures anything 0 type_texts (λ f. call (type_after q f)) (λ f. refl), search),
  (local_texts full_figures others 0 type_texts (λ f. call (type_after q f)) (λ f. refl), search),
)
checked operator_name = (
  fine_texts full_figures 0 operator_texts (λ o. call (operator_after o)) no_operator_begins_another refl (λ o. refl),
  refl,
  refl,
  local_texts full_figures anything 1 operator_texts (λ o. call (operator_after o)) (λ o. refl),
  local_texts full_figures others 1 operator_texts (λ o. call (operator_after o)) (λ o. refl),
)
checked other_encoding = (
  (
    refl,
    tt,
    fine_texts full_figures 0 encoding_texts (λ e. call (encoding_after e)) no_encoding_begins_another refl (λ e. refl),
  ),
  refl,
  refl,
  (search, local_texts full_figures anything 1 encoding_texts (λ e. call (encoding_after e)) (λ e. refl)),
  (search, local_texts full_figures others 0 encoding_texts (λ e. call (encoding_after e)) (λ e. refl)),
)
checked encoding = (
  fine_text_or full_figures 1 variable_texts (λ k. call (variable k)) (call other_encoding) no_variable_begins_another
      refl (λ k. refl) refl,
  refl,
  refl,
  (local_texts full_figures anything 1 variable_texts (λ k. call (variable k)) (λ k. refl), search),
  (local_texts full_figures others 1 variable_texts (λ k. call (variable k)) (λ k. refl), search),
)
checked symbol = (
  (tt, λ _. (refl, (tt, λ _. refl, λ _. refl), (refl, (tt, λ _. refl, λ _. refl), refl)), λ _. refl),
  refl,
  refl,
  search depth 30,
  search depth 30,
)
checked marked_symbol = (
  fine_text_or full_figures 3 symbol_texts (λ f. call (symbol_after f)) (call operator_symbol) no_symbol_begins_another
      refl (λ f. refl) refl,
  refl,
  refl,
  (local_texts full_figures anything 1 symbol_texts (λ f. call (symbol_after f)) (λ f. refl), search),
  (local_texts full_figures others 1 symbol_texts (λ f. call (symbol_after f)) (λ f. refl), search),
)
checked argument = (
  fine_text_or full_figures 1 argument_texts (λ f. call (argument_after f)) (call (type_ 0)) no_argument_begins_another
      refl (λ f. refl) refl,
  refl,
  refl,
  (local_texts full_figures anything 1 argument_texts (λ f. call (argument_after f)) (λ f. refl), search),
  (local_texts full_figures others 1 argument_texts (λ f. call (argument_after f)) (λ f. refl), search),
)
checked template_value = (
  fine_texts full_figures 0 value_texts (λ v. call (value_after v)) no_value_begins_another refl (λ v. refl),
  refl,
  refl,
  local_texts full_figures anything 1 value_texts (λ v. call (value_after v)) (λ v. refl),
  local_texts full_figures others 1 value_texts (λ v. call (value_after v)) (λ v. refl),
)
checked funclet_home = search depth 30
checked funclet_function = search depth 60
checked (stubbed_template true) = (
  (refl, λ n. (refl, λ ns. search depth 30, λ ns. refl), λ n. refl),
  refl,
  refl,
  (refl, λ n. (refl, λ ns. search depth 30)),
  (refl, λ n. (refl, λ ns. search depth 30)),
)
checked (stubbed_template false) = (
  (refl, λ n. (refl, λ ns. search depth 30, λ ns. refl), λ n. refl),
  refl,
  refl,
  (refl, λ n. (refl, λ ns. search depth 30)),
  (refl, λ n. (refl, λ ns. search depth 30)),
)
checked (variable_or_none true) = (
  fine_text_or full_figures 2 variable_texts (λ k. call (stubbed_variable true k)) (call (no_variable true))
      no_variable_begins_another refl (λ k. refl) refl,
  refl,
  refl,
  (local_texts full_figures anything 1 variable_texts (λ k. call (stubbed_variable true k)) (λ k. refl), search),
  (local_texts full_figures others 1 variable_texts (λ k. call (stubbed_variable true k)) (λ k. refl), search),
)
checked (variable_or_none false) = (
  fine_text_or full_figures 2 variable_texts (λ k. call (stubbed_variable false k)) (call (no_variable false))
      no_variable_begins_another refl (λ k. refl) refl,
  refl,
  refl,
  (local_texts full_figures anything 1 variable_texts (λ k. call (stubbed_variable false k)) (λ k. refl), search),
  (local_texts full_figures others 1 variable_texts (λ k. call (stubbed_variable false k)) (λ k. refl), search),
)
checked (stubbed_variable true k) = search depth 20
checked (stubbed_variable false k) = search depth 20
checked (no_variable true) = search
checked (no_variable false) = search
checked (arrays q) = search depth 20
checked (pointer q) = search depth 30
checked (reference mark q) = search depth 30
checked template_symbol = (
  (refl, λ n. (refl, λ ns. search depth 30, λ ns. refl), λ n. refl),
  refl,
  refl,
  (refl, λ n. (refl, λ ns. search depth 30)),
  (refl, λ n. (refl, λ ns. search depth 30)),
)
checked _ = search depth 20

pub full_fit : Fit full_figures
full_fit = record { checked = λ n. checked n }
