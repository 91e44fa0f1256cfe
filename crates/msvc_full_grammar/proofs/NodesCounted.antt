-- That each production of Full counts the nodes of its value.
use Rattle.std.proofs.Common.{ℕ, zero, suc, List, [], ◌∷◌, ◌++◌, true, false, None, Some}
use Rattle.std.specs.Prelude.{pos, negsuc}
use Rattle.std.proofs.Common.{◌≡◌, ◌+◌, refl, arith, ap, ◌∙◌}
use Rattle.std.proofs.lemmas.List.{reverse-append}
use Rattle.std.specs.Prelude.{reverse}
use Rattle.msvc_nodes.specs.Trees.{NameTree, name_trees, type_trees}
use Rattle.msvc_rules.specs.Counts.{name_count, names_count, types_count}
use Rattle.msvc_rules.specs.Rules.{Rule, call}
use Rattle.msvc_rules.specs.Sorts.{Sort}
use Rattle.msvc_full_grammar.specs.Forms.{absent, present, plain_operator, operator_word, operator_by_row, base_class}
use Rattle.msvc_full_grammar.specs.Forms.{encoding_by_row, thunk_of, c_function, managed_function, table_of_class}
use Rattle.msvc_full_grammar.specs.Forms.{type_information, virtual_call, displaced}
use Rattle.msvc_full_grammar.specs.Forms.{adjustor, vtordisp, vtordispex, hashed, string, descriptor, guard_of, stub_of}
use Rattle.msvc_full_grammar.specs.Forms.{value_by_row, of_symbol, offsets, member_offsets, bits_of, value_word}
use Rattle.msvc_full_grammar.specs.Forms.{aggregate, elements, subobject, element, union_value, member_of}
use Rattle.msvc_full_grammar.specs.Forms.{template_object}
use Rattle.msvc_full_grammar.specs.Forms.{member as member_form, an_argument, a_member, an_element}
use Rattle.msvc_full_grammar.specs.Forms.{free_function, function_of, of_pointer, of_member_pointer, of_value, named}
use Rattle.msvc_full_grammar.specs.Forms.{pointer_with, reference_by, volatile_reference, arrayed, function_with}
use Rattle.msvc_full_grammar.specs.Forms.{the_same, qualified}
use Rattle.msvc_full_grammar.specs.Forms.{type_by_row, extended, empty_pack, alias, typed, argument_value}
use Rattle.msvc_full_grammar.specs.Rows.{Field, a_number, a_count, a_type_name, a_source_name, a_symbol, a_text}
use Rattle.msvc_full_grammar.specs.Rows.{fields_of_type, fields_of_name, Held, nothing_held, with_number, with_name}
use Rattle.msvc_full_grammar.specs.Grammar.{grammar, full_grammar}
use Rattle.msvc_full_grammar.specs.Fragments.{new_source_name, new_template, template_inside}
use Rattle.msvc_full_grammar.specs.Fragments.{nested_symbol, fields_rule, of_c}
use Rattle.msvc_full_grammar.specs.Letters.{digits, hexadecimal, hexadecimal_codes, qualifiers, member_qualifiers}
use Rattle.msvc_full_grammar.specs.Letters.{pointer_sizes, restricts, alignments, reference_qualifiers, base_types}
use Rattle.msvc_full_grammar.specs.Letters.{extended_types, type_texts, argument_texts, conventions, encoding_texts}
use Rattle.msvc_full_grammar.specs.Letters.{variable_texts, operator_texts, symbol_texts, function_texts, value_texts}
use Rattle.msvc_full_grammar.specs.Letters.{widths}
use Rattle.msvc_full_grammar.specs.Letters.{code_texts, deduced_types, funclet_texts, managed_rows, member_texts}
use Rattle.msvc_full_grammar.specs.Rows.{handle_row, tracking_row}
use Rattle.msvc_full_grammar.specs.Productions.{Production, count, letters, number, whole_text, symbol, template_symbol}
use Rattle.msvc_full_grammar.specs.Productions.{named_symbol, encoding, other_encoding, encoding_after, variable}
use Rattle.msvc_full_grammar.specs.Productions.{variable_end, repeated_class, repeated_scope, repeated_name}
use Rattle.msvc_full_grammar.specs.Productions.{symbol_name, operator_name, operator_after, type_name, type_symbol}
use Rattle.msvc_full_grammar.specs.Productions.{class_symbol, template_name, scope, nested_name, anonymous_digits}
use Rattle.msvc_full_grammar.specs.Productions.{anonymous_kept, hexadecimal_digits, name_row, type_row, source_name}
use Rattle.msvc_full_grammar.specs.Productions.{function_type}
use Rattle.msvc_full_grammar.specs.Productions.{signature, own_qualifiers, marks, returned, function_parameters}
use Rattle.msvc_full_grammar.specs.Productions.{explicit_parameters, parameters, type_, type_after, pointer}
use Rattle.msvc_full_grammar.specs.Productions.{reference, arrays}
use Rattle.msvc_full_grammar.specs.Productions.{dimensions, positive, lengths, listed, one_listed, argument}
use Rattle.msvc_full_grammar.specs.Productions.{argument_after, member, member_value}
use Rattle.msvc_full_grammar.specs.Productions.{numbers, small_number, unsigned, whole_hash, symbol_after, string_of}
use Rattle.msvc_full_grammar.specs.Productions.{named_type, funclet, funclet_or_symbol, funclet_function}
use Rattle.msvc_full_grammar.specs.Productions.{funclet_home, stub_name, stubbed, stubbed_template, stubbed_name}
use Rattle.msvc_full_grammar.specs.Productions.{marked_stubbed, variable_or_none, stubbed_variable, no_variable}
use Rattle.msvc_full_grammar.specs.Productions.{function_code, marked_scope}
use Rattle.msvc_full_grammar.specs.Productions.{marked_symbol, operator_symbol}
use Rattle.msvc_full_grammar.specs.Productions.{guard_name, guard_index, offsets_of, targets, result_type}
use Rattle.msvc_full_grammar.specs.Productions.{template_value, value_after}
use Rattle.msvc_rules.proofs.NodesCounted.{Makes, makes_optional, makes_texts, no_nodes, Counted}

module _ (w : ℕ) where
  makes_source : Makes full_grammar w 0 new_source_name
  unfolding Makes
  makes_source = ((refl, λ n. omega arith), λ n. (refl, λ _. omega arith))

  makes_kept : Makes full_grammar w 0 new_template
  unfolding Makes
  makes_kept = (refl, λ n. (refl, λ _. omega arith))

  pub makes_template : Makes full_grammar w 0 template_inside
  unfolding Makes
  makes_template = (refl, λ n. (refl, λ ts. omega arith))

  makes_nested : Makes full_grammar w 0 nested_symbol
  unfolding Makes
  makes_nested = (refl, λ s. omega arith)

  -- the nodes of what fields hold
  abbrev held_count : Held → ℕ
  held_count h = names_count w (name_trees h.names) + types_count w (type_trees h.types)

  with_last : (ns : List NameTree) (n : NameTree)
      → names_count w (name_trees (ns ++ n ∷ [])) ≡ names_count w (name_trees ns) + name_count w n
  with_last [] n = omega arith
  with_last (m ∷ ns) n = omega (arith, with_last ns n)

  -- the order of names doesn't count
  reversed : (ns : List NameTree) → names_count w (name_trees (reverse ns)) ≡ names_count w (name_trees ns)
  reversed [] = refl
  reversed (n ∷ ns) =
      ap (λ ms. names_count w (name_trees ms)) (reverse-append (n ∷ []) ns)
      ∙ with_last (reverse ns) n
      ∙ omega (arith, reversed ns)

  -- fields count what they hold, beside c that were counted before them
  makes_fields : (fields : List Field) (h : Held) {a : Sort} (f : Held → Rule Production a) (c g : ℕ)
      → ((held : Held) (k : ℕ) → k ≡ c + held_count held → Makes full_grammar w k (f held))
      → g ≡ c + held_count h → Makes full_grammar w g (fields_rule fields h f)
  unfolding Makes
  makes_fields [] h f c g go e = go h g e
  makes_fields (a_number ∷ fields) h f c g go e =
      (refl, λ n. makes_fields fields (with_number h n) f c (g + 0) go (omega (arith, e)))
  makes_fields (a_count ∷ fields) h f c g go e = (
    refl,
    λ n. makes_fields fields (with_number h (record { is_negative = false; value = n })) f c (g + 0) go
        (omega (arith, e)),
  )
  makes_fields (a_type_name ∷ fields) h f c g go e = (
    refl,
    λ n. makes_fields fields (with_name h n) f c (g + name_count w n) go
        (omega (arith, e, with_last h.names n)),
  )
  makes_fields (a_source_name ∷ fields) h f c g go e = (
    makes_source,
    λ n. makes_fields fields (with_name h n) f c (g + name_count w n) go
        (omega (arith, e, with_last h.names n)),
  )
  makes_fields (a_symbol ∷ fields) h f c g go e = (
    makes_nested,
    λ n. makes_fields fields (with_name h n) f c (g + name_count w n) go
        (omega (arith, e, with_last h.names n)),
  )
  makes_fields (a_text bytes ∷ fields) h f c g go e =
      (refl, λ _. makes_fields fields h f c (g + 0) go (omega (arith, e)))

  pub makes : {a : Sort} (n : Production a) → Makes full_grammar w 0 (grammar n)
  unfolding Makes grammar
  makes count = ((no_nodes digits, λ _. refl), (refl, λ _. refl))
  makes (letters value) = ((refl, λ _. refl), (no_nodes hexadecimal, λ _. refl))
  makes number = ((refl, λ _. (refl, λ _. refl)), (refl, λ _. refl))
  makes (numbers zero) = refl
  makes (numbers (suc n)) = (refl, λ z. (refl, λ zs. refl))
  makes small_number = (refl, λ n. refl)
  makes (unsigned (pos n)) = refl
  makes (unsigned (negsuc n)) = tt
  makes whole_text = (
    (refl, λ _. refl),
    (makes_texts full_grammar w funclet_texts (λ row. call (funclet row)) (λ row. refl), ((refl, λ _. refl), refl)),
  )
  makes named_type = (omega arith, λ n. ((refl, λ t. omega arith), λ t. omega arith))
  makes (funclet row) = (refl, λ label. (omega arith, λ n. (refl, λ h. omega arith)))
  makes funclet_home = (
    (refl, λ _. ((refl, λ m. (refl, λ ns. (omega arith, λ t. omega arith))), λ x. (omega arith, λ t. omega arith))),
    (refl, λ _. ((refl, λ f. omega arith), λ x. (omega arith, λ t. omega arith))),
  )
  makes funclet_or_symbol =
      (makes_texts full_grammar w funclet_texts (λ row. call (funclet row)) (λ row. refl), refl)
  makes funclet_function = (
    (refl, λ x. (omega arith, λ n. (omega arith, λ t. (refl, λ _. omega arith)))),
    (refl, λ s. (refl, λ _. omega arith)),
  )
  makes whole_hash =
      (refl, λ ds. (((refl, λ _. omega arith), omega arith), λ n. (omega arith, λ t. omega arith)))
  makes symbol = (refl, λ _. ((refl, λ _. refl), ((refl, λ _. refl), refl)))
  makes marked_symbol = (makes_texts full_grammar w symbol_texts (λ f. call (symbol_after f)) (λ f. refl), refl)
  makes operator_symbol = (refl, λ n. (refl, λ ns. (refl, λ t. omega arith)))
  makes (symbol_after hashed) = (refl, λ ds. (omega arith, λ n. (omega arith, λ t. omega arith)))
  makes (symbol_after string) = (
    refl,
    λ _. (
      no_nodes widths,
      λ width. (refl, λ length. (refl, λ _. (refl, λ bs. (refl, λ n. (omega arith, λ t. omega arith))))),
    ),
  )
  makes (symbol_after descriptor) =
      (omega arith, λ n. ((refl, λ t. omega arith), λ t. (refl, λ _. omega arith)))
  makes (symbol_after (guard_of kind)) = (refl, λ ns. (refl, λ n. (omega arith, λ t. omega arith)))
  makes (symbol_after template_object) =
      ((refl, λ v. (refl, λ _. omega arith)), λ n. (omega arith, λ t. omega arith))
  makes (symbol_after (stub_of stub)) = (refl, λ n. (refl, λ t. omega arith))
  makes (stub_name stub) = (refl, λ s. omega arith)
  makes stubbed = ((refl, λ _. refl), ((refl, λ _. refl), refl))
  makes marked_stubbed = ((refl, λ _. refl), refl)
  makes (stubbed_template required) =
      (refl, λ n. (refl, λ ns. ((search arith depth 60), (refl, λ t. omega arith))))
  makes (stubbed_name required) = (refl, λ n. (refl, λ ns. (refl, λ t. omega arith)))
  makes (variable_or_none required) = (
    makes_texts full_grammar w variable_texts (λ k. call (stubbed_variable required k)) (λ k. refl),
    refl,
  )
  makes (stubbed_variable true k) = (refl, λ t. (refl, λ _. omega arith))
  makes (stubbed_variable false k) = (refl, λ t. (refl, λ _. omega arith))
  makes (no_variable true) = tt
  makes (no_variable false) = omega arith
  makes (string_of width length None) = tt
  makes (string_of width length (Some bytes)) = omega arith
  makes (guard_name kind) = (((refl, refl), λ _. (refl, λ zs. omega arith)))
  makes guard_index = (refl, (refl, λ z. (refl, λ i. refl)))
  makes template_symbol = (
    refl,
    λ n. (
      refl,
      λ ns. (
        (search arith depth 60),
        (refl, λ t. omega arith),
      ),
    ),
  )
  makes named_symbol = (refl, λ n. (refl, λ ns. (refl, λ t. omega arith)))
  makes encoding = (makes_texts full_grammar w variable_texts (λ k. call (variable k)) (λ k. refl), refl)
  makes other_encoding =
      (omega arith, makes_texts full_grammar w encoding_texts (λ e. call (encoding_after e)) (λ e. refl))
  makes (encoding_after (encoding_by_row r)) = refl
  makes (encoding_after free_function) = refl
  makes (encoding_after (function_of class)) = (refl, λ f. omega arith)
  makes (encoding_after (thunk_of moved class)) = (refl, λ zs. (refl, λ f. omega arith))
  makes (encoding_after c_function) =
      makes_texts full_grammar w function_texts (λ f. call (encoding_after (of_c f))) (λ f. refl)
  makes (encoding_after managed_function) =
      makes_texts full_grammar w function_texts (λ f. call (encoding_after f)) (λ f. refl)
  makes (encoding_after displaced) = (refl, λ n. omega arith)
  makes function_code = makes_texts full_grammar w code_texts (λ f. call (encoding_after f)) (λ f. refl)
  makes (encoding_after table_of_class) = (no_nodes qualifiers, λ q. (refl, λ ns. omega arith))
  makes (encoding_after type_information) = omega arith
  makes (encoding_after virtual_call) =
      (refl, λ z. (refl, λ _. (no_nodes conventions, λ c. omega arith)))
  makes (offsets_of adjustor) = (refl, λ z. refl)
  makes (offsets_of vtordisp) = (refl, λ v. (refl, λ z. refl))
  makes (offsets_of vtordispex) = (refl, λ p. (refl, λ o. (refl, λ v. (refl, λ z. refl))))
  makes targets = ((refl, λ _. refl), (refl, λ n. (refl, λ ns. omega arith)))
  makes (variable k) = (refl, λ t. (refl, λ _. omega arith))
  makes (variable_end of_pointer) = (refl, λ _. (no_nodes qualifiers, λ _. refl))
  makes (variable_end of_member_pointer) = (refl, λ _. (no_nodes qualifiers, λ _. (refl, λ _. refl)))
  makes (variable_end of_value) = no_nodes qualifiers
  makes repeated_class = (refl, λ _. refl)
  makes repeated_scope = ((refl, λ _. refl), (refl, λ _. refl))
  makes repeated_name = ((no_nodes digits, λ _. refl), ((refl, λ _. (refl, λ _. refl)), (refl, λ _. refl)))
  makes symbol_name =
      ((no_nodes digits, λ _. refl), ((refl, λ _. refl), ((refl, λ _. refl), makes_source)))
  makes operator_name = makes_texts full_grammar w operator_texts (λ o. call (operator_after o)) (λ o. refl)
  makes (operator_after (plain_operator o)) = omega arith
  makes (operator_after (operator_word row)) = omega arith
  makes (operator_after (operator_by_row r)) = refl
  makes (operator_after base_class) =
      (refl, λ a. (refl, λ b. (refl, λ c. (refl, λ d. omega arith))))
  makes (name_row r) =
      makes_fields (fields_of_name r) nothing_held _ w (0 + w) (λ h k e. omega (arith, e)) (omega arith)
  makes type_name = ((no_nodes digits, λ _. refl), ((refl, λ _. makes_kept), makes_source))
  makes type_symbol = (refl, λ n. (refl, λ ns. omega arith))
  makes class_symbol = (refl, λ s. (omega arith, λ t. omega arith))
  makes template_name = makes_template
  makes scope = ((refl, λ _. refl), (refl, λ n. (refl, λ ns. omega arith)))
  makes nested_name = (
    (no_nodes digits, λ _. refl),
    (
      (refl, λ _. makes_kept),
      ((refl, λ _. (refl, λ _. omega arith)), ((refl, λ _. refl), makes_source)),
    ),
  )
  makes marked_scope = ((refl, λ _. (refl, λ n. omega arith)), (refl, makes_nested))
  makes anonymous_digits = ((refl, λ _. refl), (refl, λ _. (refl, λ ds. (refl, λ _. refl))))
  makes (anonymous_kept true ds) = refl
  makes (anonymous_kept false ds) = refl
  makes hexadecimal_digits = ((refl, λ _. refl), (no_nodes hexadecimal_codes, λ _. (refl, λ _. refl)))
  makes source_name = refl
  makes (function_type own) = (refl, λ f. omega arith)
  makes (signature own) = (
    refl,
    λ q. (
      no_nodes conventions,
      λ c. (refl, λ t. (refl, λ ts. ((refl, λ _. omega arith), (refl, λ _. omega arith)))),
    ),
  )
  makes (own_qualifiers absent) = refl
  makes (own_qualifiers present) = (
    refl,
    λ _. (
      ((refl, λ _. refl), refl),
      λ _. (makes_optional full_grammar w reference_qualifiers, λ _. (no_nodes qualifiers, λ _. refl)),
    ),
  )
  makes marks = (
    makes_optional full_grammar w pointer_sizes,
    λ _. (
      makes_optional full_grammar w restricts,
      λ _. (makes_optional full_grammar w alignments, λ _. refl),
    ),
  )
  makes returned = ((refl, λ _. omega arith), refl)
  makes result_type = ((refl, λ _. (no_nodes qualifiers, λ _. refl)), refl)
  makes function_parameters = ((refl, λ _. omega arith), ((refl, λ _. refl), refl))
  makes explicit_parameters = (((refl, refl), λ t. omega arith), λ t. (refl, λ ts. omega arith))
  makes parameters =
      ((refl, λ _. refl), ((refl, λ _. omega arith), ((refl, refl), λ t. (refl, λ ts. omega arith))))
  makes (type_ q) = (
    makes_texts full_grammar w type_texts (λ f. call (type_after q f)) (λ f. refl),
    (no_nodes base_types, λ _. omega arith),
  )
  makes (type_after q (named tag)) = (refl, λ s. omega arith)
  makes (type_after q (pointer_with more)) = refl
  makes (type_after q (reference_by mark)) = refl
  makes (type_after q volatile_reference) = refl
  makes (type_after q arrayed) = refl
  makes (type_after q (function_with own)) = refl
  makes (type_after q the_same) = refl
  makes (type_after q qualified) = (no_nodes qualifiers, λ _. refl)
  makes (type_after q (type_by_row r)) = refl
  makes (type_after q extended) =
      ((no_nodes deduced_types, λ row. omega arith), (no_nodes extended_types, λ _. omega arith))
  makes (type_row q r) =
      makes_fields (fields_of_type r) nothing_held _ w (0 + w) (λ h k e. omega (arith, e)) (omega arith)
  makes (pointer q) = (
    (refl, λ _. (refl, λ f. omega arith)),
    (
      (refl, λ _. (refl, λ c. (refl, λ f. omega arith))),
      (
        (refl, λ _. (refl, λ f. omega arith)),
        (
          refl,
          λ m. (
            (no_nodes member_qualifiers, λ s. (refl, λ c. (refl, λ t. omega arith))),
            (
              (
                refl,
                λ _. (
                  (no_nodes (managed_rows handle_row), λ row. (no_nodes qualifiers, λ s. (refl, λ t. omega arith))),
                  (refl, λ _. (no_nodes digits, λ d. (no_nodes qualifiers, λ s. (refl, λ t. omega arith)))),
                ),
              ),
              (no_nodes qualifiers, λ s. (refl, λ t. omega arith)),
            ),
          ),
        ),
      ),
    ),
  )
  makes (reference mark q) = (
    (refl, λ _. (refl, λ f. omega arith)),
    (
      refl,
      λ m. (
        (
          refl,
          λ _. (
            (no_nodes (managed_rows tracking_row), λ row. (no_nodes qualifiers, λ s. (refl, λ t. omega arith))),
            (refl, λ _. (no_nodes digits, λ d. (no_nodes qualifiers, λ s. (refl, λ t. omega arith)))),
          ),
        ),
        (no_nodes qualifiers, λ s. (refl, λ t. omega arith)),
      ),
    ),
  )
  makes (arrays q) = (
    refl,
    λ n. (
      refl,
      λ zs. (
        (refl, λ _. (no_nodes qualifiers, λ more. (refl, λ t. omega arith))),
        (refl, λ t. omega arith),
      ),
    ),
  )
  makes dimensions = (refl, λ _. refl)
  makes (positive zero) = tt
  makes (positive (suc n)) = refl
  makes (lengths zero) = refl
  makes (lengths (suc n)) = (refl, λ z. (refl, λ zs. refl))
  makes (listed kind) = ((refl, λ _. refl), (refl, λ t. (refl, λ ts. omega arith)))
  makes (one_listed an_argument) = refl
  makes (one_listed a_member) = refl
  makes (one_listed an_element) = (refl, λ v. (refl, λ _. omega arith))
  makes argument = (makes_texts full_grammar w argument_texts (λ f. call (argument_after f)) (λ f. refl), refl)
  makes (argument_after empty_pack) = omega arith
  makes (argument_after alias) = (refl, λ s. omega arith)
  makes (argument_after typed) = (refl, λ t. (refl, λ v. omega arith))
  makes (argument_after (argument_value v)) = refl
  makes template_value = makes_texts full_grammar w value_texts (λ v. call (value_after v)) (λ v. refl)
  makes (value_after (value_by_row r)) = refl
  makes (value_after (of_symbol row)) = (makes_nested, λ x. omega arith)
  makes (value_after (offsets n)) = (refl, λ zs. omega arith)
  makes (value_after (bits_of row)) = (refl, λ n. omega arith)
  makes (value_after (value_word row)) = omega arith
  makes (value_after aggregate) = (refl, λ t. ((refl, λ ts. omega arith), λ v. omega arith))
  makes (value_after elements) = (refl, λ t. ((refl, λ ts. omega arith), λ v. omega arith))
  makes (value_after subobject) = (refl, λ v. (refl, λ _. omega arith))
  makes (value_after member_form) = (refl, λ v. (refl, λ n. (refl, λ _. omega arith)))
  makes (value_after element) = (refl, λ v. (refl, λ _. (refl, λ n. (refl, λ _. omega arith))))
  makes (value_after union_value) =
      (refl, λ t. ((refl, λ _. omega arith), (refl, λ n. (refl, λ v. (refl, λ _. omega arith)))))
  makes (value_after member_of) =
      (refl, λ ns. (refl, λ n. (refl, λ _. omega (arith, with_last (reverse ns) n, reversed ns))))
  makes member = (
    makes_texts full_grammar w member_texts (λ v. call (value_after v)) (λ v. refl),
    (refl, λ t. (refl, λ v. omega arith)),
  )
  makes member_value = ((refl, λ _. omega arith), refl)
  makes (value_after (member_offsets n)) =
      ((refl, λ zs. omega arith), (makes_nested, λ x. (refl, λ zs. omega arith)))

pub full_counted : Counted full_grammar
full_counted = record { makes = λ w n. makes w n }
