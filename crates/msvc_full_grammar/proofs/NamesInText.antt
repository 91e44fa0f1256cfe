-- That each production of Full gives the names that it was given, and no bytes where a row has none.
use Rattle.std.proofs.Common.{ℕ, zero, suc, List, [], ◌∷◌, Bool, true, None, Some}
use Rattle.std.specs.Prelude.{pos, negsuc}
use Rattle.std.proofs.Common.{◌≡◌}
use Rattle.std.proofs.Common.{◌++◌, false, refl, subst, sym}
use Rattle.std.proofs.lemmas.List.{reverse-append}
use Rattle.std.specs.Prelude.{reverse}
use Rattle.msvc_nodes.specs.EachName.{EachNameOfName, EachNameOfNames, EachNameOfType, EachNameOfTypes}
use Rattle.msvc_nodes.specs.Trees.{NameTree, TypeTree, name_trees, type_trees}
use Rattle.msvc_rules.specs.Rules.{Rule, call, every}
use Rattle.msvc_rules.specs.Sorts.{Sort}
use Rattle.msvc_full_grammar.specs.Forms.{absent, present, plain_operator, operator_word, operator_by_row, base_class}
use Rattle.msvc_full_grammar.specs.Forms.{encoding_by_row, thunk_of, c_function, managed_function, table_of_class}
use Rattle.msvc_full_grammar.specs.Forms.{type_information, virtual_call, displaced}
use Rattle.msvc_full_grammar.specs.Forms.{adjustor, vtordisp, vtordispex, hashed, string, descriptor, guard_of, stub_of}
use Rattle.msvc_full_grammar.specs.Forms.{value_by_row, of_symbol, offsets, member_offsets, bits_of, value_word}
use Rattle.msvc_full_grammar.specs.Forms.{aggregate, elements, subobject, element, union_value, member_of}
use Rattle.msvc_full_grammar.specs.Forms.{template_object}
use Rattle.msvc_full_grammar.specs.Forms.{member as member_form, an_argument, a_member, an_element}
use Rattle.msvc_full_grammar.specs.Forms.{free_function, function_of, of_pointer, of_member_pointer, of_value, named}
use Rattle.msvc_full_grammar.specs.Forms.{pointer_with, reference_by, volatile_reference, arrayed, function_with}
use Rattle.msvc_full_grammar.specs.Forms.{the_same, qualified}
use Rattle.msvc_full_grammar.specs.Forms.{type_by_row, extended, empty_pack, alias, typed, argument_value}
use Rattle.msvc_full_grammar.specs.Rows.{Field, a_number, a_count, a_type_name, a_source_name, a_symbol, a_text}
use Rattle.msvc_full_grammar.specs.Rows.{fields_of_type, fields_of_name, Held, nothing_held, with_number, with_name}
use Rattle.msvc_full_grammar.specs.Rows.{TypeRow, NameRow, integer, custom, nullptr, extern_c}
use Rattle.msvc_full_grammar.specs.Rows.{frame, literal_operator}
use Rattle.msvc_full_grammar.specs.Grammar.{grammar, full_grammar}
use Rattle.msvc_full_grammar.specs.Fragments.{fields_rule, of_c}
use Rattle.msvc_full_grammar.specs.Letters.{type_texts, argument_texts, encoding_texts, operator_texts, variable_texts}
use Rattle.msvc_full_grammar.specs.Letters.{symbol_texts, function_texts, value_texts, code_texts, funclet_texts}
use Rattle.msvc_full_grammar.specs.Letters.{member_texts}
use Rattle.msvc_full_grammar.specs.Productions.{Production, template_symbol, named_symbol, encoding, other_encoding}
use Rattle.msvc_full_grammar.specs.Productions.{encoding_after, variable, variable_end, operator_name, operator_after}
use Rattle.msvc_full_grammar.specs.Productions.{class_symbol, template_name, anonymous_kept, function_type}
use Rattle.msvc_full_grammar.specs.Productions.{own_qualifiers, type_, type_after, positive}
use Rattle.msvc_full_grammar.specs.Productions.{lengths, argument, argument_after, name_row, type_row}
use Rattle.msvc_full_grammar.specs.Productions.{marked_symbol, operator_symbol}
use Rattle.msvc_full_grammar.specs.Productions.{numbers, unsigned, whole_hash, symbol_after, string_of, offsets_of}
use Rattle.msvc_full_grammar.specs.Productions.{guard_name, template_value, value_after, whole_text}
use Rattle.msvc_full_grammar.specs.Productions.{named_type}
use Rattle.msvc_full_grammar.specs.Productions.{funclet, funclet_or_symbol, funclet_function, stub_name, function_code}
use Rattle.msvc_full_grammar.specs.Productions.{stubbed_template, stubbed_name, variable_or_none, stubbed_variable}
use Rattle.msvc_full_grammar.specs.Productions.{funclet_home, member, no_variable, one_listed}
use Rattle.msvc_rules.proofs.NamesInText.{Each, Gives, gives_texts, ascii, each-last, Named}
use Rattle.msvc_rules.proofs.FirstSets.{if_both}

module _ (P : List ℕ → Type 0) (none : P []) where
  in-names : (ns : List NameTree) → Each (λ n. EachNameOfName P n) ns → EachNameOfNames P (name_trees ns)
  in-names [] h = tt
  in-names (n ∷ ns) h = (h.0, in-names ns h.1)

  in-types : (ts : List TypeTree) → Each (λ t. EachNameOfType P t) ts → EachNameOfTypes P (type_trees ts)
  in-types [] h = tt
  in-types (t ∷ ts) h = (h.0, in-types ts h.1)

  each-reversed : (ns : List NameTree) → Each (λ n. EachNameOfName P n) ns → Each (λ n. EachNameOfName P n) (reverse ns)
  each-reversed [] h = tt
  each-reversed (n ∷ ns) h =
      subst (λ ms. Each (λ m. EachNameOfName P m) ms) (sym (reverse-append (n ∷ []) ns))
      (each-last P (λ m. EachNameOfName P m) (reverse ns) n (each-reversed ns h.1) h.0)

  -- the names of what fields hold
  abbrev InHeld : Held → Type 0
  InHeld h = Each (λ n. EachNameOfName P n) h.names × Each (λ t. EachNameOfType P t) h.types

  -- the texts between fields are ASCII
  abbrev field_ascii : Field → Bool
  field_ascii (a_text text) = every ascii text
  field_ascii _ = true

  with_last : (h : Held) (n : NameTree) → InHeld h → EachNameOfName P n → InHeld (with_name h n)
  with_last h n g k = (each-last P (λ m. EachNameOfName P m) h.names n g.0 k, g.1)

  gives_fields : (fields : List Field) (h : Held) {a : Sort} (f : Held → Rule Production a)
      → every field_ascii fields ≡ true
      → ((held : Held) → InHeld held → Gives full_grammar P (f held)) → InHeld h
      → Gives full_grammar P (fields_rule fields h f)
  unfolding Gives
  gives_fields [] h f low go g = go h g
  gives_fields (a_number ∷ fields) h f low go g = (tt, λ n _. gives_fields fields (with_number h n) f low go g)
  gives_fields (a_count ∷ fields) h f low go g =
      (tt, λ n _. gives_fields fields (with_number h (record { is_negative = false; value = n })) f low go g)
  gives_fields (a_type_name ∷ fields) h f low go g =
      (tt, λ n k. gives_fields fields (with_name h n) f low go (with_last h n g k))
  gives_fields (a_source_name ∷ fields) h f low go g =
      (search depth 60, λ n k. gives_fields fields (with_name h n) f low go (with_last h n g k))
  gives_fields (a_symbol ∷ fields) h f low go g =
      (search depth 60, λ n k. gives_fields fields (with_name h n) f low go (with_last h n g k))
  gives_fields (a_text text ∷ fields) h f low go g =
      let parts : (every ascii text ≡ true) × (every field_ascii fields ≡ true) = if_both _ _ low in
      (parts.0, λ _ _. gives_fields fields h f parts.1 go g)

  names_ascii : (r : NameRow) → every field_ascii (fields_of_name r) ≡ true
  names_ascii frame = refl
  names_ascii literal_operator = refl

  types_ascii : (r : TypeRow) → every field_ascii (fields_of_type r) ≡ true
  types_ascii integer = refl
  types_ascii custom = refl
  types_ascii nullptr = refl
  types_ascii extern_c = refl

  pub gives : {a : Sort} (n : Production a) → Gives full_grammar P (grammar n)
  unfolding Gives grammar
  gives whole_text = (
    (refl, λ _ _. tt),
    (
      gives_texts full_grammar P funclet_texts (λ row. call (funclet row)) refl (λ row. tt),
      ((refl, λ _ _. tt), tt),
    ),
  )
  gives named_type = search depth 60
  gives (funclet row) = (search, λ label h. ((h, tt, tt), λ n k. (tt, λ x m. (k, (m.0, tt), m.1))))
  gives funclet_home = (
    (
      refl,
      λ _ _. ((tt, λ n h. (tt, λ ns k. (tt, λ t m. (h, in-names ns k, m)))), λ x h. (tt, λ t k. (h, k))),
    ),
    search depth 60,
  )
  gives funclet_or_symbol =
      (gives_texts full_grammar P funclet_texts (λ row. call (funclet row)) refl (λ row. tt), tt)
  gives funclet_function = search depth 60
  gives (stub_name stub) = search depth 60
  gives (stubbed_template required) = (
    tt,
    λ n h. (
      tt,
      λ ns k. (
        search in-names depth 60,
        (tt, λ t m. (h, in-names ns k, m)),
      ),
    ),
  )
  gives (stubbed_name required) = (tt, λ n h. (tt, λ ns k. (tt, λ t m. (h, in-names ns k, m))))
  gives (variable_or_none required) = (
    gives_texts full_grammar P variable_texts (λ k. call (stubbed_variable required k)) refl (λ k. tt),
    tt,
  )
  gives (stubbed_variable true k) = search depth 60
  gives (stubbed_variable false k) = search depth 60
  gives (no_variable true) = search depth 60
  gives (no_variable false) = search depth 60
  gives (symbol_after (stub_of stub)) = search depth 60
  gives (symbol_after template_object) = search depth 60
  gives function_code = gives_texts full_grammar P code_texts (λ f. call (encoding_after f)) refl (λ f. tt)
  gives marked_symbol = (gives_texts full_grammar P symbol_texts (λ f. call (symbol_after f)) refl (λ f. tt), tt)
  gives operator_symbol = (tt, λ n h. (tt, λ ns k. (tt, λ t m. (h, in-names ns k, m))))
  gives whole_hash = search depth 60
  gives (symbol_after hashed) = search depth 60
  gives (symbol_after string) = search depth 60
  gives (symbol_after descriptor) = search depth 60
  gives (symbol_after (guard_of kind)) = (tt, λ ns k. (tt, λ n h. (tt, λ t m. (h, in-names ns k, m))))
  gives (string_of width length None) = search depth 60
  gives (string_of width length (Some bytes)) = (none, tt, tt)
  gives (guard_name kind) = search depth 60
  gives (numbers zero) = search depth 60
  gives (numbers (suc n)) = search depth 60
  gives (unsigned (pos n)) = search depth 60
  gives (unsigned (negsuc n)) = search depth 60
  gives template_symbol = (
    tt,
    λ n h. (
      tt,
      λ ns k. (
        search in-names depth 60,
        (tt, λ t m. (h, in-names ns k, m)),
      ),
    ),
  )
  gives named_symbol = (tt, λ n h. (tt, λ ns k. (tt, λ t m. (h, in-names ns k, m))))
  gives encoding = (gives_texts full_grammar P variable_texts (λ k. call (variable k)) refl (λ k. tt), tt)
  gives other_encoding =
      (tt, gives_texts full_grammar P encoding_texts (λ e. call (encoding_after e)) refl (λ e. tt))
  gives (encoding_after (encoding_by_row r)) = tt
  gives (encoding_after free_function) = tt
  gives (encoding_after (function_of class)) = (tt, λ f h. (in-types f.1.1.1 h.1.1.1, h.1.1.0))
  gives (encoding_after (thunk_of moved class)) = (tt, λ zs _. (tt, λ f h. (none, tt, (h, tt))))
  gives (encoding_after c_function) =
      gives_texts full_grammar P function_texts (λ f. call (encoding_after (of_c f))) refl (λ f. tt)
  gives (encoding_after managed_function) =
      gives_texts full_grammar P function_texts (λ f. call (encoding_after f)) refl (λ f. tt)
  gives (encoding_after displaced) = search depth 60
  gives (encoding_after table_of_class) = search in-names depth 60
  gives (encoding_after type_information) = search depth 60
  gives (encoding_after virtual_call) = search depth 60
  gives (offsets_of adjustor) = search depth 60
  gives (offsets_of vtordisp) = search depth 60
  gives (offsets_of vtordispex) = search depth 60
  gives (variable_end of_pointer) = search depth 60
  gives (variable_end of_member_pointer) = search depth 60
  gives (variable_end of_value) = search depth 60
  gives operator_name = gives_texts full_grammar P operator_texts (λ o. call (operator_after o)) refl (λ o. tt)
  gives (operator_after (plain_operator o)) = tt
  gives (operator_after (operator_word row)) = (none, tt, tt)
  gives (operator_after (operator_by_row r)) = tt
  gives (operator_after base_class) = search depth 60
  gives (name_row r) =
      gives_fields (fields_of_name r) nothing_held _ (names_ascii r)
      (λ h g. (none, in-names h.names g.0, in-types h.types g.1)) (tt, tt)
  gives class_symbol = (tt, λ s h. (tt, λ t m. (h.0, in-names s.1 h.1, m)))
  gives template_name = (tt, λ n h. (tt, λ ts k. (h, in-types ts k)))
  gives (anonymous_kept true ds) = tt
  gives (anonymous_kept false ds) = tt
  gives (function_type own) = (tt, λ f h. (in-types f.1.1.1 h.1.1.1, h.1.1.0))
  gives (own_qualifiers absent) = search depth 60
  gives (own_qualifiers present) = search depth 60
  gives (type_ q) =
      (gives_texts full_grammar P type_texts (λ f. call (type_after q f)) refl (λ f. tt), search depth 60)
  gives (type_after q (named tag)) = (tt, λ s h. (h.0, in-names s.1 h.1))
  gives (type_after q (pointer_with more)) = tt
  gives (type_after q (reference_by mark)) = tt
  gives (type_after q volatile_reference) = tt
  gives (type_after q arrayed) = tt
  gives (type_after q (function_with own)) = tt
  gives (type_after q the_same) = tt
  gives (type_after q qualified) = search depth 60
  gives (type_after q (type_by_row r)) = tt
  gives (type_row q r) =
      gives_fields (fields_of_type r) nothing_held _ (types_ascii r)
      (λ h g. (none, in-names h.names g.0, in-types h.types g.1)) (tt, tt)
  gives (type_after q extended) = search depth 60
  gives (positive zero) = search depth 60
  gives (positive (suc n)) = search depth 60
  gives (lengths zero) = search depth 60
  gives (lengths (suc n)) = search depth 60
  gives argument = (gives_texts full_grammar P argument_texts (λ f. call (argument_after f)) refl (λ f. tt), tt)
  gives (argument_after empty_pack) = search depth 60
  gives (argument_after alias) = (tt, λ s h. (h.0, in-names s.1 h.1))
  gives (argument_after typed) = (tt, λ t h. (tt, λ v k. (none, tt, (k, (h, tt)))))
  gives (argument_after (argument_value v)) = tt
  gives template_value = gives_texts full_grammar P value_texts (λ v. call (value_after v)) refl (λ v. tt)
  gives (value_after (value_by_row r)) = tt
  gives (value_after (of_symbol row)) = search depth 60
  gives (value_after (offsets n)) = search depth 60
  gives (value_after (bits_of row)) = search depth 60
  gives (value_after (value_word row)) = search depth 60
  gives (value_after aggregate) =
      (tt, λ t h. ((tt, λ ts k. (none, tt, in-types ts k)), λ v k. (none, tt, (h, (k, tt)))))
  gives (value_after elements) =
      (tt, λ t h. ((tt, λ ts k. (none, tt, in-types ts k)), λ v k. (none, tt, (k, (h, tt)))))
  gives (value_after subobject) = search depth 60
  gives (value_after member_form) = search depth 60
  gives (value_after element) = search depth 60
  gives (value_after union_value) = search depth 60
  gives (value_after member_of) = (
    tt,
    λ ns h. (
      tt,
      λ n k. (
        refl,
        λ _ _. (
          none,
          in-names (reverse ns ++ n ∷ []) (each-last P (λ m. EachNameOfName P m) (reverse ns) n (each-reversed ns h) k),
          tt,
        ),
      ),
    ),
  )
  gives (one_listed an_argument) = tt
  gives (one_listed a_member) = tt
  gives (one_listed an_element) = search depth 60
  gives member = (
    gives_texts full_grammar P member_texts (λ v. call (value_after v)) refl (λ v. tt),
    (tt, λ t h. (tt, λ v k. (none, tt, (k, (h, tt))))),
  )
  gives (value_after (member_offsets n)) = search depth 60
  gives _ = search depth 60

pub full_named : Named full_grammar
full_named = record { gives = λ P none n. gives P none n }
