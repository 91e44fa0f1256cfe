-- That each production of this crate counts the nodes of its value.
use Rattle.std.proofs.Common.{Option, ℕ, ℤ, zero, suc, pos, negsuc, List, [], ◌∷◌, true, false}
use Rattle.std.proofs.Common.{◌≡◌, ◌+◌, refl, arith}
use Rattle.msvc_nodes.specs.Trees.{NameTree, TypeTree, spelled, operator, guard, type_descriptor}
use Rattle.msvc_nodes.specs.Trees.{base_class_descriptor, template, discriminator, nested, anonymous, shaped}
use Rattle.msvc_rules.specs.Counts.{name_count, type_count}
use Rattle.msvc_rules.specs.Rules.{call}
use Rattle.msvc_rules.specs.Sorts.{Sort, based, extended, named, points, arrayed, indexed, referred, variable_of}
use Rattle.msvc_rules.specs.Sorts.{table_of, type_information, untyped, encoded_string, virtual_call, plain_function}
use Rattle.msvc_rules.specs.Sorts.{member_of}
use Rattle.msvc_grammar.specs.Grammar.{grammar, arrays, pointed_return_qualifiers, hashed_symbol, named_symbol}
use Rattle.msvc_grammar.specs.Grammar.{nested_symbol, new_interface, new_source_name, numbered_guard, template_inside}
use Rattle.msvc_grammar.specs.Grammar.{template_kept, template_symbol, with_index, crate_grammar}
use Rattle.msvc_grammar.specs.Letters.{conventions, digits, encoding_letters, extended_types, function_classes}
use Rattle.msvc_grammar.specs.Letters.{pointer_sizes, qualifiers, qualifiers_of_arrays, special_texts, storage_classes}
use Rattle.msvc_grammar.specs.Letters.{type_letters, type_texts, character_sizes}
use Rattle.msvc_grammar.specs.Productions.{Production, symbol_body, guard_index, unsigned, encoding, encoding_after}
use Rattle.msvc_grammar.specs.Productions.{characters, character, plain_type, function_parameters, parameters}
use Rattle.msvc_grammar.specs.Productions.{signature, thunk_number, this_qualifiers, returned, special_name}
use Rattle.msvc_grammar.specs.Productions.{special_after, required, qualified_name, scope, nested_name}
use Rattle.msvc_grammar.specs.Productions.{locally_scoped_name, anonymous_namespace, type_, type_after, array, positive}
use Rattle.msvc_grammar.specs.Productions.{lengths, template_name, unqualified_name, prefixed_type, function_type}
use Rattle.msvc_grammar.specs.Productions.{member_pointer, class_part}
use Rattle.msvc_rules.proofs.NodesCounted.{lengths_count, Makes, makes_optional, makes_texts, no_nodes, Counted}
use Rattle.msvc_grammar.specs.declared.forms.TypePrefix.TheVariants as form
use Rattle.msvc_grammar.specs.declared.forms.SpecialForm.TheVariants as special
use Rattle.msvc_grammar.specs.declared.forms.ObjectQualifiers.TheVariants as object_qualifiers
use Rattle.msvc_grammar.specs.declared.forms.FunctionKind.TheVariants as function_kind
use Rattle.msvc_grammar.specs.declared.forms.MemberPointerForm.TheVariants as pointer_form
use Rattle.msvc_grammar.specs.declared.forms.TemplateNames.{TemplateNames}
use Rattle.msvc_grammar.specs.declared.forms.TemplateNames.TheVariants as templates

module _ (w : ℕ) where
  in_arrays : (zs : List ℤ) (t : TypeTree) (q : ℕ) → type_count w (arrays zs t q) ≡ lengths_count w zs + type_count w t
  unfolding arrays
  in_arrays [] t q = omega arith
  in_arrays (z ∷ zs) t q = omega (arith, in_arrays zs t q)

  in_indexed : (index : Option ℕ) (n : NameTree) → name_count w (with_index index n) ≡ name_count w n
  in_indexed index (spelled how text) = refl
  in_indexed index (operator o) = refl
  in_indexed index (guard kind number) = refl
  in_indexed index (type_descriptor q t) = refl
  in_indexed index (base_class_descriptor a b c d) = refl
  in_indexed index (template n ts) = refl
  in_indexed index (discriminator z) = refl
  in_indexed index (nested n ns t) = refl
  in_indexed index (anonymous code) = refl
  in_indexed index (shaped row q zs bytes ns ts) = refl

  pub makes_source : Makes crate_grammar w 0 new_source_name
  unfolding Makes
  makes_source = ((refl, λ n. omega arith), λ n. (refl, λ _. omega arith))

  pub makes_interface : Makes crate_grammar w 0 new_interface
  unfolding Makes
  makes_interface = ((refl, λ n. (refl, λ _. omega arith)), λ n. (refl, λ _. omega arith))

  makes_kept : (kept : TemplateNames) → Makes crate_grammar w 0 (template_kept kept)
  unfolding Makes
  makes_kept templates.NotMemorized = refl
  makes_kept templates.Memorized = (refl, λ n. (refl, λ _. omega arith))

  pub makes_template : Makes crate_grammar w 0 template_inside
  unfolding Makes
  makes_template = (refl, λ n. (refl, λ ts. omega arith))

  makes_nested : Makes crate_grammar w 0 nested_symbol
  unfolding Makes
  makes_nested = (refl, λ s. omega arith)

  makes_hashed : Makes crate_grammar w 0 hashed_symbol
  unfolding Makes
  makes_hashed = (refl, λ n. (refl, λ _. omega arith))

  makes_guard : Makes crate_grammar w 0 numbered_guard
  unfolding Makes
  makes_guard = ((no_nodes digits, λ _. refl), λ _. (refl, λ n. (refl, λ ns. (refl, λ _. omega arith))))

  makes_symbol : Makes crate_grammar w 0 template_symbol
  unfolding Makes
  makes_symbol = (refl, λ n. omega arith)

  makes_named : Makes crate_grammar w 0 named_symbol
  unfolding Makes
  makes_named = (refl, λ n. (refl, λ index. (refl, λ t. omega (arith, in_indexed index n.0))))

  makes_returned : Makes crate_grammar w 0 pointed_return_qualifiers
  unfolding Makes
  makes_returned = ((refl, λ _. makes_optional crate_grammar w storage_classes), refl)

  pub makes : {a : Sort} (n : Production a) → Makes crate_grammar w 0 (grammar n)
  unfolding Makes grammar
  makes symbol_body =
      ((refl, λ _. makes_hashed), ((refl, λ _. makes_guard), ((refl, λ _. makes_symbol), makes_named)))
  makes (guard_index true) = search depth 60
  makes (guard_index false) = search depth 60
  makes (unsigned (pos n)) = search depth 60
  makes (unsigned (negsuc n)) = search depth 60
  makes encoding = (omega arith, (no_nodes encoding_letters, λ _. refl))
  makes (encoding_after (variable_of kind)) =
      (refl, λ t. (makes_optional crate_grammar w storage_classes, λ _. omega arith))
  makes (encoding_after (table_of kind)) = (makes_optional crate_grammar w qualifiers, λ _. (refl, λ ns. omega arith))
  makes (encoding_after type_information) = omega arith
  makes (encoding_after untyped) = omega arith
  makes (encoding_after encoded_string) =
      (no_nodes character_sizes, λ _. (refl, λ _. (refl, λ _. (refl, λ _. omega arith))))
  makes (encoding_after virtual_call) =
      (refl, λ _. (refl, λ _. (refl, λ _. (no_nodes conventions, λ _. omega arith))))
  makes (encoding_after plain_function) = (refl, λ f. omega arith)
  makes (encoding_after (member_of class)) = (refl, λ _. (refl, λ _. (refl, λ f. omega arith)))
  makes (characters zero) = search depth 60
  makes (characters (suc n)) = search depth 60
  makes character = search no_nodes depth 60
  makes (thunk_number true) = search depth 60
  makes (thunk_number false) = search depth 60
  makes (this_qualifiers object_qualifiers.Absent) = search depth 60
  makes (this_qualifiers object_qualifiers.Present) = search depth 60
  makes (signature kind) = (no_nodes conventions, λ _. (refl, λ _. (refl, λ t. (refl, λ ts. omega arith))))
  makes (returned function_kind.Member q) = ((refl, λ _. omega arith), refl)
  makes (returned function_kind.Free q) = search depth 60
  makes function_parameters =
      ((refl, λ _. (refl, λ _. omega arith)), (refl, λ ts. (refl, λ _. omega arith)))
  makes parameters =
      (refl, ((refl, λ _. refl), ((refl, λ _. omega arith), (refl, λ t. (refl, λ ts. omega arith)))))
  makes (type_ q) =
      (makes_texts crate_grammar w type_texts (λ f. call (prefixed_type q f)) (λ f. refl), ((refl, λ _. refl), refl))
  makes (plain_type q) = (no_nodes type_letters, λ _. refl)
  makes (type_after q (based b)) = omega arith
  makes (type_after q extended) = (no_nodes extended_types, λ _. omega arith)
  makes (type_after q (named tag)) = (refl, λ n. omega arith)
  makes (type_after q (points mark on_pointer)) = (refl, λ t. omega arith)
  makes (type_after q arrayed) = refl
  makes (type_after q indexed) = (refl, λ _. omega arith)
  makes (type_after q (referred i)) = refl
  makes (prefixed_type q form.Enumeration) = (refl, λ n. omega arith)
  makes (prefixed_type q form.ReferenceToFunction) = (refl, λ t. omega arith)
  makes (prefixed_type q form.PointerToFunction) = (refl, λ t. omega arith)
  makes (prefixed_type q form.QualifiedMemberPointer) = refl
  makes (prefixed_type q form.Constant) = (refl, λ _. omega arith)
  makes (prefixed_type q form.TemplateParameter) = (refl, λ _. omega arith)
  makes (prefixed_type q form.Array) = refl
  makes (prefixed_type q form.RValueReference) = (refl, λ t. omega arith)
  makes (prefixed_type q form.EmptyPack) = omega arith
  makes (prefixed_type q form.Nullptr) = omega arith
  makes (prefixed_type q form.Function) = refl
  makes (prefixed_type q form.QualifiedFunction) = refl
  makes (prefixed_type q form.Alias) = (refl, λ n. omega arith)
  makes (prefixed_type q form.CvQualified) = (makes_optional crate_grammar w qualifiers, λ _. refl)
  makes (prefixed_type q form.MemberPointer) = (refl, λ _. refl)
  makes (function_type object) =
      (refl, λ _. (no_nodes conventions, λ _. (makes_returned, λ _. (refl, λ t. (refl, λ ts. omega arith)))))
  makes (member_pointer which) =
      (refl, λ n. (makes_optional crate_grammar w pointer_sizes, λ _. (refl, λ _. (refl, λ f. omega arith))))
  makes (class_part pointer_form.Qualified) = (makes_optional crate_grammar w qualifiers, λ _. refl)
  makes (class_part pointer_form.OfClass) = (no_nodes function_classes, λ _. (refl, λ _. refl))
  makes array = (
    refl,
    λ _. (
      refl,
      λ zs. (
        (refl, λ _. (no_nodes qualifiers_of_arrays, λ q. (refl, λ t. omega (arith, in_arrays zs t q)))),
        (refl, λ t. omega (arith, in_arrays zs t 0)),
      ),
    ),
  )
  makes (positive (pos zero)) = search depth 60
  makes (positive (pos (suc n))) = search depth 60
  makes (positive (negsuc n)) = search depth 60
  makes (lengths zero) = refl
  makes (lengths (suc n)) = (refl, λ _. (refl, λ zs. omega arith))
  makes (qualified_name kept) = (refl, λ n. (refl, λ ns. omega arith))
  makes (unqualified_name kept) =
      ((no_nodes digits, λ _. refl), ((refl, λ _. makes_kept kept), ((refl, λ _. refl), makes_source)))
  makes special_name = makes_texts crate_grammar w special_texts (λ f. call (special_after f)) (λ f. refl)
  makes (special_after (special.Plain o)) = omega arith
  makes (special_after (special.Guard kind)) = omega arith
  makes (special_after special.TypeDescriptor) =
      (refl, λ _. (makes_optional crate_grammar w storage_classes, λ _. (refl, λ t. omega arith)))
  makes (special_after special.BaseClass) = (refl, λ _. (refl, λ _. (refl, λ _. (refl, λ _. omega arith))))
  makes template_name = makes_template
  makes scope = ((refl, λ _. refl), (refl, λ n. (refl, λ ns. omega arith)))
  makes nested_name = ((no_nodes digits, λ _. refl), ((refl, λ _. refl), makes_source))
  makes locally_scoped_name = (
    (refl, λ _. makes_nested),
    (
      (refl, λ _. (refl, λ n. (refl, λ _. omega arith))),
      ((refl, λ _. refl), ((refl, λ _. makes_interface), (refl, λ _. omega arith))),
    ),
  )
  makes anonymous_namespace = (
    (refl, λ _. ((refl, λ _. omega arith), λ n. (refl, λ _. omega arith))),
    (refl, λ _. omega arith),
  )
  makes (required true) = search depth 60
  makes (required false) = search depth 60
  makes _ = search depth 60

pub crate_counted : Counted crate_grammar
crate_counted = record { makes = λ w n. makes w n }
