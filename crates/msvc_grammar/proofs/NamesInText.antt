-- That each production of this crate gives the names that it was given.
use Rattle.std.proofs.Common.{Option, ℕ, ℤ, zero, suc, pos, negsuc, List, [], ◌∷◌}
use Rattle.std.proofs.Common.{true}
use Rattle.std.proofs.Common.{false, refl}
use Rattle.msvc_nodes.specs.EachName.{EachNameOfName, EachNameOfNames, EachNameOfType, EachNameOfTypes}
use Rattle.msvc_nodes.specs.Trees.{NameTree, TypeTree, spelled, operator, guard, type_descriptor}
use Rattle.msvc_nodes.specs.Trees.{base_class_descriptor, template, discriminator, nested, anonymous, name_trees}
use Rattle.msvc_nodes.specs.Trees.{type_trees, shaped}
use Rattle.msvc_rules.specs.Rules.{call}
use Rattle.msvc_rules.specs.Sorts.{Sort, bits, based, extended, named, points, arrayed, indexed, referred, variable_of}
use Rattle.msvc_rules.specs.Sorts.{table_of, type_information, untyped, encoded_string, virtual_call, plain_function}
use Rattle.msvc_rules.specs.Sorts.{member_of}
use Rattle.msvc_grammar.specs.Grammar.{grammar, arrays, escaped_character, hashed_symbol, named_symbol, numbered_guard}
use Rattle.msvc_grammar.specs.Grammar.{template_symbol, with_index, crate_grammar}
use Rattle.msvc_grammar.specs.Letters.{escaped_characters, plain_characters, special_texts}
use Rattle.msvc_grammar.specs.Productions.{Production, symbol_body, guard_index, unsigned, encoding_after, characters}
use Rattle.msvc_grammar.specs.Productions.{character, thunk_number, this_qualifiers, returned, special_name}
use Rattle.msvc_grammar.specs.Productions.{special_after, required, type_, type_after, array, positive, lengths}
use Rattle.msvc_grammar.specs.Productions.{template_name, unqualified_name, prefixed_type, function_type}
use Rattle.msvc_grammar.specs.Productions.{member_pointer, class_part}
use Rattle.msvc_rules.proofs.NamesInText.{Each, In, Gives, gives_texts, Named}
use Rattle.msvc_grammar.specs.declared.forms.TypePrefix.TheVariants as form
use Rattle.msvc_grammar.specs.declared.forms.SpecialForm.TheVariants as special
use Rattle.msvc_grammar.specs.declared.forms.ObjectQualifiers.TheVariants as object_qualifiers
use Rattle.msvc_grammar.specs.declared.forms.FunctionKind.TheVariants as function_kind
use Rattle.msvc_grammar.specs.declared.forms.MemberPointerForm.TheVariants as pointer_form
use Rattle.msvc_grammar.specs.declared.forms.TemplateNames.TheVariants as templates

module _ (P : List ℕ → Type 0) where
  in-arrays : (ns : List ℤ) (t : TypeTree) (q : ℕ) → EachNameOfType P t → EachNameOfType P (arrays ns t q)
  unfolding arrays
  in-arrays [] t q h = h
  in-arrays (n ∷ ns) t q h = in-arrays ns t q h

  in-names : (ns : List NameTree) → Each (λ n. EachNameOfName P n) ns → EachNameOfNames P (name_trees ns)
  in-names [] h = tt
  in-names (n ∷ ns) h = (h.0, in-names ns h.1)

  in-types : (ts : List TypeTree) → Each (λ t. EachNameOfType P t) ts → EachNameOfTypes P (type_trees ts)
  in-types [] h = tt
  in-types (t ∷ ts) h = (h.0, in-types ts h.1)

  in-indexed : (index : Option ℕ) (n : NameTree) → EachNameOfName P n → EachNameOfName P (with_index index n)
  in-indexed index (spelled how text) h = h
  in-indexed index (operator o) h = h
  in-indexed index (guard kind number) h = tt
  in-indexed index (type_descriptor q t) h = h
  in-indexed index (base_class_descriptor a b c d) h = h
  in-indexed index (template n ts) h = h
  in-indexed index (discriminator z) h = h
  in-indexed index (nested n ns t) h = h
  in-indexed index (anonymous digits) h = h
  in-indexed index (shaped row q zs bytes ns ts) h = h

  no-names : (table : List (ℕ × ℕ)) → Each (λ row. In P bits row.1) table
  no-names [] = tt
  no-names (row ∷ table) = (tt, no-names table)

  gives_escaped : Gives crate_grammar P escaped_character
  unfolding Gives
  gives_escaped = ((refl, λ _ _. search depth 60), (refl, no-names escaped_characters))

  gives_hashed : Gives crate_grammar P hashed_symbol
  unfolding Gives
  gives_hashed = (tt, λ n h. (tt, λ _ _. (h, tt, tt)))

  gives_guard : Gives crate_grammar P numbered_guard
  unfolding Gives
  gives_guard = (search depth 60, λ _ _. (tt, λ n h. (tt, λ ns k. (refl, λ _ _. (h, in-names ns k, tt)))))

  gives_template : Gives crate_grammar P template_symbol
  unfolding Gives
  gives_template = (tt, λ n h. (h, tt, tt))

  gives_named : Gives crate_grammar P named_symbol
  unfolding Gives
  gives_named =
      (tt, λ n h. (tt, λ index _. (tt, λ t k. (in-indexed index n.0 h.0, in-names n.1 h.1, k))))

  gives : {a : Sort} (n : Production a) → Gives crate_grammar P (grammar n)
  unfolding Gives grammar
  gives (guard_index true) = search depth 60
  gives (guard_index false) = search depth 60
  gives (unsigned (pos n)) = search depth 60
  gives (unsigned (negsuc n)) = search depth 60
  gives (encoding_after (variable_of kind)) = search depth 60
  gives (encoding_after (table_of kind)) = (search depth 60, λ q _. (tt, λ ns h. in-names ns h))
  gives (encoding_after type_information) = search depth 60
  gives (encoding_after untyped) = search depth 60
  gives (encoding_after encoded_string) = search depth 60
  gives (encoding_after virtual_call) = search depth 60
  gives (characters zero) = search depth 60
  gives (characters (suc n)) = search depth 60
  gives (encoding_after plain_function) = (tt, λ f h. (in-types f.1.1 h.1.1, h.1.0))
  gives (encoding_after (member_of class)) = (tt, λ _ _. (tt, λ on_this _. (tt, λ f h. (in-types f.1.1 h.1.1, h.1.0))))
  gives character = ((refl, λ _ _. gives_escaped), (refl, no-names plain_characters))
  gives (thunk_number true) = search depth 60
  gives (thunk_number false) = search depth 60
  gives (this_qualifiers object_qualifiers.Absent) = search depth 60
  gives (this_qualifiers object_qualifiers.Present) = search depth 60
  gives (returned function_kind.Member q) = search depth 60
  gives (returned function_kind.Free q) = search depth 60
  gives (type_after q (based b)) = search depth 60
  gives (type_after q extended) = search depth 60
  gives (type_after q (named tag)) = (tt, λ n h. (h.0, in-names n.1 h.1))
  gives (type_after q (points mark on_pointer)) = search depth 60
  gives (type_after q arrayed) = search depth 60
  gives (type_after q indexed) = search depth 60
  gives (type_after q (referred i)) = search depth 60
  gives (positive (pos zero)) = search depth 60
  gives (positive (pos (suc n))) = search depth 60
  gives (positive (negsuc n)) = search depth 60
  gives (lengths zero) = search depth 60
  gives (lengths (suc n)) = search depth 60
  gives symbol_body =
      ((refl, λ _ _. gives_hashed), ((refl, λ _ _. gives_guard), ((refl, λ _ _. gives_template), gives_named)))
  gives special_name = gives_texts crate_grammar P special_texts (λ f. call (special_after f)) refl (λ f. tt)
  gives (special_after (special.Plain o)) = search depth 60
  gives (special_after (special.Guard kind)) = search depth 60
  gives (special_after special.TypeDescriptor) = search depth 60
  gives (special_after special.BaseClass) = search depth 60
  gives (required true) = search depth 60
  gives (required false) = search depth 60
  gives (unqualified_name templates.NotMemorized) = search depth 60
  gives (unqualified_name templates.Memorized) = search depth 60
  gives template_name = (tt, λ n h. (tt, λ ts k. (h, in-types ts k)))
  gives (prefixed_type q form.Enumeration) = (tt, λ n h. (h.0, in-names n.1 h.1))
  gives (prefixed_type q form.ReferenceToFunction) = search depth 60
  gives (prefixed_type q form.PointerToFunction) = search depth 60
  gives (prefixed_type q form.QualifiedMemberPointer) = search depth 60
  gives (prefixed_type q form.Constant) = search depth 60
  gives (prefixed_type q form.TemplateParameter) = search depth 60
  gives (prefixed_type q form.Array) = search depth 60
  gives (prefixed_type q form.RValueReference) = search depth 60
  gives (prefixed_type q form.EmptyPack) = search depth 60
  gives (prefixed_type q form.Nullptr) = search depth 60
  gives (prefixed_type q form.Function) = search depth 60
  gives (prefixed_type q form.QualifiedFunction) = search depth 60
  gives (prefixed_type q form.Alias) = (tt, λ n h. (h.0, in-names n.1 h.1))
  gives (prefixed_type q form.CvQualified) = search depth 60
  gives (prefixed_type q form.MemberPointer) = search depth 60
  gives (function_type object) =
      (tt, λ _ _. (search, λ _ _. (search depth 60, λ _ _. (tt, λ t h. (tt, λ ts k. (in-types ts k, h))))))
  gives (member_pointer which) = (
    tt,
    λ n h. (
      search depth 60,
      λ _ _. (
        tt,
        λ _ _. (
          tt,
          λ f k. (h.0, in-names n.1 h.1, in-types f.1.1 k.1.1, k.1.0),
        ),
      ),
    ),
  )
  gives (class_part pointer_form.Qualified) = search depth 60
  gives (class_part pointer_form.OfClass) = search depth 60
  gives (type_ q) = search depth 200
  gives array = search in-arrays depth 60
  gives _ = search depth 60

pub crate_named : Named crate_grammar
crate_named = record { gives = λ P none n. gives P n }
