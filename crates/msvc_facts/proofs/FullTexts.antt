-- The declarations in Full's style, computed.
use Rattle.std.specs.Prelude.{⊤}
use Rattle.std.proofs.Common.{refl}
use Rattle.std.specs.Fmt.{digits}
use Rattle.msvc_print.specs.Declaration.{arguments, conversion, declaration, full_conversion, grown, is_empty_pack}
use Rattle.msvc_print.specs.Declaration.{is_none, name_pieces, parameters, quoted_unless, returned_end, scope_pieces}
use Rattle.msvc_print.specs.Declaration.{table_end}
use Rattle.msvc_print.specs.Functions.{access_words, calling, convention_pieces, each_function_qualifier, extern_words}
use Rattle.msvc_print.specs.Functions.{full_calling, full_function_qualifiers, full_reference_words, full_this_words}
use Rattle.msvc_print.specs.Functions.{full_wide_word, function_qualifiers, kind_words, member_start, member_words}
use Rattle.msvc_print.specs.Functions.{separator, wide_qualifier}
use Rattle.msvc_print.specs.Operators.{base_class_pieces, full_operator_word, guard_number, guard_pieces, name_kind}
use Rattle.msvc_print.specs.NamePlaces.{before_name, up_to_name}
use Rattle.msvc_print.specs.Operators.{operator_pieces, operator_word, scoped, template_kind}
use Rattle.msvc_print.specs.Pieces.{settle_all}
use Rattle.msvc_print.specs.Pointed.{opens, some_opening, unaligned_shape}
use Rattle.msvc_print.specs.Sides.{kept_left, kept_right}
use Rattle.msvc_print.specs.Words.{angle_end, base_word, closing, full_marked, full_qualifiers, mark_qualifiers}
use Rattle.msvc_print.specs.Words.{marked, opening, qualifiers, table_qualifiers}
use Rattle.msvc_print.specs.Declaration.{each_name, each_type, grown_around}
use Rattle.msvc_print.specs.Shapes.{laid, slot_pieces}
use Rattle.msvc_print.specs.Strings.{character, character_at, escape, hex, literal, narrow_width}
use Rattle.msvc_shapes.specs.Layouts.{layout_of, slots}
use Rattle.msvc_facts.specs.FullTexts.{AreFullTexts}

unfoldable full_printing : ⊤
unfolding access_words angle_end arguments base_class_pieces base_word calling closing conversion convention_pieces declaration digits each_function_qualifier extern_words full_calling full_conversion full_function_qualifiers full_marked full_operator_word full_qualifiers full_reference_words full_this_words full_wide_word function_qualifiers grown guard_number guard_pieces is_empty_pack is_none kept_left kept_right kind_words mark_qualifiers marked member_start member_words name_kind name_pieces opening operator_pieces operator_word parameters qualifiers quoted_unless returned_end scope_pieces scoped separator settle_all table_end template_kind wide_qualifier each_name each_type grown_around laid layout_of
    slot_pieces slots opens some_opening unaligned_shape table_qualifiers literal narrow_width character
    character_at escape hex before_name up_to_name
full_printing = tt

pub full-texts : AreFullTexts
unfolding full_printing
full-texts =
    record {
      pointer_to_pointer = refl;
      spaced_pointers = refl;
      hugged_pointers = refl;
      restrict_apart = refl;
      restrict = refl;
      unaligned = refl;
      pointer_to_swift = refl;
      swift = refl;
      no_convention = refl;
      pointer_without_convention = refl;
      noexcept_stays = refl;
      llvm_no_convention = refl;
      pointer_keeps_its_convention = refl;
      llvm_no_return = refl;
      local_name_keeps_its_function = refl;
      llvm_no_access = refl;
      llvm_no_member = refl;
      llvm_no_variable = refl;
      const_before_reference = refl;
      unaligned_last = refl;
      wide = refl;
      pointer_to_noexcept = refl;
      extern_c_function = refl;
      function_argument = refl;
      argument_without_convention = refl;
      qualified_function_argument = refl;
      templates_close_alone = refl;
      variable_qualifiers = refl;
      digit_before_space = refl;
      const_pointer = refl;
      constructor_template = refl;
      destructor_without_class = refl;
      conversion_template = refl;
      conversion_operator = refl;
      conversion_to_nothing = refl;
      member_operator = refl;
      free_operator = refl;
      co_await = refl;
      base_table = refl;
      returned_pointers = refl;
      no_words = refl;
      member_pointer = refl;
      array_levels = refl;
      pointer_to_array = refl;
      number = refl;
      minus_nothing = refl;
      placeholder = refl;
      null_pointer = refl;
      extern_c = refl;
      extern_c_dropped = refl;
      frame = refl;
      operators_of_shapes = refl;
      adjustor = refl;
      conversion_of_thunk = refl;
      vtordispex = refl;
      table_of_none = refl;
      table_of_two = refl;
      address = refl;
      object = refl;
      offsets = refl;
      symbol_offsets = refl;
      typed_value = refl;
      type_descriptor = refl;
      locator_hash = refl;
      guard = refl;
      first_guard = refl;
      string = refl;
      member_pointer_unaligned = refl;
      unaligned_to_array = refl;
      unaligned_to_function = refl;
      place_in_a_function = refl;
      place_in_a_pointer = refl;
      place_of_a_name_alone = refl;
      unaligned_member_to_array = refl;
      descriptor_name = refl;
      displacement = refl;
      auto = refl;
      decltype_auto = refl;
      handle = refl;
      unaligned_handle = refl;
      handle_to_array = refl;
      block = refl;
      tracking_reference = refl;
      interface = refl;
      null_member = refl;
      absent = refl;
      member_of = refl;
      member_of_none = refl;
      explicit_this = refl;
      bits = refl;
      bits_of_nothing = refl;
      all_bits = refl;
      pin = refl;
      vector = refl;
      matrix = refl;
      template_object = refl;
      subobject = refl;
      aggregate = refl;
      spaced_aggregate = refl;
      empty_aggregate = refl;
      empty_union = refl;
      union_value = refl;
    }
