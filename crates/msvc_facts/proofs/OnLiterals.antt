-- What a fact unfolds to compute what is read of a text, what is printed of a tree, and what is filtered or
-- answered.
use Rattle.std.specs.Prelude.{⊤}
use Rattle.std.specs.Fmt.{digits}
use Rattle.std.specs.Str.{chars, is_utf8}
use Rattle.std.specs.Str.Lossy.{utf8_valid_len}
use Rattle.msvc_rules.specs.Readers.{counting, part_here}
use Rattle.msvc_grammar.specs.Grammar.{arrays, grammar}
use lib.Utf8.{encode}
use Rattle.msvc_print.specs.Declaration.{conversion, declaration, grown, is_empty_pack, name_pieces, parameters}
use Rattle.msvc_print.specs.Declaration.{arguments, quoted_unless, returned_end, scope_pieces, table_end}
use Rattle.msvc_print.specs.Functions.{access_words, calling, convention_pieces, each_function_qualifier, extern_words}
use Rattle.msvc_print.specs.Functions.{function_qualifiers, kind_words, member_start, member_words, separator}
use Rattle.msvc_print.specs.Functions.{wide_qualifier}
use Rattle.msvc_print.specs.Operators.{base_class_pieces, guard_number, guard_pieces, name_kind, operator_pieces}
use Rattle.msvc_print.specs.Operators.{operator_word, scoped}
use Rattle.msvc_print.specs.Pieces.{settle_all}
use Rattle.msvc_print.specs.Sides.{kept_left, kept_right}
use Rattle.msvc_print.specs.Words.{angle_end, base_word, closing, marked, opening, qualifiers}
use Rattle.msvc_facts.proofs.Filtering.{parts_from}
use Rattle.msvc_facts.proofs.Reading.{reading_by, reading_name, reading_within}
use Rattle.msvc_facts.proofs.Same.{is_same_name, is_same_type}

unfoldable pub reading : ⊤
unfolding arrays counting grammar is_same_name is_same_type part_here reading_by reading_name reading_within
reading = tt

unfoldable pub printing : ⊤
unfolding access_words angle_end arguments base_class_pieces base_word calling closing conversion convention_pieces
    declaration digits
    each_function_qualifier extern_words function_qualifiers grown guard_number guard_pieces is_empty_pack kept_left
    kept_right
    kind_words marked member_start member_words name_kind name_pieces opening operator_pieces operator_word parameters
    qualifiers
    quoted_unless returned_end scope_pieces scoped separator settle_all table_end wide_qualifier
printing = tt

unfoldable pub filtering : ⊤
unfolding chars encode is_utf8 parts_from printing reading utf8_valid_len
filtering = tt
