-- Each fact about the trees of symbols is computed.
use Rattle.std.proofs.Common.{refl}
use Rattle.msvc_facts.proofs.OnLiterals.{reading}
use Rattle.msvc_facts.proofs.Symbols.{is_counted, is_refused, is_tree}
use Rattle.msvc_facts.specs.Trees.{AreCounted, AreRefused, AreTrees}

pub trees : AreTrees
unfolding reading
trees = record {
  pointer = is_tree refl;
  parameters = is_tree refl;
  again = is_tree refl;
  arrays = is_tree refl;
  thunk = is_tree refl;
  descriptor = is_tree refl;
  no_index = is_tree refl;
  guard = is_tree refl;
  numbered_guard = is_tree refl;
  last_guard = is_tree refl;
  hash = is_tree refl;
  member_pointer = is_tree refl;
  string = is_tree refl;
  long_string = is_tree refl;
  wide_string = is_tree refl;
  no_string = is_tree refl;
  bytes = is_tree refl;
  template = is_tree refl;
}

pub counts : AreCounted
unfolding reading
counts = record {
  no_type = is_counted refl;
  pointer = is_counted refl;
  arrays = is_counted refl;
  digit = is_counted refl;
  written_out = is_counted refl;
  numbered_guard = is_counted refl;
  hash = is_counted refl;
}

pub refusals : AreRefused
unfolding reading
refusals = record {
  no_question_mark = is_refused refl;
  no_at_sign = is_refused refl;
  no_type = is_refused refl;
  no_name = is_refused refl;
  no_parameter = is_refused refl;
  no_dimension = is_refused refl;
  enumeration = is_refused refl;
  marker = is_refused refl;
  convention = is_refused refl;
  far_array = is_refused refl;
  no_end = is_refused refl;
  operator = is_refused refl;
  escape = is_refused refl;
  negative_guard = is_refused refl;
  large_guard = is_refused refl;
  short_hash = is_refused refl;
}
