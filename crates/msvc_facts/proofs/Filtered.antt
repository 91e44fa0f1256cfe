-- Each fact about filtered texts is computed.
use Rattle.std.proofs.Common.{refl}
use Rattle.msvc_demangler.specs.Filtered.{fitting}
use Rattle.msvc_facts.proofs.Filtering.{are_parts, is_made}
use Rattle.msvc_facts.proofs.OnLiterals.{filtering}
use Rattle.msvc_facts.specs.Filtered.{AreCandidates, AreFiltered, AreFitting}

pub candidates : AreCandidates
unfolding filtering
candidates = record {
  all = refl;
  space = refl;
  control = refl;
  delete = refl;
  signs = refl;
  not_ascii = refl;
  not_utf8 = refl;
  cut_character = refl;
  surrogate = refl;
  longest = refl;
  longest_character = refl;
}

pub filtered : AreFiltered
unfolding filtering
filtered = record {
  empty = is_made refl;
  in_text = is_made refl;
  ends_of_lines = is_made refl;
  no_symbol = is_made refl;
  after_a_letter = is_made refl;
  after_others = is_made refl;
  second = is_made refl;
  goes_on = is_made refl;
  ends = is_made refl;
  class_left = is_made refl;
  at_sign_left = is_made refl;
  after_a_symbol = is_made refl;
  after_an_at_sign = is_made refl;
  space = is_made refl;
  not_ascii = is_made refl;
  not_utf8 = is_made refl;
  before_no_utf8 = is_made refl;
  nodes = refl;
  too_many = is_made refl;
  bytes = refl;
  only_parts = are_parts refl;
}

pub fitted : AreFitting
unfolding filtering fitting
fitted = record {
  all = refl;
  no_byte = refl;
  cut = refl;
  nothing = refl;
  empty = refl;
  whole_character = refl;
  half_kept = refl;
}
