-- Each fact about lines, their text, arguments and words is computed.
use Rattle.std.proofs.Common.{refl}
use Rattle.msvc_demangler.specs.Lines.{pieces}
use Rattle.msvc_facts.proofs.Answering.{is_answered, text_of}
use Rattle.msvc_facts.proofs.OnLiterals.{filtering}
use Rattle.msvc_facts.specs.Texts.{AreAnswered, AreArguments, AreLines, AreWords, AreWordsInFull}

pub lines : AreLines
unfolding pieces
lines = record {
  none = refl;
  empty = refl;
  last = refl;
  no_other = refl;
  returns = refl;
  last_return = refl;
}

pub answers : AreAnswered
unfolding filtering pieces text_of
answers = record {
  none = is_answered refl;
  symbol = is_answered refl;
  no_symbol = is_answered refl;
  not_at_the_start = is_answered refl;
  not_at_the_end = is_answered refl;
  last = is_answered refl;
  returns = is_answered refl;
  flags = is_answered refl;
  not_utf8 = is_answered refl;
  not_ascii = is_answered refl;
}

pub arguments : AreArguments
arguments = record {
  none = refl;
  option = refl;
  after_the_option = refl;
  second = refl;
  twice = refl;
  longer = refl;
  empty = refl;
}

pub words : AreWords
words = record {
  at_the_start = refl;
  after_a_space = refl;
  after_an_underscore = refl;
  after_a_dollar = refl;
  after_an_at_sign = refl;
  after_a_letter = refl;
  after_a_digit = refl;
  after_a_full_stop = refl;
  second = refl;
  of_another_word = refl;
  visible = refl;
  longest = refl;
  class_left = refl;
  at_sign_left = refl;
  small_letter_left = refl;
  two_left = refl;
  goes_on = refl;
  goes_on_with_an_at_sign = refl;
  ends_at_a_dollar = refl;
  ends_at_a_question_mark = refl;
}

pub words_in_full : AreWordsInFull
unfolding filtering
words_in_full = record {
  at_the_start = refl;
  after_a_dollar = refl;
  after_a_letter = refl;
  second = refl;
  type_name = refl;
  type_name_after_a_space = refl;
  type_name_after_a_full_stop = refl;
  type_name_after_a_letter = refl;
  type_name_after_a_digit = refl;
  type_name_after_an_underscore = refl;
  type_name_after_an_at_sign = refl;
  type_name_in_the_other_grammar = refl;
  type_name_with_a_digit = refl;
  type_name_with_an_underscore = refl;
  ending_of_a_file = refl;
  ending_before_a_comma = refl;
  inside_a_type_name = refl;
  funclet = refl;
  each_funclet = (refl, refl, refl, refl);
  no_funclet = refl;
  funclet_in_the_other_grammar = refl;
  class_left = refl;
  at_sign_left = refl;
}
