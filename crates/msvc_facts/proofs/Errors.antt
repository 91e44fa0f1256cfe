-- Each fact about errors is computed.
use Rattle.std.proofs.Common.{ap, refl, Some}
use Rattle.std.specs.Fmt.{debug_escape, digits}
use Rattle.std.specs.Str.{chars}
use Rattle.std.specs.Str.Lossy.{utf8_valid_len}
use lib.Utf8.{encode}
use Rattle.bstr.specs.Utf8.{pieces_from}
use Rattle.msvc_facts.specs.Errors.{AreErrors}

pub errors : AreErrors
unfolding chars debug_escape digits encode pieces_from utf8_valid_len
errors = record {
  short = refl;
  twenty_bytes = refl;
  one_more = refl;
  more_bytes = refl;
  from_the_offset = refl;
  at_the_end = refl;
  character = refl;
  no_character = refl;
  whole_character = refl;
  cut_character = refl;
  rejection = λ m c message context. rw (message, context) refl;
  escapes = λ m c message context. rw (message, context) refl;
  not_ascii = λ m c context. rw context refl;
  other = λ m message. ap Some message;
  memory = refl;
  nodes = λ m c message. rw message refl;
  bytes = λ m c message. rw message refl;
  no_limit = λ m c message. rw message refl;
  no_message = λ m c message. rw message refl;
  no_limit_of_memory = refl;
  offset = λ m c. refl;
  no_offset = refl;
  promised = λ m c o e. e;
  promised_memory = tt;
  no_other = λ m e. e;
  message = λ m e. e;
  message_memory = tt;
  no_rejection = λ m c o e. e;
}
