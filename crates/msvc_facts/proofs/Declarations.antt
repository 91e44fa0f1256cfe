-- Each fact about declarations is computed.
use Rattle.std.proofs.Common.{refl}
use Rattle.msvc_facts.proofs.OnLiterals.{printing, reading}
use Rattle.msvc_facts.proofs.Symbols.{is_shown}
use Rattle.msvc_facts.specs.Declarations.{AreDeclarations, AreFlags, AreNames, AreSpaces, AreTemplateArguments}
use Rattle.msvc_facts.specs.Declarations.{AreTypes}

pub spaces : AreSpaces
unfolding printing
spaces = record {
  after_pointer = refl;
  after_reference = refl;
  after_word = refl;
  unless_open = refl;
  after_angle = refl;
  at_the_start = refl;
  opens_at_the_start = refl;
  once = refl;
}

pub declarations : AreDeclarations
unfolding printing
declarations = record {
  register_call = refl;
  classless = refl;
}

pub names : AreNames
unfolding reading printing
names = record {
  digit = is_shown refl;
  empty = is_shown refl;
  template = is_shown refl;
  interface = is_shown refl;
  constructor = is_shown refl;
  without_a_class = is_shown refl;
  destructor = is_shown refl;
  conversion = is_shown refl;
  operator = is_shown refl;
  no_conversion = is_shown refl;
  literal = is_shown refl;
  await = is_shown refl;
  guard = is_shown refl;
  numbered_guard = is_shown refl;
  last_guard = is_shown refl;
  thread_guard = is_shown refl;
  no_index = is_shown refl;
  alone = is_shown refl;
  static_member = is_shown refl;
  type_descriptor = is_shown refl;
  base_class = is_shown refl;
  hash = is_shown refl;
}

pub types : AreTypes
unfolding reading printing
types = record {
  arrays = is_shown refl;
  levels = is_shown refl;
  array_of_parameters = is_shown refl;
  reference = is_shown refl;
  negative = is_shown refl;
  wraps = is_shown refl;
  functions = is_shown refl;
  member_pointer = is_shown refl;
  digit = is_shown refl;
  one_byte = is_shown refl;
  dollar = is_shown refl;
  ellipsis = is_shown refl;
  none = is_shown refl;
  of_return = is_shown refl;
  thunk = is_shown refl;
  qualifiers = is_shown refl;
  more_qualifiers = is_shown refl;
  table = is_shown refl;
  bases = is_shown refl;
  virtual_call = is_shown refl;
  union = is_shown refl;
  private = is_shown refl;
  protected = is_shown refl;
  pointers = is_shown refl;
  stdcall = is_shown refl;
  pointed_return = is_shown refl;
  no_class = is_shown refl;
}

pub template_arguments : AreTemplateArguments
unfolding reading printing
template_arguments = record {
  reference_to_function = is_shown refl;
  function = is_shown refl;
  qualified_function = is_shown refl;
  member_pointer = is_shown refl;
  alias = is_shown refl;
  array = is_shown refl;
  parameter = is_shown refl;
  constants = is_shown refl;
  nullptr = is_shown refl;
  empty_pack = is_shown refl;
  empty_packs = is_shown refl;
}

pub flags : AreFlags
unfolding reading printing
flags = record {
  none = is_shown refl;
  of_lines = is_shown refl;
  hug = is_shown refl;
  before_pointer = is_shown refl;
  words = is_shown refl;
  no_words = is_shown refl;
  comma = is_shown refl;
  no_conventions = is_shown refl;
  no_returns = is_shown refl;
  half_of_this = is_shown refl;
  no_this = is_shown refl;
  no_access = is_shown refl;
  no_member_type = is_shown refl;
  neither = is_shown refl;
  no_words_before = is_shown refl;
  of_a_variable = is_shown refl;
  decoding = is_shown refl;
  name_only = is_shown refl;
  conversion = is_shown refl;
  no_class = is_shown refl;
  ptr64 = is_shown refl;
}
