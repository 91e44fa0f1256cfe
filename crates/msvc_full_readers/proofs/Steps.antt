-- The lemmas that readers of productions are proved by: each production in the form of its reader, and nodes as trees.
use Rattle.msvc_cursor.proofs.Choices.{letter_step}
use Rattle.msvc_cursor.proofs.Nodes.{map_last, views}
use Rattle.msvc_full_letters.proofs.TextSteps as texts
use Rattle.msvc_full_readers.proofs.AnonymousSteps as anonymous
use Rattle.msvc_full_readers.proofs.EncodingSteps as encodings
use Rattle.msvc_full_readers.proofs.EndSteps as ends
use Rattle.msvc_full_readers.proofs.FunctionSteps as functions
use Rattle.msvc_full_readers.proofs.NameSteps as names
use Rattle.msvc_full_readers.proofs.SymbolSteps as symbols
use Rattle.msvc_full_readers.proofs.TypeSteps as types

pub ruleset steps = (
  letter_step,
  map_last,
  views,
  texts.steps,
  anonymous.steps,
  ends.steps,
  functions.steps,
  names.steps,
  symbols.steps,
  encodings.steps,
  types.steps,
)
