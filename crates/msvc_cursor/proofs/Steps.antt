-- The lemmas that readers of productions are proved by: each production in the form of its reader, and nodes as trees.
use Rattle.msvc_cursor.proofs.Choices.{letter_step}
use Rattle.msvc_cursor.proofs.FunctionSteps as functions
use Rattle.msvc_cursor.proofs.GuardSteps as guards
use Rattle.msvc_cursor.proofs.NameSteps as names
use Rattle.msvc_cursor.proofs.Nodes.{map_last, views}
use Rattle.msvc_cursor.proofs.RowSteps as rows
use Rattle.msvc_cursor.proofs.SpecialSteps as specials
use Rattle.msvc_cursor.proofs.SymbolSteps as symbols
use Rattle.msvc_cursor.proofs.TypeSteps as types

pub ruleset steps = (
  letter_step,
  map_last,
  views,
  functions.steps,
  guards.steps,
  names.steps,
  rows.steps,
  specials.steps,
  symbols.steps,
  types.steps,
)
