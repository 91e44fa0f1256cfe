-- The letters of a number, as the program reads them.
use Rattle.std.specs.Prelude.{◌%◌, ◌^◌}
use Rattle.msvc_rules.specs.Rules.{Rule, call, give, ◌>>=◌}
use Rattle.msvc_rules.specs.Sorts.{bits}
use Rattle.msvc_rules.specs.Sorts as sort
use Rattle.msvc_full_grammar.specs.Fragments.{signed_number, unsigned_number}
use Rattle.msvc_full_grammar.specs.Productions.{Production, letters, small_number}

-- the letters of a count, of whose value the low 64 bits are kept
abbrev pub wrapped_letters : Rule Production bits
wrapped_letters = do v ← call (letters 0); give (v % 2 ^ 64)

-- an offset with its sign, and one whose bits have no sign
abbrev pub signed_offset : Rule Production sort.number
signed_offset = do z ← call small_number; give (signed_number z)

abbrev pub unsigned_offset : Rule Production sort.number
unsigned_offset = do z ← call small_number; give (unsigned_number z)
