-- The digits that were read as whole parameters.
use Rattle.msvc_rules.specs.State.{Note}
use Rattle.msvc_cursor.specs.declared.back_references.BackReference.{BackReference}

-- a digit that was read as a whole parameter, as the grammar notes it
abbrev pub note_of : BackReference → Note
note_of n = record { at = n.at; start = n.start; end = n.end }
