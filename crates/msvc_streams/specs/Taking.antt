-- What one call takes from a reader.
use Rattle.std.specs.Prelude.{ℕ, List, [], ◌≡◌, ◌≢◌, Bool, true, false, Result, Ok, Err}
use Rattle.msvc_streams.specs.Runs.{IsWithoutEnd, IsWithEnd}
use Rattle.msvc_streams.specs.declared.watched.Fault.{Fault}
use Rattle.msvc_streams.specs.declared.watched.Taken.{Taken}
use Rattle.msvc_streams.specs.declared.watched.Taken.TheVariants.{Part, Line, End}

-- the bytes are what the answer says: a part of a line, the rest of a line, or nothing at the reader's end
abbrev pub IsCut : Taken → List ℕ → Type 0
IsCut Part bytes = (bytes ≢ []) × IsWithoutEnd bytes
IsCut Line bytes = IsWithEnd bytes
IsCut End bytes = bytes ≡ []

-- what a call takes that answers whether it took any bytes: none at the reader's end, and none after a fault
abbrev pub IsTaken : Result Bool Fault → List ℕ → Type 0
IsTaken (Ok true) taken = Unit {0}
IsTaken (Ok false) taken = taken ≡ []
IsTaken (Err fault) taken = taken ≡ []
