-- What contracts see of a watched reader or writer.
use Rattle.std.specs.Prelude.{Bool}

-- a stream, and whether a call on it has failed
pub record Stream (A : Type 0) : Type 0 where
  pub stream : A
  pub failed : Bool
