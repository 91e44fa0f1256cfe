-- The version of the library.
use Rattle.std.specs.Prelude.{ℕ, List, codes}

-- the text of the version
abbrev pub version : List ℕ
version = codes "0.11.0"
