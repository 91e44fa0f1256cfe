-- Strings, as the program reads them.
use Rattle.std.specs.Prelude.{ℕ, List, Option, Some, None, codes}
use Rattle.msvc_rules.specs.Rules.{Rule, call, give, letter, literal, lookup, up_to, ◌>>=◌, ◌>>◌}
use Rattle.msvc_rules.specs.Sorts.{bits, both, bytes}
use Rattle.msvc_full_grammar.specs.Letters.{at_sign, escapes, widths}
use Rattle.msvc_full_grammar.specs.Productions.{Production, count}
use Rattle.msvc_full_grammar.specs.Strings.{before, decoded}

-- what stands after the ??_C of a string: the width of its characters, its length in bytes and its encoded bytes
abbrev pub encoded_string : Rule Production (both bits (both bits bytes))
encoded_string = do
  literal (codes "@_")
  width ← letter bits widths
  length ← call count
  _ ← up_to at_sign
  encoded ← up_to at_sign
  give (width, (length, encoded))

-- the byte that a ? and this letter stand for
unfoldable pub escape_of : ℕ → Option ℕ
escape_of b = lookup b escapes

-- the bytes of a string, by the first of them and the encoded bytes after it, if there is a first
abbrev pub from_first : Option (ℕ × List ℕ) → Option (List ℕ)
from_first None = None
from_first (Some r) = before (Some r.0) (decoded r.1)
