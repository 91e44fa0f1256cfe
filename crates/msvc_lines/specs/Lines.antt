-- The lines of some bytes.
use Rattle.std.specs.Prelude.{ℕ, List, [], ◌∷◌, ◌==◌, if◌then◌else◌, map}
use Rattle.std.specs.Io.BufRead.{ends_with_byte, strip_last}

-- the pieces, with a byte put before the first of them
abbrev pub joined : ℕ → List (List ℕ) → List (List ℕ)
joined x [] = (x ∷ []) ∷ []
joined x (p ∷ ps) = (x ∷ p) ∷ ps

-- the pieces of some bytes, which are cut after each line feed
unfoldable pub pieces : List ℕ → List (List ℕ)
pieces [] = []
pieces (x ∷ xs) = if x == 10 then (x ∷ []) ∷ pieces xs else joined x (pieces xs)

-- the line of a piece: the piece without the line feed that ends it and without one carriage return before this
abbrev pub line_of : List ℕ → List ℕ
line_of piece = if ends_with_byte 10 piece then strip_last 13 (strip_last 10 piece) else piece

-- the lines of some bytes
abbrev pub lines_of : List ℕ → List (List ℕ)
lines_of bytes = map line_of (pieces bytes)
