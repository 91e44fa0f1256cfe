-- Texts under a limit of bytes, and the pieces that are added to them.
use Rattle.std.specs.Prelude.{ℕ, List, [], ◌≡◌, Bool, cond, fold, leb, length, Option, Some, None}
use Rattle.msvc_print.specs.Pieces.{Piece, settle}

-- a limit in bytes, and a text, which is `None` once a piece was left out
pub record LimitedText : Type 0 where
  pub max : ℕ
  pub text : Option (List ℕ)

-- a text, or `None` if it has more than `max` bytes
abbrev pub within : ℕ → List ℕ → Option (List ℕ)
within max bytes = cond (leb (length bytes) max) (Some bytes) None

-- a text under a limit whose bytes were written; `whole` says that no piece was left out
abbrev pub limited : ℕ → Bool → List ℕ → LimitedText
limited max whole bytes = record { max = max; text = cond whole (Some bytes) None }

-- the empty text under a limit
abbrev pub empty_within : ℕ → LimitedText
empty_within max = record { max = max; text = Some [] }

-- a text with one more piece after it, or `None` if the limit does not allow the piece
unfoldable pub settle_within : ℕ → Option (List ℕ) → Piece → Option (List ℕ)
settle_within max None piece = None
settle_within max (Some before) piece = within max (settle before piece)

-- a text under a limit, with one more piece after it
abbrev pub add : LimitedText → Piece → LimitedText
add before piece = record { max = before.max; text = settle_within before.max before.text piece }

-- a text under a limit, with pieces after it, which are added from the left
unfoldable pub add_all : LimitedText → List Piece → LimitedText
add_all before pieces = fold add before pieces

-- the text `out'` is the text `out` with `pieces` written after it
abbrev pub Writes : List Piece → LimitedText → LimitedText → Type 0
Writes pieces out out' = out' ≡ add_all out pieces
