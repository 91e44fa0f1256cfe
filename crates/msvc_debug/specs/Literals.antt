-- The text of a string constant: in quotes, with escapes as Rust's `{:?}` has them.
use Rattle.std.specs.Prelude.{ℕ, ◌%◌, ◌==◌, List, ◌++◌, Bool, false, cond, codes, nat_le, count_by}
use Rattle.std.specs.Char.{encode_utf8}
use Rattle.std.specs.Fmt.{digits}
use Rattle.std.specs.List.{flat_map}
use Rattle.std.specs.Str.{chars}
use Rattle.std.specs.Str.Lossy.{utf8_lossy}
use Rattle.msvc_debug.specs.declared.hidden.TheConstants.{HIDDEN_RUNS}

-- whether a code is in one of the runs that begin and end, in turn, at these codes
abbrev pub is_in_runs : List ℕ → ℕ → Bool
is_in_runs runs code = count_by (λ bound. nat_le bound code) runs % 2 == 1

-- whether a character is shown by its code
unfoldable pub is_hidden : ℕ → Bool
is_hidden c = is_in_runs HIDDEN_RUNS c

-- a character by its code
abbrev pub code_text : ℕ → List ℕ
code_text c = codes "\\u{" ++ digits 16 false c ++ codes "}"

-- a character by its code, or as it is
abbrev pub shown_or_coded : ℕ → List ℕ
shown_or_coded c = cond (is_hidden c) (code_text c) (encode_utf8 c)

-- a character between the quotes
unfoldable pub escaped : ℕ → List ℕ
escaped c =
    cond (c == 0) (codes "\\0")
    (cond (c == 9) (codes "\\t")
    (cond (c == 10) (codes "\\n")
    (cond (c == 13) (codes "\\r")
    (cond (c == 34) (codes "\\\"")
    (cond (c == 92) (codes "\\\\")
    (shown_or_coded c))))))

-- bytes as text, in quotes; what is no UTF-8 is U+FFFD there
unfoldable pub literal_text : List ℕ → List ℕ
literal_text bytes = codes "\"" ++ flat_map escaped (chars (utf8_lossy bytes)) ++ codes "\""
