-- Source names, as the program reads them.
use Rattle.std.specs.Prelude.{ℕ, List, [], ◌∷◌, None, ◌==◌, if◌then◌else◌}
use Prim.Native.Char.{code}
use Rattle.msvc_rules.specs.Readers.{Found}
use Rattle.msvc_rules.specs.State.{State}
use Rattle.msvc_full_grammar.specs.Letters.{at_sign}
use Rattle.msvc_cursor.specs.Parser.{cut_at, name_length}

abbrev pub question_mark : ℕ
question_mark = code "?"

-- the bytes before the first @, unless a ? or an @ stands here
unfoldable pub source_name_at : List ℕ → State → Found (List ℕ)
source_name_at [] s = cut_at (name_length []) [] s
source_name_at (b ∷ bs) s =
    if b == question_mark then None
    else (if b == at_sign then None else cut_at (name_length (b ∷ bs)) (b ∷ bs) s)
