-- Step lemmas of strings, and of their bytes as a loop decodes them.
use Rattle.std.proofs.Common.{ℕ, List, [], ◌∷◌, ◌++◌, Option, Some, None, Bool, cond, ◌≡◌, ◌==◌, ◌<◌, ◌≤◌, ◌-◌}
use Rattle.std.proofs.Common.{◌∙◌, ap, refl, sym, length, slice_index_or, append-nil, arith}
use Rattle.std.proofs.lemmas.List.{take_rest}
use Prim.Native.Char.{code}
use Rattle.std.specs.Option.{option_map}
use Rattle.std.specs.Prelude.{codes, drop, take}
use Rattle.msvc_nodes.specs.declared.nodes.Number.{Number}
use Rattle.msvc_rules.specs.Readers.{and_then, letter_here, read_by}
use Rattle.msvc_rules.specs.Rules.{literal, lookup}
use Rattle.msvc_rules.specs.State.{State}
use Rattle.msvc_grammar.proofs.Characters.{lookup-after, lookup-first}
use Rattle.msvc_grammar.specs.Reading.{read as crate_read}
use Rattle.msvc_full_grammar.specs.Fragments.{each_plain, plain}
use Rattle.msvc_full_grammar.specs.Letters.{escapes, raised, rows, widths}
use Rattle.msvc_full_grammar.specs.Productions.{count}
use Rattle.msvc_full_grammar.specs.Reading.{read_name, read}
use Rattle.msvc_full_grammar.specs.Strings.{before, decoded, escaped, in_digits, low_digit}
use Rattle.msvc_cursor.specs.Parser.{cut_at, name_length}
use Rattle.msvc_cursor.proofs.NameSteps.{part_cut}
use Rattle.msvc_full_letters.specs.Strings.{encoded_string, escape_of, from_first}

pub encoded_string_step : (left : List ℕ) (s : State) → read encoded_string left s
    ≡ and_then (crate_read (literal (codes "@_")) left s) (λ _ h a. and_then (letter_here widths h a)
    (λ w i b. and_then (read_name count i b) (λ n j c. and_then (cut_at (name_length j) j c)
    (λ _ k d. and_then (cut_at (name_length k) k d) (λ bs l t. Some ((w, (n, bs)), l, t))))))
unfolding read read_by crate_read
encoded_string_step left s i =
    and_then (crate_read (literal (codes "@_")) left s) (λ _ h a. and_then (letter_here widths h a)
    (λ w m b. and_then (read_name count m b) (λ n j c. and_then (part_cut j c i)
    (λ _ k d. and_then (part_cut k d i) (λ bs l t. Some ((w, (n, bs)), l, t))))))

-- the parts of the table of letters behind a ?, since a search handles one part at a time

abbrev pub sign_rows : List (ℕ × ℕ)
sign_rows = rows (codes "0123456789") (codes ",/\\:. \n\t'-")

abbrev pub small_rows : List (ℕ × ℕ)
small_rows = raised (codes "abcdefghijklmnopqrstuvwxyz")

abbrev pub capital_rows : List (ℕ × ℕ)
capital_rows = raised (codes "ABCDEFGHIJKLMNOPQRSTUVWXYZ")

pub escape_small : (b c : ℕ) → lookup b sign_rows ≡ None → lookup b small_rows ≡ Some c → lookup b escapes ≡ Some c
escape_small b c e f =
    lookup-after b sign_rows (small_rows ++ capital_rows) e ∙ lookup-first b small_rows capital_rows c f

pub escape_capital : (b : ℕ) → lookup b sign_rows ≡ None → lookup b small_rows ≡ None
    → lookup b escapes ≡ lookup b capital_rows
escape_capital b e f =
    lookup-after b sign_rows (small_rows ++ capital_rows) e ∙ lookup-after b small_rows capital_rows f

-- what stands after a ?, by its first byte
abbrev escaped_by : List ℕ → Option (List ℕ)
escaped_by [] = None
escaped_by (b ∷ bs) = cond (b == code "$") (in_digits bs) (before (escape_of b) (decoded bs))

pub escaped_step : (bs : List ℕ) → escaped bs ≡ escaped_by bs
unfolding escaped escape_of
escaped_step [] = refl
escaped_step (b ∷ bs) = refl

-- and by the place of that byte
pub escaped_first : (bs : List ℕ) → 1 ≤ length bs → escaped bs
    ≡ cond (slice_index_or bs 0 0 == code "$") (in_digits (take (length bs - 1) (drop 1 bs)))
    (before (escape_of (slice_index_or bs 0 0)) (decoded (take (length bs - 1) (drop 1 bs))))
unfolding escaped escape_of
escaped_first [] h = absurd (omega arith)
escaped_first (b ∷ bs) h =
    ap (λ others. cond (b == code "$") (in_digits others) (before (escape_of b) (decoded others)))
    (sym (take_rest (b ∷ bs) 1))

pub digits_short : (bs : List ℕ) → length bs < 2 → in_digits bs ≡ None
unfolding in_digits low_digit
digits_short [] e = refl
digits_short (high ∷ []) e = refl
digits_short (high ∷ low ∷ bs) e = absurd (omega arith)

-- the numbers so far, and those of the bytes that encoded bytes stand for
abbrev pub numbers_before : List Number → Option (List ℕ) → Option (List Number)
numbers_before zs o = option_map (λ bs. zs ++ each_plain bs) o

pub bytes_end : (zs : List Number) (left : List ℕ) → length left < 1 → numbers_before zs (decoded left) ≡ Some zs
unfolding decoded
bytes_end zs [] e = ap Some (append-nil zs)
bytes_end zs (b ∷ bs) e = absurd (omega arith)

pub ruleset steps = (encoded_string_step, escaped_step, digits_short, bytes_end)
