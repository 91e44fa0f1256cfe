-- Step lemmas of the lengths of arrays, as a loop reads them.
use Rattle.std.proofs.Common.{ℕ, suc, zero, List, [], ◌∷◌, ◌++◌, Some, None, false, ◌≡◌, ◌<◌, ◌∙◌, ap, append-nil}
use Rattle.std.proofs.Common.{arith}
use Rattle.msvc_nodes.specs.declared.nodes.Number.{Number}
use Rattle.msvc_rules.specs.Readers.{Found, and_then, read_by}
use Rattle.msvc_rules.specs.State.{State}
use Rattle.msvc_full_grammar.specs.Grammar.{grammar}
use Rattle.msvc_full_grammar.specs.Productions.{count, lengths}
use Rattle.msvc_full_grammar.specs.Reading.{read_name, read}
use Rattle.msvc_cursor.specs.Rows.{with_front}
use Rattle.msvc_full_grammar.proofs.Laws.{read_name-is}
use Rattle.msvc_cursor.proofs.RowSteps.{front_first, front_none}

-- a length, as a number without a sign
abbrev pub unsigned : ℕ → Number
unsigned z = record { is_negative = false; value = z }

-- one length and then others
abbrev one_more : ℕ → ℕ → List ℕ → State → Found (List Number)
one_more n z l t = and_then (read_name (lengths n) l t) (λ zs k u. Some (unsigned z ∷ zs, k, u))

lengths_step : (n : ℕ) (left : List ℕ) (s : State) → read_name (lengths (suc n)) left s
    ≡ and_then (read_name count left s) (one_more n)
unfolding grammar read read_by
lengths_step n left s = read_name-is (lengths (suc n)) left s

pub lengths_starts : (n : ℕ) (left : List ℕ) (s : State)
    → with_front [] (read_name (lengths n) left s) ≡ read_name (lengths n) left s
lengths_starts n left s = front_none (read_name (lengths n) left s)

pub lengths_ends : (zs : List Number) (n : ℕ) (left : List ℕ) (s : State) → n ≡ 0
    → with_front zs (read_name (lengths n) left s) ≡ Some (zs, left, s)
unfolding grammar read read_by
lengths_ends zs zero left s e =
    ap (with_front zs) (read_name-is (lengths zero) left s) ∙ ap (λ ys. Some (ys, left, s)) (append-nil zs)
lengths_ends zs (suc n) left s e = absurd (omega arith)

pub lengths_rejected : (zs : List Number) (n : ℕ) (left : List ℕ) (s : State) → 0 < n
    → read_name count left s ≡ None → with_front zs (read_name (lengths n) left s) ≡ None
lengths_rejected zs zero left s h none = absurd (omega arith)
lengths_rejected zs (suc n) left s h none =
    ap (with_front zs) (lengths_step n left s ∙ ap (λ o. and_then o (one_more n)) none)

pub lengths_more : (zs : List Number) (n m : ℕ) (left l : List ℕ) (s t : State) (z : ℕ) → n ≡ suc m
    → read_name count left s ≡ Some (z, l, t)
    → with_front zs (read_name (lengths n) left s) ≡ with_front (zs ++ unsigned z ∷ []) (read_name (lengths m) l t)
lengths_more zs zero m left l s t z h some = absurd (omega arith)
lengths_more zs (suc n) m left l s t z h some =
    ap (with_front zs) (lengths_step n left s ∙ ap (λ o. and_then o (one_more n)) some)
    ∙ front_first zs (unsigned z) (read_name (lengths n) l t)
    ∙ ap (λ k. with_front (zs ++ unsigned z ∷ []) (read_name (lengths k) l t)) (let same : n ≡ m = omega arith in same)

pub ruleset steps = (lengths_starts, lengths_ends, lengths_rejected)
