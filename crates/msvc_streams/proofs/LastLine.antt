-- Bytes without a line feed after the last one.
use Rattle.std.proofs.Common.{◌≡◌, ◌≢◌, ◌+◌, ◌<◌, ℕ, List, length, take, drop, subst, Some, None, sym, ap, ◌∙◌}
use Rattle.std.proofs.Common.{arith, eq-eqb, get_or, length-drop}
use Rattle.std.proofs.lemmas.List.{get_or-drop, take-append-drop}
use Rattle.std.proofs.lemmas.List.Elements.{All-append, All-from_get_or}
use Rattle.memchr.specs.Find.{IsLastByte, is_byte}
use Rattle.msvc_streams.specs.Runs.{IsWithoutEnd}

pub none_at_all : (block : List ℕ) (from : ℕ) → IsWithoutEnd (take from block)
    → IsLastByte (is_byte 10) (drop from block) None → IsWithoutEnd block
none_at_all block from first none =
    let rest = drop from block in
    let behind = All-from_get_or (λ b. b ≢ 10) rest 0
    (λ i inside is. none i (omega arith) inside (eq-eqb (get_or rest i 0) 10 is)) in
    subst IsWithoutEnd (take-append-drop from block) (All-append (λ b. b ≢ 10) (take from block) rest first behind)

pub after_last : (block : List ℕ) (from at : ℕ) → IsLastByte (is_byte 10) (drop from block) (Some at)
    → IsWithoutEnd (drop (from + at + 1) block)
after_last block from at last =
    let rest = drop from block in
    let behind = drop (from + at + 1) block in
    All-from_get_or (λ b. b ≢ 10) behind 0 (λ i inside is.
    let place : get_or behind i 0 ≡ get_or rest (at + 1 + i) 0 =
    get_or-drop (from + at + 1) block i 0 ∙ ap (λ k. get_or block k 0) (omega arith)
    ∙ sym (get_or-drop from block (at + 1 + i) 0) in
    let within : at + 1 + i < length rest =
    omega (arith, inside, length-drop (from + at + 1) block, length-drop from block) in
    last.0.after (at + 1 + i) (omega arith) within (eq-eqb (get_or rest (at + 1 + i) 0) 10 (sym place ∙ is)))
