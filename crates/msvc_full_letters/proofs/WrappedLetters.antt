-- How a loop reads the letters of a number, with a value that keeps its low 64 bits.
use Rattle.std.proofs.Common.{ℕ, List, [], ◌∷◌, Option, Some, None, Bool, true, false, cond, ◌≡◌, ◌+◌, ◌*◌, ◌%◌, ◌^◌}
use Rattle.std.proofs.Common.{◌==◌, refl, sym, ap, ◌∙◌}
use Rattle.std.proofs.Math.Nat.{mod-add-mod, mod-mod}
use Rattle.std.proofs.lemmas.Nat.{mul-mod}
use Rattle.msvc_rules.specs.Readers.{Found, after_literal, with_value, and_then, or_else, read_by}
use Rattle.msvc_rules.specs.Rules.{lookup}
use Rattle.msvc_rules.specs.State.{State}
use Rattle.msvc_full_grammar.specs.Grammar.{grammar}
use Rattle.msvc_full_grammar.specs.Letters.{hexadecimal}
use Rattle.msvc_full_grammar.specs.Productions.{letters}
use Rattle.msvc_full_grammar.specs.Reading.{read_name, read}
use Rattle.msvc_full_grammar.proofs.Laws.{read_name-is}
use Rattle.msvc_full_letters.specs.Numbers.{wrapped_letters}

-- the letters as a loop reads them
abbrev pub letters_on : (ℕ → Found ℕ) → ℕ → Bool → Option ℕ → List ℕ → State → Found ℕ
letters_on others v true digit bs s = Some (v, bs, s)
letters_on others v false None bs s = None
letters_on others v false (Some d) bs s = others (((v * 16) % 2 ^ 64 + d) % 2 ^ 64)

unfoldable pub letters_at : ℕ → List ℕ → State → Found ℕ
letters_at v [] s = None
letters_at v (b ∷ bs) s = letters_on (λ w. letters_at w bs s) v (b == 64) (lookup b hexadecimal) bs s

-- the low bits of the production
abbrev low_of : ℕ → List ℕ → State → Found ℕ
low_of v left s = and_then (read_name (letters v) left s) (λ x l t. Some (x % 2 ^ 64, l, t))

abbrev after_letter : ℕ → Bool → Option ℕ → List ℕ → State → Found ℕ
after_letter v at_sign digit bs s =
    and_then (or_else (and_then (after_literal (cond at_sign (Some bs) None) s) (λ _ l t. Some (v, l, t)))
    (and_then (with_value digit bs s) (λ d. read_name (letters (v * 16 + d)))))
    (λ x l t. Some (x % 2 ^ 64, l, t))

letters_step : (v b : ℕ) (bs : List ℕ) (s : State)
    → low_of v (b ∷ bs) s ≡ after_letter v (b == 64) (lookup b hexadecimal) bs s
unfolding read read_by grammar
letters_step v b bs s = ap (λ o. and_then o (λ x l t. Some (x % 2 ^ 64, l, t))) (read_name-is (letters v) (b ∷ bs) s)

letters_end : (v : ℕ) (s : State) → low_of v [] s ≡ None
unfolding read read_by grammar
letters_end v s = ap (λ o. and_then o (λ x l t. Some (x % 2 ^ 64, l, t))) (read_name-is (letters v) [] s)

times_16 : (m v w d : ℕ) → v % m ≡ w % m → (v * 16 + d) % m ≡ (w * 16 + d) % m
times_16 m v w d e =
    let scaled : (v * 16) % m ≡ (w * 16) % m = mul-mod v 16 m ∙ ap (λ z. (z * (16 % m)) % m) e ∙ sym (mul-mod w 16 m) in
    sym (mod-add-mod (v * 16) m d) ∙ ap (λ z. (z + d) % m) scaled ∙ mod-add-mod (w * 16) m d

letters_are : (v w : ℕ) (left : List ℕ) (s : State) → w ≡ v % 2 ^ 64 → low_of v left s ≡ letters_at w left s
unfolding letters_at
letters_are v w [] s h = letters_end v s
letters_are v w (b ∷ bs) s h =
    letters_step v b bs s
    ∙ go (b == 64) (lookup b hexadecimal) (λ d k. letters_are (v * 16 + d) (((w * 16) % 2 ^ 64 + d) % 2 ^ 64) bs s k)
  where
    go : (t : Bool) (o : Option ℕ)
        → ((d : ℕ) → ((w * 16) % 2 ^ 64 + d) % 2 ^ 64 ≡ (v * 16 + d) % 2 ^ 64
        → low_of (v * 16 + d) bs s ≡ letters_at (((w * 16) % 2 ^ 64 + d) % 2 ^ 64) bs s)
        → after_letter v t o bs s ≡ letters_on (λ z. letters_at z bs s) w t o bs s
    go true o ih = ap (λ z. Some (z, bs, s)) (sym h)
    go false None ih = refl
    go false (Some d) ih =
        ih d (mod-add-mod (w * 16) (2 ^ 64) d ∙ times_16 (2 ^ 64) w v d (ap (λ z. z % 2 ^ 64) h ∙ mod-mod v (2 ^ 64)))

pub letters_wrapped : (left : List ℕ) (s : State) → read wrapped_letters left s ≡ letters_at 0 left s
unfolding read read_by
letters_wrapped left s = letters_are 0 0 left s refl

pub ruleset letters_go_on = (letters_wrapped)
