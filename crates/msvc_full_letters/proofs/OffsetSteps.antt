-- Step lemmas of offsets and of the indices of guards, and of numbers as a loop reads them.
use Rattle.std.proofs.Common.{ℕ, ℤ, pos, negsuc, suc, zero, List, [], ◌∷◌, ◌++◌, Some, None, true, false, ◌≡◌}
use Rattle.std.proofs.Common.{◌<◌, ◌==◌, ◌∙◌, ap, refl, sym, append-nil, arith, true≢false}
use Rattle.std.proofs.lemmas.Bool.{eqb-true}
use Rattle.std.specs.Prelude.{length}
use Rattle.msvc_nodes.specs.declared.nodes.Number.{Number}
use Rattle.msvc_rules.specs.Readers.{Found, and_then, read_by}
use Rattle.msvc_rules.specs.State.{State}
use Rattle.msvc_full_grammar.specs.declared.forms.Adjustment.TheVariants.{Adjustor, VtorDisp, VtorDispEx}
use Rattle.msvc_full_grammar.specs.Grammar.{grammar}
use Rattle.msvc_full_grammar.specs.Fragments.{plain, signed_number, small, unsigned_number}
use Rattle.msvc_full_grammar.specs.Productions.{guard_index, number, numbers, offsets_of, small_number, unsigned}
use Rattle.msvc_full_grammar.specs.Reading.{read_name, read}
use Rattle.msvc_full_letters.specs.Numbers.{signed_offset, unsigned_offset}
use Rattle.msvc_cursor.specs.Rows.{with_front}
use Rattle.msvc_full_grammar.proofs.Laws.{read_name-is}
use Rattle.msvc_cursor.proofs.RowSteps.{front_first, front_none}

-- what is done with a number that is made of another
made_then : {A : Type 0} (h : ℤ → Number) (o : Found ℤ) (g : Number → List ℕ → State → Found A)
    → and_then (and_then o (λ z l t. Some (h z, l, t))) g ≡ and_then o (λ z l t. g (h z) l t)
made_then h None g = refl
made_then h (Some x) g = refl

pub adjustor_step : (left : List ℕ) (s : State) → read_name (offsets_of Adjustor) left s
    ≡ and_then (read unsigned_offset left s) (λ z l t. Some (z ∷ [], l, t))
unfolding grammar read read_by
adjustor_step left s =
    read_name-is (offsets_of Adjustor) left s
    ∙ sym (made_then (λ z. unsigned_number z) (read_name small_number left s) (λ z l t. Some (z ∷ [], l, t)))

pub vtordisp_step : (left : List ℕ) (s : State) → read_name (offsets_of VtorDisp) left s
    ≡ and_then (read signed_offset left s) (λ v j a. and_then (read unsigned_offset j a)
    (λ z l t. Some (v ∷ z ∷ [], l, t)))
unfolding grammar read read_by
vtordisp_step left s =
    read_name-is (offsets_of VtorDisp) left s
    ∙ (λ i. and_then (read_name small_number left s) (λ v j a. sym (made_then (λ z. unsigned_number z)
    (read_name small_number j a) (λ z l t. Some (signed_number v ∷ z ∷ [], l, t))) i))
    ∙ sym (made_then (λ z. signed_number z) (read_name small_number left s)
    (λ v j a. and_then (read unsigned_offset j a) (λ z l t. Some (v ∷ z ∷ [], l, t))))

pub vtordispex_step : (left : List ℕ) (s : State) → read_name (offsets_of VtorDispEx) left s
    ≡ and_then (read signed_offset left s) (λ p j a. and_then (read signed_offset j a)
    (λ o k b. and_then (read signed_offset k b) (λ v h c. and_then (read unsigned_offset h c)
    (λ z l t. Some (p ∷ o ∷ v ∷ z ∷ [], l, t)))))
unfolding grammar read read_by
vtordispex_step left s =
    read_name-is (offsets_of VtorDispEx) left s
    ∙ (λ i. and_then (read_name small_number left s) (λ p j a. second (signed_number p) j a i))
    ∙ sym (made_then (λ z. signed_number z) (read_name small_number left s)
    (λ p j a. and_then (read signed_offset j a)
    (λ o k b. and_then (read signed_offset k b) (λ v h c. and_then (read unsigned_offset h c)
    (λ z l t. Some (p ∷ o ∷ v ∷ z ∷ [], l, t))))))
  where
    third : (p o : Number) (k : List ℕ) (b : State)
        → and_then (read_name small_number k b) (λ v h c. and_then (read_name small_number h c)
        (λ z l t. Some (p ∷ o ∷ signed_number v ∷ unsigned_number z ∷ [], l, t)))
        ≡ and_then (read signed_offset k b) (λ v h c. and_then (read unsigned_offset h c)
        (λ z l t. Some (p ∷ o ∷ v ∷ z ∷ [], l, t)))
    third p o k b =
        (λ i. and_then (read_name small_number k b) (λ v h c. sym (made_then (λ z. unsigned_number z)
        (read_name small_number h c) (λ z l t. Some (p ∷ o ∷ signed_number v ∷ z ∷ [], l, t))) i))
        ∙ sym (made_then (λ z. signed_number z) (read_name small_number k b)
        (λ v h c. and_then (read unsigned_offset h c) (λ z l t. Some (p ∷ o ∷ v ∷ z ∷ [], l, t))))

    second : (p : Number) (j : List ℕ) (a : State)
        → and_then (read_name small_number j a) (λ o k b. and_then (read_name small_number k b)
        (λ v h c. and_then (read_name small_number h c)
        (λ z l t. Some (p ∷ signed_number o ∷ signed_number v ∷ unsigned_number z ∷ [], l, t))))
        ≡ and_then (read signed_offset j a) (λ o k b. and_then (read signed_offset k b)
        (λ v h c. and_then (read unsigned_offset h c) (λ z l t. Some (p ∷ o ∷ v ∷ z ∷ [], l, t))))
    second p j a =
        (λ i. and_then (read_name small_number j a) (λ o k b. third p (signed_number o) k b i))
        ∙ sym (made_then (λ z. signed_number z) (read_name small_number j a)
        (λ o k b. and_then (read signed_offset k b) (λ v h c. and_then (read unsigned_offset h c)
        (λ z l t. Some (p ∷ o ∷ v ∷ z ∷ [], l, t)))))

-- what is read of four offsets, by what is read of each
pub four_read : (left j k h rest : List ℕ) (s a b c t : State) (p o v z : Number)
    → read signed_offset left s ≡ Some (p, j, a) → read signed_offset j a ≡ Some (o, k, b)
    → read signed_offset k b ≡ Some (v, h, c) → read unsigned_offset h c ≡ Some (z, rest, t)
    → read_name (offsets_of VtorDispEx) left s ≡ Some (p ∷ o ∷ v ∷ z ∷ [], rest, t)
four_read left j k h rest s a b c t p o v z e f g i = vtordispex_step left s ∙ rw (e, f, g, i) refl

pub two_read : (left j rest : List ℕ) (s a t : State) (v z : Number)
    → read signed_offset left s ≡ Some (v, j, a) → read unsigned_offset j a ≡ Some (z, rest, t)
    → read_name (offsets_of VtorDisp) left s ≡ Some (v ∷ z ∷ [], rest, t)
two_read left j rest s a t v z e f = vtordisp_step left s ∙ rw (e, f) refl

pub signed_step : (left : List ℕ) (s : State) → read signed_offset left s
    ≡ and_then (read_name small_number left s) (λ z l t. Some (signed_number z, l, t))
unfolding read read_by
signed_step left s = refl

pub unsigned_step : (left : List ℕ) (s : State) → read unsigned_offset left s
    ≡ and_then (read_name small_number left s) (λ z l t. Some (unsigned_number z, l, t))
unfolding read read_by
unsigned_step left s = refl

-- a number of at least 0
abbrev index_by : ℤ → List ℕ → State → Found (List Number)
index_by (pos n) l t = Some (plain n ∷ [], l, t)
index_by (negsuc n) l t = None

index_is : (z : ℤ) (l : List ℕ) (t : State)
    → and_then (read_name (unsigned z) l t) (λ i k u. Some (plain i ∷ [], k, u)) ≡ index_by z l t
unfolding grammar read read_by
index_is (pos n) l t = ap (λ o. and_then o (λ i k u. Some (plain i ∷ [], k, u))) (read_name-is (unsigned (pos n)) l t)
index_is (negsuc n) [] t =
    ap (λ o. and_then o (λ i k u. Some (plain i ∷ [], k, u))) (read_name-is (unsigned (negsuc n)) [] t)
index_is (negsuc n) (b ∷ bs) t =
    ap (λ o. and_then o (λ i k u. Some (plain i ∷ [], k, u))) (read_name-is (unsigned (negsuc n)) (b ∷ bs) t)

-- the index of a guard
pub index_at_end : (left : List ℕ) (s : State) → (length left == 0) ≡ true
    → read_name guard_index left s ≡ Some ([], left, s)
unfolding grammar read read_by
index_at_end [] s e = read_name-is guard_index [] s
index_at_end (b ∷ bs) s e =
    let none : length (b ∷ bs) ≡ 0 = eqb-true (length (b ∷ bs)) 0 e in absurd (omega (arith, none))

pub index_step : (left : List ℕ) (s : State) → (length left == 0) ≡ false
    → read_name guard_index left s ≡ and_then (read_name small_number left s) (λ z l t. index_by z l t)
unfolding grammar read read_by
index_step [] s e = absurd (true≢false e)
index_step (b ∷ bs) s e =
    read_name-is guard_index (b ∷ bs) s
    ∙ (λ i. and_then (read_name number (b ∷ bs) s) (λ n l t. index_is (small n) l t i))
    ∙ sym (of_small (read_name number (b ∷ bs) s))
    ∙ ap (λ o. and_then o (λ z l t. index_by z l t)) (sym (read_name-is small_number (b ∷ bs) s))
  where
    of_small : (o : Found Number)
        → and_then (and_then o (λ n l t. Some (small n, l, t))) (λ z l t. index_by z l t)
        ≡ and_then o (λ n l t. index_by (small n) l t)
    of_small None = refl
    of_small (Some x) = refl

-- one number and then others
abbrev one_more : ℕ → Number → List ℕ → State → Found (List Number)
one_more n z l t = and_then (read_name (numbers n) l t) (λ zs k u. Some (z ∷ zs, k, u))

numbers_step : (n : ℕ) (left : List ℕ) (s : State) → read_name (numbers (suc n)) left s
    ≡ and_then (read_name number left s) (one_more n)
unfolding grammar read read_by
numbers_step n left s = read_name-is (numbers (suc n)) left s

pub numbers_starts : (n : ℕ) (left : List ℕ) (s : State)
    → with_front [] (read_name (numbers n) left s) ≡ read_name (numbers n) left s
numbers_starts n left s = front_none (read_name (numbers n) left s)

pub numbers_ends : (zs : List Number) (n : ℕ) (left : List ℕ) (s : State) → n ≡ 0
    → with_front zs (read_name (numbers n) left s) ≡ Some (zs, left, s)
unfolding grammar read read_by
numbers_ends zs zero left s e =
    ap (with_front zs) (read_name-is (numbers zero) left s) ∙ ap (λ ys. Some (ys, left, s)) (append-nil zs)
numbers_ends zs (suc n) left s e = absurd (omega arith)

pub numbers_rejected : (zs : List Number) (n : ℕ) (left : List ℕ) (s : State) → 0 < n
    → read_name number left s ≡ None → with_front zs (read_name (numbers n) left s) ≡ None
numbers_rejected zs zero left s h none = absurd (omega arith)
numbers_rejected zs (suc n) left s h none =
    ap (with_front zs) (numbers_step n left s ∙ ap (λ o. and_then o (one_more n)) none)

pub numbers_more : (zs : List Number) (n m : ℕ) (left l : List ℕ) (s t : State) (z : Number) → n ≡ suc m
    → read_name number left s ≡ Some (z, l, t)
    → with_front zs (read_name (numbers n) left s) ≡ with_front (zs ++ z ∷ []) (read_name (numbers m) l t)
numbers_more zs zero m left l s t z h some = absurd (omega arith)
numbers_more zs (suc n) m left l s t z h some =
    ap (with_front zs) (numbers_step n left s ∙ ap (λ o. and_then o (one_more n)) some)
    ∙ front_first zs z (read_name (numbers n) l t)
    ∙ ap (λ k. with_front (zs ++ z ∷ []) (read_name (numbers k) l t)) (let same : n ≡ m = omega arith in same)

pub ruleset steps = (
  adjustor_step,
  vtordisp_step,
  vtordispex_step,
  signed_step,
  unsigned_step,
  index_at_end,
  index_step,
  numbers_starts,
  numbers_ends,
  numbers_rejected,
)
