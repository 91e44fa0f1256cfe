-- How bytes are cut into lines where some lines were cut before.
use Rattle.std.proofs.Common.{◌≡◌, ◌≢◌, ◌++◌, ◌∷◌, [], ℕ, List, Bool, true, false, cond, eqb, ap}
use Rattle.std.proofs.Common.{refl, ◌∙◌, append_assoc, inl, inr, ne_eqb}
use Rattle.std.proofs.lemmas.List.{map-append}
use Rattle.std.specs.Prelude.{map}
use Rattle.std.proofs.lemmas.List.Elements.{All-head, All-tail}
use Rattle.msvc_lines.specs.Lines.{joined, pieces, line_of, lines_of}
use Rattle.msvc_streams.specs.Runs.{IsLines, IsOfOneLine, IsWithoutEnd}

-- bytes that are there give a piece
pieces-some : (x : ℕ) (xs : List ℕ) → (p : List ℕ) × (ps : List (List ℕ)) × (pieces (x ∷ xs) ≡ p ∷ ps)
unfolding pieces
pieces-some x xs = at (eqb x 10) (pieces xs)
  where
    at : (b : Bool) (rest : List (List ℕ))
        → (p : List ℕ) × (ps : List (List ℕ)) × (cond b ((x ∷ []) ∷ rest) (joined x rest) ≡ p ∷ ps)
    at true rest = (x ∷ [], rest, refl)
    at false [] = (x ∷ [], [], refl)
    at false (p ∷ ps) = (x ∷ p, ps, refl)

joined-append : (x : ℕ) (ps qs : List (List ℕ)) (p : List ℕ) (rest : List (List ℕ)) → ps ≡ p ∷ rest
    → joined x (ps ++ qs) ≡ joined x ps ++ qs
joined-append x ps qs p rest e = rw e refl

-- a cut after a line feed leaves the cuts on both sides as they are
pieces-after : (front more : List ℕ) → pieces (front ++ 10 ∷ more) ≡ pieces (front ++ 10 ∷ []) ++ pieces more
unfolding pieces
pieces-after [] more = refl
pieces-after (x ∷ xs) more = at (eqb x 10) (pieces-after xs more)
  where
    some : (l : List ℕ) → (p : List ℕ) × (ps : List (List ℕ)) × (pieces (l ++ 10 ∷ []) ≡ p ∷ ps)
    some [] = pieces-some 10 []
    some (y ∷ ys) = pieces-some y (ys ++ 10 ∷ [])

    at : (b : Bool) → pieces (xs ++ 10 ∷ more) ≡ pieces (xs ++ 10 ∷ []) ++ pieces more
        → cond b ((x ∷ []) ∷ pieces (xs ++ 10 ∷ more)) (joined x (pieces (xs ++ 10 ∷ more)))
        ≡ cond b ((x ∷ []) ∷ pieces (xs ++ 10 ∷ [])) (joined x (pieces (xs ++ 10 ∷ []))) ++ pieces more
    at true e = ap (λ ps. (x ∷ []) ∷ ps) e
    at false e =
        let s = some xs in
        ap (joined x) e ∙ joined-append x (pieces (xs ++ 10 ∷ [])) (pieces more) s.0 s.1 s.2

pieces-append : (finished more : List ℕ) → IsLines finished → pieces (finished ++ more) ≡ pieces finished ++ pieces more
unfolding pieces
pieces-append finished more (inl e) = rw e refl
pieces-append finished more (inr h) = rw h.1 (rw (append_assoc h.0 (10 ∷ []) more) (pieces-after h.0 more))

-- one line is one piece
pieces-without_end : (x : ℕ) (xs : List ℕ) → IsWithoutEnd (x ∷ xs) → pieces (x ∷ xs) ≡ (x ∷ xs) ∷ []
unfolding pieces
pieces-without_end x [] h = rw (ne_eqb x 10 (All-head (λ b. b ≢ 10) x [] h)) refl
pieces-without_end x (y ∷ ys) h =
    let rest = pieces-without_end y ys (All-tail (λ b. b ≢ 10) x (y ∷ ys) h) in
    rw (ne_eqb x 10 (All-head (λ b. b ≢ 10) x (y ∷ ys) h)) (ap (joined x) rest)

pieces-with_end : (front : List ℕ) → IsWithoutEnd front → pieces (front ++ 10 ∷ []) ≡ (front ++ 10 ∷ []) ∷ []
unfolding pieces
pieces-with_end [] h = refl
pieces-with_end (x ∷ xs) h =
    let rest = pieces-with_end xs (All-tail (λ b. b ≢ 10) x xs h) in
    rw (ne_eqb x 10 (All-head (λ b. b ≢ 10) x xs h)) (ap (joined x) rest)

pieces-one : (part : List ℕ) → (part ≢ []) → IsOfOneLine part → pieces part ≡ part ∷ []
pieces-one [] some h = absurd (some refl)
pieces-one (x ∷ xs) some (inl h) = pieces-without_end x xs h
pieces-one (x ∷ xs) some (inr h) = rw h.2 (pieces-with_end h.0 h.1)

-- so the pieces of lines that were finished and of a line after them are the pieces of before and that line
pub pieces-line : (finished part : List ℕ) → IsLines finished → part ≢ [] → IsOfOneLine part
    → pieces (finished ++ part) ≡ pieces finished ++ part ∷ []
pieces-line finished part lines some one =
    pieces-append finished part lines ∙ ap (λ ps. pieces finished ++ ps) (pieces-one part some one)

-- and likewise the lines
pub lines_of-append : (finished part : List ℕ) → IsLines finished → part ≢ [] → IsOfOneLine part
    → lines_of (finished ++ part) ≡ lines_of finished ++ line_of part ∷ []
lines_of-append finished part lines some one =
    ap (map line_of) (pieces-line finished part lines some one) ∙ map-append line_of (pieces finished) (part ∷ [])

-- and those of any bytes after lines that were finished
pub lines_of-more : (finished more : List ℕ) → IsLines finished
    → lines_of (finished ++ more) ≡ lines_of finished ++ lines_of more
lines_of-more finished more lines =
    ap (map line_of) (pieces-append finished more lines) ∙ map-append line_of (pieces finished) (pieces more)

pub lines_of-nil : lines_of [] ≡ []
unfolding pieces
lines_of-nil = refl
