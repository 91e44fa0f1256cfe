-- Texts only grow, so a text under a limit is the text without a limit, or that is longer than the limit.
use Rattle.std.proofs.Common.{◌≡◌, ◌≤◌, ◌<◌, ◌∷◌, ◌++◌, [], ℕ, List, Bool, true, false, cond, length, arith}
use Rattle.std.proofs.Common.{length-append, ap, sym, ◌∙◌, refl, leb, le-leb, leb-true, leb-false, Option, Some, None}
use Rattle.std.proofs.Common.{is_some}
use Rattle.msvc_print.specs.Limited.{LimitedText, add_all, limited, settle_within, within}
use Rattle.msvc_print.specs.Pieces.{Piece, blank, is_written_after, last_byte, settle, settle_all, space, text}
use Rattle.msvc_print.specs.Work.{finished, item_pieces}
use Rattle.msvc_print.specs.declared.item.Item.{Item}
use Rattle.msvc_print.specs.declared.spaces.Space.{Space}

settle-longer : (before : List ℕ) (piece : Piece) → length before ≤ length (settle before piece)
settle-longer before (text bytes) = omega (arith, length-append before bytes)
settle-longer before (space s) = at (is_written_after s (last_byte before))
  where
    at : (written : Bool) → length before ≤ length (cond written (before ++ blank ∷ []) before)
    at true = omega (arith, length-append before (blank ∷ []))
    at false = omega arith

longer : (a b c : ℕ) → a ≤ b → b ≤ c → a ≤ c
longer a b c first second = omega arith

pub settle_all-longer : (before : List ℕ) (pieces : List Piece) → length before ≤ length (settle_all before pieces)
unfolding settle_all
settle_all-longer before [] = omega arith
settle_all-longer before (piece ∷ pieces) =
    longer _ _ _ (settle-longer before piece) (settle_all-longer (settle before piece) pieces)

within-fits : (max : ℕ) (bytes : List ℕ) → length bytes ≤ max → within max bytes ≡ Some bytes
within-fits max bytes fits = ap (λ b. cond b (Some bytes) None) (le-leb (length bytes) max fits)

within-exceeds : (max : ℕ) (bytes : List ℕ) → max < length bytes → within max bytes ≡ None
within-exceeds max bytes more = at (leb (length bytes) max) (leb-true (length bytes) max)
  where
    at : (b : Bool) → (b ≡ true → length bytes ≤ max) → cond b (Some bytes) None ≡ None
    at true fits = absurd (omega (arith, fits refl))
    at false fits = refl

-- a piece that the limit allows
pub added : (max : ℕ) (whole : Bool) (before after : List ℕ) (piece : Piece) → settle before piece ≡ after →
    length after ≤ max → limited max whole after ≡ add_all (limited max whole before) (piece ∷ [])
unfolding add_all settle_within
added max true before after piece same fits =
    ap (λ t. record { max = max; text = t }) (sym (ap (within max) same ∙ within-fits max after fits))
added max false before after piece same fits = refl

-- A piece of a text that is not whole, or that the limit does not allow.
pub left_out : (max : ℕ) (whole : Bool) (before : List ℕ) (piece : Piece) →
    (whole ≡ true → max < length (settle before piece)) →
    record { max = max; text = None } ≡ add_all (limited max whole before) (piece ∷ [])
unfolding add_all settle_within
left_out max true before piece more =
    ap (λ t. record { max = max; text = t }) (sym (within-exceeds max (settle before piece) (more refl)))
left_out max false before piece more = refl

-- A space that is written after the last byte of a text.
pub spaced : (out : LimitedText) (kind : Space) (last : ℕ) →
    ((bytes : List ℕ) → out.text ≡ Some bytes → last ≡ last_byte bytes) → is_written_after kind last ≡ true →
    add_all out (text (blank ∷ []) ∷ []) ≡ add_all out (space kind ∷ [])
unfolding add_all settle_within
spaced out kind last last_is is = at out.text last_is
  where
    at : (t : Option (List ℕ)) → ((bytes : List ℕ) → t ≡ Some bytes → last ≡ last_byte bytes) →
        add_all (record { max = out.max; text = t }) (text (blank ∷ []) ∷ [])
        ≡ add_all (record { max = out.max; text = t }) (space kind ∷ [])
    at None last_is = refl
    at (Some before) last_is =
        ap (λ b. record { max = out.max; text = within out.max (cond b (before ++ blank ∷ []) before) })
        (sym (ap (is_written_after kind) (sym (last_is before refl)) ∙ is))

-- A space that is not written after the last byte of a text.
pub not_spaced : (out : LimitedText) (kind : Space) (last : ℕ) →
    ((bytes : List ℕ) → out.text ≡ Some bytes → last ≡ last_byte bytes) →
    ((bytes : List ℕ) → out.text ≡ Some bytes → length bytes ≤ out.max) → is_written_after kind last ≡ false →
    out ≡ add_all out (space kind ∷ [])
unfolding add_all settle_within
not_spaced out kind last last_is fits not = at out.text last_is fits
  where
    at : (t : Option (List ℕ)) → ((bytes : List ℕ) → t ≡ Some bytes → last ≡ last_byte bytes) →
        ((bytes : List ℕ) → t ≡ Some bytes → length bytes ≤ out.max) →
        record { max = out.max; text = t } ≡ add_all (record { max = out.max; text = t }) (space kind ∷ [])
    at None last_is fits = refl
    at (Some before) last_is fits =
        let same : cond (is_written_after kind (last_byte before)) (before ++ blank ∷ []) before ≡ before
        = ap (λ b. cond b (before ++ blank ∷ []) before)
        (ap (is_written_after kind) (sym (last_is before refl)) ∙ not) in
        ap (λ t. record { max = out.max; text = t })
        (sym (ap (within out.max) same ∙ within-fits out.max before (fits before refl)))

-- a text that is not whole stays so
pub add_all-left_out : (max : ℕ) (pieces : List Piece) →
    add_all (record { max = max; text = None }) pieces ≡ record { max = max; text = None }
unfolding add_all settle_within
add_all-left_out max [] = refl
add_all-left_out max (piece ∷ pieces) = add_all-left_out max pieces

finished-left_out : (max : ℕ) (stack : List Item) (flags : ℕ) →
    finished stack (record { max = max; text = None }) flags ≡ record { max = max; text = None }
unfolding finished
finished-left_out max [] flags = refl
finished-left_out max (item ∷ above) flags =
    ap (λ t. add_all t (item_pieces item flags)) (finished-left_out max above flags)
    ∙ add_all-left_out max (item_pieces item flags)

pub none_left : (o : Option (List ℕ)) → is_some o ≡ false → o ≡ None
none_left None e = refl
none_left (Some bytes) e = absurd (cc)

pub finished-not_whole : (stack : List Item) (out : LimitedText) (flags : ℕ) → is_some out.text ≡ false →
    out ≡ finished stack out flags
finished-not_whole stack out flags e =
    let none : out ≡ record { max = out.max; text = None }
    = ap (λ t. record { max = out.max; text = t }) (none_left out.text e) in
    none ∙ sym (finished-left_out out.max stack flags) ∙ ap (λ t. finished stack t flags) (sym none)

-- the text under a limit is the text without one, if that has at most so many bytes
pub add_all-within : (max : ℕ) (before : List ℕ) (pieces : List Piece) → length before ≤ max →
    (add_all (record { max = max; text = Some before }) pieces).text ≡ within max (settle_all before pieces)
unfolding add_all settle_all settle_within
add_all-within max before [] fits = sym (within-fits max before fits)
add_all-within max before (piece ∷ pieces) fits =
    at (leb (length (settle before piece)) max) (leb-true (length (settle before piece)) max)
    (leb-false (length (settle before piece)) max) (add_all-within max (settle before piece) pieces)
  where
    at : (b : Bool) → (b ≡ true → length (settle before piece) ≤ max) →
        (b ≡ false → max < length (settle before piece)) → (length (settle before piece) ≤ max →
        (add_all (record { max = max; text = Some (settle before piece) }) pieces).text
        ≡ within max (settle_all (settle before piece) pieces)) →
        (add_all (record { max = max; text = cond b (Some (settle before piece)) None }) pieces).text
        ≡ within max (settle_all (settle before piece) pieces)
    at true fits more rest = rest (fits refl)
    at false fits more rest =
        ap (λ t. t.text) (add_all-left_out max pieces)
        ∙ sym (within-exceeds max (settle_all (settle before piece) pieces)
        (omega (arith, more refl, settle_all-longer (settle before piece) pieces)))
