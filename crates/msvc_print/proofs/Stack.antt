-- What pushes onto the stack of work add.
use Rattle.std.proofs.Common.{◌≡◌, ℕ, ◌+◌, List, [], ◌∷◌, ◌++◌, refl, ap, sym, ◌∙◌, arith}
use Rattle.msvc_print.proofs.Settling.{add_all-append, add_all-none, settling}
use Rattle.msvc_print.specs.Limited.{LimitedText, add_all}
use Rattle.msvc_print.specs.Pieces.{Piece}
use Rattle.msvc_print.specs.Work.{Pushes, item_pieces, item_weight, finished, work}
use Rattle.msvc_print.specs.declared.item.Item.{Item}

pub finished-push : (stack : List Item) (item : Item) (out : LimitedText) (flags : ℕ) →
    finished (stack ++ item ∷ []) out flags ≡ finished stack (add_all out (item_pieces item flags)) flags
unfolding finished
finished-push [] item out flags = refl
finished-push (x ∷ xs) item out flags = ap (λ text. add_all text (item_pieces x flags))
    (finished-push xs item out flags)

pub work-push : (stack : List Item) (item : Item) → work (stack ++ item ∷ []) ≡ item_weight item + work stack
unfolding work
work-push [] item = refl
work-push (x ∷ xs) item = omega (arith, work-push xs item)

pub ruleset pushes = (finished-push, work-push, settling)

-- what is finished after a push
pub pushed_one : (s s1 : List Item) (a : Item) (out : LimitedText) (flags : ℕ) → s1 ≡ s ++ a ∷ [] →
    finished s1 out flags ≡ finished s (add_all out (item_pieces a flags)) flags
pushed_one s s1 a out flags e = ap (λ x. finished x out flags) e ∙ finished-push s a out flags

-- and after more than one
pub pushed_two : (s s1 s2 : List Item) (a b : Item) (out : LimitedText) (flags : ℕ) → s1 ≡ s ++ a ∷ [] →
    s2 ≡ s1 ++ b ∷ [] → finished s2 out flags ≡ finished s (add_all out (item_pieces b flags ++ item_pieces a flags))
    flags
pushed_two s s1 s2 a b out flags e e' =
    pushed_one s1 s2 b out flags e' ∙ pushed_one s s1 a _ flags e
    ∙ ap (λ x. finished s x flags) (sym (add_all-append out (item_pieces b flags) (item_pieces a flags)))

pub pushed_three : (s s1 s2 s3 : List Item) (a b c : Item) (out : LimitedText) (flags : ℕ) → s1 ≡ s ++ a ∷ [] →
    s2 ≡ s1 ++ b ∷ [] → s3 ≡ s2 ++ c ∷ [] →
    finished s3 out flags ≡ finished s (add_all out (item_pieces c flags ++ (item_pieces b flags
    ++ item_pieces a flags))) flags
pushed_three s s1 s2 s3 a b c out flags e e' e'' =
    pushed_one s2 s3 c out flags e'' ∙ pushed_two s s1 s2 a b _ flags e e'
    ∙ ap (λ x. finished s x flags)
    (sym (add_all-append out (item_pieces c flags) (item_pieces b flags ++ item_pieces a flags)))

-- what is finished after an item between what two other pushes stand for
pub pushed_around : (s s1 s2 s3 : List Item) (a : Item) (left right : List Piece) (out : LimitedText) (flags : ℕ) →
    Pushes right flags s s1 → s2 ≡ s1 ++ a ∷ [] → Pushes left flags s2 s3 →
    finished s3 out flags ≡ finished s (add_all out (left ++ (item_pieces a flags ++ right))) flags
pushed_around s s1 s2 s3 a left right out flags after e before =
    before out ∙ pushed_one s1 s2 a (add_all out left) flags e
    ∙ after (add_all (add_all out left) (item_pieces a flags))
    ∙ ap (λ x. finished s x flags)
    (sym (add_all-append out left (item_pieces a flags ++ right)
    ∙ add_all-append (add_all out left) (item_pieces a flags) right))

pub work_one : (s s1 : List Item) (a : Item) → s1 ≡ s ++ a ∷ [] → work s1 ≡ item_weight a + work s
work_one s s1 a e = ap work e ∙ work-push s a

pub same_pieces : (s : List Item) (out : LimitedText) (flags : ℕ) (pieces pieces' : List Piece) → pieces ≡ pieces' →
    finished s (add_all out pieces) flags ≡ finished s (add_all out pieces') flags
same_pieces s out flags pieces pieces' e = ap (λ x. finished s (add_all out x) flags) e

pub printed_none : (s : List Item) (out : LimitedText) (flags : ℕ) (pieces : List Piece) → pieces ≡ [] →
    finished s out flags ≡ finished s (add_all out pieces) flags
printed_none s out flags pieces e =
    sym (same_pieces s out flags pieces [] e ∙ ap (λ x. finished s x flags) (add_all-none out))
