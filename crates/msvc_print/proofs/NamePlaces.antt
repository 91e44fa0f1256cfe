-- Where the name of a symbol stands in what is printed: what is written before it, with it, and after it.
use Rattle.std.proofs.Common.{◌≡◌, ◌-◌, ℕ, List, [], ◌∷◌, ◌++◌, Bool, true, false, ap, refl, sym, ◌∙◌, arith}
use Rattle.std.proofs.Common.{cond, is_some, leb, length, length-append, Option, Some, None}
use Rattle.std.proofs.lemmas.Grind.{fold-append}
use Rattle.std.proofs.lemmas.List.{get_or_push}
use Rattle.msvc_nodes.specs.NodeView.{type_of, typed_symbol_of}
use Rattle.msvc_nodes.specs.declared.nodes.TypedSymbol.{TypedSymbol}
use Rattle.msvc_print.proofs.Halves.{left-before, symbol_pieces-halves}
use Rattle.msvc_print.proofs.Longer.{add_all-left_out, add_all-within, settle_all-longer}
use Rattle.msvc_print.proofs.PrinterLoop.{finished-none}
use Rattle.msvc_print.proofs.Settling.{add_all-append}
use Rattle.msvc_print.proofs.SimpleTypes.{add_all-not_whole}
use Rattle.msvc_print.specs.Declaration.{declaration}
use Rattle.msvc_print.specs.Halves.{after}
use Rattle.msvc_print.specs.Limited.{LimitedText, add_all, empty_within, settle_within, within}
use Rattle.msvc_print.specs.NamePlaces.{IsNamePlace, before_name, up_to_name}
use Rattle.msvc_print.specs.Operators.{scoped}
use Rattle.msvc_print.specs.Pieces.{Piece, blank, is_written_after, last_byte, resolve, settle, settle_all, space}
use Rattle.msvc_print.specs.Sides.{kept_left}
use Rattle.msvc_print.specs.SymbolNodes.{left_of, own_name_of, right_of}
use Rattle.msvc_print.specs.Words.{name_space}
use Rattle.msvc_print.specs.Work.{Pushes, finished}
use Rattle.msvc_print.specs.declared.item.Item.{Item}
use Rattle.msvc_print.specs.declared.operators.NameKind.{NameKind}
use Rattle.msvc_print.specs.declared.operators.NameKind.TheVariants as kinds
use Rattle.msvc_print.specs.declared.pointed.Pointed.TheVariants.{No}
use Rattle.msvc_print.specs.declared.spaces.Space.{Space}
use Rattle.msvc_print.specs.declared.spaces.Space.TheVariants.{AfterPointer, AfterReference, AfterWord, UnlessOpen}
use Rattle.msvc_print.specs.declared.spaces.Space.TheVariants.{AfterAngle, AfterFullPointer, AfterFullReference}
use Rattle.msvc_print.specs.declared.spaces.Space.TheVariants.{AfterFullWord}

-- A space that was settled is not written again.
none_after_blank : (s : Space) → is_written_after s blank ≡ false
none_after_blank AfterWord = refl
none_after_blank AfterReference = refl
none_after_blank AfterPointer = refl
none_after_blank UnlessOpen = refl
none_after_blank AfterAngle = refl
none_after_blank AfterFullWord = refl
none_after_blank AfterFullReference = refl
none_after_blank AfterFullPointer = refl

last-blank : (text : List ℕ) → last_byte (text ++ blank ∷ []) ≡ blank
last-blank text = get_or_push text blank 0 (length (text ++ blank ∷ []) - 1) (omega (arith, length-append text (blank ∷ [])))

settle-again : (text : List ℕ) (s : Space) → settle (settle text (space s)) (space s) ≡ settle text (space s)
settle-again text s = at (is_written_after s (last_byte text)) refl
  where
    at : (written : Bool) → is_written_after s (last_byte text) ≡ written →
        settle (cond written (text ++ blank ∷ []) text) (space s) ≡ cond written (text ++ blank ∷ []) text
    at true e = ap (λ b. cond b ((text ++ blank ∷ []) ++ blank ∷ []) (text ++ blank ∷ []))
        (ap (is_written_after s) (last-blank text) ∙ none_after_blank s)
    at false e = ap (λ b. cond b (text ++ blank ∷ []) text) e

settle_all-append : (text : List ℕ) (xs ys : List Piece) →
    settle_all text (xs ++ ys) ≡ settle_all (settle_all text xs) ys
unfolding settle_all
settle_all-append text xs ys = fold-append settle text xs ys

settle_all-first : (text : List ℕ) (piece : Piece) (pieces : List Piece) →
    settle_all text (piece ∷ pieces) ≡ settle_all (settle text piece) pieces
unfolding settle_all
settle_all-first text piece pieces = refl

settle_all-one : (text : List ℕ) (piece : Piece) → settle_all text (piece ∷ []) ≡ settle text piece
unfolding settle_all
settle_all-one text piece = refl

settle_all-again : (text : List ℕ) (s : Space) (rest : List Piece) →
    settle_all (settle text (space s)) (space s ∷ rest) ≡ settle_all text (space s ∷ rest)
settle_all-again text s rest = settle_all-first (settle text (space s)) (space s) rest
    ∙ ap (λ t. settle_all t rest) (settle-again text s) ∙ sym (settle_all-first text (space s) rest)

-- a name begins with its space
scoped-spaced : (text : List ℕ) (kind : NameKind) (prefix path name : List Piece) (flags : ℕ) →
    settle_all (settle text (space (name_space flags))) (scoped kind prefix path name flags)
    ≡ settle_all text (scoped kind prefix path name flags)
unfolding scoped
scoped-spaced text kinds.Literal prefix path name flags = settle_all-again text (name_space flags) _
scoped-spaced text _ prefix path name flags = settle_all-again text (name_space flags) _

-- A text that has lost a piece stays so, and one that is whole was whole before.
stays-left_out : (out : LimitedText) (pieces : List Piece) → is_some out.text ≡ false →
    is_some (add_all out pieces).text ≡ false
stays-left_out out pieces e = ap (λ t. is_some t.text) (sym (add_all-not_whole out pieces e)) ∙ e

pub whole-before : (out : LimitedText) (pieces : List Piece) → is_some (add_all out pieces).text ≡ true →
    is_some out.text ≡ true
whole-before out pieces e = at (is_some out.text) refl
  where
    at : (b : Bool) → is_some out.text ≡ b → is_some out.text ≡ true
    at true is = is
    at false is = let no : true ≡ false = sym e ∙ stays-left_out out pieces is in absurd (cc)

-- a run over what was pushed onto an empty stack
pub ran : (s s1 : List Item) (out out1 : LimitedText) (pieces : List Piece) (flags : ℕ) → s ≡ [] →
    Pushes pieces flags s s1 → out1 ≡ finished s1 out flags → out1 ≡ add_all out pieces
ran s s1 out out1 pieces flags empty pushed done =
    done ∙ pushed out ∙ finished-none s (add_all out pieces) flags empty

-- a whole text is what was there, with the pieces settled after it
grew : (max : ℕ) (text : List ℕ) (pieces : List Piece) (after : List ℕ) →
    (add_all (record { max = max; text = Some text }) pieces).text ≡ Some after → after ≡ settle_all text pieces
unfolding add_all settle_all settle_within
grew max text [] after e = cc
grew max text (piece ∷ pieces) after e =
    at (leb (length (settle text piece)) max) (grew max (settle text piece) pieces after) e
  where
    at : (fits : Bool) →
        ((add_all (record { max = max; text = Some (settle text piece) }) pieces).text ≡ Some after →
        after ≡ settle_all (settle text piece) pieces) →
        (add_all (record { max = max; text = cond fits (Some (settle text piece)) None }) pieces).text ≡ Some after →
        after ≡ settle_all (settle text piece) pieces
    at true so e = so e
    at false so e =
        let no : None ≡ Some after = sym (ap (λ t. t.text) (add_all-left_out max pieces)) ∙ e in absurd (cc)

grew-from : (out out1 : LimitedText) (pieces : List Piece) (text after : List ℕ) → out1 ≡ add_all out pieces →
    out.text ≡ Some text → out1.text ≡ Some after → after ≡ settle_all text pieces
grew-from out out1 pieces text after e is is1 = grew out.max text pieces after
    (ap (λ t. (add_all (record { max = out.max; text = t }) pieces).text) (sym is) ∙ ap (λ o. o.text) (sym e) ∙ is1)

some-text : (o : Option (List ℕ)) → is_some o ≡ true → (text : List ℕ) × (o ≡ Some text)
some-text None e = absurd (cc)
some-text (Some text) e = (text, refl)

-- What the three runs have written: the left side and the space, then the name, then the right side.
pub record Ran (t : TypedSymbol) (flags max : ℕ) (spaced named all : LimitedText) : Type 0 where
  pub is_spaced : spaced ≡ add_all (add_all (empty_within max) (left_of t flags)) (space (name_space flags) ∷ [])
  pub is_named : named ≡ add_all spaced (own_name_of t flags)
  pub is_all : all ≡ add_all named (right_of t flags)

-- the texts up to the name, up to its end, and the declaration
first-text : (t : TypedSymbol) (flags : ℕ) → settle_all [] (left_of t flags ++ space (name_space flags) ∷ [])
    ≡ before_name (typed_symbol_of t) flags
unfolding before_name
first-text t flags = sym (ap (λ l. resolve (kept_left l flags ++ space (name_space flags) ∷ []))
    (left-before (type_of t.symbol_type.now) No flags))

spaced-text : (t : TypedSymbol) (flags : ℕ) → settle (settle_all [] (left_of t flags)) (space (name_space flags))
    ≡ before_name (typed_symbol_of t) flags
spaced-text t flags =
    sym (settle_all-append [] (left_of t flags) (space (name_space flags) ∷ [])
    ∙ settle_all-one (settle_all [] (left_of t flags)) (space (name_space flags)))
    ∙ first-text t flags

named-text : (t : TypedSymbol) (flags : ℕ) → settle_all (before_name (typed_symbol_of t) flags) (own_name_of t flags)
    ≡ up_to_name (typed_symbol_of t) flags
unfolding up_to_name
named-text t flags =
    ap (λ text. settle_all text (own_name_of t flags)) (sym (spaced-text t flags))
    ∙ scoped-spaced (settle_all [] (left_of t flags)) _ _ _ _ flags
    ∙ sym (settle_all-append [] (left_of t flags) (own_name_of t flags))
    ∙ sym (ap (λ l. resolve (kept_left l flags ++ own_name_of t flags))
    (left-before (type_of t.symbol_type.now) No flags))

all-text : (t : TypedSymbol) (flags : ℕ) → settle_all (up_to_name (typed_symbol_of t) flags) (right_of t flags)
    ≡ declaration (typed_symbol_of t) flags
unfolding declaration up_to_name
all-text t flags =
    ap (λ l. settle_all (resolve (kept_left l flags ++ own_name_of t flags)) (right_of t flags))
    (left-before (type_of t.symbol_type.now) No flags)
    ∙ ap (λ text. settle_all text (right_of t flags)) (settle_all-append [] (left_of t flags) (own_name_of t flags))
    ∙ sym (settle_all-append (settle_all [] (left_of t flags)) (own_name_of t flags) (right_of t flags))
    ∙ sym (settle_all-append [] (left_of t flags) (own_name_of t flags ++ right_of t flags))
    ∙ sym (ap resolve (symbol_pieces-halves _ _ (type_of t.symbol_type.now) No flags))

-- the text that is left at the end
pub ran-text : (t : TypedSymbol) (flags max : ℕ) (spaced named all : LimitedText) → Ran t flags max spaced named all →
    all.text ≡ within max (declaration (typed_symbol_of t) flags)
ran-text t flags max spaced named all r =
    let first : List Piece = left_of t flags ++ space (name_space flags) ∷ [] in
    let later : List Piece = own_name_of t flags ++ right_of t flags in
    let joined : all ≡ add_all (empty_within max) (first ++ later) =
    r.is_all ∙ ap (λ o. add_all o (right_of t flags)) r.is_named
    ∙ sym (add_all-append spaced (own_name_of t flags) (right_of t flags))
    ∙ ap (λ o. add_all o later) (r.is_spaced
    ∙ sym (add_all-append (empty_within max) (left_of t flags) (space (name_space flags) ∷ [])))
    ∙ sym (add_all-append (empty_within max) first later) in
    let settled : settle_all [] (first ++ later) ≡ declaration (typed_symbol_of t) flags =
    settle_all-append [] first later
    ∙ settle_all-append (settle_all [] first) (own_name_of t flags) (right_of t flags)
    ∙ ap (λ text. settle_all (settle_all text (own_name_of t flags)) (right_of t flags)) (first-text t flags)
    ∙ ap (λ text. settle_all text (right_of t flags)) (named-text t flags)
    ∙ all-text t flags in
    ap (λ o. o.text) joined ∙ add_all-within max [] (first ++ later) (omega arith) ∙ ap (within max) settled

-- the place of the name in a text that is whole
pub ran-place : (t : TypedSymbol) (flags max start end : ℕ) (spaced named all : LimitedText) →
    Ran t flags max spaced named all → is_some all.text ≡ true →
    ((bytes : List ℕ) → spaced.text ≡ Some bytes → start ≡ length bytes) →
    ((bytes : List ℕ) → named.text ≡ Some bytes → end ≡ length bytes) →
    IsNamePlace (typed_symbol_of t) flags (record { start = start; end = end })
ran-place t flags max start end spaced named all r whole starts ends =
    let named_whole : is_some named.text ≡ true =
    whole-before named (right_of t flags) (ap (λ o. is_some o.text) (sym r.is_all) ∙ whole) in
    let spaced_whole : is_some spaced.text ≡ true =
    whole-before spaced (own_name_of t flags) (ap (λ o. is_some o.text) (sym r.is_named) ∙ named_whole) in
    let a = some-text spaced.text spaced_whole in
    let b = some-text named.text named_whole in
    let c = some-text all.text whole in
    let first : List Piece = left_of t flags ++ space (name_space flags) ∷ [] in
    let from : spaced ≡ add_all (empty_within max) first =
    r.is_spaced ∙ sym (add_all-append (empty_within max) (left_of t flags) (space (name_space flags) ∷ [])) in
    let is_first : a.0 ≡ before_name (typed_symbol_of t) flags =
    grew-from (empty_within max) spaced first [] a.0 from refl a.1 ∙ first-text t flags in
    let so_far : b.0 ≡ settle_all a.0 (own_name_of t flags) =
    grew-from spaced named (own_name_of t flags) a.0 b.0 r.is_named a.1 b.1 in
    let is_named : b.0 ≡ up_to_name (typed_symbol_of t) flags =
    so_far ∙ ap (λ text. settle_all text (own_name_of t flags)) is_first ∙ named-text t flags in
    let at_end : c.0 ≡ settle_all b.0 (right_of t flags) =
    grew-from named all (right_of t flags) b.0 c.0 r.is_all b.1 c.1 in
    let is_all : c.0 ≡ declaration (typed_symbol_of t) flags =
    at_end ∙ ap (λ text. settle_all text (right_of t flags)) is_named ∙ all-text t flags in
    record {
      is = ap (λ n. record { start = n; end = end }) (starts a.0 a.1 ∙ ap length is_first)
          ∙ ap (λ n. record { start = length (before_name (typed_symbol_of t) flags); end = n })
          (ends b.0 b.1 ∙ ap length is_named);
      ordered = omega (arith, starts a.0 a.1, ends b.0 b.1, ap length so_far, settle_all-longer a.0 (own_name_of t flags));
      inside = omega (
        arith,
        ends b.0 b.1,
        ap length is_all,
        ap length at_end,
        settle_all-longer b.0 (right_of t flags),
      );
    }
