-- The first and the last moment of the loop.
use Rattle.std.proofs.Common.{◌≡◌, ◌≤◌, ◌<◌, ℕ, List, [], Bool, true, false, length, ap, ◌∙◌, arith}
use Rattle.std.proofs.Common.{cond, is_some, leb, leb-true, leb-false, Option, Some, None, refl, subst, sym}
use Rattle.msvc_nodes.specs.NodeView.{typed_symbol_of}
use Rattle.msvc_nodes.specs.declared.nodes.TypedSymbol.{TypedSymbol}
use Rattle.msvc_print.proofs.Longer.{add_all-within}
use Rattle.msvc_print.specs.Declaration.{declaration}
use Rattle.msvc_print.specs.Limited.{LimitedText, add_all, empty_within, within}
use Rattle.msvc_print.specs.SymbolNodes.{symbol_pieces_of}
use Rattle.msvc_print.specs.Within.{IsPrintedWithin}
use Rattle.msvc_print.specs.Work.{finished}
use Rattle.msvc_print.specs.declared.item.Item.{Item}
use Rattle.msvc_print.specs.declared.pointed.Pointed.TheVariants.{No}

pub finished-none : (stack : List Item) (out : LimitedText) (flags : ℕ) → stack ≡ [] → finished stack out flags ≡ out
unfolding finished
finished-none stack out flags e = ap (λ s. finished s out flags) e

-- a symbol that is written to an empty text
pub written_typed_symbol : (t : TypedSymbol) (flags max : ℕ) (out out1 : LimitedText) → out ≡ empty_within max →
    out1 ≡ add_all out (symbol_pieces_of t No flags) → out1.text ≡ within max (declaration (typed_symbol_of t) flags)
unfolding declaration
written_typed_symbol t flags max out out1 empty written =
    ap (λ x. x.text) (written ∙ ap (λ x. add_all x (symbol_pieces_of t No flags)) empty)
    ∙ add_all-within max [] (symbol_pieces_of t No flags) (omega arith)

-- what stands of a text under a limit, and whether the text has at most so many bytes
printed-within-limit : (max : ℕ) (text : List ℕ) →
    IsPrintedWithin max text (is_some (within max text)) (within max text)
printed-within-limit max text =
    at (leb (length text) max) (leb-true (length text) max) (leb-false (length text) max)
  where
    at : (b : Bool) → (b ≡ true → length text ≤ max) → (b ≡ false → max < length text) →
        IsPrintedWithin max text (is_some (cond b (Some text) None)) (cond b (Some text) None)
    at true fits more = record { whole = λ within. (refl, fits refl); longer = λ beyond. absurd (cc) }
    at false fits more = record { whole = λ within. absurd (cc); longer = λ beyond. more refl }

-- the same of the text that the loop left
pub printed-within : (max : ℕ) (text : List ℕ) (is : Bool) (out : LimitedText) (printed : Option (List ℕ)) →
    printed ≡ out.text → is ≡ is_some out.text → out.text ≡ within max text → IsPrintedWithin max text is printed
printed-within max text is out printed same tested all =
    subst (λ b. IsPrintedWithin max text b printed) (sym (tested ∙ ap is_some all))
    (subst (λ o. IsPrintedWithin max text (is_some (within max text)) o) (sym (same ∙ all))
    (printed-within-limit max text))
