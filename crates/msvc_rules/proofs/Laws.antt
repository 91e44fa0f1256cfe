-- The laws of rules for a text read from its start: what is read is derived, and nothing else is; and what back
-- references require of the grammar.
use Rattle.std.proofs.Common.{ℕ, List, [], ◌++◌, length, Some, None, ◌≡◌, ◌-◌, refl, sym, ap, ◌∙◌, subst, arith}
use Rattle.std.proofs.Common.{length-append}
use Rattle.msvc_nodes.specs.Trees.{SymbolTree}
use Rattle.msvc_rules.specs.Laws.{HasOneTreeIn, SameTables}
use Rattle.msvc_rules.specs.Readers.{read_name_in, read_in, read_by}
use Rattle.msvc_rules.specs.Reads.{Reads, set_apart, DerivesIn}
use Rattle.msvc_rules.specs.Rules.{Grammar, Rule, call, apart}
use Rattle.msvc_rules.specs.Sorts.{Sort, Value}
use Rattle.msvc_rules.specs.State.{State, Note, beginning}
use Rattle.msvc_rules.proofs.Checks.{Figures, Fit}
use Rattle.msvc_rules.proofs.Completeness.{name-complete, only}
use Rattle.msvc_rules.proofs.CountsMonotone.{uncounted_allowed}
use Rattle.msvc_rules.proofs.PrefixClosed.{cut_text, less}
use Rattle.msvc_rules.proofs.Soundness.{if_is, Derived, read-sound}

module _ {G : Grammar} {F : Figures G} (C : Fit F) where
  -- what is read is derived
  pub symbol-derived : (text : List ℕ) (tree : SymbolTree) (rest : List ℕ) (s : State)
      → read_name_in G G.start text (beginning text) ≡ Some (tree, rest, s)
      → DerivesIn G text tree rest s.notes
  unfolding read_in read_by
  symbol-derived text tree rest s e = (
    s,
    if_is (Derived G (call G.start) text (beginning text)) (read_in G (call G.start) text (beginning text))
        (tree, rest, s) e
        (read-sound G (call G.start) text (beginning text)),
    refl,
  )

  -- where nothing is read, nothing is derived
  pub symbol-rejected : (text : List ℕ) → read_name_in G G.start text (beginning text) ≡ None
      → (tree : SymbolTree) (rest : List ℕ) (notes : List Note) → DerivesIn G text tree rest notes → ⊥
  symbol-rejected text none tree rest notes d =
      let some : read_name_in G G.start text (beginning text) ≡ Some (tree, rest, d.0) =
      name-complete C G.start text (beginning text) tree rest d.0 d.1 (uncounted_allowed G d.1 refl) in absurd (cc)

  -- a text has one tree at most, with one rest and the same notes
  pub derived-only : (text : List ℕ) → HasOneTreeIn G text
  derived-only text tree other rest remaining notes others d e =
      let same : (tree ≡ other) × (rest ≡ remaining) × (d.0 ≡ e.0) =
      only C G.start text (beginning text) tree other rest remaining d.0 e.0 refl d.1 e.1 in
      (same.0, same.1, sym d.2 ∙ ap (λ (s : State). s.notes) same.2 ∙ e.2)

  -- the text that was read, cut after its last byte, has the same tree and the same notes, and no rest
  pub derived-alone : (text tail : List ℕ) (tree : SymbolTree) (rest : List ℕ) (notes : List Note) → text ≡ tail ++ rest
      → DerivesIn G text tree rest notes
      → DerivesIn G tail tree [] notes
  derived-alone text tail tree rest notes e d =
      let whole : Reads G _ (call G.start) (tail ++ rest) (beginning text) tree rest d.0 =
      subst (λ z. Reads G _ (call G.start) z (beginning text) tree rest d.0) e d.1 in
      let size : length text - length rest ≡ length tail = omega (arith, ap length e, length-append tail rest) in (
        less (length rest) d.0,
        subst (λ n. Reads G _ (call G.start) tail (record (beginning text) { whole = n }) tree []
            (less (length rest) d.0))
            size (cut_text C G.start tail rest (beginning text) tree d.0 whole),
        d.2,
      )

  -- what is read with tables of its own leaves those before it
  pub apart-hands-back : {a : Sort} {r : Rule G.family a} {left : List ℕ} {s : State} {v : Value a} {rest : List ℕ}
      {t : State}
      → Reads G a (apart r) left s v rest t → SameTables t s
  apart-hands-back (set_apart d) = (refl, refl)
