-- A fact on a symbol holds if the computed reading of its text is what the fact says.
use Rattle.std.proofs.Common.{ℕ, List, Option, Some, None, ◌≡◌, ◌∙◌, codes, refl, subst, sym}
use Rattle.std.specs.Prelude.{option_map}
use Prim.Native.String.{String}
use Rattle.msvc_nodes.specs.Trees.{SymbolTree}
use Rattle.msvc_rules.specs.Counts.{node_count}
use Rattle.msvc_rules.specs.State.{Note, State, beginning}
use Rattle.msvc_grammar.specs.Derived.{Derives}
use Rattle.msvc_grammar.specs.Productions.{symbol}
use Rattle.msvc_grammar.specs.Rejections.{IsNoSymbol}
use Rattle.msvc_grammar.proofs.Laws.{symbol-derived, symbol-rejected}
use Rattle.msvc_print.specs.Declaration.{declaration}
use Rattle.msvc_facts.proofs.Reading.{reading_name, reading_name-is}
use Rattle.msvc_facts.specs.Symbols.{IsCounted, IsRefused, IsShown, IsTree}

abbrev pub Reading : Type 0
Reading = SymbolTree × List ℕ × State

abbrev tree_rest_notes : Reading → SymbolTree × List ℕ × List Note
tree_rest_notes x = (x.0, x.1, x.2.notes)

abbrev count_rest : Reading → ℕ × List ℕ
count_rest x = (node_count x.0, x.1)

-- what is read of a text
abbrev pub read_of : List ℕ → Option Reading
read_of text = reading_name symbol text (beginning text)

pub read-derived : (text : List ℕ) (x : Reading) → read_of text ≡ Some x → Derives text x.0 x.1 x.2.notes
read-derived text x found =
    symbol-derived text x.0 x.1 x.2 (sym (reading_name-is symbol text (beginning text)) ∙ found)

pub read-rejected : (text : List ℕ) → read_of text ≡ None → IsNoSymbol None text
read-rejected text none = symbol-rejected text (sym (reading_name-is symbol text (beginning text)) ∙ none)

-- what holds of each reading that is derived holds of the one that is computed
of_text : {A : Type 0} (text : String) (f : Reading → A) (P : A → Type 0)
    → ((x : Reading) → Derives (codes text) x.0 x.1 x.2.notes → P (f x))
    → (a : A) → option_map f (read_of (codes text)) ≡ Some a → P a
of_text text f P each a e = on (read_of (codes text)) refl e
  where
    on : (o : Option Reading) → read_of (codes text) ≡ o → option_map f o ≡ Some a → P a
    on None found e = absurd (cc)
    on (Some x) found e = let same : f x ≡ a = cc in
        subst P same (each x (read-derived (codes text) x found))

pub is_tree : {text : String} {tree : SymbolTree} {rest : String} {notes : List Note}
    → option_map tree_rest_notes (read_of (codes text)) ≡ Some (tree, codes rest, notes)
    → IsTree text tree rest notes
is_tree {text} {tree} {rest} {notes} e = record {
  derived = of_text text tree_rest_notes (λ p. Derives (codes text) p.0 p.1 p.2) (λ x d. d)
      (tree, codes rest, notes) e;
}

pub is_counted : {text : String} {nodes : ℕ} {rest : String}
    → option_map count_rest (read_of (codes text)) ≡ Some (nodes, codes rest)
    → IsCounted text nodes rest
is_counted {text} {nodes} {rest} e =
    let is = of_text text count_rest
    (λ p. (tree : SymbolTree) × (notes : List Note) × Derives (codes text) tree p.1 notes × (node_count tree ≡ p.0))
    (λ x d. (x.0, x.2.notes, d, refl)) (nodes, codes rest) e in
    record { tree = is.0; notes = is.1; derived = is.2; counted = is.3 }

pub is_shown : {flags : ℕ} {text declared : String}
    → option_map (λ x. declaration x.0 flags) (read_of (codes text)) ≡ Some (codes declared)
    → IsShown flags text declared
is_shown {flags} {text} {declared} e =
    let is = of_text text (λ x. declaration x.0 flags)
    (λ d. (tree : SymbolTree) × (rest : List ℕ) × (notes : List Note) × Derives (codes text) tree rest notes
    × (declaration tree flags ≡ d))
    (λ x d. (x.0, x.1, x.2.notes, d, refl)) (codes declared) e in
    record { tree = is.0; rest = is.1; notes = is.2; derived = is.3; printed = is.4 }

pub is_refused : {text : String} → read_of (codes text) ≡ None → IsRefused text
is_refused {text} none = record { none = read-rejected (codes text) none }
