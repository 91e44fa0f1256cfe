-- Symbols at the starts of a text.
use Rattle.std.proofs.Common.{◌≡◌, ◌≤◌, ◌<◌, ◌+◌, ◌-◌, ◌∙◌, ⊎_elim, ℕ, List, drop, length, take, refl, sym, ap, subst}
use Rattle.std.proofs.Common.{Bool, Some, cond, arith, false, length-take, true}
use Rattle.std.specs.List.{prefix_len, take_while}
use Rattle.std.specs.Str.Lossy.{utf8_valid_len}
use Rattle.msvc_nodes.specs.Trees.{SymbolTree}
use Rattle.msvc_rules.specs.Counts.{node_count}
use Rattle.msvc_rules.specs.Readers.{ranks}
use Rattle.msvc_rules.specs.Rules.{call}
use Rattle.msvc_rules.specs.State.{Note}
use Rattle.msvc_rules.specs.Parsed.{IsParsedIn, IsSymbolLengthIn}
use Rattle.msvc_rules.specs.Reads.{DerivesIn}
use Rattle.msvc_rules.specs.Rejections.{IsNoSymbolIn}
use Rattle.msvc_grammar.specs.Productions.{symbol}
use Rattle.msvc_full_grammar.specs.Productions.{whole_text}
use Rattle.msvc_rules.proofs.Checks.{Fine, consumes}
use Rattle.msvc_rules.proofs.Laws.{derived-only}
use Rattle.msvc_rules.proofs.Progress.{Less, shorter}
use Rattle.msvc_grammar.proofs.Checks as crate
use Rattle.msvc_full_grammar.proofs.Checks as full
use Rattle.msvc_symbol.proofs.Lawful.{lawful_of}
use Rattle.msvc_symbol.specs.Grammars.{Choice, dialect_of}
use Rattle.msvc_symbol.specs.declared.grammar.Grammar.{Grammar}
use Rattle.msvc_symbol.specs.declared.grammar.Grammar.TheVariants.{Crate, Full}
use Rattle.msvc_filter.specs.Colors.{declaration_under, shown_under}
use Rattle.msvc_filter.specs.Filtered.{DerivesUnder, IsNoStart, IsNoneWithin, IsSymbol}
use Rattle.msvc_filter.specs.Filtered.{max_declared, max_nodes}
use Rattle.msvc_filter.specs.SymbolBounds.{candidate, continues, is_trailing_byte}
use Rattle.msvc_filter.specs.SymbolBounds.{is_visible, max_bytes, symbol_extent}

-- a candidate is no longer than what it begins
within : (n : ℕ) (l : List ℕ) → length (take n l) ≤ length l
within n l = omega (arith, length-take n l)

at_most : (a b c d : ℕ) → a ≤ b → b ≤ c → c ≤ d → a ≤ d
at_most a b c d first second third = omega arith

pub candidate-within : (left : List ℕ) → length (candidate left) ≤ length left
candidate-within left =
    let seen = take_while is_visible left in
    let first = take max_bytes seen in
    at_most _ (length first) (length seen) (length left) (within (utf8_valid_len first) first) (within max_bytes seen)
    (within (prefix_len is_visible left) left)

-- a symbol has bytes
symbol-consumes : (g : Grammar) (text : List ℕ) (tree : SymbolTree) (rest : List ℕ) (notes : List Note)
    → DerivesIn (dialect_of g).grammar text tree rest notes → length rest + 1 ≤ length text
unfolding Fine consumes crate.consumer crate.rank full.consumer full.rank
symbol-consumes Crate text tree rest notes d =
    let less : Less text (consumes crate.crate_figures (call symbol)) rest = shorter crate.crate_fit d.1 ranks refl in
    omega arith
symbol-consumes Full text tree rest notes d =
    let less : Less text (consumes full.full_figures (call whole_text)) rest = shorter full.full_fit d.1 ranks refl in
    omega arith

-- the grammar that is chosen derives one tree
derived-one : (how : Choice) (text : List ℕ) (tree other : SymbolTree) (rest remaining : List ℕ)
    (notes others : List Note)
    → DerivesUnder how text tree rest notes → DerivesUnder how text other remaining others
    → (tree ≡ other) × (rest ≡ remaining) × (notes ≡ others)
derived-one how text tree other rest remaining notes others d e =
    derived-only (lawful_of how.grammar).fit text tree other rest remaining notes others d e

-- symbols at one start take as many bytes
as-many : (how : Choice) (left : List ℕ) (tree other : SymbolTree) (rest remaining : List ℕ) (notes others : List Note)
    → DerivesUnder how (candidate left) tree rest notes → DerivesUnder how (candidate left) other remaining others
    → symbol_extent how.grammar left (length (candidate left) - length rest)
    ≡ symbol_extent how.grammar left (length (candidate left) - length remaining)
as-many how left tree other rest remaining notes others d e =
    ap (λ l. symbol_extent how.grammar left (length (candidate left) - length l))
    (derived-one how (candidate left) tree other rest remaining notes others d e).1

-- a symbol that was read
pub symbol-read : (how : Choice) (read : ℕ) (left input : List ℕ) → input ≡ candidate left → (tree : SymbolTree)
    → IsParsedIn (dialect_of how.grammar) input tree → node_count tree ≤ max_nodes
    → IsSymbolLengthIn (dialect_of how.grammar) read input
    → length (declaration_under how tree) ≤ max_declared
    → continues (drop (symbol_extent how.grammar left read) left) ≡ false
    → IsSymbol how left (symbol_extent how.grammar left read) (shown_under how tree)
symbol-read how read left input same tree is nodes read_length short ends =
    let to = (read_length.read_to tree is.rest is.notes is.derived).0 in
    let so_many : read ≡ length (candidate left) - length is.rest = omega (arith, to, ap length same) in
    record {
      tree = tree;
      rest = is.rest;
      notes = is.notes;
      derived = subst (λ l. DerivesUnder how l tree is.rest is.notes) same is.derived;
      nodes = nodes;
      short = short;
      shown = refl;
      takes = ap (symbol_extent how.grammar left) so_many;
      ends = ends;
    }

-- no symbol where it continues after what was read
pub no_symbol-continues : (how : Choice) (read : ℕ) (left input : List ℕ) → input ≡ candidate left → (tree : SymbolTree)
    → IsParsedIn (dialect_of how.grammar) input tree → IsSymbolLengthIn (dialect_of how.grammar) read input
    → continues (drop (symbol_extent how.grammar left read) left) ≡ true → IsNoStart how left
no_symbol-continues how read left input same tree is read_length on bytes other s =
    let here = subst (λ l. DerivesUnder how l tree is.rest is.notes) same is.derived in
    let to = (read_length.read_to tree is.rest is.notes is.derived).0 in
    let so_many : read ≡ length (candidate left) - length is.rest = omega (arith, to, ap length same) in
    let equal : bytes ≡ symbol_extent how.grammar left read =
    s.takes ∙ as-many how left s.tree tree s.rest is.rest s.notes is.notes s.derived here
    ∙ sym (ap (symbol_extent how.grammar left) so_many) in
    let no : true ≡ false = sym on ∙ sym (ap (λ n. continues (drop n left)) equal) ∙ s.ends in cc

-- no symbol where the declaration is too long
no_symbol-long : (how : Choice) (left input : List ℕ) → input ≡ candidate left → (tree : SymbolTree)
    → IsParsedIn (dialect_of how.grammar) input tree → max_declared < length (declaration_under how tree)
    → IsNoStart how left
no_symbol-long how left input same tree is long bytes other s =
    let here = subst (λ l. DerivesUnder how l tree is.rest is.notes) same is.derived in
    let one = derived-one how (candidate left) s.tree tree s.rest is.rest s.notes is.notes s.derived here in
    larger (length (declaration_under how s.tree)) (length (declaration_under how tree)) s.short long
    (ap (λ t. length (declaration_under how t)) one.0)
  where
    larger : (a b : ℕ) → a ≤ max_declared → max_declared < b → a ≡ b → ⊥
    larger a b short long equal = omega arith

-- the bytes that were read of a candidate
pub read-within : (how : Choice) (read : ℕ) (left input : List ℕ) → input ≡ candidate left → (tree : SymbolTree)
    → IsParsedIn (dialect_of how.grammar) input tree → IsSymbolLengthIn (dialect_of how.grammar) read input
    → (0 < read) × (read ≤ length left)
read-within how read left input same tree is read_length =
    let to = (read_length.read_to tree is.rest is.notes is.derived).0 in (
      omega (arith, to, symbol-consumes how.grammar input tree is.rest is.notes is.derived),
      omega (arith, to, ap length same, candidate-within left),
    )

-- and none where no tree of so few nodes is derived from the candidate
no_symbol-many : (how : Choice) (left input : List ℕ) → input ≡ candidate left
    → IsNoSymbolIn (dialect_of how.grammar).grammar (Some max_nodes) input
    → IsNoStart how left
no_symbol-many how left input same none bytes text s =
    let here = subst (λ l. DerivesUnder how l s.tree s.rest s.notes) (sym same) s.derived in
    let many : max_nodes < node_count s.tree = none s.tree s.rest s.notes here in
    omega (arith, many, s.nodes)

-- none where the candidate has no declaration
pub no_symbol-none : (how : Choice) (left input : List ℕ) → input ≡ candidate left → IsNoneWithin how input
    → IsNoStart how left
no_symbol-none how left input same none =
    ⊎_elim (no_symbol-many how left input same)
    (λ long. no_symbol-long how left input same long.0 long.1 long.2) none

-- a start begins with one symbol at most
pub symbol-only : (how : Choice) (left : List ℕ) (bytes others : ℕ) (text other : List ℕ) → IsSymbol how left bytes text
    → IsSymbol how left others other → (others ≡ bytes) × (other ≡ text)
symbol-only how left bytes others text other s t =
    let one = derived-one how (candidate left) t.tree s.tree t.rest s.rest t.notes s.notes t.derived s.derived in (
      t.takes ∙ as-many how left t.tree s.tree t.rest s.rest t.notes s.notes t.derived s.derived ∙ sym s.takes,
      t.shown ∙ ap (shown_under how) one.0 ∙ sym s.shown,
    )

-- whatever is a symbol at a start is the one that the grammar derives
pub symbol-of : (how : Choice) (left : List ℕ) (bytes : ℕ) (text : List ℕ) (tree : SymbolTree) (rest : List ℕ)
    (notes : List Note) → DerivesUnder how (candidate left) tree rest notes → IsSymbol how left bytes text
    → (s : SymbolTree) × (s ≡ tree) × (node_count s ≤ max_nodes)
    × (bytes ≡ symbol_extent how.grammar left (length (candidate left) - length rest))
    × (text ≡ shown_under how tree) × (length (declaration_under how s) ≤ max_declared)
symbol-of how left bytes text tree rest notes d s =
    let one = derived-one how (candidate left) s.tree tree s.rest rest s.notes notes s.derived d in (
      s.tree,
      one.0,
      s.nodes,
      s.takes ∙ as-many how left s.tree tree s.rest rest s.notes notes s.derived d,
      s.shown ∙ ap (shown_under how) one.0,
      s.short,
    )

-- a symbol takes the bytes that were read
extent-least : (g : Grammar) (left : List ℕ) (read : ℕ) → read ≤ symbol_extent g left read
extent-least Full left read = omega arith
extent-least Crate left read = at (is_trailing_byte (drop read left))
  where
    at : (o : Bool) → read ≤ cond o (read + 1) read
    at true = omega arith
    at false = omega arith

-- a symbol takes some byte
pub symbol-consumed : (how : Choice) (left : List ℕ) (bytes : ℕ) (text : List ℕ) → IsSymbol how left bytes text
    → 0 < bytes
symbol-consumed how left bytes text s =
    let some = symbol-consumes how.grammar (candidate left) s.tree s.rest s.notes s.derived in
    let read = length (candidate left) - length s.rest in
    omega (arith, some, s.takes, extent-least how.grammar left read)
