-- What names and scopes print, by their parts.
use Rattle.std.proofs.Common.{◌≡◌, ℕ, zero, suc, ◌+◌, ◌<◌, ◌≤◌, List, [], ◌∷◌, ◌++◌, Bool, false}
use Rattle.std.proofs.Common.{length, get_or, take, drop}
use Rattle.std.proofs.Common.{refl, ap, sym, ◌∙◌, ◌-◌, arith, codes}
use Rattle.std.proofs.lemmas.List.{append-nil, append_assoc, take_all}
use Rattle.std.specs.Borrow.{Bor}
use Rattle.msvc_nodes.specs.Trees.{names, no_names}
use Rattle.msvc_nodes.specs.NodeView.{name_of, names_in}
use Rattle.msvc_nodes.specs.declared.nodes.Name.{Name}
use Rattle.msvc_nodes.specs.declared.kinds.SpecialTableKind.TheVariants.{Functions}
use Rattle.msvc_print.specs.Declaration.{name_pieces, scope_pieces, scope_prefix, table_end}
use Rattle.msvc_print.proofs.Settling.{add_all-append, add_all-none, settled_two}
use Rattle.msvc_print.specs.Limited.{LimitedText, add_all}
use Rattle.msvc_print.specs.Pieces.{Piece, text}
use Rattle.msvc_print.proofs.Stack.{work_one}
use Rattle.msvc_print.specs.Weights.{name_weight, scope_weight}
use Rattle.msvc_print.specs.Work.{AddsLess, work}
use Rattle.msvc_print.specs.declared.item.Item.{Item}
use Rattle.msvc_print.specs.declared.item.Item.TheVariants as item

-- the names of a scope up to one begin with that one, and the others stand after it
scope_prefix-last : (ns : List (Bor Name)) (d : Bor Name) (k flags : ℕ) → k < length ns →
    scope_prefix (names_in (take (suc k) ns)) flags
    ≡ (name_pieces (name_of (get_or ns k d).now) false flags ++ text (codes "::") ∷ [])
    ++ scope_prefix (names_in (take k ns)) flags
unfolding scope_pieces
scope_prefix-last [] d k flags in_range = absurd (omega arith)
scope_prefix-last (x ∷ xs) d zero flags in_range = simp (append-nil)
scope_prefix-last (x ∷ xs) d (suc k) flags in_range =
    ap (λ ps. ps ++ (name_pieces (name_of x.now) false flags ++ text (codes "::") ∷ []))
    (scope_prefix-last xs d k flags (omega arith))
    ∙ append_assoc (name_pieces (name_of (get_or xs k d).now) false flags ++ text (codes "::") ∷ [])
    (scope_prefix (names_in (take k xs)) flags) (name_pieces (name_of x.now) false flags ++ text (codes "::") ∷ [])

one_more : (k : ℕ) → 0 < k → k ≡ suc (k - 1)
one_more k some = omega arith

pub scope_prefix-left : (ns : List (Bor Name)) (d : Bor Name) (k flags : ℕ) → 0 < k → k ≤ length ns →
    scope_prefix (names_in (take k ns)) flags
    ≡ (name_pieces (name_of (get_or ns (k - 1) d).now) false flags ++ text (codes "::") ∷ [])
    ++ scope_prefix (names_in (take (k - 1) ns)) flags
scope_prefix-left ns d k flags some fits = ap (λ j. scope_prefix (names_in (take j ns)) flags) (one_more k some)
    ∙ scope_prefix-last ns d (k - 1) flags (omega arith)

-- the last of the names that are left is written with `::` after it
pub written-last : (ns : List (Bor Name)) (d : Bor Name) (k flags : ℕ) (out out1 out2 : LimitedText) → 0 < k →
    k ≤ length ns → out1 ≡ add_all out (name_pieces (name_of (get_or ns (k - 1) d).now) false flags) →
    out2 ≡ add_all out1 (text (codes "::") ∷ []) →
    add_all out2 (scope_prefix (names_in (take (k - 1) ns)) flags)
    ≡ add_all out (scope_prefix (names_in (take k ns)) flags)
written-last ns d k flags out out1 out2 some fits e e' =
    ap (λ x. add_all x (scope_prefix (names_in (take (k - 1) ns)) flags)) (settled_two _ _ _ _ _ e e')
    ∙ sym (add_all-append out _ _) ∙ ap (add_all out) (sym (scope_prefix-left ns d k flags some fits))

pub scope_prefix-none : (ns : List (Bor Name)) (flags : ℕ) → scope_prefix (names_in (take 0 ns)) flags ≡ []
unfolding scope_pieces
scope_prefix-none ns flags = refl

pub scope_prefix-empty : (ns : List (Bor Name)) (flags : ℕ) → length ns < 1 → scope_prefix (names_in ns) flags ≡ []
unfolding scope_pieces
scope_prefix-empty [] flags none = refl
scope_prefix-empty (x ∷ xs) flags none = absurd (omega arith)

-- where no name is left, all of the scope is written
pub written-all : (ns : List (Bor Name)) (k flags : ℕ) (out out1 : LimitedText) → k ≡ 0 →
    add_all out1 (scope_prefix (names_in (take k ns)) flags) ≡ add_all out (scope_prefix (names_in ns) flags) →
    out1 ≡ add_all out (scope_prefix (names_in ns) flags)
written-all ns k flags out out1 none e =
    sym (add_all-none out1)
    ∙ ap (add_all out1) (sym (ap (λ j. scope_prefix (names_in (take j ns)) flags) none ∙ scope_prefix-none ns flags))
    ∙ e

-- the last of some names of a scope weighs more than those before it
scope_weight-last : (ns : List (Bor Name)) (d : Bor Name) (k : ℕ) → k < length ns →
    scope_weight (names_in (take (suc k) ns))
    ≡ 3 + name_weight (name_of (get_or ns k d).now) + scope_weight (names_in (take k ns))
unfolding scope_weight
scope_weight-last [] d k in_range = absurd (omega arith)
scope_weight-last (x ∷ xs) d zero in_range = refl
scope_weight-last (x ∷ xs) d (suc k) in_range = omega (arith, scope_weight-last xs d k (omega arith))

scope_weight-left : (ns : List (Bor Name)) (d : Bor Name) (k : ℕ) → 0 < k → k ≤ length ns →
    scope_weight (names_in (take k ns))
    ≡ 3 + name_weight (name_of (get_or ns (k - 1) d).now) + scope_weight (names_in (take (k - 1) ns))
scope_weight-left ns d k some fits = ap (λ j. scope_weight (names_in (take j ns))) (one_more k some)
    ∙ scope_weight-last ns d (k - 1) (omega arith)

pub lightened-last : (ns : List (Bor Name)) (d : Bor Name) (k : ℕ) (s s' : List Item) → 0 < k → k ≤ length ns →
    AddsLess (name_weight (name_of (get_or ns (k - 1) d).now)) s s' →
    3 + work s' + scope_weight (names_in (take (k - 1) ns)) < scope_weight (names_in (take k ns)) + work s
lightened-last ns d k s s' some fits h = omega (arith, scope_weight-left ns d k some fits)

-- fewer names weigh no more
pub scope_weight-fewer : (ns : List (Bor Name)) (k : ℕ) →
    scope_weight (names_in (take k ns)) ≤ scope_weight (names_in ns)
unfolding scope_weight
scope_weight-fewer [] zero = omega arith
scope_weight-fewer [] (suc k) = omega arith
scope_weight-fewer (x ∷ xs) zero = omega arith
scope_weight-fewer (x ∷ xs) (suc k) = omega (arith, scope_weight-fewer xs k)

pub scope_weight-positive : (ns : List (Bor Name)) → 0 < scope_weight (names_in ns)
unfolding scope_weight
scope_weight-positive [] = omega arith
scope_weight-positive (x ∷ xs) = omega arith

-- a scope is empty, or it is its innermost name and the others
pub names_in-none : (ns : List (Bor Name)) → length ns < 1 → names_in ns ≡ no_names
names_in-none [] none = refl
names_in-none (x ∷ xs) none = absurd (omega arith)

pub names_in-first : (ns : List (Bor Name)) (d : Bor Name) → 1 ≤ length ns →
    names_in ns ≡ names (name_of (get_or ns 0 d).now) (names_in (take (length ns - 1) (drop 1 ns)))
names_in-first [] d some = absurd (omega arith)
names_in-first (x ∷ xs) d some =
    let one : suc (length xs) - 1 ≡ length xs = omega arith in
    ap (λ ys. names (name_of x.now) (names_in ys))
    (sym (ap (λ k. take k xs) one ∙ take_all (length xs) xs (omega arith)))

-- the innermost name of a scope weighs less than the scope, by the others
pub work-first : (ns : List (Bor Name)) (d : Bor Name) (of_symbol : Bool) (s s' : List Item) → 1 ≤ length ns →
    s' ≡ s ++ item.Name (get_or ns 0 d) of_symbol ∷ [] →
    3 + work s' + scope_weight (names_in (take (length ns - 1) (drop 1 ns))) ≡ scope_weight (names_in ns) + work s
unfolding scope_weight
work-first ns d of_symbol s s' some e =
    omega (arith, work_one s s' (item.Name (get_or ns 0 d) of_symbol) e, ap scope_weight (names_in-first ns d some))

-- a table of virtual functions that is for a scope says so
pub table_end-some : (ns : List (Bor Name)) (path : List Piece) → 1 ≤ length ns →
    table_end Functions (names_in ns) path ≡ text (codes "{for `") ∷ (path ++ text (codes "'}") ∷ [])
unfolding table_end
table_end-some [] path some = absurd (omega arith)
table_end-some (x ∷ xs) path some = refl
