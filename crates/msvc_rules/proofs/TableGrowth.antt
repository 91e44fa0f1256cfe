-- How tables grow, and that an entry of a table does not enter a later one again.
use Rattle.std.proofs.Common.{ℕ, zero, suc, List, [], ◌∷◌, ◌++◌, length, Some, Bool, true, false, cond, nat_lt, ◌≡◌}
use Rattle.std.proofs.Common.{◌≤◌, refl, sym, ap, ◌∙◌, subst, arith, append-nil, append_assoc, length-append, inl, inr}
use Rattle.std.proofs.lemmas.Bool.{le-ltb, ltb-false}
use Rattle.std.specs.List.{list_any}
use Rattle.std.specs.Prelude.{slice_get, if◌then◌else◌, ◌||◌, ◌⊎◌}
use Rattle.msvc_nodes.specs.Trees.{NameTree, TypeTree}
use Rattle.msvc_nodes.specs.Equality.{same_name, same_type}
use Rattle.msvc_nodes.proofs.Decisions.{same_name-is, same_type-is}
use Rattle.msvc_rules.specs.Laws.{GoesOn, trees}
use Rattle.msvc_rules.specs.State.{Entry, most_memorized, with_name, with_type}

pub goes-refl : {A : Type 0} (xs : List A) → GoesOn xs xs
goes-refl xs = ([], sym (append-nil xs))

pub goes-trans : {A : Type 0} (xs ys zs : List A) → GoesOn xs ys → GoesOn ys zs → GoesOn xs zs
goes-trans xs ys zs h k = (h.0 ++ k.0, k.1 ∙ ap (λ z. z ++ k.0) h.1 ∙ append_assoc xs h.0 k.0)

-- a list with one more at its end, unless it is full or has a known one: the form that both tables have
abbrev pub with_one : {A : Type 0} → (A → Bool) → A → List A → List A
with_one known x table =
    if nat_lt (length table) most_memorized
    then (if list_any known table then table else table ++ x ∷ [])
    else table

pub with_one-goes : {A : Type 0} (known : A → Bool) (x : A) (table : List A) → GoesOn table (with_one known x table)
with_one-goes known x table = go (nat_lt (length table) most_memorized) (list_any known table)
  where
    go : (t u : Bool) → GoesOn table (cond t (cond u table (table ++ x ∷ [])) table)
    go true true = goes-refl table
    go true false = (x ∷ [], refl)
    go false u = goes-refl table

or_more : (a b c : Bool) → (a || b) ≡ true → (b ≡ true → c ≡ true) → (a || c) ≡ true
or_more true b c h go = refl
or_more false b c h go = go h

or_right : (a b : Bool) → b ≡ true → (a || b) ≡ true
or_right true b h = refl
or_right false b h = h

any-goes : {A : Type 0} (known : A → Bool) (xs ys : List A) → list_any known xs ≡ true
    → list_any known (xs ++ ys) ≡ true
any-goes known [] ys h = absurd (cc)
any-goes known (x ∷ xs) ys h =
    or_more (known x) (list_any known xs) (list_any known (xs ++ ys)) h (any-goes known xs ys)

any-last : {A : Type 0} (known : A → Bool) (xs : List A) (x : A) → known x ≡ true → list_any known (xs ++ x ∷ []) ≡ true
any-last known [] x h = ap (λ t. t || false) h
any-last known (y ∷ ys) x h = or_right (known y) (list_any known (ys ++ x ∷ [])) (any-last known ys x h)

-- nothing enters the table that is known
abbrev Kept : {A : Type 0} → (A → Bool) → List A → Type 0
Kept known table = (most_memorized ≤ length table) ⊎ (list_any known table ≡ true)

with_one-kept : {A : Type 0} (known : A → Bool) (x : A) (table : List A) → known x ≡ true
    → Kept known (with_one known x table)
with_one-kept known x table h = go (nat_lt (length table) most_memorized) (list_any known table) refl refl
  where
    go : (t u : Bool) → nat_lt (length table) most_memorized ≡ t → list_any known table ≡ u
        → Kept known (cond t (cond u table (table ++ x ∷ [])) table)
    go true true e k = inr k
    go true false e k = inr (any-last known table x h)
    go false u e k = inl (ltb-false (length table) most_memorized e)

kept-goes : {A : Type 0} (known : A → Bool) (xs ys : List A) → Kept known xs → GoesOn xs ys → Kept known ys
kept-goes known xs ys (inl h) g = inl (omega (arith, h, ap length g.1, length-append xs g.0))
kept-goes known xs ys (inr h) g = inr (ap (list_any known) g.1 ∙ any-goes known xs g.0 h)

kept-same : {A : Type 0} (known : A → Bool) (x : A) (table : List A) → Kept known table
    → with_one known x table ≡ table
kept-same known x table (inl h) =
    ap (λ t. cond t (cond (list_any known table) table (table ++ x ∷ [])) table)
    (le-ltb (length table) most_memorized h)
kept-same known x table (inr h) = go (nat_lt (length table) most_memorized) (list_any known table) h
  where
    go : (t u : Bool) → u ≡ true → cond t (cond u table (table ++ x ∷ [])) table ≡ table
    go true true k = refl
    go true false k = absurd (cc)
    go false u k = refl

-- of the trees of a table

trees-length : (es : List Entry) → length (trees es) ≡ length es
unfolding trees
trees-length [] = refl
trees-length (e ∷ es) = ap suc (trees-length es)

trees-any : (known : TypeTree → Bool) (es : List Entry) → list_any known (trees es) ≡ list_any (λ e. known e.entered) es
unfolding trees
trees-any known [] = refl
trees-any known (e ∷ es) = ap (λ t. known e.entered || t) (trees-any known es)

trees-append : (es : List Entry) (e : Entry) → trees (es ++ e ∷ []) ≡ trees es ++ e.entered ∷ []
unfolding trees
trees-append [] e = refl
trees-append (x ∷ es) e = ap (λ z. x.entered ∷ z) (trees-append es e)

pub trees-with : (e : Entry) (es : List Entry)
    → trees (with_type e es) ≡ with_one (same_type e.entered) e.entered (trees es)
trees-with e es =
    go (nat_lt (length es) most_memorized) (list_any (λ k. same_type e.entered k.entered) es)
    ∙ ap (λ n. cond (nat_lt n most_memorized)
    (cond (list_any (λ k. same_type e.entered k.entered) es) (trees es) (trees es ++ e.entered ∷ [])) (trees es))
    (sym (trees-length es))
    ∙ ap (λ u. cond (nat_lt (length (trees es)) most_memorized)
    (cond u (trees es) (trees es ++ e.entered ∷ [])) (trees es))
    (sym (trees-any (same_type e.entered) es))
  where
    go : (t u : Bool) → trees (cond t (cond u es (es ++ e ∷ [])) es)
        ≡ cond t (cond u (trees es) (trees es ++ e.entered ∷ [])) (trees es)
    go true true = refl
    go true false = trees-append es e
    go false u = refl

pub name-again : (n : NameTree) (table later : List NameTree) → GoesOn (with_name n table) later
    → with_name n later ≡ later
name-again n table later g =
    kept-same (same_name n) n later
    (kept-goes (same_name n) (with_name n table) later
    (with_one-kept (same_name n) n table ((same_name-is n n).1 refl)) g)

pub type-again : (e f : Entry) (table later : List Entry) → e.entered ≡ f.entered
    → GoesOn (trees (with_type e table)) (trees later) → with_type f later ≡ later
type-again e f table later same g =
    kept-same (λ k. same_type f.entered k.entered) f later
    (kept_entries (kept-goes (same_type f.entered) (with_one (same_type f.entered) f.entered (trees table))
    (trees later)
    (with_one-kept (same_type f.entered) f.entered (trees table) ((same_type-is f.entered f.entered).1 refl))
    (subst (λ z. GoesOn z (trees later))
    (trees-with e table ∙ ap (λ x. with_one (same_type x) x (trees table)) same) g)))
  where
    kept_entries : Kept (same_type f.entered) (trees later) → Kept (λ (k : Entry). same_type f.entered k.entered) later
    kept_entries (inl h) = inl (omega (arith, h, trees-length later))
    kept_entries (inr h) = inr (sym (trees-any (same_type f.entered) later) ∙ h)

-- entries of tables

pub got-goes : {A : Type 0} (xs ys : List A) (i : ℕ) (x : A) → slice_get xs i ≡ Some x → GoesOn xs ys
    → slice_get ys i ≡ Some x
got-goes xs ys i x h g = ap (λ z. slice_get z i) g.1 ∙ go xs g.0 i x h
  where
    go : {A : Type 0} (xs ys : List A) (i : ℕ) (x : A) → slice_get xs i ≡ Some x → slice_get (xs ++ ys) i ≡ Some x
    go [] ys i x h = absurd (cc)
    go (y ∷ xs) ys zero x h = h
    go (y ∷ xs) ys (suc i) x h = go xs ys i x h

pub got-tree : (es : List Entry) (i : ℕ) (e : Entry) → slice_get es i ≡ Some e → slice_get (trees es) i ≡ Some e.entered
unfolding trees
got-tree [] i e h = absurd (cc)
got-tree (x ∷ es) zero e h = let same : x ≡ e = cc in ap (λ z. Some z.entered) same
got-tree (x ∷ es) (suc i) e h = got-tree es i e h

pub tree-got : (es : List Entry) (i : ℕ) (x : TypeTree) → slice_get (trees es) i ≡ Some x → (e : Entry)
    × (slice_get es i ≡ Some e) × (e.entered ≡ x)
unfolding trees
tree-got [] i x h = absurd (cc)
tree-got (e ∷ es) zero x h = (e, refl, let same : e.entered ≡ x = cc in same)
tree-got (e ∷ es) (suc i) x h = tree-got es i x h
