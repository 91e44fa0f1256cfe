-- The view of a list is made of the views of its elements.
use Rattle.std.proofs.Common.{◌≡◌, ℕ, zero, suc, ◌<◌, List, [], ◌∷◌, length, get_or, refl, ap, arith}
use Rattle.msvc_nodes.proofs.TreeSizes.{name_size, names_size, type_size, types_size}
use Rattle.msvc_tree.specs.View.{name_of, type_of, names_in, types_in}
use Rattle.msvc_tree.specs.declared.tree.Name.{Name}
use Rattle.msvc_tree.specs.declared.tree.Type.{«Type»}

pub types_in-length : (xs ys : List «Type») → types_in xs ≡ types_in ys → length xs ≡ length ys
types_in-length [] [] e = refl
types_in-length [] (y ∷ ys) e = cc
types_in-length (x ∷ xs) [] e = cc
types_in-length (x ∷ xs) (y ∷ ys) e = let rest : types_in xs ≡ types_in ys = cc in ap suc (types_in-length xs ys rest)

pub types_in-at : (xs ys : List «Type») (d e : «Type») (k : ℕ) → k < length xs → types_in xs ≡ types_in ys
    → type_of (get_or xs k d) ≡ type_of (get_or ys k e)
types_in-at [] ys d e k h s = absurd (omega arith)
types_in-at (x ∷ xs) [] d e k h s = cc
types_in-at (x ∷ xs) (y ∷ ys) d e zero h s = cc
types_in-at (x ∷ xs) (y ∷ ys) d e (suc k) h s =
    let rest : types_in xs ≡ types_in ys = cc in types_in-at xs ys d e k (omega arith) rest

pub types_in-same : (xs ys : List «Type») → length xs ≡ length ys
    → ((d : «Type») (k : ℕ) → k < length xs → type_of (get_or xs k d) ≡ type_of (get_or ys k d))
    → types_in xs ≡ types_in ys
types_in-same [] [] n h = refl
types_in-same [] (y ∷ ys) n h = absurd (omega arith)
types_in-same (x ∷ xs) [] n h = absurd (omega arith)
types_in-same (x ∷ xs) (y ∷ ys) n h =
    let here : type_of x ≡ type_of y = h x zero (omega arith) in
    let rest = types_in-same xs ys (omega arith) (λ d k b. h d (suc k) (omega arith)) in cc

pub names_in-length : (xs ys : List Name) → names_in xs ≡ names_in ys → length xs ≡ length ys
names_in-length [] [] e = refl
names_in-length [] (y ∷ ys) e = cc
names_in-length (x ∷ xs) [] e = cc
names_in-length (x ∷ xs) (y ∷ ys) e = let rest : names_in xs ≡ names_in ys = cc in ap suc (names_in-length xs ys rest)

pub names_in-at : (xs ys : List Name) (d e : Name) (k : ℕ) → k < length xs → names_in xs ≡ names_in ys
    → name_of (get_or xs k d) ≡ name_of (get_or ys k e)
names_in-at [] ys d e k h s = absurd (omega arith)
names_in-at (x ∷ xs) [] d e k h s = cc
names_in-at (x ∷ xs) (y ∷ ys) d e zero h s = cc
names_in-at (x ∷ xs) (y ∷ ys) d e (suc k) h s =
    let rest : names_in xs ≡ names_in ys = cc in names_in-at xs ys d e k (omega arith) rest

pub names_in-same : (xs ys : List Name) → length xs ≡ length ys
    → ((d : Name) (k : ℕ) → k < length xs → name_of (get_or xs k d) ≡ name_of (get_or ys k d))
    → names_in xs ≡ names_in ys
names_in-same [] [] n h = refl
names_in-same [] (y ∷ ys) n h = absurd (omega arith)
names_in-same (x ∷ xs) [] n h = absurd (omega arith)
names_in-same (x ∷ xs) (y ∷ ys) n h =
    let here : name_of x ≡ name_of y = h x zero (omega arith) in
    let rest = names_in-same xs ys (omega arith) (λ d k b. h d (suc k) (omega arith)) in cc

-- an element is smaller than the list
pub types_in-size : (xs : List «Type») (d : «Type») (k : ℕ) → k < length xs
    → type_size (type_of (get_or xs k d)) < types_size (types_in xs)
types_in-size [] d k h = absurd (omega arith)
types_in-size (x ∷ xs) d zero h = omega arith
types_in-size (x ∷ xs) d (suc k) h = let rest = types_in-size xs d k (omega arith) in omega arith

pub names_in-size : (xs : List Name) (d : Name) (k : ℕ) → k < length xs
    → name_size (name_of (get_or xs k d)) < names_size (names_in xs)
names_in-size [] d k h = absurd (omega arith)
names_in-size (x ∷ xs) d zero h = omega arith
names_in-size (x ∷ xs) d (suc k) h = let rest = names_in-size xs d k (omega arith) in omega arith
