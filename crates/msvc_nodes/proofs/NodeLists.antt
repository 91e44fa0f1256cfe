-- Lists of nodes whose elements are seen as the same are seen as the same.
use Rattle.std.proofs.Common.{◌≡◌, ℕ, zero, suc, ◌<◌, List, [], ◌∷◌, length, get_or, map, refl, ap, arith}
use Rattle.std.specs.Borrow.{Bor}
use Rattle.msvc_nodes.specs.NodeView.{name_at, type_at}
use Rattle.msvc_nodes.specs.NodeView.{names_in as node_names, types_in as node_types}
use Rattle.msvc_nodes.proofs.TreeSizes.{name_size, names_size, type_size, types_size}
use Rattle.msvc_nodes.specs.Trees.{names, types, name_trees, type_trees}
use Rattle.msvc_nodes.specs.declared.nodes.Name.{Name as NodeName}
use Rattle.msvc_nodes.specs.declared.nodes.Type.{«Type» as NodeType}

pub node_names-map : (xs : List (Bor NodeName)) → node_names xs ≡ name_trees (map name_at xs)
node_names-map [] = refl
node_names-map (x ∷ xs) = ap (names (name_at x)) (node_names-map xs)

pub node_types-map : (xs : List (Bor NodeType)) → node_types xs ≡ type_trees (map type_at xs)
node_types-map [] = refl
node_types-map (x ∷ xs) = ap (types (type_at x)) (node_types-map xs)

-- an element is smaller than the list
pub node_types-size : (xs : List (Bor NodeType)) (d : Bor NodeType) (k : ℕ) → k < length xs
    → type_size (type_at (get_or xs k d)) < types_size (node_types xs)
node_types-size [] d k h = absurd (omega arith)
node_types-size (x ∷ xs) d zero h = omega arith
node_types-size (x ∷ xs) d (suc k) h = let rest = node_types-size xs d k (omega arith) in omega arith

pub node_names-size : (xs : List (Bor NodeName)) (d : Bor NodeName) (k : ℕ) → k < length xs
    → name_size (name_at (get_or xs k d)) < names_size (node_names xs)
node_names-size [] d k h = absurd (omega arith)
node_names-size (x ∷ xs) d zero h = omega arith
node_names-size (x ∷ xs) d (suc k) h = let rest = node_names-size xs d k (omega arith) in omega arith

-- lists that are seen as the same are of one length
pub types_in-length : (xs ys : List (Bor NodeType)) → node_types xs ≡ node_types ys → length xs ≡ length ys
types_in-length [] [] e = refl
types_in-length [] (y ∷ ys) e = cc
types_in-length (x ∷ xs) [] e = cc
types_in-length (x ∷ xs) (y ∷ ys) e =
    let rest : node_types xs ≡ node_types ys = cc in ap suc (types_in-length xs ys rest)

pub names_in-length : (xs ys : List (Bor NodeName)) → node_names xs ≡ node_names ys → length xs ≡ length ys
names_in-length [] [] e = refl
names_in-length [] (y ∷ ys) e = cc
names_in-length (x ∷ xs) [] e = cc
names_in-length (x ∷ xs) (y ∷ ys) e =
    let rest : node_names xs ≡ node_names ys = cc in ap suc (names_in-length xs ys rest)

-- and element by element
pub types_in-at : (xs ys : List (Bor NodeType)) (d e : Bor NodeType) (k : ℕ) → k < length xs
    → node_types xs ≡ node_types ys → type_at (get_or xs k d) ≡ type_at (get_or ys k e)
types_in-at [] ys d e k h s = absurd (omega arith)
types_in-at (x ∷ xs) [] d e k h s = cc
types_in-at (x ∷ xs) (y ∷ ys) d e zero h s = cc
types_in-at (x ∷ xs) (y ∷ ys) d e (suc k) h s =
    let rest : node_types xs ≡ node_types ys = cc in types_in-at xs ys d e k (omega arith) rest

pub names_in-at : (xs ys : List (Bor NodeName)) (d e : Bor NodeName) (k : ℕ) → k < length xs
    → node_names xs ≡ node_names ys → name_at (get_or xs k d) ≡ name_at (get_or ys k e)
names_in-at [] ys d e k h s = absurd (omega arith)
names_in-at (x ∷ xs) [] d e k h s = cc
names_in-at (x ∷ xs) (y ∷ ys) d e zero h s = cc
names_in-at (x ∷ xs) (y ∷ ys) d e (suc k) h s =
    let rest : node_names xs ≡ node_names ys = cc in names_in-at xs ys d e k (omega arith) rest

pub types_in-same : (xs ys : List (Bor NodeType)) → length xs ≡ length ys
    → ((d : Bor NodeType) (k : ℕ) → k < length xs → type_at (get_or xs k d) ≡ type_at (get_or ys k d))
    → node_types xs ≡ node_types ys
types_in-same [] [] n h = refl
types_in-same [] (y ∷ ys) n h = absurd (omega arith)
types_in-same (x ∷ xs) [] n h = absurd (omega arith)
types_in-same (x ∷ xs) (y ∷ ys) n h =
    let here : type_at x ≡ type_at y = h x zero (omega arith) in
    let rest = types_in-same xs ys (omega arith) (λ d k b. h d (suc k) (omega arith)) in cc

pub names_in-same : (xs ys : List (Bor NodeName)) → length xs ≡ length ys
    → ((d : Bor NodeName) (k : ℕ) → k < length xs → name_at (get_or xs k d) ≡ name_at (get_or ys k d))
    → node_names xs ≡ node_names ys
names_in-same [] [] n h = refl
names_in-same [] (y ∷ ys) n h = absurd (omega arith)
names_in-same (x ∷ xs) [] n h = absurd (omega arith)
names_in-same (x ∷ xs) (y ∷ ys) n h =
    let here : name_at x ≡ name_at y = h x zero (omega arith) in
    let rest = names_in-same xs ys (omega arith) (λ d k b. h d (suc k) (omega arith)) in cc
