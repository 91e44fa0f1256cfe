-- What the readers cite beside the step lemmas: views of nodes, and searches in a table of names or types.
use Rattle.std.proofs.Common.{ℕ, ℤ, suc, List, [], ◌∷◌, ◌++◌, length, Bool, true, false, ◌≡◌, ◌<◌, refl, sym, ap}
use Rattle.std.proofs.Common.{drop, get_or, drop-cons}
use Rattle.std.specs.Borrow.{Bor}
use Rattle.std.specs.Prelude.{map}
use Rattle.std.specs.List.{list_any}
use Rattle.msvc_nodes.specs.Trees.{TypeTree, array, names, name_trees, types, type_trees}
use Rattle.msvc_nodes.specs.NodeView.{name_at, type_at, names_in, types_in}
use Rattle.msvc_nodes.specs.declared.nodes.Name.{Name}
use Rattle.msvc_nodes.specs.declared.nodes.Type.{«Type»}
use Rattle.msvc_nodes.specs.NodeView.{typed_symbol_of, name_of, type_of}
use Rattle.msvc_nodes.specs.declared.nodes.TypedSymbol.{TypedSymbol}
use Rattle.msvc_nodes.proofs.NodeViews.{name_of-Template, name_of-Nested, type_of-Tagged, type_of-Function}
use Rattle.msvc_nodes.proofs.NodeViews.{type_of-MemberFunction, type_of-MemberPointer, type_of-Table}
use Rattle.std.proofs.Common.{cond, ◌∙◌}
use Rattle.std.specs.Prelude.{◌&&◌}
use Rattle.std.specs.List.{list_all}
use Rattle.std.proofs.lemmas.Option.{slice_get-map}
use Rattle.msvc_rules.specs.Rules.{every}
use Rattle.msvc_grammar.specs.Grammar.{arrays}
use Rattle.msvc_cursor.specs.Parser.{Frame}

-- trees as lists have them

pub names_in-is : (ns : List (Bor Name)) → names_in ns ≡ name_trees (map name_at ns)
names_in-is [] = refl
names_in-is (n ∷ ns) = ap (names (name_at n)) (names_in-is ns)

pub types_in-is : (ts : List (Bor «Type»)) → types_in ts ≡ type_trees (map type_at ts)
types_in-is [] = refl
types_in-is (t ∷ ts) = ap (types (type_at t)) (types_in-is ts)

pub arrays-last : (zs : List ℤ) (z : ℤ) (t : TypeTree) (q : ℕ) → arrays (zs ++ z ∷ []) t q ≡ arrays zs (array z t q) q
unfolding arrays
arrays-last [] z t q = refl
arrays-last (y ∷ zs) z t q = ap (λ u. array y u q) (arrays-last zs z t q)

-- looking for an entry of a table, from that at i on
pub found_here : {A B : Type 0} (p : B → Bool) (f : A → B) (xs : List A) (i : ℕ) (d : A) → i < length xs
    → p (f (get_or xs i d)) ≡ true → list_any p (map f (drop i xs)) ≡ true
found_here p f xs i d h e = rw (drop-cons xs i d, e)

pub found_later : {A B : Type 0} (p : B → Bool) (f : A → B) (xs : List A) (i : ℕ) (d : A) → i < length xs
    → p (f (get_or xs i d)) ≡ false → list_any p (map f (drop i xs)) ≡ list_any p (map f (drop (suc i) xs))
found_later p f xs i d h e = rw (drop-cons xs i d, e)

pub typed_symbol_of-is : (w : TypedSymbol)
    → typed_symbol_of w
    ≡ record {
      name = name_of w.symbol.name.now;
      scope = name_trees (map name_at w.symbol.scope.now);
      symbol_type = type_of w.symbol_type.now;
    }
typed_symbol_of-is w =
    ap (λ ns. record { name = name_of w.symbol.name.now; scope = ns; symbol_type = type_of w.symbol_type.now })
    (names_in-is w.symbol.scope.now)

-- the last of a list is seen last
pub map_last : {A X : Type 0} (view : A → X) (xs : List A) (x : A)
    → map view (xs ++ x ∷ []) ≡ map view xs ++ view x ∷ []
map_last view [] x = refl
map_last view (y ∷ ys) x = ap (λ zs. view y ∷ zs) (map_last view ys x)

pub ruleset views = (
  names_in-is,
  types_in-is,
  name_of-Template,
  name_of-Nested,
  type_of-Tagged,
  type_of-Function,
  type_of-MemberFunction,
  type_of-MemberPointer,
  type_of-Table,
  typed_symbol_of-is,
)

pub ruleset entry_split = (slice_get-map, map_last)

-- that all elements pass a test, as an iterator finds it
pub all-every : (test : ℕ → Bool) (bs : List ℕ) → list_all test bs ≡ every test bs
all-every test [] = refl
all-every test (b ∷ bs) = go (test b) (all-every test bs)
  where
    go : (t : Bool) → list_all test bs ≡ every test bs → (t && list_all test bs) ≡ cond t (every test bs) false
    go true e = e
    go false e = refl

-- an item more after those of a list that is being gathered

pub frame_names : {N E : Type 0} (a : List N) (b : List E) (d e : List (Bor «Type»)) (before after new : Frame N E)
    (x : Bor Name)
    (kept : List (Bor Name))
    → before
    ≡ record {
      names = a;
      types = b;
      listed_names = before.listed_names;
      names_before = kept;
      listed_types = d;
      types_before = e;
    } → after ≡ before
    → new ≡ record after { listed_names = after.listed_names ++ x ∷ [] }
    → new
    ≡ record {
      names = a;
      types = b;
      listed_names = new.listed_names;
      names_before = kept;
      listed_types = d;
      types_before = e;
    }
frame_names {N} {E} a b d e before after new x kept h f g =
    g
    ∙ ap (λ (k : Frame N E). record k { listed_names = k.listed_names ++ x ∷ [] }) f
    ∙ ap (λ (k : Frame N E). record k { listed_names = before.listed_names ++ x ∷ [] }) h
    ∙ ap (λ (xs : List (Bor Name)). record {
      names = a;
      types = b;
      listed_names = xs;
      names_before = kept;
      listed_types = d;
      types_before = e;
    }) (sym (ap (λ (k : Frame N E). k.listed_names) g ∙ ap (λ (k : Frame N E). k.listed_names ++ x ∷ []) f))

pub frame_types : {N E : Type 0} (a : List N) (b : List E) (d e : List (Bor Name)) (before after new : Frame N E)
    (x : Bor «Type»)
    (kept : List (Bor «Type»))
    → before
    ≡ record {
      names = a;
      types = b;
      listed_names = d;
      names_before = e;
      listed_types = before.listed_types;
      types_before = kept;
    } → after ≡ before
    → new ≡ record after { listed_types = after.listed_types ++ x ∷ [] }
    → new
    ≡ record {
      names = a;
      types = b;
      listed_names = d;
      names_before = e;
      listed_types = new.listed_types;
      types_before = kept;
    }
frame_types {N} {E} a b d e before after new x kept h f g =
    g
    ∙ ap (λ (k : Frame N E). record k { listed_types = k.listed_types ++ x ∷ [] }) f
    ∙ ap (λ (k : Frame N E). record k { listed_types = before.listed_types ++ x ∷ [] }) h
    ∙ ap (λ (xs : List (Bor «Type»)). record {
      names = a;
      types = b;
      listed_names = d;
      names_before = e;
      listed_types = xs;
      types_before = kept;
    }) (sym (ap (λ (k : Frame N E). k.listed_types) g ∙ ap (λ (k : Frame N E). k.listed_types ++ x ∷ []) f))
