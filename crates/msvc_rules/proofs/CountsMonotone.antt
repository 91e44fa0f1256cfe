-- Counts never fall: a rule leaves the weight of a node and the limit unchanged, and subtracts no node.
use Rattle.std.proofs.Common.{Bool, true, false, cond, not, nat_lt, List, ℕ, length, ◌≡◌, ◌≤◌, ◌-◌, refl, ap, ◌∙◌}
use Rattle.std.proofs.Common.{arith}
use Rattle.std.proofs.lemmas.Bool.{le-ltb, ltb-false}
use Rattle.msvc_nodes.specs.Trees.{NameTree, NameTrees, TypeTree, TypeTrees, spelled, operator, guard, type_descriptor}
use Rattle.msvc_nodes.specs.Trees.{base_class_descriptor, template, discriminator, nested, anonymous, no_names, names}
use Rattle.msvc_nodes.specs.Trees.{plain, base, tagged, numbered, constant_string, pointing, array, function}
use Rattle.msvc_nodes.specs.Trees.{member_function, member_pointer, variable, table, vcall_thunk, no_types, types}
use Rattle.msvc_nodes.specs.Trees.{shape, shaped}
use Rattle.msvc_rules.specs.Counts.{name_count, names_count, type_count, types_count}
use Rattle.msvc_rules.specs.Reads.{Reads, given, a_letter, a_literal, a_part, where_it_holds, in_a_row, the_first}
use Rattle.msvc_rules.specs.Reads.{the_second, called, a_node, a_known_name, remembered, a_known_type, a_noted_type}
use Rattle.msvc_rules.specs.Reads.{entered, set_apart}
use Rattle.msvc_rules.specs.Reads.{it_stands}
use Rattle.msvc_rules.specs.Rules.{Grammar, Rule}
use Rattle.msvc_rules.specs.Sorts.{Sort, Value}
use Rattle.msvc_rules.specs.State.{Count, State, Entry, is_allowed, more, remember_type, span_of, uncounted}

-- the second count has the weight and the limit of the first, and no fewer nodes
abbrev pub Rises : Count → Count → Type 0
Rises c d = (d.weight ≡ c.weight) × (d.max ≡ c.max) × (c.used ≤ d.used)

stays : (c : Count) → Rises c c
stays c = (refl, refl, omega arith)

rises_by : (n : ℕ) (c : Count) → Rises c (more n c)
rises_by n c = (refl, refl, omega arith)

both_rise : (c d e : Count) → Rises c d → Rises d e → Rises c e
both_rise c d e h k = (k.0 ∙ h.0, k.1 ∙ h.1, omega (arith, h.2, k.2))

-- what enters a table counts nothing
pub count_if : (t : Bool) (e : Entry) (s : State) → (cond t (remember_type e s) s).count ≡ s.count
count_if true e s = refl
count_if false e s = refl

rises_if : (t : Bool) (c : Count) (e : Entry) (s : State) → Rises c s.count
    → Rises c (cond t (remember_type e s) s).count
rises_if true c e s h = h
rises_if false c e s h = h

allowed_below : (c d : Count) → Rises c d → is_allowed d ≡ true → is_allowed c ≡ true
allowed_below c d h ok = go (nat_lt d.max d.used) refl ok
  where
    go : (t : Bool) → nat_lt d.max d.used ≡ t → not t ≡ true → is_allowed c ≡ true
    go true e k = absurd (cc)
    go false e k = ap not (le-ltb c.max c.used (omega (arith, h.1, h.2, ltb-false d.max d.used e)))

-- where nodes count for nothing, no tree counts
mutual
  name_nothing : (n : NameTree) → name_count 0 n ≡ 0
  name_nothing (spelled how text) = refl
  name_nothing (operator o) = refl
  name_nothing (guard kind index) = refl
  name_nothing (type_descriptor q t) = omega (arith, type_nothing t)
  name_nothing (base_class_descriptor a b c d) = refl
  name_nothing (template n ts) = omega (arith, name_nothing n, types_nothing ts)
  name_nothing (discriminator z) = refl
  name_nothing (nested n ns t) = omega (arith, name_nothing n, names_nothing ns, type_nothing t)
  name_nothing (anonymous digits) = refl
  name_nothing (shaped row q zs bytes ns ts) = omega (arith, names_nothing ns, types_nothing ts)

  names_nothing : (ns : NameTrees) → names_count 0 ns ≡ 0
  names_nothing no_names = refl
  names_nothing (names n ns) = omega (arith, name_nothing n, names_nothing ns)

  type_nothing : (t : TypeTree) → type_count 0 t ≡ 0
  type_nothing (plain kind) = refl
  type_nothing (base b q) = refl
  type_nothing (tagged tag n ns q) = omega (arith, name_nothing n, names_nothing ns)
  type_nothing (numbered kind z) = refl
  type_nothing (constant_string cs) = refl
  type_nothing (pointing mark t q) = omega (arith, type_nothing t)
  type_nothing (array z t q) = omega (arith, type_nothing t)
  type_nothing (function c ts q t) = omega (arith, type_nothing t, types_nothing ts)
  type_nothing (member_function class c ts q t) = omega (arith, type_nothing t, types_nothing ts)
  type_nothing (member_pointer n ns class c ts q t) =
      omega (arith, name_nothing n, names_nothing ns, type_nothing t, types_nothing ts)
  type_nothing (variable t kind q) = omega (arith, type_nothing t)
  type_nothing (table kind ns q) = omega (arith, names_nothing ns)
  type_nothing (vcall_thunk z c) = refl
  type_nothing (shape row q zs bytes ns ts) = omega (arith, names_nothing ns, types_nothing ts)

  types_nothing : (ts : TypeTrees) → types_count 0 ts ≡ 0
  types_nothing no_types = refl
  types_nothing (types t ts) = omega (arith, type_nothing t, types_nothing ts)

no_name_counts : (n : NameTree) (c : Count) → c ≡ uncounted → more (name_count c.weight n) c ≡ uncounted
no_name_counts n c none =
    ap (λ (d : Count). more (name_count d.weight n) d) none ∙ ap (λ k. more k uncounted) (name_nothing n)

no_type_counts : (t : TypeTree) (c : Count) → c ≡ uncounted → more (type_count c.weight t) c ≡ uncounted
no_type_counts t c none =
    ap (λ (d : Count). more (type_count d.weight t) d) none ∙ ap (λ k. more k uncounted) (type_nothing t)

module _ (G : Grammar) where
  pub rises : {a : Sort} {r : Rule G.family a} {left : List ℕ} {s : State} {v : Value a} {rest : List ℕ} {t : State}
      → Reads G a r left s v rest t → Rises s.count t.count
  rises (given {s = s}) = stays s.count
  rises (a_letter {s = s} e) = stays s.count
  rises (a_literal {s = s} e) = stays s.count
  rises (a_part {s = s} e h) = stays s.count
  rises (where_it_holds e d) = rises d
  rises (in_a_row {s = s} {t = t} {u = u} d e) = both_rise s.count t.count u.count (rises d) (rises e)
  rises (the_first d) = rises d
  rises (the_second d) = rises d
  rises (called d) = rises d
  rises (a_node {s = s} {t = t} d) =
      both_rise s.count (more s.count.weight s.count) t.count (rises_by s.count.weight s.count) (rises d)
  rises (a_known_name {n = n} {s = s} e) = rises_by (name_count s.count.weight n) s.count
  rises (it_stands {s = s} e) = stays s.count
  rises (remembered {s = s}) = stays s.count
  rises (a_known_type {e = e} {s = s} h) = rises_by (type_count s.count.weight e.entered) s.count
  rises (a_noted_type {e = e} {s = s} h k) = rises_by (type_count s.count.weight e.entered) s.count
  rises (entered {v = v} {left = left} {rest = rest} {s = s} {t = t} d) =
      rises_if (nat_lt 1 (length left - length rest)) s.count (span_of v left rest t) t (rises d)
  rises (set_apart d) = rises d

  -- where the count after is allowed, so is the one before
  pub allowed_before : {a : Sort} {r : Rule G.family a} {left : List ℕ} {s : State} {v : Value a} {rest : List ℕ}
      {t : State}
      → Reads G a r left s v rest t → is_allowed t.count ≡ true → is_allowed s.count ≡ true
  allowed_before {s = s} {t = t} d ok = allowed_below s.count t.count (rises d) ok

  -- a state without limit has none after either
  pub uncounted_stays : {a : Sort} {r : Rule G.family a} {left : List ℕ} {s : State} {v : Value a} {rest : List ℕ}
      {t : State}
      → Reads G a r left s v rest t → s.count ≡ uncounted → t.count ≡ uncounted
  uncounted_stays given none = none
  uncounted_stays (a_letter e) none = none
  uncounted_stays (a_literal e) none = none
  uncounted_stays (a_part e h) none = none
  uncounted_stays (where_it_holds e d) none = uncounted_stays d none
  uncounted_stays (in_a_row d e) none = uncounted_stays e (uncounted_stays d none)
  uncounted_stays (the_first d) none = uncounted_stays d none
  uncounted_stays (the_second d) none = uncounted_stays d none
  uncounted_stays (called d) none = uncounted_stays d none
  uncounted_stays (a_node d) none = uncounted_stays d (ap (λ (c : Count). more c.weight c) none)
  uncounted_stays (a_known_name {n = n} {s = s} e) none = no_name_counts n s.count none
  uncounted_stays (it_stands e) none = none
  uncounted_stays remembered none = none
  uncounted_stays (a_known_type {e = e} {s = s} h) none = no_type_counts e.entered s.count none
  uncounted_stays (a_noted_type {e = e} {s = s} h k) none = no_type_counts e.entered s.count none
  uncounted_stays (entered {v = v} {left = left} {rest = rest} {t = t} d) none =
      count_if (nat_lt 1 (length left - length rest)) (span_of v left rest t) t ∙ uncounted_stays d none
  uncounted_stays (set_apart d) none = uncounted_stays d none

  -- so it is allowed
  pub uncounted_allowed : {a : Sort} {r : Rule G.family a} {left : List ℕ} {s : State} {v : Value a} {rest : List ℕ}
      {t : State}
      → Reads G a r left s v rest t → s.count ≡ uncounted → is_allowed t.count ≡ true
  uncounted_allowed d none = ap is_allowed (uncounted_stays d none)
