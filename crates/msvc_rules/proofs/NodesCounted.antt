-- The count is the number of nodes: each rule of the grammar adds as many to it as its value has.
use Rattle.std.proofs.Common.{ℕ, ℤ, List, [], ◌∷◌, length, Some, Bool, true, false}
use Rattle.std.proofs.Common.{cond, nat_lt, ◌≡◌, ◌+◌, ◌-◌, ◌==◌, refl, sym, ap, ◌∙◌, subst, arith}
use Rattle.msvc_nodes.specs.Trees.{SymbolTree}
use Rattle.msvc_nodes.specs.Trees.{name_trees}
use Rattle.msvc_nodes.specs.Trees.{type_trees}
use Rattle.msvc_rules.specs.Counts.{name_count, names_count, symbol_count, type_count, types_count}
use Rattle.msvc_rules.specs.Readers.{read_name_in, read_in}
use Rattle.msvc_rules.specs.Reads.{Reads, given, a_letter, a_literal, a_part, where_it_holds, in_a_row, the_first}
use Rattle.msvc_rules.specs.Reads.{the_second, called, a_node, a_known_name, remembered, a_known_type, a_noted_type}
use Rattle.msvc_rules.specs.Reads.{entered, set_apart}
use Rattle.msvc_rules.specs.Reads.{it_stands}
use Rattle.msvc_rules.specs.Rules.{Grammar, text_and, call, ◌>>=◌, lookup, Rule, give, letter, node, optional, here}
use Rattle.msvc_rules.specs.Rules.{◌or◌, entering, apart}
use Rattle.msvc_rules.specs.Sorts.{Sort, integer, name_tree, type_tree, symbol_tree, list, both, Value}
use Rattle.msvc_rules.specs.State.{Count, State, more, span_of}
use Rattle.msvc_rules.proofs.CountsMonotone.{count_if}
use Rattle.msvc_rules.proofs.NamesInText.{Each}
use Rattle.msvc_rules.proofs.Soundness.{Derived, if_is, name-sound, read-sound}

pub no_nodes : {A : Type 0} (table : List A) → Each (λ (row : A). ◌≡◌ {A = ℕ} 0 0) table
no_nodes [] = tt
no_nodes (row ∷ table) = (refl, no_nodes table)

module _ (w : ℕ) where
  -- each length of an array is a node
  abbrev pub lengths_count : List ℤ → ℕ
  lengths_count [] = 0
  lengths_count (z ∷ zs) = w + lengths_count zs

  -- the nodes of a value, where each counts for w
  abbrev pub size : (a : Sort) → Value a → ℕ
  size name_tree v = name_count w v
  size type_tree v = type_count w v
  size symbol_tree v = symbol_count w v
  size (list name_tree) v = names_count w (name_trees v)
  size (list type_tree) v = types_count w (type_trees v)
  size (list integer) v = lengths_count v
  size (both a b) v = size a v.0 + size b v.1
  size _ v = 0

  -- so many nodes more were made, which are those of the value but for g
  abbrev Adds : ℕ → ℕ → Count → Count → Type 0
  Adds g n c d = (m : ℕ) × (d ≡ more m c) × (m + g ≡ n)

  adds_none : (g n : ℕ) (c : Count) → n ≡ g → Adds g n c c
  adds_none g n c h =
      let same : c.used ≡ c.used + 0 = omega arith in
      (0, ap (λ m. record c { used = m }) same, omega (arith, h))

  adds_both : (g n k : ℕ) (b c d : Count) → Adds 0 n b c → Adds (g + n) k c d → Adds g k b d
  adds_both g n k b c d h e =
      let same : b.used + h.0 + e.0 ≡ b.used + (h.0 + e.0) = omega arith in (
        h.0 + e.0,
        e.1 ∙ ap (more e.0) h.1 ∙ ap (λ m. record b { used = m }) same,
        omega (arith, h.2, e.2),
      )

  -- a node counts before what is in it
  adds_node : (g n : ℕ) (c d : Count) → c.weight ≡ w → Adds (g + w) n (more c.weight c) d → Adds g n c d
  adds_node g n c d same h =
      let joined : c.used + c.weight + h.0 ≡ c.used + (c.weight + h.0) = omega arith in
      (c.weight + h.0, h.1 ∙ ap (λ m. record c { used = m }) joined, omega (arith, h.2, same))

  adds_entry : (g : ℕ) (nodes : ℕ → ℕ) (c : Count) → c.weight ≡ w → g ≡ 0 → Adds g (nodes w) c (more (nodes c.weight) c)
  adds_entry g nodes c same h = (nodes c.weight, refl, omega (arith, h, ap nodes same))

  weight_after : (g n : ℕ) (c d : Count) → Adds g n c d → c.weight ≡ w → d.weight ≡ w
  weight_after g n c d h same = ap (λ (e : Count). e.weight) h.1 ∙ same

  in_letter : (a : Sort) (g : ℕ) (table : List (ℕ × Value a)) (b : ℕ) (v : Value a)
      → Each (λ row. size a row.1 ≡ g) table → lookup b table ≡ Some v → size a v ≡ g
  in_letter a g [] b v h e = absurd (cc)
  in_letter a g (row ∷ table) b v h e = go (b == row.0) e (in_letter a g table b v h.1)
    where
      go : (t : Bool) → cond t (Some row.1) (lookup b table) ≡ Some v → (lookup b table ≡ Some v → size a v ≡ g)
          → size a v ≡ g
      go true e ih = let same : row.1 ≡ v = cc in subst (λ x. size a x ≡ g) same h.0
      go false e ih = ih e

module _ (G : Grammar) (w : ℕ) where
  -- where g was counted already, a rule counts the others of its value's nodes
  unfoldable pub Makes : ℕ → {a : Sort} → Rule G.family a → Type 0
  Makes g (give {a = a} v) = size w a v ≡ g
  Makes g (letter a table) = Each (λ row. size w a row.1 ≡ g) table
  Makes g (here c r) = Makes g r
  Makes g (◌>>=◌ {a = a} r f) = Makes 0 r × ((v : Value a) → Makes (g + size w a v) (f v))
  Makes g (r or q) = Makes g r × Makes g q
  Makes g (node r) = Makes (g + w) r
  Makes g (entering r) = Makes g r
  Makes g (apart r) = Makes g r
  Makes g _ = g ≡ 0

  pub makes_optional : (table : List (ℕ × ℕ)) → Makes 0 (optional table)
  unfolding Makes
  makes_optional table = ((no_nodes table, λ _. refl), refl)

  -- what begins with a text of a table
  pub makes_texts : {a : Sort} {A : Type 0} (table : List (List ℕ × A)) (f : A → Rule G.family a)
      → ((x : A) → Makes 0 (f x)) → Makes 0 (text_and table f)
  unfolding Makes
  makes_texts [] f go = tt
  makes_texts (row ∷ table) f go = ((refl, λ _. go row.1), makes_texts table f go)

-- each production counts the nodes of its value
pub record Counted (G : Grammar) : Type 0 where
  pub makes : (w : ℕ) {a : Sort} (n : G.family a) → Makes G w 0 (G.rule n)

module _ {G : Grammar} (N : Counted G) where
  -- a rule counts the nodes of its value that were not counted yet
  pub counts : (w : ℕ) → {a : Sort} {r : Rule G.family a} {left : List ℕ} {s : State} {v : Value a} {rest : List ℕ}
      {t : State}
      → Reads G a r left s v rest t → s.count.weight ≡ w
      → (g : ℕ) → Makes G w g r → Adds w g (size w a v) s.count t.count
  unfolding Makes
  counts w (given {v = v} {s = s}) same g h = adds_none w g (size w _ v) s.count h
  counts w (a_letter {a = a} {table = table} {b = b} {v = v} {s = s} e) same g h =
      adds_none w g (size w a v) s.count (in_letter w a g table b v h e)
  counts w (a_literal {s = s} e) same g h = adds_none w g 0 s.count (sym h)
  counts w (a_part {s = s} e k) same g h = adds_none w g 0 s.count (sym h)
  counts w (where_it_holds e d) same g h = counts w d same g h
  counts w (in_a_row {a = a} {b = b} {v = v} {w = x} {s = s} {t = t} {u = u} d e) same g h =
      let first = counts w d same 0 h.0 in
      let remaining : t.count.weight ≡ w = weight_after w 0 (size w a v) s.count t.count first same in
      adds_both w g (size w a v) (size w b x) s.count t.count u.count first
      (counts w e remaining (g + size w a v) (h.1 v))
  counts w (the_first d) same g h = counts w d same g h.0
  counts w (the_second d) same g h = counts w d same g h.1
  counts w (called {a = a} {n = n} {v = v} {s = s} {t = t} d) same g h =
      subst (λ k. Adds w k (size w a v) s.count t.count) (sym h) (counts w d same 0 (N.makes w n))
  counts w (a_node {a = a} {v = v} {s = s} {t = t} d) same g h =
      adds_node w g (size w a v) s.count t.count same (counts w d same (g + w) h)
  counts w (a_known_name {n = n} {s = s} e) same g h = adds_entry w g (λ k. name_count k n) s.count same h
  counts w (it_stands {s = s} e) same g h = adds_none w g 0 s.count (sym h)
  counts w (remembered {s = s}) same g h = adds_none w g 0 s.count (sym h)
  counts w (a_known_type {e = e} {s = s} k) same g h = adds_entry w g (λ x. type_count x e.entered) s.count same h
  counts w (a_noted_type {e = e} {s = s} k d) same g h = adds_entry w g (λ x. type_count x e.entered) s.count same h
  counts w (entered {v = v} {left = left} {rest = rest} {s = s} {t = t} d) same g h =
      subst (Adds w g (type_count w v) s.count)
      (sym (count_if (nat_lt 1 (length left - length rest)) (span_of v left rest t) t))
      (counts w d same g h)
  counts w (set_apart d) same g h = counts w d same g h

  -- after a rule that counts all, as many more nodes were made as its value has
  pub rule_counts : {a : Sort} {r : Rule G.family a} {left : List ℕ} {s : State} {v : Value a} {rest : List ℕ}
      {t : State}
      → Reads G a r left s v rest t → Makes G s.count.weight 0 r → t.count ≡ more (size s.count.weight a v) s.count
  rule_counts {a = a} {s = s} {v = v} d h =
      let made = counts s.count.weight d refl 0 h in
      let all : made.0 ≡ size s.count.weight a v = omega (arith, made.2) in
      made.1 ∙ ap (λ n. more n s.count) all

  -- the same of each production
  pub call_counts : {a : Sort} {n : G.family a} {left : List ℕ} {s : State} {v : Value a} {rest : List ℕ} {t : State}
      → Reads G a (call n) left s v rest t → t.count ≡ more (size s.count.weight a v) s.count
  unfolding Makes
  call_counts d = rule_counts d refl

  pub symbol_counts : {n : G.family symbol_tree} {left : List ℕ} {s : State} {v : SymbolTree} {rest : List ℕ}
      {t : State}
      → Reads G symbol_tree (call n) left s v rest t → t.count ≡ more (symbol_count s.count.weight v) s.count
  symbol_counts d = call_counts d

  -- what is read of a rule, the grammar derives
  read_derived : {a : Sort} (r : Rule G.family a) (left : List ℕ) (s : State) (v : Value a) (rest : List ℕ) (t : State)
      → read_in G r left s ≡ Some (v, rest, t) → Reads G a r left s v rest t
  read_derived r left s v rest t e = if_is (Derived G r left s) (read_in G r left s) (v, rest, t) e
      (read-sound G r left s)

  pub read_name-counts : {a : Sort} (n : G.family a) (left : List ℕ) (s : State) (v : Value a) (rest : List ℕ)
      (t : State)
      → read_name_in G n left s ≡ Some (v, rest, t) → t.count ≡ more (size s.count.weight a v) s.count
  read_name-counts n left s v rest t e =
      call_counts (if_is (Derived G (call n) left s) (read_name_in G n left s) (v, rest, t) e
      ((name-sound G) _ n left s))
