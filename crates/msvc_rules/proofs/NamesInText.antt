-- The names in a tree are parts of the text, and UTF-8 if the text is: each name that a tree spells precedes an ASCII
-- byte, and all other bytes that are read are ASCII too.
use Rattle.std.proofs.Common.{ℕ, zero, suc, List, [], ◌∷◌, ◌++◌, length, get_or, Some, Bool}
use Rattle.std.proofs.Common.{true}
use Rattle.std.proofs.Common.{false, cond, nat_lt, ◌≡◌, ◌<◌, ◌+◌, ◌-◌, ◌==◌, refl, sym, ap, ◌∙◌, subst, arith}
use Rattle.std.proofs.Common.{append_assoc, length-append}
use Rattle.std.proofs.lemmas.Bool.{eqb-true, ltb-true}
use Rattle.std.proofs.lemmas.Str.{IsUtf8-take, IsUtf8-drop, IsCharBoundary-before_ascii, IsCharBoundary-after_ascii}
use Rattle.std.proofs.lemmas.Str.{IsUtf8-past_char, encode_ascii, IsUtf8-nil}
use Rattle.std.proofs.Math.Seq.{drop-append-add, take-append_seam, get_or-append_seam}
use Rattle.std.specs.Prelude.{slice_get}
use Rattle.std.specs.List.{list_any}
use Rattle.std.specs.Str.{IsUtf8}
use Rattle.msvc_nodes.specs.EachName.{EachNameOfName, EachNameOfType, EachName}
use Rattle.msvc_nodes.specs.Trees.{SymbolTree}
use Rattle.msvc_rules.specs.Parts.{IsPart, NamesAreParts}
use Rattle.msvc_rules.specs.Reads.{Reads, given, a_letter, a_literal, a_part, where_it_holds, in_a_row, the_first}
use Rattle.msvc_rules.specs.Reads.{the_second, called, a_known_name, remembered, a_known_type, a_noted_type, entered}
use Rattle.msvc_rules.specs.Reads.{a_node, set_apart, DerivesIn}
use Rattle.msvc_rules.specs.Reads.{it_stands}
use Rattle.msvc_rules.specs.Rules.{Grammar, text_and, every, lookup, Rule, give, letter, literal, up_to, here, ◌>>=◌}
use Rattle.msvc_rules.specs.Rules.{◌or◌, remember, node, noted, entering, apart}
use Rattle.msvc_rules.specs.Sorts.{Sort, bytes, name_tree, type_tree, symbol_tree, list, both, Value}
use Rattle.msvc_rules.specs.State.{State, Entry, Note, most_memorized, place, remember_type}
use Rattle.msvc_rules.proofs.FirstSets.{if_both}
use Rattle.msvc_rules.proofs.Progress.{IsTail}
use Rattle.msvc_rules.proofs.TableGrowth.{with_one}

-- what holds of each
abbrev pub Each : {A : Type 0} → (A → Type 0) → List A → Type 0
Each P [] = Unit {0}
Each P (x ∷ xs) = P x × Each P xs

abbrev pub ascii : ℕ → Bool
ascii b = nat_lt b 128

module _ (P : List ℕ → Type 0) where
  -- P holds of each name that a value spells
  abbrev pub In : (a : Sort) → Value a → Type 0
  In bytes v = P v
  In name_tree v = EachNameOfName P v
  In type_tree v = EachNameOfType P v
  In symbol_tree v = EachName P v
  In (list a) v = Each (In a) v
  In (both a b) v = In a v.0 × In b v.1
  In _ v = Unit {0}

  -- the tables have such names
  abbrev pub InState : State → Type 0
  InState s = Each (λ n. EachNameOfName P n) s.names × Each (λ (e : Entry). EachNameOfType P e.entered) s.types

  pub each-got : {A : Type 0} (F : A → Type 0) (xs : List A) (i : ℕ) (x : A) → Each F xs → slice_get xs i ≡ Some x → F x
  each-got F [] i x h e = absurd (cc)
  each-got F (y ∷ ys) zero x h e = let same : y ≡ x = cc in subst F same h.0
  each-got F (y ∷ ys) (suc i) x h e = each-got F ys i x h.1 e

  pub each-last : {A : Type 0} (F : A → Type 0) (xs : List A) (x : A) → Each F xs → F x → Each F (xs ++ x ∷ [])
  each-last F [] x h q = (q, tt)
  each-last F (y ∷ ys) x h q = (h.0, each-last F ys x h.1 q)

  pub each-with : {A : Type 0} (F : A → Type 0) (known : A → Bool) (x : A) (xs : List A) → Each F xs → F x
      → Each F (with_one known x xs)
  each-with F known x xs h q = go (nat_lt (length xs) most_memorized) (list_any known xs)
    where
      go : (t u : Bool) → Each F (cond t (cond u xs (xs ++ x ∷ [])) xs)
      go true true = h
      go true false = each-last F xs x h q
      go false u = h

  pub in-enter : (t : Bool) (e : Entry) (s : State) → InState s → EachNameOfType P e.entered
      → InState (cond t (remember_type e s) s)
  in-enter true e s h q = (h.0, each-with (λ (k : Entry). EachNameOfType P k.entered) _ e s.types h.1 q)
  in-enter false e s h q = h

  pub in-letter : (a : Sort) (table : List (ℕ × Value a)) (b : ℕ) (v : Value a) → Each (λ row. In a row.1) table
      → lookup b table ≡ Some v → In a v
  in-letter a [] b v h e = absurd (cc)
  in-letter a (row ∷ table) b v h e = go (b == row.0) e (in-letter a table b v h.1)
    where
      go : (t : Bool) → cond t (Some row.1) (lookup b table) ≡ Some v → (lookup b table ≡ Some v → In a v) → In a v
      go true e ih = let same : row.1 ≡ v = cc in subst (In a) same h.0
      go false e ih = ih e

  pub letter-ascii : {A : Type 0} (table : List (ℕ × A)) (b : ℕ) (v : A) → every (λ row. ascii row.0) table ≡ true
      → lookup b table ≡ Some v → ascii b ≡ true
  letter-ascii [] b v h e = absurd (cc)
  letter-ascii (row ∷ table) b v h e = go (b == row.0) (ascii row.0) refl refl h e (letter-ascii table b v)
    where
      go : (t u : Bool) → (b == row.0) ≡ t → ascii row.0 ≡ u → cond u (every (λ x. ascii x.0) table) false ≡ true
          → cond t (Some row.1) (lookup b table) ≡ Some v
          → (every (λ x. ascii x.0) table ≡ true → lookup b table ≡ Some v → ascii b ≡ true) → ascii b ≡ true
      go t false d k h e ih = absurd (cc)
      go true true d k h e ih = ap ascii (eqb-true b row.0 d) ∙ k
      go false true d k h e ih = ih h e

module _ (G : Grammar) (P : List ℕ → Type 0) where
  -- what a rule gives has the names that it was given, and what it consumes beside names is ASCII
  unfoldable pub Gives : {a : Sort} → Rule G.family a → Type 0
  Gives (give {a = a} v) = In P a v
  Gives (letter a table) = (every (λ row. ascii row.0) table ≡ true) × Each (λ row. In P a row.1) table
  Gives (literal l) = every ascii l ≡ true
  Gives (up_to b) = ascii b ≡ true
  Gives (here c r) = Gives r
  Gives (◌>>=◌ {a = a} r f) = Gives r × ((v : Value a) → In P a v → Gives (f v))
  Gives (r or q) = Gives r × Gives q
  Gives (node r) = Gives r
  Gives (remember n) = EachNameOfName P n
  Gives (noted table) = every (λ row. ascii row.0) table ≡ true
  Gives (entering r) = Gives r
  Gives (apart r) = Gives r
  Gives _ = Unit {0}

  -- what begins with a text of a table
  pub gives_texts : {a : Sort} {A : Type 0} (table : List (List ℕ × A)) (f : A → Rule G.family a)
      → every (λ row. every ascii row.0) table ≡ true → ((x : A) → Gives (f x)) → Gives (text_and table f)
  unfolding Gives
  gives_texts [] f h go = (refl, tt)
  gives_texts (row ∷ table) f h go =
      let parts : (every ascii row.0 ≡ true) × (every (λ other. every ascii other.0) table ≡ true) = if_both _ _ h in
      ((parts.0, λ _ _. go row.1), gives_texts table f parts.1 go)

-- each production gives the names that it was given, and no bytes where a row has none
pub record Named (G : Grammar) : Type 1 where
  pub gives : (P : List ℕ → Type 0) → P [] → {a : Sort} (n : G.family a) → Gives G P (G.rule n)

module _ {G : Grammar} (N : Named G) (P : List ℕ → Type 0) (none : P []) where
  -- what holds of the bytes left: it goes on after an ASCII byte, and gives P of what stands before one
  module _ (Q : List ℕ → Type 0) (next : (b : ℕ) (rest : List ℕ) → ascii b ≡ true → Q (b ∷ rest) → Q rest)
      (part : (v : List ℕ) (b : ℕ) (rest : List ℕ) → ascii b ≡ true → Q (v ++ b ∷ rest) → P v × Q rest) where
    following-text : (l rest : List ℕ) → every ascii l ≡ true → Q (l ++ rest) → Q rest
    following-text [] rest h q = q
    following-text (b ∷ l) rest h q = go (ascii b) refl h (following-text l rest)
      where
        go : (t : Bool) → ascii b ≡ t → cond t (every ascii l) false ≡ true
            → (every ascii l ≡ true → Q (l ++ rest) → Q rest) → Q rest
        go true e h ih = ih h (next b (l ++ rest) e q)
        go false e h ih = absurd (cc)

    names_in : {a : Sort} {r : Rule G.family a} {left : List ℕ} {s : State} {v : Value a} {rest : List ℕ} {t : State}
        → Reads G a r left s v rest t
        → Gives G P r → Q left → InState P s → In P a v × InState P t × Q rest
    unfolding Gives
    names_in given g q h = (g, h, q)
    names_in (a_letter {a = a} {table = table} {b = b} {v = v} {rest = rest} e) g q h =
        (in-letter P a table b v g.1 e, h, next b rest (letter-ascii P table b v g.0 e) q)
    names_in (a_literal {l = l} {rest = rest} e) g q h = (tt, h, following-text l rest g (subst Q e q))
    names_in (a_part {b = b} {v = v} {rest = rest} e d) g q h =
        let parted : P v × Q rest = part v b rest g (subst Q e q) in (parted.0, h, parted.1)
    names_in (where_it_holds e d) g q h = names_in d g q h
    names_in (in_a_row {a = a} {v = v} {l = l} {t = t} d e) g q h =
        let first : In P a v × InState P t × Q l = names_in d g.0 q h in names_in e (g.1 v first.0) first.2 first.1
    names_in (the_first d) g q h = names_in d g.0 q h
    names_in (the_second d) g q h = names_in d g.1 q h
    names_in (called {n = n} d) g q h = names_in d (N.gives P none n) q h
    names_in (a_node d) g q h = names_in d g q h
    names_in (a_known_name {i = i} {n = n} {s = s} e) g q h =
        (each-got P (λ m. EachNameOfName P m) s.names i n h.0 e, h, q)
    names_in (it_stands e) g q h = (tt, h, q)
    names_in (remembered {n = n} {s = s}) g q h =
        (tt, (each-with P (λ m. EachNameOfName P m) _ n s.names h.0 g, h.1), q)
    names_in (a_known_type {i = i} {e = entry} {s = s} e) g q h =
        (each-got P (λ (k : Entry). EachNameOfType P k.entered) s.types i entry h.1 e, h, q)
    names_in (a_noted_type {table = table} {b = b} {i = i} {e = entry} {rest = rest} {s = s} e d) g q h = (
      each-got P (λ (k : Entry). EachNameOfType P k.entered) s.types i entry h.1 d,
      h,
      next b rest (letter-ascii P table b i g e) q,
    )
    names_in (entered {v = v} {left = left} {rest = rest} {t = t} d) g q h =
        let inner : EachNameOfType P v × InState P t × Q rest = names_in d g q h in (
          inner.0,
          in-enter P (nat_lt 1 (length left - length rest))
              (record { entered = v; start = place left t; end = place rest t }) t inner.1 inner.0,
          inner.2,
        )
    names_in (set_apart {v = v} {rest = rest} {t = t} d) g q h = let inner : In P _ v × InState P t × Q rest =
        names_in d g q (tt, tt) in (inner.0, h, inner.2)

    -- P holds of each name in a symbol that a text is derived to
    derived_in : (text : List ℕ) (tree : SymbolTree) (rest : List ℕ) (notes : List Note) → Q text
        → DerivesIn G text tree rest notes → EachName P tree
    unfolding Gives
    derived_in text tree rest notes q d = (names_in d.1 tt q (tt, tt)).0

    -- Q holds of what is left
    derived_after : (text : List ℕ) (tree : SymbolTree) (rest : List ℕ) (notes : List Note) → Q text
        → DerivesIn G text tree rest notes → Q rest
    unfolding Gives
    derived_after text tree rest notes q d = (names_in d.1 tt q (tt, tt)).2

module _ {G : Grammar} (N : Named G) where
  pub derived-parts : (text : List ℕ) (tree : SymbolTree) (rest : List ℕ) (notes : List Note)
      → DerivesIn G text tree rest notes → NamesAreParts text tree
  derived-parts text tree rest notes d =
      derived_in N (IsPart text) ([], text, refl) (IsTail text)
      (λ b l low q. (q.0 ++ b ∷ [], q.1 ∙ sym (append_assoc q.0 (b ∷ []) l)))
      (λ v b l low q. (
        (q.0, b ∷ l, q.1),
        (
          q.0 ++ (v ++ b ∷ []),
          q.1 ∙ ap (λ z. q.0 ++ z) (sym (append_assoc v (b ∷ []) l))
              ∙ sym (append_assoc q.0 (v ++ b ∷ []) l),
        ),
      ))
      text tree rest notes ([], refl) d

-- an ASCII byte is a character
following_one : (b : ℕ) (rest : List ℕ) → ascii b ≡ true → IsUtf8 (b ∷ rest) → IsUtf8 rest
following_one b rest low h =
    IsUtf8-past_char (b ∷ rest) rest b h (ap (λ bs. bs ++ rest) (sym (encode_ascii b (ltb-true b 128 low))))

-- a character is not cut before an ASCII byte, nor after it
around_ascii : (v : List ℕ) (b : ℕ) (rest : List ℕ) → ascii b ≡ true → IsUtf8 (v ++ b ∷ rest) → IsUtf8 v × IsUtf8 rest
around_ascii v b rest low h =
    let there : get_or (v ++ b ∷ rest) (length v) 0 ≡ b = get_or-append_seam v b rest 0 in
    let short : length v < length (v ++ b ∷ rest) = omega (arith, length-append v (b ∷ rest)) in
    let low_there : get_or (v ++ b ∷ rest) (length v) 0 < 128 = omega (arith, there, ltb-true b 128 low) in (
      subst IsUtf8 (take-append_seam v (b ∷ rest))
          (IsUtf8-take _ (length v) h (IsCharBoundary-before_ascii _ (length v) short low_there)),
      subst IsUtf8 (drop-append-add v (b ∷ rest) 1)
          (IsUtf8-drop _ (length v + 1) h (IsCharBoundary-after_ascii _ (length v) h short low_there)),
    )

module _ {G : Grammar} (N : Named G) where
  pub derived-utf8 : (text : List ℕ) (tree : SymbolTree) (rest : List ℕ) (notes : List Note) → IsUtf8 text
      → DerivesIn G text tree rest notes → EachName IsUtf8 tree
  derived-utf8 text tree rest notes u d =
      derived_in N IsUtf8 IsUtf8-nil IsUtf8 following_one around_ascii text tree rest notes u d

module _ {G : Grammar} (N : Named G) where
  -- no character is cut where the bytes left begin
  pub rest-utf8 : (text : List ℕ) (tree : SymbolTree) (rest : List ℕ) (notes : List Note) → IsUtf8 text
      → DerivesIn G text tree rest notes → IsUtf8 rest
  rest-utf8 text tree rest notes u d =
      derived_after N IsUtf8 IsUtf8-nil IsUtf8 following_one around_ascii text tree rest notes u d
