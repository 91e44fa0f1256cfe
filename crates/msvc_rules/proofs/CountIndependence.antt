-- What the grammar derives does not depend on the count of nodes: it derives the same from a state with any other
-- count.
use Rattle.std.proofs.Common.{Bool, true, false, cond, nat_lt, List, ℕ, length, ◌≡◌, ◌-◌, refl, subst}
use Rattle.msvc_rules.specs.Counts.{name_count, type_count}
use Rattle.msvc_rules.specs.Reads.{Reads, given, a_letter, a_literal, a_part, where_it_holds, in_a_row, the_first}
use Rattle.msvc_rules.specs.Reads.{the_second, called, a_node, a_known_name, remembered, a_known_type, a_noted_type}
use Rattle.msvc_rules.specs.Reads.{entered, set_apart}
use Rattle.msvc_rules.specs.Reads.{it_stands}
use Rattle.msvc_rules.specs.Rules.{Grammar, Rule, entering}
use Rattle.msvc_rules.specs.Sorts.{Sort, Value}
use Rattle.msvc_rules.specs.State.{Count, Entry, State, more, remember_type, span_of}

-- a state with another count
abbrev pub with_count : Count → State → State
with_count c s = record s { count = c }

entered_with : (t : Bool) (e : Entry) (c : Count) (s : State)
    → cond t (remember_type e (with_count c s)) (with_count c s) ≡ with_count c (cond t (remember_type e s) s)
entered_with true e c s = refl
entered_with false e c s = refl

module _ (G : Grammar) where
  pub recounted : {a : Sort} {r : Rule G.family a} {left : List ℕ} {s : State} {v : Value a} {rest : List ℕ} {t : State}
      → Reads G a r left s v rest t
      → (c : Count) → (d : Count) × Reads G a r left (with_count c s) v rest (with_count d t)
  recounted given c = (c, given)
  recounted (a_letter e) c = (c, a_letter e)
  recounted (a_literal e) c = (c, a_literal e)
  recounted (a_part e h) c = (c, a_part e h)
  recounted (where_it_holds e h) c = let one = recounted h c in (one.0, where_it_holds e one.1)
  recounted (in_a_row h k) c =
      let one = recounted h c in let two = recounted k one.0 in (two.0, in_a_row one.1 two.1)
  recounted (the_first h) c = let one = recounted h c in (one.0, the_first one.1)
  recounted (the_second h) c = let one = recounted h c in (one.0, the_second one.1)
  recounted (called h) c = let one = recounted h c in (one.0, called one.1)
  recounted (a_node h) c = let one = recounted h (more c.weight c) in (one.0, a_node one.1)
  recounted (a_known_name {n = n} e) c = (more (name_count c.weight n) c, a_known_name e)
  recounted (it_stands e) c = (c, it_stands e)
  recounted remembered c = (c, remembered)
  recounted (a_known_type {e = e} h) c = (more (type_count c.weight e.entered) c, a_known_type h)
  recounted (a_noted_type {e = e} h k) c = (more (type_count c.weight e.entered) c, a_noted_type h k)
  recounted (entered {r = r} {v = v} {left = left} {rest = rest} {s = s} {t = t} h) c =
      let one = recounted h c in (
        one.0,
        subst (Reads G _ (entering r) left (with_count c s) v rest)
            (entered_with (nat_lt 1 (length left - length rest)) (span_of v left rest t) one.0 t)
            (entered one.1),
      )
  recounted (set_apart h) c = let one = recounted h c in (one.0, set_apart one.1)
