-- What the grammar reads, as a function that a proof computes also where tables are compared: the reading of
-- `specs/Reads` with tests of equality that unfold.
use Rattle.std.proofs.Common.{ℕ, List, [], ◌++◌, ◌∷◌, ◌≡◌, ◌∙◌, ◌-◌, ◌*◌, Bool, Some, None, length, nat_lt, refl}
use Rattle.std.proofs.Common.{suc, zero}
use Rattle.std.specs.Prelude.{if◌then◌else◌, slice_get}
use Rattle.std.specs.List.{list_any}
use mathlib.Core.Path.{fun_ext}
use Rattle.msvc_nodes.specs.Equality.{same_name, same_type}
use Rattle.msvc_nodes.specs.Trees.{NameTree, TypeTree}
use Rattle.msvc_rules.specs.Readers.{Found, Reader, after_literal, and_then, in_node, letter_here, name_known}
use Rattle.msvc_rules.specs.Readers.{noted_here, or_else, part_here, put_apart, ranks, read_by, read_name_in}
use Rattle.msvc_rules.specs.Readers.{read_within, type_known}
use Rattle.msvc_rules.specs.Readers.{name_stands}
use Rattle.msvc_rules.specs.Reads.{emptied}
use Rattle.msvc_rules.specs.Rules.{Rule, after, apart, call, entering, give, here, holds, known_name, known_type}
use Rattle.msvc_rules.specs.Rules.{letter, literal, node, noted, remember, up_to, ◌>>=◌, ◌or◌}
use Rattle.msvc_rules.specs.Rules.{stands}
use Rattle.msvc_rules.specs.Sorts.{Sort}
use Rattle.msvc_rules.specs.State.{State, most_memorized, span_of}
use Rattle.msvc_grammar.specs.Grammar.{crate_grammar, grammar}
use Rattle.msvc_grammar.specs.Productions.{Production}
use Rattle.msvc_grammar.specs.Reading.{read_name}
use Rattle.msvc_facts.proofs.Same.{is_same_name, is_same_name-is, is_same_type, is_same_type-is}

-- a table after an entry, by a test whether two entries are the same
abbrev with_entry : {A : Type 0} → (A → A → Bool) → A → List A → List A
with_entry same entry table =
    if nat_lt (length table) most_memorized
    then (if list_any (same entry) table then table else table ++ entry ∷ [])
    else table

abbrev with_name : (NameTree → NameTree → Bool) → NameTree → State → State
with_name same n s = record s { names = with_entry same n s.names }

abbrev with_type : (TypeTree → TypeTree → Bool) → TypeTree → List ℕ → List ℕ → State → State
with_type same t left rest s =
    if nat_lt 1 (length left - length rest)
    then record s { types = with_entry (λ a b. same a.entered b.entered) (span_of t left rest s) s.types }
    else s

abbrev entered_by : (TypeTree → TypeTree → Bool) → List ℕ → Found TypeTree → Found TypeTree
entered_by same left None = None
entered_by same left (Some x) = Some (x.0, x.1, with_type same x.0 left x.1 x.2)

unfoldable pub reading_by : ((b : Sort) → Production b → Reader b) → {a : Sort} → Rule Production a → Reader a
reading_by calls (give v) left s = Some (v, left, s)
reading_by calls (letter a table) left s = letter_here table left s
reading_by calls (literal l) left s = after_literal (after l left) s
reading_by calls (up_to b) left s = part_here b left s
reading_by calls (here c r) left s = if holds c left then reading_by calls r left s else None
reading_by calls (r >>= f) left s = and_then (reading_by calls r left s) (λ v. reading_by calls (f v))
reading_by calls (r or q) left s = or_else (reading_by calls r left s) (reading_by calls q left s)
reading_by calls (call n) left s = calls _ n left s
reading_by calls (node r) left s = in_node left s (reading_by calls r)
reading_by calls (known_name i) left s = name_known (slice_get s.names i) left s
reading_by calls (stands i) left s = name_stands (slice_get s.names i) left s
reading_by calls (remember n) left s = Some (tt, left, with_name is_same_name n s)
reading_by calls (known_type i) left s = type_known (slice_get s.types i) left s
reading_by calls (noted table) left s = noted_here table left s
reading_by calls (entering r) left s = entered_by is_same_type left (reading_by calls r left s)
reading_by calls (apart r) left s = put_apart s (reading_by calls r left (emptied s))

unfoldable pub reading_within : ℕ → {a : Sort} → Production a → Reader a
reading_within zero n left s = None
reading_within (suc k) n left s = reading_by (λ b m. reading_within k m) (grammar n) left s

unfoldable pub reading_name : {a : Sort} → Production a → Reader a
reading_name n left s = reading_within (ranks * suc (length left)) n left s

-- It is the grammar's reading.

names-same : is_same_name ≡ same_name
names-same = fun_ext (λ a. fun_ext (λ b. is_same_name-is a b))

types-same : is_same_type ≡ same_type
types-same = fun_ext (λ a. fun_ext (λ b. is_same_type-is a b))

reading_by-is : (calls : (b : Sort) → Production b → Reader b) {a : Sort} (r : Rule Production a) (left : List ℕ)
    (s : State)
    → reading_by calls r left s ≡ read_by calls r left s
unfolding read_by reading_by
reading_by-is calls (give v) left s = refl
reading_by-is calls (letter a table) left s = refl
reading_by-is calls (literal l) left s = refl
reading_by-is calls (up_to b) left s = refl
reading_by-is calls (here c r) left s = λ i. if holds c left then reading_by-is calls r left s i else None
reading_by-is calls (r >>= f) left s =
    λ i. and_then (reading_by-is calls r left s i) (λ v l t. reading_by-is calls (f v) l t i)
reading_by-is calls (r or q) left s = λ i. or_else (reading_by-is calls r left s i) (reading_by-is calls q left s i)
reading_by-is calls (call n) left s = refl
reading_by-is calls (node r) left s = λ i. in_node left s (λ l t. reading_by-is calls r l t i)
reading_by-is calls (known_name j) left s = refl
reading_by-is calls (stands j) left s = refl
reading_by-is calls (remember n) left s = λ i. Some (tt, left, with_name (names-same i) n s)
reading_by-is calls (known_type j) left s = refl
reading_by-is calls (noted table) left s = refl
reading_by-is calls (entering r) left s = λ i. entered_by (types-same i) left (reading_by-is calls r left s i)
reading_by-is calls (apart r) left s = λ i. put_apart s (reading_by-is calls r left (emptied s) i)

reading_within-is : (k : ℕ) {a : Sort} (n : Production a) (left : List ℕ) (s : State)
    → reading_within k n left s ≡ read_within crate_grammar k n left s
unfolding read_within reading_within
reading_within-is zero n left s = refl
reading_within-is (suc k) n left s =
    reading_by-is (λ b m. reading_within k m) (grammar n) left s
    ∙ (λ i. read_by (λ b m l t. reading_within-is k m l t i) (grammar n) left s)

pub reading_name-is : {a : Sort} (n : Production a) (left : List ℕ) (s : State)
    → reading_name n left s ≡ read_name n left s
unfolding read_name read_name_in reading_name
reading_name-is n left s = reading_within-is (ranks * suc (length left)) n left s
