-- Step lemmas of the indices of guards and the numbers of thread-safe ones.
use Rattle.std.proofs.Common.{ℕ, ℤ, pos, negsuc, List, [], ◌∷◌, Option, Some, None, Bool, true, false, cond, not, ◌+◌}
use Rattle.std.proofs.Common.{◌≡◌, ◌==◌, refl, ap, ◌∙◌, ◌*◌, ◌≤◌}
use Rattle.std.specs.Prelude.{codes}
use Rattle.std.proofs.lemmas.Bool.{le-ltb, eqb-true}
use Rattle.msvc_nodes.specs.declared.kinds.NumberedType.TheVariants as number_kind
use Rattle.msvc_nodes.specs.Trees.{NameTree, SymbolTree, anonymous, discriminator, name_trees, nested, numbered}
use Rattle.msvc_nodes.specs.Trees.{spelled, template, base_class_descriptor, guard, operator, type_descriptor}
use Rattle.msvc_nodes.specs.Trees.{shaped}
use Rattle.msvc_nodes.specs.declared.kinds.Guard.{Guard}
use Rattle.msvc_rules.specs.Readers.{Found, read_by, letter_here, with_value, after_literal, and_then, in_node, or_else}
use Rattle.msvc_rules.specs.Rules.{after, give, literal, call, letter_or, is_nil, ◌>>◌}
use Rattle.msvc_rules.specs.Sorts.{bits}
use Rattle.msvc_rules.specs.State.{State}
use Rattle.msvc_grammar.specs.Grammar.{grammar, is_guard, numbered_guard, with_index, guard_marker, is_in_range}
use Rattle.msvc_grammar.specs.Letters.{at_sign, digits}
use Rattle.msvc_grammar.specs.Productions.{guard_index, scope, nested_name, number, decimal, unsigned}
use Rattle.msvc_grammar.specs.Reading.{read_name, read}
use Rattle.msvc_grammar.proofs.Laws.{read_name-is}
use Rattle.msvc_cursor.specs.Parser.{indexed}
use Rattle.msvc_cursor.proofs.Choices.{choose, chosen, letter_or-is, if_required, then_is}

pub guard_marker_step : (left : List ℕ) (s : State) → read guard_marker left s
    ≡ chosen (after (codes "4IA") left) (λ rest. Some (tt, rest, s)) (read (literal (codes "5")) left s)
unfolding read read_by
guard_marker_step left s = go (after (codes "4IA") left)
  where
    go : (o : Option (List ℕ)) → or_else (after_literal o s) (after_literal (after (codes "5") left) s)
        ≡ chosen o (λ rest. Some (tt, rest, s)) (after_literal (after (codes "5") left) s)
    go None = refl
    go (Some rest) = refl

pub guard_index_none : (left : List ℕ) (s : State) → read_name (guard_index false) left s ≡ Some (None, left, s)
unfolding grammar read read_by
guard_index_none left s = read_name-is (guard_index false) left s

pub unsigned_there : (n : ℕ) (left : List ℕ) (s : State) → read_name (unsigned (pos n)) left s ≡ Some (n, left, s)
unfolding grammar read read_by
unsigned_there n left s = read_name-is (unsigned (pos n)) left s

pub unsigned_none : (n : ℕ) (left : List ℕ) (s : State) → read_name (unsigned (negsuc n)) left s ≡ None
unfolding grammar read read_by
unsigned_none n [] s = read_name-is (unsigned (negsuc n)) [] s
unsigned_none n (b ∷ bs) s = read_name-is (unsigned (negsuc n)) (b ∷ bs) s

-- the index that a number is
abbrev pub index_of : ℤ → Option (Option ℕ)
index_of (pos n) = Some (Some n)
index_of (negsuc n) = None

index_step : (z : ℤ) (left : List ℕ) (s : State)
    → and_then (read_name (unsigned z) left s) (λ i l t. Some (Some i, l, t)) ≡ with_value (index_of z) left s
index_step (pos n) left s = ap (λ o. and_then o (λ i l t. Some (Some i, l, t))) (unsigned_there n left s)
index_step (negsuc n) left s = ap (λ o. and_then o (λ i l t. Some (Some i, l, t))) (unsigned_none n left s)

pub guard_index_there : (left : List ℕ) (s : State) → read_name (guard_index true) left s
    ≡ and_then (read guard_marker left s) (λ _ l t. cond (is_nil l) (Some (None, l, t))
    (and_then (read_name number l t) (λ z k u. with_value (index_of z) k u)))
unfolding grammar read read_by
guard_index_there left s =
    read_name-is (guard_index true) left s
    ∙ then_is (read guard_marker left s) _ _
    (λ _ l t. go l t (is_nil l)
    ∙ ap (cond (is_nil l) (Some (None, l, t)))
    (then_is (read_name number l t) _ _ (λ z k u. index_step z k u)))
  where
    go : (l : List ℕ) (t : State) (ended : Bool)
        → or_else (cond ended (Some (None, l, t)) None)
        (and_then (read_name number l t)
        (λ z k u. and_then (read_name (unsigned z) k u) (λ i j v. Some (Some i, j, v))))
        ≡ cond ended (Some (None, l, t))
        (and_then (read_name number l t)
        (λ z k u. and_then (read_name (unsigned z) k u) (λ i j v. Some (Some i, j, v))))
    go l t true = refl
    go l t false = refl

-- which guard a name is, if any
abbrev pub guard_of : NameTree → Option Guard
guard_of (guard kind index) = Some kind
guard_of _ = None

-- no index after a name that is none of a guard
other_name : (n : NameTree) (ns : List NameTree) (left : List ℕ) (s : State) → is_guard n ≡ false
    → ((index : Option ℕ) → with_index index n ≡ n) → indexed n ns left s ≡ Some ((n, ns), left, s)
other_name n ns left s h same =
    ap (λ t. and_then (read_name (guard_index t) left s) (λ index l u. Some ((with_index index n, ns), l, u))) h
    ∙ ap (λ o. and_then o (λ index l u. Some ((with_index index n, ns), l, u))) (guard_index_none left s)
    ∙ ap (λ m. Some ((m, ns), left, s)) (same None)

pub indexed_other : (n : NameTree) (ns : List NameTree) (left : List ℕ) (s : State) → guard_of n ≡ None
    → indexed n ns left s ≡ Some ((n, ns), left, s)
indexed_other (guard kind before) ns left s e = absurd (cc)
indexed_other (spelled how text) ns left s e = other_name (spelled how text) ns left s refl (λ _. refl)
indexed_other (operator o) ns left s e = other_name (operator o) ns left s refl (λ _. refl)
indexed_other (type_descriptor q x) ns left s e = other_name (type_descriptor q x) ns left s refl (λ _. refl)
indexed_other (base_class_descriptor a b c d) ns left s e =
    other_name (base_class_descriptor a b c d) ns left s refl (λ _. refl)
indexed_other (template n ts) ns left s e = other_name (template n ts) ns left s refl (λ _. refl)
indexed_other (discriminator z) ns left s e = other_name (discriminator z) ns left s refl (λ _. refl)
indexed_other (nested n ms x) ns left s e = other_name (nested n ms x) ns left s refl (λ _. refl)
indexed_other (anonymous text) ns left s e = other_name (anonymous text) ns left s refl (λ _. refl)
indexed_other (shaped row q zs text ms ts) ns left s e =
    other_name (shaped row q zs text ms ts) ns left s refl (λ _. refl)

-- the index after the name of a guard
pub indexed_guard : (n : NameTree) (ns : List NameTree) (left : List ℕ) (s : State) (kind : Guard)
    → guard_of n ≡ Some kind
    → indexed n ns left s
    ≡ and_then (read_name (guard_index true) left s) (λ index l t. Some ((guard kind index, ns), l, t))
indexed_guard (guard other before) ns left s kind e =
    let same : other ≡ kind = cc in
    ap (λ k. and_then (read_name (guard_index true) left s) (λ index l t. Some ((guard k index, ns), l, t))) same
indexed_guard (spelled how text) ns left s kind e = absurd (cc)
indexed_guard (operator o) ns left s kind e = absurd (cc)
indexed_guard (type_descriptor q x) ns left s kind e = absurd (cc)
indexed_guard (base_class_descriptor a b c d) ns left s kind e = absurd (cc)
indexed_guard (template n ts) ns left s kind e = absurd (cc)
indexed_guard (discriminator z) ns left s kind e = absurd (cc)
indexed_guard (nested n ms x) ns left s kind e = absurd (cc)
indexed_guard (anonymous text) ns left s kind e = absurd (cc)
indexed_guard (shaped row q zs text ms ts) ns left s kind e = absurd (cc)

-- the digits of a number, as the readers take them
abbrev pub decimals : List ℕ → State → Found ℕ
decimals left s = and_then (letter_here digits left s) (λ d. read_name (decimal d))

abbrev pub guard_symbol : ℕ → NameTree → List NameTree → SymbolTree
guard_symbol z n ns =
    record { name = n; scope = name_trees ns; symbol_type = numbered number_kind.ThreadSafeGuard (pos z) }

pub numbered_guard_step : (left : List ℕ) (s : State) → read numbered_guard left s
    ≡ and_then (decimals left s) (λ z l t. and_then (read_name nested_name l t)
    (λ n k u. and_then (read_name scope k u) (λ ns j v. and_then (read (literal (codes "4HA")) j v)
    (λ _ i w. in_node i w (λ h x. Some (guard_symbol z n ns, h, x))))))
unfolding read read_by
numbered_guard_step left s = refl

pub decimal_step : (value : ℕ) (left : List ℕ) (s : State) → read_name (decimal value) left s
    ≡ cond (is_in_range value) (choose (letter_here digits left s) (λ d l t. read_name (decimal (value * 10 + d)) l t)
    (and_then (read (literal (codes "@")) left s) (λ _ l t. Some (value, l, t)))) None
unfolding grammar read read_by
decimal_step value left s =
    read_name-is (decimal value) left s
    ∙ if_required (is_in_range value) left s
    (λ l t. read (letter_or digits (λ d. call (decimal (value * 10 + d))) (do literal (codes "@"); give value)) l t)
    ∙ ap (λ o. cond (is_in_range value) o None)
    (letter_or-is {a = bits} digits (λ d. call (decimal (value * 10 + d))) (do literal (codes "@"); give value) left s)

in_range : (value : ℕ) → value ≤ 2147483647 → is_in_range value ≡ true
in_range value h = ap not (le-ltb 2147483647 value h)

-- the last digit was read
pub decimal_ends : (value : ℕ) (left rest : List ℕ) (s : State) → value ≤ 2147483647
    → after (codes "@") left ≡ Some rest → read_name (decimal value) left s ≡ Some (value, rest, s)
unfolding read read_by
decimal_ends value [] rest s h e = absurd (cc)
decimal_ends value (b ∷ bs) rest s h e =
    decimal_step value (b ∷ bs) s
    ∙ ap (λ t. cond t (choose (letter_here digits (b ∷ bs) s) (λ d l u. read_name (decimal (value * 10 + d)) l u)
    (and_then (read (literal (codes "@")) (b ∷ bs) s) (λ _ l u. Some (value, l, u)))) None) (in_range value h)
    ∙ go (b == at_sign) refl e
  where
    go : (t : Bool) → (b == at_sign) ≡ t → cond t (Some bs) None ≡ Some rest
        → choose (letter_here digits (b ∷ bs) s) (λ d l u. read_name (decimal (value * 10 + d)) l u)
        (and_then (after_literal (cond (b == at_sign) (Some bs) None) s) (λ _ l u. Some (value, l, u)))
        ≡ Some (value, rest, s)
    go true k e =
        let same : bs ≡ rest = cc in
        ap (λ c. choose (letter_here digits (c ∷ bs) s) (λ d l u. read_name (decimal (value * 10 + d)) l u)
        (and_then (after_literal (cond (c == at_sign) (Some bs) None) s) (λ _ l u. Some (value, l, u))))
        (eqb-true b at_sign k)
        ∙ ap (λ z. Some (value, z, s)) same
    go false k e = absurd (cc)

-- neither another digit nor the end
pub decimal_rejected : (value : ℕ) (left : List ℕ) (s : State) → after (codes "@") left ≡ None
    → letter_here digits left s ≡ None → read_name (decimal value) left s ≡ None
unfolding read read_by
decimal_rejected value left s e none =
    decimal_step value left s
    ∙ ap (λ o. cond (is_in_range value) (choose o (λ d l u. read_name (decimal (value * 10 + d)) l u)
    (and_then (after_literal (after (codes "@") left) s) (λ _ l u. Some (value, l, u)))) None) none
    ∙ ap (λ o. cond (is_in_range value) (and_then (after_literal o s) (λ _ l u. Some (value, l, u))) None) e
    ∙ go (is_in_range value)
  where
    nothing_there : Found ℕ
    nothing_there = None

    go : (t : Bool) → cond t nothing_there None ≡ None
    go true = refl
    go false = refl

-- one digit more
pub decimal_more : (value d : ℕ) (left l : List ℕ) (s t : State) → value ≤ 2147483647
    → letter_here digits left s ≡ Some (d, l, t)
    → read_name (decimal value) left s ≡ read_name (decimal (value * 10 + d)) l t
decimal_more value d left l s t h e =
    decimal_step value left s
    ∙ ap (λ u. cond u (choose (letter_here digits left s) (λ c k v. read_name (decimal (value * 10 + c)) k v)
    (and_then (read (literal (codes "@")) left s) (λ _ k v. Some (value, k, v)))) None) (in_range value h)
    ∙ ap (λ o. choose o (λ c k v. read_name (decimal (value * 10 + c)) k v)
    (and_then (read (literal (codes "@")) left s) (λ _ k v. Some (value, k, v)))) e

-- a value that is too large
pub decimal_large : (value : ℕ) (left : List ℕ) (s : State) → is_in_range value ≡ false
    → read_name (decimal value) left s ≡ None
decimal_large value left s h =
    decimal_step value left s
    ∙ ap (λ t. cond t (choose (letter_here digits left s) (λ d l u. read_name (decimal (value * 10 + d)) l u)
    (and_then (read (literal (codes "@")) left s) (λ _ l u. Some (value, l, u)))) None) h

pub decimal_too_large : (value d : ℕ) (left l : List ℕ) (s t : State) → value ≤ 2147483647
    → letter_here digits left s ≡ Some (d, l, t) → is_in_range (value * 10 + d) ≡ false
    → read_name (decimal value) left s ≡ None
decimal_too_large value d left l s t h e large =
    decimal_more value d left l s t h e ∙ decimal_large (value * 10 + d) l t large

-- a number with one more digit, where it is not too large
pub kept : (n m : ℕ) → cond (is_in_range n) (Some n) None ≡ Some m → n ≡ m
kept n m = go (is_in_range n)
  where
    go : (t : Bool) → cond t (Some n) None ≡ Some m → n ≡ m
    go true e = cc
    go false e = absurd (cc)

pub ruleset decimal_steps = (decimal_ends, decimal_rejected)

pub ruleset steps = (
  guard_marker_step,
  guard_index_none,
  guard_index_there,
  indexed_other,
  indexed_guard,
  numbered_guard_step,
)
