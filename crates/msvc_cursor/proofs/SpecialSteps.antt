-- Step lemmas of special names, by their codes.
use Rattle.std.proofs.Common.{ℕ, ℤ, List, [], ◌∷◌, ◌++◌, Option, Some, None, Bool, true, false, cond, ◌==◌, ◌≡◌, refl}
use Rattle.std.proofs.Common.{ap}
use Rattle.std.proofs.Common.{◌∙◌}
use Rattle.std.proofs.lemmas.Bool.{eqb-true}
use Rattle.std.specs.Prelude.{codes}
use Rattle.msvc_nodes.specs.declared.kinds.Guard.{Guard}
use Rattle.msvc_nodes.specs.declared.kinds.PlainOperator.{PlainOperator}
use Rattle.msvc_nodes.specs.Trees.{operator, guard, type_descriptor, base_class_descriptor}
use Rattle.msvc_rules.specs.Readers.{and_then, counting, in_node, read_by}
use Rattle.msvc_rules.specs.Rules.{after, call, literal, lookup, optional}
use Rattle.msvc_rules.specs.State.{State}
use Rattle.msvc_grammar.specs.Grammar.{grammar}
use Rattle.msvc_grammar.specs.Letters.{under_special_letters, basic_special_letters, special_texts, storage_classes}
use Rattle.msvc_grammar.specs.Letters.{type_information_letter, underscore, texts_after, double_under_special_letters}
use Rattle.msvc_grammar.specs.Letters.{type_information_letters}
use Rattle.msvc_grammar.specs.Productions.{type_, number, special_after, special_name}
use Rattle.msvc_grammar.specs.Reading.{read, read_name}
use Rattle.msvc_grammar.proofs.Checks.{no_code_begins_another}
use Rattle.msvc_grammar.proofs.Laws.{read_name-is}
use Rattle.msvc_grammar.specs.declared.forms.SpecialForm.{SpecialForm}
use Rattle.msvc_grammar.specs.declared.forms.SpecialForm.TheVariants as special
use Rattle.msvc_cursor.specs.Parser.{at_rest, letter_at, special_at_after_under, special_at, this_or, text_at}
use Rattle.msvc_cursor.proofs.Choices.{by_text, text_and-is}

pub special_name_step : (left : List ℕ) (s : State) → read_name special_name left s
    ≡ by_text (text_at special_texts left) (λ f rest. read_name (special_after f) rest s) None
unfolding grammar read read_by
special_name_step left s =
    read_name-is special_name left s
    ∙ text_and-is special_texts (λ f. call (special_after f)) left s no_code_begins_another

-- Codes, by their letters

-- the same after a text, if that begins
abbrev letter_after : {A : Type 0} → List (ℕ × A) → Option (List ℕ) → Option (A × List ℕ)
letter_after table None = None
letter_after table (Some rest) = letter_at table rest

abbrev first_of : {A : Type 0} → Option A → Option A → Option A
first_of None other = other
first_of (Some x) other = Some x

first_none : {A : Type 0} (o : Option A) → first_of o None ≡ o
first_none None = refl
first_none (Some x) = refl

-- after a text and one byte more
abbrev following_one : ℕ → Option (List ℕ) → Option (List ℕ)
following_one c None = None
following_one c (Some []) = None
following_one c (Some (b ∷ bs)) = cond (b == c) (Some bs) None

after_one : (l : List ℕ) (c : ℕ) (left : List ℕ) → after (l ++ c ∷ []) left ≡ following_one c (after l left)
after_one [] c [] = refl
after_one [] c (b ∷ bs) = refl
after_one (a ∷ l) c [] = refl
after_one (a ∷ l) c (b ∷ bs) = go (b == a) (after_one l c bs)
  where
    go : (t : Bool) → after (l ++ c ∷ []) bs ≡ following_one c (after l bs)
        → cond t (after (l ++ c ∷ []) bs) None ≡ following_one c (cond t (after l bs) None)
    go true e = e
    go false e = refl

following-is : {A : Type 0} (l : List ℕ) (table : List (ℕ × A)) (others : List (List ℕ × A)) (left : List ℕ)
    → text_at (texts_after l table others) left ≡ first_of (letter_after table (after l left)) (text_at others left)
unfolding text_at
following-is l [] others left = go (after l left)
  where
    go : (o : Option (List ℕ)) → text_at others left ≡ first_of (letter_after [] o) (text_at others left)
    go None = refl
    go (Some []) = refl
    go (Some (b ∷ bs)) = refl
following-is l (row ∷ table) others left =
    ap (λ o. this_or row.1 o (text_at (texts_after l table others) left)) (after_one l row.0 left)
    ∙ ap (this_or row.1 (following_one row.0 (after l left))) (following-is l table others left)
    ∙ go (after l left)
  where
    go : (o : Option (List ℕ))
        → this_or row.1 (following_one row.0 o) (first_of (letter_after table o) (text_at others left))
        ≡ first_of (letter_after (row ∷ table) o) (text_at others left)
    go None = refl
    go (Some []) = refl
    go (Some (b ∷ bs)) = here (b == row.0)
      where
        here : (t : Bool)
            → this_or row.1 (cond t (Some bs) None)
            (first_of (at_rest (lookup b table) bs) (text_at others left))
            ≡ first_of (at_rest (cond t (Some row.1) (lookup b table)) bs) (text_at others left)
        here true = refl
        here false = refl

-- the four tables, one after another
abbrev by_tables : List ℕ → Option (SpecialForm × List ℕ)
by_tables left =
    first_of (letter_at basic_special_letters left)
    (first_of (letter_after under_special_letters (after (codes "_") left))
    (first_of (letter_after type_information_letters (after (codes "_R") left))
    (first_of (letter_after double_under_special_letters (after (codes "__") left)) None)))

by_tables-is : (left : List ℕ) → text_at special_texts left ≡ by_tables left
unfolding text_at
by_tables-is left =
    following-is [] basic_special_letters after_mark left
    ∙ ap (first_of (letter_at basic_special_letters left))
    (following-is (codes "_") under_special_letters after_two left
    ∙ ap (first_of (letter_after under_special_letters (after (codes "_") left)))
    (following-is (codes "_R") type_information_letters last left
    ∙ ap (first_of (letter_after type_information_letters (after (codes "_R") left)))
    (following-is (codes "__") double_under_special_letters [] left)))
  where
    last : List (List ℕ × SpecialForm)
    last = texts_after (codes "__") double_under_special_letters []

    after_two : List (List ℕ × SpecialForm)
    after_two = texts_after (codes "_R") type_information_letters last

    after_mark : List (List ℕ × SpecialForm)
    after_mark = texts_after (codes "_") under_special_letters after_two

-- after _
marked : (bs : List ℕ) → by_tables (underscore ∷ bs) ≡ special_at_after_under bs
unfolding special_at_after_under
marked [] = refl
marked (c ∷ cs) = go (c == underscore) refl
  where
    other : (t : Bool) → (c == type_information_letter) ≡ t
        → first_of (letter_at under_special_letters (c ∷ cs))
        (first_of (letter_after type_information_letters (cond t (Some cs) None)) None)
        ≡ cond t (letter_at type_information_letters cs) (letter_at under_special_letters (c ∷ cs))
    other true e =
        ap (λ x. first_of (letter_at under_special_letters (x ∷ cs))
        (first_of (letter_at type_information_letters cs) None)) (eqb-true c type_information_letter e)
        ∙ first_none (letter_at type_information_letters cs)
    other false e = first_none (letter_at under_special_letters (c ∷ cs))

    go : (t : Bool) → (c == underscore) ≡ t
        → first_of (letter_at under_special_letters (c ∷ cs))
        (first_of (letter_after type_information_letters (cond (c == type_information_letter) (Some cs) None))
        (first_of (letter_after double_under_special_letters (cond t (Some cs) None)) None))
        ≡ cond t (letter_at double_under_special_letters cs)
        (cond (c == type_information_letter) (letter_at type_information_letters cs)
        (letter_at under_special_letters (c ∷ cs)))
    go true e =
        ap (λ x. first_of (letter_at under_special_letters (x ∷ cs))
        (first_of (letter_after type_information_letters (cond (x == type_information_letter) (Some cs) None))
        (first_of (letter_at double_under_special_letters cs) None))) (eqb-true c 95 e)
        ∙ first_none (letter_at double_under_special_letters cs)
    go false e = other (c == type_information_letter) refl

-- the code that begins, letter by letter
pub special_texts-are : (left : List ℕ) → text_at special_texts left ≡ special_at left
unfolding special_at
special_texts-are [] = by_tables-is []
special_texts-are (b ∷ bs) = by_tables-is (b ∷ bs) ∙ go (b == underscore) refl
  where
    go : (t : Bool) → (b == underscore) ≡ t
        → first_of (letter_at basic_special_letters (b ∷ bs))
        (first_of (letter_after under_special_letters (cond (b == underscore) (Some bs) None))
        (first_of (letter_after type_information_letters (cond (b == underscore) (after (codes "R") bs) None))
        (first_of (letter_after double_under_special_letters (cond (b == underscore) (after (codes "_") bs) None))
        None)))
        ≡ cond t (special_at_after_under bs) (letter_at basic_special_letters (b ∷ bs))
    go true e = ap (λ x. by_tables (x ∷ bs)) (eqb-true b 95 e) ∙ marked bs
    go false e =
        ap (λ t. first_of (letter_at basic_special_letters (b ∷ bs))
        (first_of (letter_after under_special_letters (cond t (Some bs) None))
        (first_of (letter_after type_information_letters (cond t (after (codes "R") bs) None))
        (first_of (letter_after double_under_special_letters (cond t (after (codes "_") bs) None)) None)))) e
        ∙ first_none (letter_at basic_special_letters (b ∷ bs))

pub special_name_here : (left : List ℕ) (s : State) → read_name special_name left s
    ≡ by_text (special_at left) (λ f rest. read_name (special_after f) rest s) None
special_name_here left s =
    special_name_step left s
    ∙ ap (λ o. by_text o (λ f rest. read_name (special_after f) rest s) None) (special_texts-are left)

-- What follows the code

pub plain_operator_step : (o : PlainOperator) (left : List ℕ) (s : State)
    → read_name (special_after (special.Plain o)) left s ≡ in_node left s (λ l t. Some (operator o, l, t))
unfolding grammar read read_by
plain_operator_step o left s = read_name-is (special_after (special.Plain o)) left s

pub guard_step : (kind : Guard) (left : List ℕ) (s : State)
    → read_name (special_after (special.Guard kind)) left s ≡ in_node left s (λ l t. Some (guard kind None, l, t))
unfolding grammar read read_by
guard_step kind left s = read_name-is (special_after (special.Guard kind)) left s

pub type_descriptor_step : (left : List ℕ) (s : State)
    → read_name (special_after special.TypeDescriptor) left s
    ≡ in_node left s (λ i a. and_then (read (literal (codes "?")) i a)
    (λ _ l t. and_then (read (optional storage_classes) l t)
    (λ q k u. and_then (read_name (type_ q) k u) (λ x j v. Some (type_descriptor q x, j, v)))))
unfolding grammar read read_by
type_descriptor_step left s = read_name-is (special_after special.TypeDescriptor) left s

pub base_class_step : (left : List ℕ) (s : State)
    → read_name (special_after special.BaseClass) left s
    ≡ in_node left s (λ h r. and_then (read_name number h r) (λ a l t. and_then (read_name number l t)
    (λ b k u. and_then (read_name number k u) (λ c j v. and_then (read_name number j v)
    (λ d i w. Some (base_class_descriptor a b c d, i, w))))))
unfolding grammar read read_by
base_class_step left s = read_name-is (special_after special.BaseClass) left s

pub base_class_reads : (left i l k j rest : List ℕ) (s r t u v w : State) (a b c d : ℤ)
    → counting s.count.weight left s ≡ Some (tt, i, r)
    → read_name number i r ≡ Some (a, l, t) → read_name number l t ≡ Some (b, k, u)
    → read_name number k u ≡ Some (c, j, v) → read_name number j v ≡ Some (d, rest, w)
    → read_name (special_after special.BaseClass) left s ≡ Some (base_class_descriptor a b c d, rest, w)
base_class_reads left i l k j rest s r t u v w a b c d n e f g h = base_class_step left s ∙ rw (n, e, f, g, h)

pub ruleset steps = (special_name_here, plain_operator_step, guard_step, type_descriptor_step, base_class_step)
