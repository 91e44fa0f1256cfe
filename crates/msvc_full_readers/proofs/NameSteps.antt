-- Step lemmas of names, scopes and templates.
use Rattle.std.proofs.Common.{ℕ, ℤ, List, [], ◌∷◌, ◌++◌, Option, Some, None, Bool, true, false, ◌≡◌, refl, ap, ◌∙◌}
use Rattle.std.proofs.Common.{append-nil, cond, not, true≢false}
use Rattle.std.specs.Prelude.{slice_get, codes, is_some}
use Rattle.msvc_nodes.specs.Trees.{NameTree, SymbolTree, name_trees, names, nested, no_names, no_types, operator, plain}
use Rattle.msvc_nodes.specs.Trees.{shaped}
use Rattle.msvc_nodes.specs.Trees.{base_class_descriptor, template, type_trees}
use Rattle.msvc_nodes.specs.declared.kinds.PlainOperator.{PlainOperator}
use Rattle.msvc_nodes.specs.declared.kinds.PlainType.TheVariants as plain_kind
use Rattle.msvc_rules.specs.Readers.{Found, after_literal, and_then, counting, in_node, letter_here, name_known}
use Rattle.msvc_rules.specs.Readers.{or_else, put_apart, read_by}
use Rattle.msvc_rules.specs.Reads.{emptied}
use Rattle.msvc_rules.specs.Rules.{Rule, after, begins, call, give, here, known_name, literal, literal_or, none_of}
use Rattle.msvc_rules.specs.Rules.{◌>>=◌}
use Rattle.msvc_rules.specs.Rules.{◌or◌}
use Rattle.msvc_rules.specs.Sorts.{list, name_tree}
use Rattle.msvc_rules.specs.State.{State, remember_name}
use Rattle.msvc_grammar.specs.Reading.{read as crate_read}
use Rattle.msvc_full_grammar.specs.Grammar.{grammar}
use Rattle.msvc_full_grammar.specs.Fragments.{anonymous_namespace, nested_symbol, new_source_name, new_template}
use Rattle.msvc_full_grammar.specs.Fragments.{interface_name, name_alone, template_inside}
use Rattle.msvc_full_grammar.specs.Letters.{digits}
use Rattle.msvc_full_grammar.specs.Productions.{Production, class_symbol, count, listed, marked_scope, name_row}
use Rattle.msvc_full_grammar.specs.Productions.{nested_name}
use Rattle.msvc_full_grammar.specs.Productions.{operator_after, operator_name, scope, symbol, symbol_name}
use Rattle.msvc_full_grammar.specs.Productions.{small_number, targets, template_name, type_name, type_symbol}
use Rattle.msvc_full_grammar.specs.Reading.{read_name, read}
use Rattle.msvc_full_grammar.specs.Rows.{frame_row, interface_row, literal_operator_row}
use Rattle.msvc_full_grammar.specs.declared.forms.Listed.TheVariants as kinds
use Rattle.msvc_full_grammar.specs.declared.forms.NameRow.{NameRow}
use Rattle.msvc_full_grammar.specs.declared.forms.NameRow.TheVariants.{Frame, LiteralOperator}
use Rattle.msvc_full_grammar.specs.declared.forms.OperatorForm.TheVariants as operators
use Rattle.msvc_cursor.specs.Rows.{with_front}
use Rattle.msvc_full_grammar.proofs.Laws.{read_name-is}
use Rattle.msvc_cursor.proofs.Choices.{choose, chosen}
use Rattle.msvc_cursor.proofs.RowSteps.{front_none, row_by, row_ends, row_more, row_rejected, scope_stop}
use Rattle.msvc_full_letters.proofs.Choices.{letter_or-is, literal_or-is}
use Rattle.msvc_full_letters.proofs.TextSteps.{node_rejected}
use Rattle.msvc_full_readers.specs.Readings.{name_in_scope, symbol_body}
use Rattle.msvc_full_readers.proofs.Founds.{then_then}

pub symbol_name_step : (left : List ℕ) (s : State) → read_name symbol_name left s
    ≡ choose (letter_here digits left s) (λ i l t. name_known (slice_get t.names i) l t)
    (chosen (after (codes "?$") left) (λ rest. read_name template_name rest s)
    (chosen (after (codes "?") left) (λ rest. read_name operator_name rest s) (read new_source_name left s)))
unfolding grammar read read_by
symbol_name_step left s =
    read_name-is symbol_name left s
    ∙ letter_or-is digits (λ i. known_name i) (literal_or (codes "?$") (call template_name) operator_or_new) left s
    ∙ ap (choose (letter_here digits left s) (λ i l t. name_known (slice_get t.names i) l t))
    (literal_or-is {a = name_tree} (codes "?$") (call template_name) operator_or_new left s
    ∙ ap (chosen (after (codes "?$") left) (λ rest. read_name template_name rest s))
    (literal_or-is {a = name_tree} (codes "?") (call operator_name) new_source_name left s))
  where
    operator_or_new : Rule Production name_tree
    operator_or_new = literal_or (codes "?") (call operator_name) new_source_name

pub plain_operator_step : (o : PlainOperator) (left : List ℕ) (s : State)
    → read_name (operator_after (operators.Plain o)) left s ≡ in_node left s (λ l t. Some (operator o, l, t))
unfolding grammar read read_by
plain_operator_step o left s = read_name-is (operator_after (operators.Plain o)) left s

pub operator_word_step : (row : ℕ) (left : List ℕ) (s : State) → read_name (operator_after (operators.Word row)) left s
    ≡ in_node left s (λ l t. Some (shaped row 0 [] [] no_names no_types, l, t))
unfolding grammar read read_by
operator_word_step row left s = read_name-is (operator_after (operators.Word row)) left s

pub base_class_step : (left : List ℕ) (s : State) → read_name (operator_after operators.BaseClass) left s
    ≡ in_node left s (λ i a. and_then (read_name small_number i a) (λ x j b. and_then (read_name small_number j b)
    (λ y k c. and_then (read_name small_number k c) (λ z h d. and_then (read_name small_number h d)
    (λ w l t. Some (base_class_descriptor x y z w, l, t))))))
unfolding grammar read read_by
base_class_step left s = read_name-is (operator_after operators.BaseClass) left s

-- what is read of a base class, by what is read of its numbers
pub base_class_reads : (left i l k j rest : List ℕ) (s r t u v w : State) (a b c d : ℤ)
    → counting s.count.weight left s ≡ Some (tt, i, r)
    → read_name small_number i r ≡ Some (a, l, t) → read_name small_number l t ≡ Some (b, k, u)
    → read_name small_number k u ≡ Some (c, j, v) → read_name small_number j v ≡ Some (d, rest, w)
    → read_name (operator_after operators.BaseClass) left s ≡ Some (base_class_descriptor a b c d, rest, w)
base_class_reads left i l k j rest s r t u v w a b c d n e f g h = base_class_step left s ∙ rw (n, e, f, g, h)

pub operator_row_step : (r : NameRow) (left : List ℕ) (s : State)
    → read_name (operator_after (operators.Row r)) left s ≡ read_name (name_row r) left s
unfolding grammar read read_by
operator_row_step r left s = read_name-is (operator_after (operators.Row r)) left s

pub frame_step : (left : List ℕ) (s : State) → read_name (name_row Frame) left s
    ≡ in_node left s (λ j a. and_then (read_name count j a)
    (λ n l t. and_then (crate_read (literal (codes "?")) l t)
    (λ _ k u. and_then (read nested_symbol k u)
    (λ x i v. Some (
      shaped frame_row 0 (record { is_negative = false; value = n } ∷ []) [] (names x no_names) no_types,
      i,
      v,
    )))))
unfolding grammar read read_by crate_read
frame_step left s = read_name-is (name_row Frame) left s

pub literal_operator_step : (left : List ℕ) (s : State) → read_name (name_row LiteralOperator) left s
    ≡ in_node left s (λ j a. and_then (read new_source_name j a)
    (λ x l t. Some (shaped literal_operator_row 0 [] [] (names x no_names) no_types, l, t)))
unfolding grammar read read_by
literal_operator_step left s = read_name-is (name_row LiteralOperator) left s

pub nested_symbol_step : (left : List ℕ) (s : State) → read nested_symbol left s
    ≡ in_node left s (λ j a. and_then (read_name symbol j a)
    (λ x l t. Some (nested x.name x.scope x.symbol_type, l, t)))
unfolding read read_by
nested_symbol_step left s = refl

pub type_name_step : (left : List ℕ) (s : State) → read_name type_name left s
    ≡ choose (letter_here digits left s) (λ i l t. name_known (slice_get t.names i) l t)
    (chosen (after (codes "?$") left) (λ rest. read new_template rest s) (read new_source_name left s))
unfolding grammar read read_by
type_name_step left s =
    read_name-is type_name left s
    ∙ letter_or-is digits (λ i. known_name i) (literal_or (codes "?$") new_template new_source_name) left s
    ∙ ap (choose (letter_here digits left s) (λ i l t. name_known (slice_get t.names i) l t))
    (literal_or-is {a = name_tree} (codes "?$") new_template new_source_name left s)

pub type_symbol_step : (left : List ℕ) (s : State) → read_name type_symbol left s
    ≡ and_then (read_name type_name left s)
    (λ n l t. and_then (read_name scope l t) (λ ns k u. Some ((n, ns), k, u)))
unfolding grammar read read_by
type_symbol_step left s = read_name-is type_symbol left s

pub name_in_scope_step : (left : List ℕ) (s : State) → read name_in_scope left s
    ≡ and_then (read_name symbol_name left s)
    (λ n l t. and_then (read_name scope l t) (λ ns k u. Some ((n, ns), k, u)))
unfolding read read_by
name_in_scope_step left s = refl

pub class_symbol_step : (left : List ℕ) (s : State) → read_name class_symbol left s
    ≡ in_node left s (λ j a. and_then (read_name type_symbol j a)
    (λ x l t. in_node l t (λ k u. Some (nested x.0 (name_trees x.1) (plain plain_kind.None), k, u))))
unfolding grammar read read_by
class_symbol_step left s =
    read_name-is class_symbol left s
    ∙ λ i. in_node left s (λ j a. and_then (read_name type_symbol j a)
    (λ x l t. then_then (counting t.count.weight l t) (λ _ k u. Some (plain plain_kind.None, k, u))
    (λ y k u. Some (nested x.0 (name_trees x.1) y, k, u)) i))

pub new_template_step : (left : List ℕ) (s : State) → read new_template left s
    ≡ and_then (read_name template_name left s) (λ n l t. Some (n, l, remember_name n t))
unfolding read read_by
new_template_step left s = refl

pub template_name_step : (left : List ℕ) (s : State) → read_name template_name left s
    ≡ put_apart s (read template_inside left (emptied s))
unfolding grammar read read_by
template_name_step left s = read_name-is template_name left s

pub template_inside_step : (left : List ℕ) (s : State) → read template_inside left s
    ≡ in_node left s (λ j a. and_then (read_name symbol_name j a)
    (λ n l t. and_then (read_name (listed kinds.Argument) l t) (λ ts k u. Some (template n (type_trees ts), k, u))))
unfolding read read_by
template_inside_step left s = refl

pub nested_name_step : (left : List ℕ) (s : State) → read_name nested_name left s
    ≡ choose (letter_here digits left s) (λ i l t. name_known (slice_get t.names i) l t)
    (chosen (after (codes "?$") left) (λ rest. read new_template rest s)
    (chosen (after (codes "?A") left) (λ rest. read anonymous_namespace rest s)
    (chosen (after (codes "?") left) (λ rest. read_name marked_scope rest s) (read new_source_name left s))))
unfolding grammar read read_by
nested_name_step left s =
    read_name-is nested_name left s
    ∙ letter_or-is digits (λ i. known_name i) (literal_or (codes "?$") new_template anonymous_or_other) left s
    ∙ ap (choose (letter_here digits left s) (λ i l t. name_known (slice_get t.names i) l t))
    (literal_or-is {a = name_tree} (codes "?$") new_template anonymous_or_other left s
    ∙ ap (chosen (after (codes "?$") left) (λ rest. read new_template rest s))
    (literal_or-is {a = name_tree} (codes "?A") anonymous_namespace frame_or_new left s
    ∙ ap (chosen (after (codes "?A") left) (λ rest. read anonymous_namespace rest s))
    (literal_or-is {a = name_tree} (codes "?") (call marked_scope) new_source_name left s)))
  where
    frame_or_new : Rule Production name_tree
    frame_or_new = literal_or (codes "?") (call marked_scope) new_source_name

    anonymous_or_other : Rule Production name_tree
    anonymous_or_other = literal_or (codes "?A") anonymous_namespace frame_or_new

-- no symbol is read where no ? stands
pub symbol_rejected : (l : List ℕ) (t : State) → begins l (codes "?") ≡ false → read_name symbol l t ≡ None
unfolding grammar read read_by
symbol_rejected l t e = read_name-is symbol l t ∙ at (after (codes "?") l) e
  where
    at : (o : Option (List ℕ)) → is_some o ≡ false
        → and_then (after_literal o t) (λ _ h v. read symbol_body h v) ≡ None
    at None h = refl
    at (Some rest) h = absurd (true≢false h)

-- nor a node around one
pub around_rejected : {A : Type 0} (P : List ℕ → State → Found SymbolTree) (f : SymbolTree → List ℕ → State → Found A)
    (l : List ℕ) (t : State) → ((u : State) → P l u ≡ None) → in_node l t (λ k u. and_then (P k u) f) ≡ None
around_rejected P f l t none = node_rejected (λ k u. and_then (P k u) f) l t (λ u. ap (λ o. and_then o f) (none u))

pub marked_scope_step : (left : List ℕ) (s : State) → read_name marked_scope left s
    ≡ chosen (after (codes "Q") left) (λ rest. read interface_name rest s)
    (cond (begins left (codes "?")) (read nested_symbol left s) (read_name (name_row Frame) left s))
unfolding grammar read read_by
marked_scope_step left s =
    read_name-is marked_scope left s
    ∙ literal_or-is {a = name_tree} (codes "Q") interface_name frame_or_symbol left s
    ∙ ap (chosen (after (codes "Q") left) (λ rest. read interface_name rest s)) (go (begins left (codes "?")) refl)
  where
    frame_or_symbol : Rule Production name_tree
    frame_or_symbol = here (none_of (codes "?" ∷ [])) (call (name_row Frame)) or nested_symbol

    or_nothing : (o : Found NameTree) → or_else o None ≡ o
    or_nothing None = refl
    or_nothing (Some x) = refl

    rejected : begins left (codes "?") ≡ false → read nested_symbol left s ≡ None
    rejected e = around_rejected (λ k u. read_name symbol k u)
        (λ x k u. Some (nested x.name x.scope x.symbol_type, k, u)) left s (λ u. symbol_rejected left u e)

    go : (b : Bool) → begins left (codes "?") ≡ b
        → or_else (cond (not (cond b true false)) (read_name (name_row Frame) left s) None) (read nested_symbol left s)
        ≡ cond b (read nested_symbol left s) (read_name (name_row Frame) left s)
    go true e = refl
    go false e = ap (or_else (read_name (name_row Frame) left s)) (rejected e)
        ∙ or_nothing (read_name (name_row Frame) left s)

pub interface_name_step : (left : List ℕ) (s : State) → read interface_name left s
    ≡ in_node left s (λ j a. and_then (read_name class_symbol j a)
    (λ x l t. Some (shaped interface_row 0 [] [] (names x no_names) no_types, l, t)))
unfolding read read_by
interface_name_step left s = refl

pub name_alone_step : (left : List ℕ) (s : State) → read name_alone left s
    ≡ in_node left s (λ j a. and_then (read name_in_scope j a)
    (λ x l t. in_node l t (λ k u. Some (nested x.0 (name_trees x.1) (plain plain_kind.None), k, u))))
unfolding read read_by
name_alone_step left s = λ i. in_node left s (λ j a. inside (read_name symbol_name j a) i)
  where
    pair : NameTree → List NameTree → List ℕ → State → Found (NameTree × List NameTree)
    pair n ns k u = Some ((n, ns), k, u)

    alone : NameTree × List NameTree → List ℕ → State → Found NameTree
    alone x l t = in_node l t (λ k u. Some (nested x.0 (name_trees x.1) (plain plain_kind.None), k, u))

    ended : NameTree → List NameTree → List ℕ → State → Found NameTree
    ended n ns l t = and_then (in_node l t (λ k u. Some (plain plain_kind.None, k, u)))
        (λ y k u. Some (nested n (name_trees ns) y, k, u))

    one : (n : NameTree) (ns : List NameTree) (l : List ℕ) (t : State) → ended n ns l t ≡ alone (n, ns) l t
    one n ns l t = then_then (counting t.count.weight l t) (λ _ k u. Some (plain plain_kind.None, k, u))
        (λ y k u. Some (nested n (name_trees ns) y, k, u))

    scoped : (n : NameTree) (p : Found (List NameTree))
        → and_then p (λ ns l t. ended n ns l t) ≡ and_then (and_then p (pair n)) alone
    scoped n None = refl
    scoped n (Some y) = one n y.0 y.1 y.2

    inside : (o : Found NameTree)
        → and_then o (λ n l t. and_then (read_name scope l t) (λ ns k u. ended n ns k u))
        ≡ and_then (and_then o (λ n l t. and_then (read_name scope l t) (pair n))) alone
    inside None = refl
    inside (Some x) = scoped x.0 (read_name scope x.1 x.2)

-- names up to an @, of a scope, and the classes that a table is for

stopped : (o : Option (List ℕ)) (first : Found NameTree) (others : List ℕ → State → Found (List NameTree)) (s : State)
    → chosen o (λ rest. Some ([], rest, s))
    (and_then first (λ n l t. and_then (others l t) (λ ns k u. Some (n ∷ ns, k, u))))
    ≡ row_by others (scope_stop o) first s
stopped None first others s = refl
stopped (Some rest) first others s = refl

scope_step : (left : List ℕ) (s : State)
    → read_name scope left s
    ≡ row_by (read_name scope) (scope_stop (after (codes "@") left)) (read_name nested_name left s) s
unfolding grammar read read_by
scope_step left s =
    read_name-is scope left s
    ∙ literal_or-is {a =
    list name_tree} (codes "@") (give []) (do n ← call nested_name; ns ← call scope; give (n ∷ ns)) left s
    ∙ stopped (after (codes "@") left) (read_name nested_name left s) (read_name scope) s

targets_step : (left : List ℕ) (s : State)
    → read_name targets left s
    ≡ row_by (read_name targets) (scope_stop (after (codes "@") left)) (read_name class_symbol left s) s
unfolding grammar read read_by
targets_step left s =
    read_name-is targets left s
    ∙ literal_or-is {a =
    list name_tree} (codes "@") (give []) (do n ← call class_symbol; ns ← call targets; give (n ∷ ns)) left s
    ∙ stopped (after (codes "@") left) (read_name class_symbol left s) (read_name targets) s

pub scope_starts : (left : List ℕ) (s : State) → with_front [] (read_name scope left s) ≡ read_name scope left s
scope_starts left s = front_none (read_name scope left s)

pub scope_ends : (xs : List NameTree) (left rest : List ℕ) (s : State) → after (codes "@") left ≡ Some rest
    → with_front xs (read_name scope left s) ≡ Some (xs, rest, s)
scope_ends xs left rest s e =
    row_ends (read_name scope) (read_name nested_name)
    (λ l. scope_stop (after (codes "@") l)) scope_step xs [] left rest s (ap scope_stop e)
    ∙ ap (λ z. Some (z, rest, s)) (append-nil xs)

pub scope_rejected : (xs : List NameTree) (left : List ℕ) (s : State) → after (codes "@") left ≡ None
    → read_name nested_name left s ≡ None → with_front xs (read_name scope left s) ≡ None
scope_rejected xs left s e none =
    row_rejected (read_name scope) (read_name nested_name)
    (λ l. scope_stop (after (codes "@") l)) scope_step xs left s (ap scope_stop e) none

pub scope_more : (xs : List NameTree) (left l : List ℕ) (s t : State) (x : NameTree) → after (codes "@") left ≡ None
    → read_name nested_name left s ≡ Some (x, l, t)
    → with_front xs (read_name scope left s) ≡ with_front (xs ++ x ∷ []) (read_name scope l t)
scope_more xs left l s t x e some =
    row_more (read_name scope) (read_name nested_name)
    (λ m. scope_stop (after (codes "@") m)) scope_step xs left l s t x (ap scope_stop e) some

pub targets_starts : (left : List ℕ) (s : State) → with_front [] (read_name targets left s) ≡ read_name targets left s
targets_starts left s = front_none (read_name targets left s)

pub targets_ends : (xs : List NameTree) (left rest : List ℕ) (s : State) → after (codes "@") left ≡ Some rest
    → with_front xs (read_name targets left s) ≡ Some (xs, rest, s)
targets_ends xs left rest s e =
    row_ends (read_name targets) (read_name class_symbol)
    (λ l. scope_stop (after (codes "@") l)) targets_step xs [] left rest s (ap scope_stop e)
    ∙ ap (λ z. Some (z, rest, s)) (append-nil xs)

pub targets_rejected : (xs : List NameTree) (left : List ℕ) (s : State) → after (codes "@") left ≡ None
    → read_name class_symbol left s ≡ None → with_front xs (read_name targets left s) ≡ None
targets_rejected xs left s e none =
    row_rejected (read_name targets) (read_name class_symbol)
    (λ l. scope_stop (after (codes "@") l)) targets_step xs left s (ap scope_stop e) none

pub targets_more : (xs : List NameTree) (left l : List ℕ) (s t : State) (x : NameTree) → after (codes "@") left ≡ None
    → read_name class_symbol left s ≡ Some (x, l, t)
    → with_front xs (read_name targets left s) ≡ with_front (xs ++ x ∷ []) (read_name targets l t)
targets_more xs left l s t x e some =
    row_more (read_name targets) (read_name class_symbol)
    (λ m. scope_stop (after (codes "@") m)) targets_step xs left l s t x (ap scope_stop e) some

pub ruleset steps = (
  symbol_name_step,
  plain_operator_step,
  operator_row_step,
  frame_step,
  literal_operator_step,
  operator_word_step,
  base_class_step,
  nested_symbol_step,
  type_name_step,
  type_symbol_step,
  name_in_scope_step,
  class_symbol_step,
  new_template_step,
  template_name_step,
  template_inside_step,
  nested_name_step,
  marked_scope_step,
  interface_name_step,
  name_alone_step,
  scope_starts,
  scope_ends,
  scope_rejected,
  targets_starts,
  targets_ends,
  targets_rejected,
)
