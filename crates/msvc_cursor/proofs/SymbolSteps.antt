-- Step lemmas of symbols, by their first bytes, and of the encodings after their names.
use Rattle.std.proofs.Common.{ℕ, List, [], ◌∷◌, Option, Some, None, Bool, true, false, cond, ◌+◌, ◌≡◌, refl, ap, ◌∙◌}
use Rattle.std.proofs.Common.{take, drop}
use Rattle.std.specs.Prelude.{codes}
use Rattle.std.specs.Option.{option_map_or}
use Rattle.msvc_nodes.specs.declared.kinds.VarStorageKind.{VarStorageKind}
use Rattle.msvc_nodes.specs.Trees as tree
use Rattle.msvc_nodes.specs.declared.kinds.PlainType.TheVariants as plain_kind
use Rattle.msvc_nodes.specs.Trees.{NameTree, SymbolTree, TypeTree, function, member_function, name_trees, plain}
use Rattle.msvc_nodes.specs.Trees.{type_trees, variable, no_names, vcall_thunk}
use Rattle.msvc_cursor.specs.Parser as parser
use Rattle.msvc_cursor.specs.Parser.{byte_here, cut_at, name_length, hash_at}
use Rattle.msvc_nodes.specs.declared.kinds.SpecialTableKind.{SpecialTableKind}
use Rattle.msvc_nodes.specs.Trees.{md5_symbol}
use Rattle.msvc_rules.specs.Readers.{Found, read_by, letter_here, with_value, after_literal, and_then, in_node}
use Rattle.msvc_rules.specs.Rules.{after, lookup, Rule, literal, literal_or, optional}
use Rattle.msvc_rules.specs.Sorts.{symbol_tree, EncodingLetter, member_of, plain_function, untyped, variable_of}
use Rattle.msvc_rules.specs.Sorts.{table_of, type_information, virtual_call}
use Rattle.msvc_rules.specs.State.{State}
use Rattle.msvc_grammar.specs.Grammar.{grammar, has, named_symbol, hashed_symbol, is_guard, numbered_guard, with_index}
use Rattle.msvc_grammar.specs.Grammar.{template_kept, template_symbol, is_hash, qualifiers_of_class}
use Rattle.msvc_grammar.specs.Letters.{rows_of, qualifiers, storage_classes, conventions, function_classes}
use Rattle.msvc_grammar.specs.Letters.{encoding_letters, thunk}
use Rattle.msvc_grammar.specs.Productions.{Production, symbol, symbol_body, guard_index, encoding, encoding_after}
use Rattle.msvc_grammar.specs.Productions.{thunk_number, this_qualifiers, signature, type_, qualified_name, scope}
use Rattle.msvc_grammar.specs.Productions.{number, required, source_name}
use Rattle.msvc_grammar.specs.Reading.{read_name, read}
use Rattle.msvc_grammar.proofs.Laws.{read_name-is}
use Rattle.msvc_cursor.proofs.Choices.{choose, chosen, literal_or-is, lookup-rows, if_required, or_none, then_is}
use Rattle.msvc_cursor.proofs.NameSteps.{source_name_step}
use Rattle.msvc_grammar.specs.declared.forms.FunctionKind.TheVariants as function_kind
use Rattle.msvc_grammar.specs.declared.forms.TemplateNames.TheVariants as templates

-- symbols

pub symbol_step : (left : List ℕ) (s : State) → read_name symbol left s
    ≡ chosen (after (codes "?") left) (λ rest. read_name symbol_body rest s) None
unfolding grammar read read_by
symbol_step left s = read_name-is symbol left s ∙ go (after (codes "?") left)
  where
    go : (o : Option (List ℕ))
        → and_then (after_literal o s) (λ _. read_name symbol_body)
        ≡ chosen o (λ rest. read_name symbol_body rest s) None
    go None = refl
    go (Some rest) = refl

pub symbol_body_step : (left : List ℕ) (s : State) → read_name symbol_body left s
    ≡ chosen (after (codes "?@") left) (λ rest. read hashed_symbol rest s)
    (chosen (after (codes "$TSS") left) (λ rest. read numbered_guard rest s)
    (chosen (after (codes "$") left) (λ rest. read template_symbol rest s) (read named_symbol left s)))
unfolding grammar read read_by
symbol_body_step left s =
    read_name-is symbol_body left s
    ∙ literal_or-is {a = symbol_tree} (codes "?@") hashed_symbol from_guard left s
    ∙ ap (chosen (after (codes "?@") left) (λ rest. read hashed_symbol rest s))
    (literal_or-is {a = symbol_tree} (codes "$TSS") numbered_guard from_template left s
    ∙ ap (chosen (after (codes "$TSS") left) (λ rest. read numbered_guard rest s))
    (literal_or-is {a = symbol_tree} (codes "$") template_symbol named_symbol left s))
  where
    from_template : Rule Production symbol_tree
    from_template = literal_or (codes "$") template_symbol named_symbol

    from_guard : Rule Production symbol_tree
    from_guard = literal_or (codes "$TSS") numbered_guard from_template

pub template_symbol_step : (left : List ℕ) (s : State) → read template_symbol left s
    ≡ and_then (read (template_kept templates.NotMemorized) left s) (λ n l t. in_node l t
    (λ k u. Some (record { name = n; scope = tree.no_names; symbol_type = plain plain_kind.None }, k, u)))
unfolding read read_by
template_symbol_step left s = refl

-- a symbol with these parts
abbrev pub symbol_of : NameTree → List NameTree → TypeTree → SymbolTree
symbol_of n ns x = record { name = n; scope = name_trees ns; symbol_type = x }

pub named_symbol_step : (left : List ℕ) (s : State) → read named_symbol left s
    ≡ and_then (read_name (qualified_name templates.NotMemorized) left s)
    (λ n l t. and_then (parser.indexed n.0 n.1 l t) (λ m k u. and_then (read_name encoding k u)
    (λ x j v. Some (symbol_of m.0 m.1 x, j, v))))
unfolding read read_by
named_symbol_step left s = go (read_name (qualified_name templates.NotMemorized) left s)
  where
    inside : (n : NameTree) (ns : List NameTree) (o : Found (Option ℕ))
        → and_then o (λ index k u. and_then (read_name encoding k u)
        (λ x j v. Some (symbol_of (with_index index n) ns x, j, v)))
        ≡ and_then {A = NameTree × List NameTree} (and_then o (λ index l t. Some ((with_index index n, ns), l, t)))
        (λ m k u. and_then (read_name encoding k u) (λ x j v. Some (symbol_of m.0 m.1 x, j, v)))
    inside n ns None = refl
    inside n ns (Some y) = refl

    go : (o : Found (NameTree × List NameTree))
        → and_then o (λ n l t. and_then (read_name (guard_index (is_guard n.0)) l t)
        (λ index k u. and_then (read_name encoding k u)
        (λ x j v. Some (symbol_of (with_index index n.0) n.1 x, j, v))))
        ≡ and_then o (λ n l t. and_then (parser.indexed n.0 n.1 l t) (λ m k u. and_then (read_name encoding k u)
        (λ x j v. Some (symbol_of m.0 m.1 x, j, v))))
    go None = refl
    go (Some y) = inside y.0.0 y.0.1 (read_name (guard_index (is_guard y.0.0)) y.1 y.2)

pub named_symbol_is : (left l k rest : List ℕ) (s t u v : State) (n m : NameTree) (ns ms : List NameTree) (x : TypeTree)
    → read_name (qualified_name templates.NotMemorized) left s ≡ Some ((n, ns), l, t)
    → parser.indexed n ns l t ≡ Some ((m, ms), k, u)
    → read_name encoding k u ≡ Some (x, rest, v)
    → read named_symbol left s ≡ Some (symbol_of m ms x, rest, v)
named_symbol_is left l k rest s t u v n m ns ms x e f g =
    named_symbol_step left s
    ∙ ap (λ o. and_then o (λ y i a. and_then (parser.indexed y.0 y.1 i a) (λ z j b. and_then (read_name encoding j b)
    (λ w h c. Some (symbol_of z.0 z.1 w, h, c))))) e
    ∙ ap (λ o. and_then o (λ z j b. and_then (read_name encoding j b)
    (λ w h c. Some (symbol_of z.0 z.1 w, h, c)))) f
    ∙ ap (λ o. and_then o (λ w h c. Some (symbol_of m ms w, h, c))) g

-- hashes

pub hashed_symbol_step : (left : List ℕ) (s : State) → read hashed_symbol left s
    ≡ in_node left s (λ j a. in_node j a (λ i b. and_then (hash_at (name_length i) i b)
    (λ n l t. Some (md5_symbol n, l, t))))
unfolding read read_by
hashed_symbol_step left s = λ p. in_node left s (λ j a. in_node j a (λ i b. inside i b p))
  where
    checked : (t : Bool) (n rest : List ℕ) (b : State)
        → cond t (Some (md5_symbol n, rest, b)) None
        ≡ and_then (cond t (Some (n, rest, b)) None) (λ m l u. Some (md5_symbol m, l, u))
    checked true n rest b = refl
    checked false n rest b = refl

    go : (o : Option ℕ) (i : List ℕ) (b : State)
        → and_then (cut_at o i b) (λ n l t. cond (is_hash n) (Some (md5_symbol n, l, t)) None)
        ≡ and_then (hash_at o i b) (λ n l t. Some (md5_symbol n, l, t))
    go None i b = refl
    go (Some k) i b = checked (is_hash (take k i)) (take k i) (drop (k + 1) i) b

    inside : (i : List ℕ) (b : State)
        → and_then (read_name source_name i b)
        (λ n l t. and_then (read_name (required (is_hash n)) l t) (λ _ k u. Some (md5_symbol n, k, u)))
        ≡ and_then (hash_at (name_length i) i b) (λ n l t. Some (md5_symbol n, l, t))
    inside i b =
        ap (λ o. and_then o (λ n l t. and_then (read_name (required (is_hash n)) l t)
        (λ _ k u. Some (md5_symbol n, k, u)))) (source_name_step i b)
        ∙ then_is (cut_at (name_length i) i b) _ _
        (λ n l t. if_required (is_hash n) l t (λ k u. Some (md5_symbol n, k, u)))
        ∙ go (name_length i) i b

-- the type of a symbol, by its first byte

unfoldable pub encoding_by : Option EncodingLetter → List ℕ → State → Found TypeTree
encoding_by None left s = None
encoding_by (Some l) left s = read_name (encoding_after l) left s

pub encoding_step : (left : List ℕ) (s : State) → read_name encoding left s
    ≡ choose (byte_here left s)
    (λ b l t. encoding_by (lookup b encoding_letters) l t) (in_node left s (λ l t. Some (plain plain_kind.None, l, t)))
unfolding grammar read read_by byte_here encoding_by
encoding_step [] s = read_name-is encoding [] s ∙ or_none (in_node [] s (λ l t. Some (plain plain_kind.None, l, t)))
encoding_step (b ∷ bs) s = read_name-is encoding (b ∷ bs) s ∙ remaining (lookup b encoding_letters)
  where
    remaining : (o : Option EncodingLetter) → and_then (with_value o bs s) (λ x. read_name (encoding_after x))
        ≡ encoding_by o bs s
    remaining None = refl
    remaining (Some x) = refl

pub encoding_first : (b : ℕ) (left l : List ℕ) (s t : State) → byte_here left s ≡ Some (b, l, t)
    → read_name encoding left s ≡ encoding_by (lookup b encoding_letters) l t
encoding_first b left l s t e =
    encoding_step left s
    ∙ ap (λ o. choose o (λ c k u. encoding_by (lookup c encoding_letters) k u)
    (in_node left s (λ k u. Some (plain plain_kind.None, k, u)))) e

-- a letter that no other encoding has is that of a member function or none

letter_of_members : (b : ℕ) (left : List ℕ) (s : State)
    → encoding_by (lookup b (rows_of member_of function_classes [])) left s
    ≡ encoding_by (option_map_or (λ class. Some (member_of class)) (lookup b function_classes) None) left s
letter_of_members b left s = ap (λ o. encoding_by o left s) (lookup-rows member_of b function_classes [])

pub member_letter : (b class : ℕ) (left : List ℕ) (s : State) → lookup b function_classes ≡ Some class
    → encoding_by (lookup b (rows_of member_of function_classes [])) left s
    ≡ read_name (encoding_after (member_of class)) left s
unfolding encoding_by
member_letter b class left s e =
    letter_of_members b left s
    ∙ ap (λ o. encoding_by (option_map_or (λ c. Some (member_of c)) o None) left s) e

pub no_member_letter : (b : ℕ) (left : List ℕ) (s : State) → lookup b function_classes ≡ None
    → encoding_by (lookup b (rows_of member_of function_classes [])) left s ≡ None
unfolding encoding_by
no_member_letter b left s e =
    letter_of_members b left s
    ∙ ap (λ o. encoding_by (option_map_or (λ c. Some (member_of c)) o None) left s) e

pub variable_step : (kind : VarStorageKind) (left : List ℕ) (s : State)
    → read_name (encoding_after (variable_of kind)) left s
    ≡ in_node left s (λ j a. and_then (read_name (type_ 0) j a)
    (λ x l t. and_then (read (optional storage_classes) l t)
    (λ class k u. Some (variable x kind class, k, u))))
unfolding grammar read read_by
variable_step kind left s = read_name-is (encoding_after (variable_of kind)) left s

pub untyped_step : (left : List ℕ) (s : State)
    → read_name (encoding_after untyped) left s ≡ in_node left s (λ l t. Some (plain plain_kind.None, l, t))
unfolding grammar read read_by
untyped_step left s = read_name-is (encoding_after untyped) left s

pub function_step : (left : List ℕ) (s : State) → read_name (encoding_after plain_function) left s
    ≡ in_node left s (λ j a. and_then (read_name (signature function_kind.Free) j a)
    (λ f l t. Some (function f.0 (type_trees f.1.1) 0 f.1.0, l, t)))
unfolding grammar read read_by
function_step left s = read_name-is (encoding_after plain_function) left s

pub member_step : (class : ℕ) (left : List ℕ) (s : State) → read_name (encoding_after (member_of class)) left s
    ≡ in_node left s (λ i a. and_then (read_name (thunk_number (has class thunk)) i a)
    (λ _ l t. and_then (read_name (this_qualifiers (qualifiers_of_class class)) l t)
    (λ on_this k u. and_then (read_name (signature function_kind.Member) k u)
    (λ f j v. Some (member_function class f.0 (type_trees f.1.1) on_this f.1.0, j, v)))))
unfolding grammar read read_by
member_step class left s = read_name-is (encoding_after (member_of class)) left s

-- types of tables, of run-time type information and of thunks

pub table_step : (kind : SpecialTableKind) (left : List ℕ) (s : State) → read_name (encoding_after (table_of kind)) left
    s
    ≡ in_node left s (λ j a. and_then (read (optional qualifiers) j a)
    (λ q l t. and_then (read_name scope l t) (λ ns k u. Some (tree.table kind (name_trees ns) q, k, u))))
unfolding grammar read read_by
table_step kind left s = read_name-is (encoding_after (table_of kind)) left s

pub type_information_step : (left : List ℕ) (s : State)
    → read_name (encoding_after type_information) left s ≡ in_node left s (λ l t. Some (plain plain_kind.Rtti, l, t))
unfolding grammar read read_by
type_information_step left s = read_name-is (encoding_after type_information) left s

pub virtual_call_step : (left : List ℕ) (s : State) → read_name (encoding_after virtual_call) left s
    ≡ in_node left s (λ h a. and_then (read (literal (codes "B")) h a) (λ _ l t. and_then (read_name number l t)
    (λ z k u. and_then (read (literal (codes "A")) k u) (λ _ j v. and_then (letter_here conventions j v)
    (λ c i w. Some (vcall_thunk z c, i, w))))))
unfolding grammar read read_by
virtual_call_step left s = read_name-is (encoding_after virtual_call) left s

pub ruleset encoding_steps = (encoding_step, untyped_step, type_information_step)

pub ruleset steps = (
  symbol_step,
  symbol_body_step,
  template_symbol_step,
  named_symbol_step,
  hashed_symbol_step,
  variable_step,
  function_step,
  member_step,
  table_step,
  virtual_call_step,
)
