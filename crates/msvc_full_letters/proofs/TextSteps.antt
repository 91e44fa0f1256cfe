-- Step lemmas of what begins with the text of a table.
use Rattle.std.proofs.Common.{ℕ, List, [], ◌∷◌, ◌++◌, Option, Some, None, Bool, true, false, cond, ◌==◌, ◌≡◌, ◌∙◌}
use Rattle.std.proofs.Common.{refl, ap}
use Rattle.std.proofs.lemmas.Bool.{eqb-true}
use Rattle.std.specs.Prelude.{codes}
use Prim.Native.Char.{code}
use Rattle.std.specs.Option.{option_map}
use Rattle.msvc_nodes.specs.Trees.{TypeTree, base, no_names, no_types, plain, shape}
use Rattle.msvc_nodes.specs.declared.kinds.PlainType.TheVariants as plain_kind
use Rattle.msvc_nodes.specs.declared.kinds.PrimitiveKind.{PrimitiveKind}
use Rattle.msvc_rules.specs.Readers.{Found, and_then, counting, in_node, letter_here, only_if, or_else, read_by}
use Rattle.msvc_rules.specs.Readers.{with_value}
use Rattle.msvc_rules.specs.Rules.{Rule, call, give, letter, letter_or, lookup, node, text_and, ◌>>=◌}
use Rattle.msvc_rules.specs.Sorts.{base_type, type_tree}
use Rattle.msvc_rules.specs.State.{State, counted, is_allowed, more}
use Rattle.msvc_full_grammar.specs.Forms.{c_function, extended, managed_function}
use Rattle.msvc_full_grammar.specs.Grammar.{grammar}
use Rattle.msvc_full_grammar.specs.Fragments.{of_c, typed_member}
use Rattle.msvc_full_grammar.specs.Letters.{argument_texts, base_types, code_texts, deduced_types, encoding_texts}
use Rattle.msvc_full_grammar.specs.Letters.{extended_types, funclet_texts, function_texts, member_texts}
use Rattle.msvc_full_grammar.specs.Letters.{operator_texts, symbol_texts, type_texts, value_texts, variable_texts}
use Rattle.msvc_full_grammar.specs.Productions.{Production, argument, argument_after, encoding, encoding_after}
use Rattle.msvc_full_grammar.specs.Productions.{operator_after}
use Rattle.msvc_full_grammar.specs.Productions.{operator_name, other_encoding, type_, type_after, variable}
use Rattle.msvc_full_grammar.specs.Productions.{marked_symbol, operator_symbol, symbol_after, template_value}
use Rattle.msvc_full_grammar.specs.Productions.{funclet, funclet_or_symbol, function_code, member, symbol, value_after}
use Rattle.msvc_full_grammar.specs.Reading.{read_name, read}
use Rattle.msvc_full_grammar.proofs.Checks.{no_argument_begins_another, no_encoding_begins_another}
use Rattle.msvc_full_grammar.proofs.Checks.{no_function_begins_another}
use Rattle.msvc_full_grammar.proofs.Checks.{no_operator_begins_another, no_symbol_begins_another}
use Rattle.msvc_full_grammar.proofs.Checks.{no_value_begins_another}
use Rattle.msvc_full_grammar.proofs.Checks.{no_code_begins_another, no_funclet_begins_another, no_type_begins_another}
use Rattle.msvc_full_grammar.proofs.Checks.{no_member_begins_another, no_variable_begins_another}
use Rattle.msvc_full_grammar.proofs.Laws.{read_name-is}
use Rattle.msvc_cursor.specs.Parser.{byte_here, text_at}
use Rattle.msvc_cursor.proofs.Choices.{by_text, choose}
use Rattle.msvc_full_letters.specs.Texts.{base_by, code_at, dollar, encoding_at, function_at, operator_at, unless_dollar}
use Rattle.msvc_full_letters.specs.Texts.{type_double_dollar_texts, value_behind}
use Rattle.msvc_full_letters.proofs.Choices.{letter_or-is, text_and-is, text_or-is}
use Rattle.msvc_full_letters.proofs.TextsByLetter.{code_by_letter, encoding_by_letter, function_by_letter}
use Rattle.msvc_full_letters.proofs.TextsByLetter.{led_by-none, operator_by_letter}

pub marked_symbol_step : (left : List ℕ) (s : State) → read_name marked_symbol left s
    ≡ by_text (text_at symbol_texts left) (λ f rest. read_name (symbol_after f) rest s)
    (read_name operator_symbol left s)
unfolding grammar read read_by
marked_symbol_step left s =
    read_name-is marked_symbol left s
    ∙ text_or-is symbol_texts (λ f. call (symbol_after f)) (call operator_symbol) left s no_symbol_begins_another

pub operator_name_step : (left : List ℕ) (s : State) → read_name operator_name left s
    ≡ by_text (operator_at left) (λ o rest. read_name (operator_after o) rest s) None
unfolding grammar read read_by
operator_name_step left s =
    read_name-is operator_name left s
    ∙ text_and-is operator_texts (λ o. call (operator_after o)) left s no_operator_begins_another
    ∙ ap (λ o. by_text o (λ f rest. read_name (operator_after f) rest s) None) (operator_by_letter left)

pub encoding_step : (left : List ℕ) (s : State) → read_name encoding left s
    ≡ by_text (text_at variable_texts left) (λ k rest. read_name (variable k) rest s) (read_name other_encoding left s)
unfolding grammar read read_by
encoding_step left s =
    read_name-is encoding left s
    ∙ text_or-is variable_texts (λ k. call (variable k)) (call other_encoding) left s no_variable_begins_another

-- no type at the end, and else a text of the table
abbrev pub other_encoding_by : List ℕ → State → Found TypeTree
other_encoding_by [] s = in_node [] s (λ l t. Some (plain plain_kind.None, l, t))
other_encoding_by (b ∷ bs) s =
    by_text (encoding_at (b ∷ bs)) (λ e rest. read_name (encoding_after e) rest s) None

by_encoding : (left : List ℕ) (s : State) → read (text_and encoding_texts (λ e. call (encoding_after e))) left s
    ≡ by_text (encoding_at left) (λ e rest. read_name (encoding_after e) rest s) None
unfolding read read_by
by_encoding left s =
    text_and-is encoding_texts (λ e. call (encoding_after e)) left s no_encoding_begins_another
    ∙ ap (λ o. by_text o (λ e rest. read_name (encoding_after e) rest s) None) (encoding_by_letter left)

or_nothing : {A : Type 0} (o : Found A) → or_else o None ≡ o
or_nothing None = refl
or_nothing (Some x) = refl

pub other_encoding_step : (left : List ℕ) (s : State) → read_name other_encoding left s ≡ other_encoding_by left s
unfolding grammar read read_by encoding_at
other_encoding_step [] s =
    read_name-is other_encoding [] s
    ∙ ap (or_else (in_node [] s (λ l t. Some (plain plain_kind.None, l, t)))) (by_encoding [] s)
    ∙ or_nothing (in_node [] s (λ l t. Some (plain plain_kind.None, l, t)))
other_encoding_step (b ∷ bs) s = read_name-is other_encoding (b ∷ bs) s ∙ by_encoding (b ∷ bs) s

pub c_function_step : (left : List ℕ) (s : State) → read_name (encoding_after c_function) left s
    ≡ by_text (function_at left) (λ f rest. read_name (encoding_after (of_c f)) rest s) None
unfolding grammar read read_by
c_function_step left s =
    read_name-is (encoding_after c_function) left s
    ∙ text_and-is function_texts (λ f. call (encoding_after (of_c f))) left s no_function_begins_another
    ∙ ap (λ o. by_text o (λ f rest. read_name (encoding_after (of_c f)) rest s) None) (function_by_letter left)

pub managed_function_step : (left : List ℕ) (s : State) → read_name (encoding_after managed_function) left s
    ≡ by_text (function_at left) (λ f rest. read_name (encoding_after f) rest s) None
unfolding grammar read read_by
managed_function_step left s =
    read_name-is (encoding_after managed_function) left s
    ∙ text_and-is function_texts (λ f. call (encoding_after f)) left s no_function_begins_another
    ∙ ap (λ o. by_text o (λ f rest. read_name (encoding_after f) rest s) None) (function_by_letter left)

pub function_code_step : (left : List ℕ) (s : State) → read_name function_code left s
    ≡ by_text (code_at left) (λ f rest. read_name (encoding_after f) rest s) None
unfolding grammar read read_by
function_code_step left s =
    read_name-is function_code left s
    ∙ text_and-is code_texts (λ f. call (encoding_after f)) left s no_code_begins_another
    ∙ ap (λ o. by_text o (λ f rest. read_name (encoding_after f) rest s) None) (code_by_letter left)

pub funclet_or_symbol_step : (left : List ℕ) (s : State) → read_name funclet_or_symbol left s
    ≡ by_text (text_at funclet_texts left) (λ row rest. read_name (funclet row) rest s) (read_name symbol left s)
unfolding grammar read read_by
funclet_or_symbol_step left s =
    read_name-is funclet_or_symbol left s
    ∙ text_or-is funclet_texts (λ row. call (funclet row)) (call symbol) left s no_funclet_begins_another

pub template_value_step : (left : List ℕ) (s : State) → read_name template_value left s
    ≡ by_text (text_at value_texts left) (λ v rest. read_name (value_after v) rest s) None
unfolding grammar read read_by
template_value_step left s =
    read_name-is template_value left s
    ∙ text_and-is value_texts (λ v. call (value_after v)) left s no_value_begins_another

pub member_step : (left : List ℕ) (s : State) → read_name member left s
    ≡ by_text (text_at member_texts left) (λ v rest. read_name (value_after v) rest s) (read typed_member left s)
unfolding grammar read read_by
member_step left s =
    read_name-is member left s
    ∙ text_or-is member_texts (λ v. call (value_after v)) typed_member left s no_member_begins_another

pub argument_step : (left : List ℕ) (s : State) → read_name argument left s
    ≡ by_text (text_at argument_texts left) (λ f rest. read_name (argument_after f) rest s)
    (read_name (type_ 0) left s)
unfolding grammar read read_by
argument_step left s =
    read_name-is argument left s
    ∙ text_or-is argument_texts (λ f. call (argument_after f)) (call (type_ 0)) left s no_argument_begins_another

base_found : (q : ℕ) (o : Option PrimitiveKind) (l : List ℕ) (t : State)
    → and_then (with_value o l t) (λ x k u. Some (base x q, k, u)) ≡ with_value (option_map (λ x. base x q) o) l t
base_found q None l t = refl
base_found q (Some x) l t = refl

base_letter : (table : List (ℕ × PrimitiveKind)) (q : ℕ) (l : List ℕ) (t : State)
    → and_then (letter_here table l t) (λ x k u. Some (base x q, k, u))
    ≡ and_then (byte_here l t) (λ b k u. with_value (option_map (λ x. base x q) (lookup b table)) k u)
unfolding byte_here
base_letter table q [] t = refl
base_letter table q (b ∷ bs) t = base_found q (lookup b table) bs t

pub type_step : (q : ℕ) (left : List ℕ) (s : State) → read_name (type_ q) left s
    ≡ by_text (text_at type_texts left) (λ f rest. read_name (type_after q f) rest s) (base_by base_types q left s)
unfolding grammar read read_by
type_step q left s =
    read_name-is (type_ q) left s
    ∙ text_or-is type_texts (λ f. call (type_after q f))
    (node (do b ← letter base_type base_types; give (base b q))) left s no_type_begins_another
    ∙ λ i. by_text (text_at type_texts left) (λ f rest. read_name (type_after q f) rest s)
    (in_node left s (λ l t. base_letter base_types q l t i))

-- a node of which nothing is read is none
pub node_rejected : {A : Type 0} (f : List ℕ → State → Found A) (l : List ℕ) (t : State)
    → ((u : State) → f l u ≡ None) → in_node l t f ≡ None
unfolding counting
node_rejected f l t none = go (is_allowed (more t.count.weight t.count)) (counted t.count.weight t)
  where
    go : (b : Bool) (u : State) → and_then (only_if b l u) (λ _ k v. f k v) ≡ None
    go true u = none u
    go false u = refl

-- no type begins with a $ of which no other follows
no_text_at_value : (left rest : List ℕ) → value_behind left ≡ Some rest → text_at type_texts left ≡ None
unfolding value_behind text_at
no_text_at_value [] rest e = absurd (cc)
no_text_at_value (b ∷ bs) rest e = go (b == dollar) refl e
  where
    behind : (l : List ℕ) → unless_dollar l ≡ Some rest → text_at type_texts (dollar ∷ l) ≡ None
    behind [] h = refl
    behind (c ∷ l) h = at (c == dollar) refl h
      where
        at : (t : Bool) → (c == dollar) ≡ t → cond t None (Some (c ∷ l)) ≡ Some rest
            → text_at type_texts (dollar ∷ c ∷ l) ≡ None
        at true d k = absurd (cc)
        at false d k = led_by-none dollar type_double_dollar_texts c l d

    go : (t : Bool) → (b == dollar) ≡ t → cond t (unless_dollar bs) None ≡ Some rest
        → text_at type_texts (b ∷ bs) ≡ None
    go true d k = ap (λ x. text_at type_texts (x ∷ bs)) (eqb-true b dollar d) ∙ behind bs k
    go false d k = absurd (cc)

no_base_at_value : (left rest : List ℕ) (q : ℕ) (s : State) → value_behind left ≡ Some rest
    → base_by base_types q left s ≡ None
unfolding value_behind byte_here
no_base_at_value [] rest q s e = absurd (cc)
no_base_at_value (b ∷ bs) rest q s e = go (b == dollar) refl e
  where
    letter : List ℕ → State → Found TypeTree
    letter l t = and_then (byte_here l t) (λ c k u. with_value (option_map (λ x. base x q) (lookup c base_types)) k u)

    at : (u : State) → letter (dollar ∷ bs) u ≡ None
    at u = refl

    go : (t : Bool) → (b == dollar) ≡ t → cond t (unless_dollar bs) None ≡ Some rest
        → base_by base_types q (b ∷ bs) s ≡ None
    go true d k =
        ap (λ x. base_by base_types q (x ∷ bs) s) (eqb-true b dollar d) ∙ node_rejected letter (dollar ∷ bs) s at
    go false d k = absurd (cc)

pub no_type_at_value : (q : ℕ) (left rest : List ℕ) (s : State) → value_behind left ≡ Some rest
    → read_name (type_ q) left s ≡ None
no_type_at_value q left rest s e =
    type_step q left s
    ∙ ap (λ o. by_text o (λ f l. read_name (type_after q f) l s) (base_by base_types q left s))
    (no_text_at_value left rest e)
    ∙ no_base_at_value left rest q s e

-- a type that is deduced, by its row, or another type
abbrev pub deduced_or : Option ℕ → Option TypeTree → ℕ → Option TypeTree
deduced_or None other q = other
deduced_or (Some row) other q = Some (shape row q [] [] no_names no_types)

-- a type of a second letter, with qualifiers
abbrev pub extended_by : ℕ → ℕ → Option TypeTree
extended_by q b = deduced_or (lookup b deduced_types) (option_map (λ x. base x q) (lookup b extended_types)) q

pub extended_step : (q : ℕ) (left : List ℕ) (s : State) → read_name (type_after q extended) left s
    ≡ in_node left s (λ l t. and_then (byte_here l t) (λ b k u. with_value (extended_by q b) k u))
unfolding grammar read read_by byte_here
extended_step q left s =
    read_name-is (type_after q extended) left s
    ∙ λ i. in_node left s (λ l t. inside l t i)
  where
    a_base : Rule Production type_tree
    a_base = do b ← letter base_type extended_types; give (base b q)

    of_row : ℕ → Rule Production type_tree
    of_row row = give (shape row q [] [] no_names no_types)

    found : (o : Option ℕ) (p : Option PrimitiveKind) (bs : List ℕ) (t : State)
        → choose (with_value o bs t) (λ row k u. Some (shape row q [] [] no_names no_types, k, u))
        (and_then (with_value p bs t) (λ x k u. Some (base x q, k, u)))
        ≡ with_value (deduced_or o (option_map (λ x. base x q) p) q) bs t
    found None None bs t = refl
    found None (Some x) bs t = refl
    found (Some row) p bs t = refl

    inside : (l : List ℕ) (t : State) → read (letter_or deduced_types of_row a_base) l t
        ≡ and_then (byte_here l t) (λ b k u. with_value (extended_by q b) k u)
    inside [] t = letter_or-is {a = type_tree} deduced_types of_row a_base [] t
    inside (b ∷ bs) t =
        letter_or-is {a = type_tree} deduced_types of_row a_base (b ∷ bs) t
        ∙ found (lookup b deduced_types) (lookup b extended_types) bs t

-- no type begins with the _V of an explicit `this`
no_second_letter : (q : ℕ) (rest : List ℕ) (s : State) → read_name (type_after q extended) (code "V" ∷ rest) s ≡ None
unfolding byte_here
no_second_letter q rest s = extended_step q (code "V" ∷ rest) s ∙ node_rejected letter (code "V" ∷ rest) s at
  where
    letter : List ℕ → State → Found TypeTree
    letter l t = and_then (byte_here l t) (λ b k u. with_value (extended_by q b) k u)

    at : (u : State) → letter (code "V" ∷ rest) u ≡ None
    at u = refl

pub no_type_at_this : (q : ℕ) (rest : List ℕ) (s : State) → read_name (type_ q) (codes "_V" ++ rest) s ≡ None
unfolding text_at
no_type_at_this q rest s = type_step q (codes "_V" ++ rest) s ∙ no_second_letter q rest s

pub ruleset steps = (
  marked_symbol_step,
  operator_name_step,
  encoding_step,
  other_encoding_step,
  c_function_step,
  managed_function_step,
  function_code_step,
  funclet_or_symbol_step,
  template_value_step,
  member_step,
  argument_step,
  type_step,
  extended_step,
)
