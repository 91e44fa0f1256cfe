-- Step lemmas of symbols.
use Rattle.std.proofs.Common.{ℕ, List, [], ◌∷◌, Option, Some, None, Bool, true, false, cond, not, ◌≡◌, ◌==◌, refl, ap}
use Rattle.std.proofs.Common.{sym, ◌∙◌, true≢false}
use Prim.Native.Char.{code}
use Rattle.std.specs.Prelude.{codes, is_some}
use Rattle.msvc_nodes.specs.Trees.{NameTree, SymbolTree, TypeTree, name_trees, no_names, no_types, plain, shape, shaped}
use Rattle.msvc_nodes.specs.Trees.{names, nested, spelled}
use Rattle.msvc_nodes.specs.declared.kinds.Guard.{Guard}
use Rattle.msvc_nodes.specs.declared.kinds.Spelling.TheVariants as spelling_kind
use Rattle.msvc_nodes.specs.declared.kinds.VarStorageKind.TheVariants as storage_kind
use Rattle.msvc_nodes.specs.declared.kinds.PlainType.TheVariants as plain_kind
use Rattle.msvc_nodes.specs.Trees as tree
use Rattle.msvc_nodes.specs.declared.kinds.VarStorageKind.{VarStorageKind}
use Rattle.msvc_rules.specs.Readers.{Found, after_literal, and_then, counting, in_node, letter_here, or_else, part_here}
use Rattle.msvc_rules.specs.Readers.{read_by}
use Rattle.msvc_rules.specs.Readers.{with_value}
use Rattle.std.specs.Option.{option_map}
use Rattle.msvc_nodes.specs.declared.nodes.Number.{Number}
use Rattle.msvc_rules.specs.Rules.{Rule, after, begins, call, give, literal, literal_or, remember, text_or, ◌>>=◌, ◌>>◌}
use Rattle.msvc_rules.specs.Sorts.{both, name_tree, symbol_tree, type_tree}
use Rattle.msvc_rules.specs.State.{State, remember_name}
use Rattle.msvc_grammar.specs.Reading.{read as crate_read}
use Rattle.msvc_full_grammar.specs.declared.forms.SymbolForm.TheVariants as forms
use Rattle.msvc_full_grammar.specs.Forms.{displaced}
use Rattle.msvc_full_grammar.specs.declared.forms.Stub.{Stub}
use Rattle.msvc_full_grammar.specs.Grammar.{grammar}
use Rattle.msvc_full_grammar.specs.Fragments.{each_plain, guard_row, hash_name, made_name}
use Rattle.msvc_full_grammar.specs.Fragments.{funclet_frame, funclet_type, name_alone, no_type, object_name, string_row}
use Rattle.msvc_full_grammar.specs.Fragments.{whole_hash_name}
use Rattle.msvc_full_grammar.specs.Strings.{decoded}
use Rattle.msvc_full_letters.specs.Strings.{encoded_string}
use Rattle.msvc_full_grammar.specs.Letters.{at_sign, funclet_texts, variable_texts, widths}
use Rattle.msvc_full_grammar.specs.Productions.{Production, encoding, encoding_after, named_symbol}
use Rattle.msvc_full_grammar.specs.Productions.{other_encoding, scope, symbol, template_name, template_symbol}
use Rattle.msvc_full_grammar.specs.Productions.{variable, variable_end, whole_text, symbol_name}
use Rattle.msvc_full_grammar.specs.Productions.{guard_index, guard_name, marked_symbol, operator_name}
use Rattle.msvc_full_grammar.specs.Productions.{operator_symbol, result_type, symbol_after}
use Rattle.msvc_full_grammar.specs.Productions.{class_symbol, count, funclet, funclet_function, funclet_home}
use Rattle.msvc_full_grammar.specs.Productions.{funclet_or_symbol, function_code, marked_stubbed, named_type}
use Rattle.msvc_full_grammar.specs.Productions.{no_variable}
use Rattle.msvc_full_grammar.specs.Productions.{source_name, string_of, stub_name, stubbed, stubbed_name}
use Rattle.msvc_full_grammar.specs.Productions.{stubbed_template, stubbed_variable, variable_or_none}
use Rattle.msvc_full_grammar.specs.Productions.{whole_hash}
use Rattle.msvc_full_grammar.specs.Rows.{catch_row, destructor_row, displacement_row, filter_row, finally_row}
use Rattle.msvc_full_grammar.specs.Rows.{frame_row, md5_locator_row, type_descriptor_name_row}
use Rattle.msvc_full_grammar.specs.Rows.{type_descriptor_row}
use Rattle.msvc_full_grammar.specs.Reading.{read_name, read}
use Rattle.msvc_full_grammar.proofs.Checks.{no_funclet_begins_another, no_variable_begins_another}
use Rattle.msvc_full_grammar.proofs.Laws.{read_name-is}
use Rattle.msvc_cursor.specs.Parser.{cut_at, name_length, text_at, this_or}
use Rattle.msvc_cursor.proofs.NameSteps.{part_cut}
use Rattle.msvc_cursor.proofs.Choices.{by_text, chosen}
use Rattle.msvc_full_letters.proofs.Choices.{literal_or-is, text_or-is}
use Rattle.msvc_full_letters.proofs.TextSteps.{encoding_step, funclet_or_symbol_step}
use Rattle.msvc_full_readers.specs.Readings.{c_function_name, descriptor_of, end_of_stub, entered, funclet_of}
use Rattle.msvc_full_readers.specs.Readings.{funclet_variable, guard_marker, marked_text, name_in_scope, stub_name_of}
use Rattle.msvc_full_readers.specs.Readings.{symbol_body, whole_function_name}
use Rattle.msvc_full_readers.proofs.NameSteps.{around_rejected, symbol_rejected}
use Rattle.msvc_full_readers.proofs.Founds.{then_by_text, then_then}

-- a symbol of its parts
abbrev pub symbol_of : NameTree → List NameTree → TypeTree → SymbolTree
symbol_of n ns t = record { name = n; scope = name_trees ns; symbol_type = t }

-- a node that ends a symbol without a type, and one before it that is its name
last_node : (x : NameTree) (l : List ℕ) (t : State)
    → and_then (in_node l t (λ j v. Some (plain plain_kind.None, j, v))) (λ y j v. Some (symbol_of x [] y, j, v))
    ≡ in_node l t (λ j v. Some (symbol_of x [] (plain plain_kind.None), j, v))
last_node x l t =
    then_then (counting t.count.weight l t) (λ _ j v. Some (plain plain_kind.None, j, v))
    (λ y j v. Some (symbol_of x [] y, j, v))

two_nodes : (x : NameTree) (l : List ℕ) (t : State)
    → and_then (in_node l t (λ k u. Some (x, k, u)))
    (λ x k u. and_then (in_node k u (λ j v. Some (plain plain_kind.None, j, v)))
    (λ y j v. Some (symbol_of x [] y, j, v)))
    ≡ in_node l t (λ k u. in_node k u (λ j v. Some (symbol_of x [] (plain plain_kind.None), j, v)))
two_nodes x l t =
    then_then (counting t.count.weight l t) (λ _ k u. Some (x, k, u))
    (λ x k u. and_then (in_node k u (λ j v. Some (plain plain_kind.None, j, v)))
    (λ y j v. Some (symbol_of x [] y, j, v)))
    ∙ λ i. in_node l t (λ k u. last_node x k u i)

pub symbol_step : (left : List ℕ) (s : State) → read_name symbol left s
    ≡ and_then (crate_read (literal (codes "?")) left s) (λ _ l t. read symbol_body l t)
unfolding grammar read read_by crate_read
symbol_step left s = read_name-is symbol left s

pub symbol_body_step : (left : List ℕ) (s : State) → read symbol_body left s
    ≡ chosen (after (codes "?$") left) (λ rest. read_name template_symbol rest s)
    (chosen (after (codes "?") left) (λ rest. read_name marked_symbol rest s) (read_name named_symbol left s))
unfolding read read_by
symbol_body_step left s =
    literal_or-is {a = symbol_tree} (codes "?$") (call template_symbol) marked_or_named left s
    ∙ ap (chosen (after (codes "?$") left) (λ rest. read_name template_symbol rest s))
    (literal_or-is {a = symbol_tree} (codes "?") (call marked_symbol) (call named_symbol) left s)
  where
    marked_or_named : Rule Production symbol_tree
    marked_or_named = literal_or (codes "?") (call marked_symbol) (call named_symbol)

-- what is read of a text that begins with a ?
abbrev hash_or_symbol : Rule Production symbol_tree
hash_or_symbol = literal_or (codes "??@") (call whole_hash) (call symbol)

-- the same after the ?
abbrev hash_or_symbol_by : List ℕ → State → Found SymbolTree
hash_or_symbol_by left s = chosen (after (codes "?") left)
    (λ rest. chosen (after (codes "?@") rest) (λ l. read_name whole_hash l s) (read symbol_body rest s)) None

hash_or_symbol_step : (left : List ℕ) (s : State) → read hash_or_symbol left s ≡ hash_or_symbol_by left s
unfolding grammar read read_by
hash_or_symbol_step left s =
    literal_or-is {a = symbol_tree} (codes "??@") (call whole_hash) (call symbol) left s
    ∙ ap (chosen (after (codes "??@") left) (λ rest. read_name whole_hash rest s)) (read_name-is symbol left s)
    ∙ at left
  where
    first : (t : Bool) (bs : List ℕ)
        → chosen (cond t (after (codes "?@") bs) None) (λ rest. read_name whole_hash rest s)
        (and_then (after_literal (cond t (Some bs) None) s) (λ _ l u. read symbol_body l u))
        ≡ chosen (cond t (Some bs) None)
        (λ rest. chosen (after (codes "?@") rest) (λ l. read_name whole_hash l s) (read symbol_body rest s)) None
    first true bs = refl
    first false bs = refl

    at : (left : List ℕ)
        → chosen (after (codes "??@") left) (λ rest. read_name whole_hash rest s)
        (and_then (after_literal (after (codes "?") left) s) (λ _ l u. read symbol_body l u)) ≡ hash_or_symbol_by left s
    at [] = refl
    at (b ∷ bs) = first (b == code "?") bs

pub marked_text_step : (left : List ℕ) (s : State) → read marked_text left s
    ≡ by_text (text_at funclet_texts left) (λ row rest. read_name (funclet row) rest s) (hash_or_symbol_by left s)
unfolding read read_by
marked_text_step left s =
    text_or-is funclet_texts (λ row. call (funclet row)) hash_or_symbol left s no_funclet_begins_another
    ∙ ap (by_text (text_at funclet_texts left) (λ row rest. read_name (funclet row) rest s))
    (hash_or_symbol_step left s)

-- where no ? stands, no text of a funclet does
no_funclet : (left : List ℕ) → begins left (codes "?") ≡ false → text_at funclet_texts left ≡ None
unfolding text_at
no_funclet [] e = refl
no_funclet (b ∷ bs) e = go (b == code "?") e
  where
    go : (t : Bool) → is_some (cond t (Some bs) None) ≡ false
        → this_or catch_row (cond t (after (codes "catch$") bs) None)
        (this_or destructor_row (cond t (after (codes "dtor$") bs) None)
        (this_or filter_row (cond t (after (codes "filt$") bs) None)
        (this_or finally_row (cond t (after (codes "fin$") bs) None) None))) ≡ None
    go false h = refl
    go true h = absurd (true≢false h)

pub marked_text_rejected : (left : List ℕ) (s : State) → begins left (codes "?") ≡ false
    → read marked_text left s ≡ None
marked_text_rejected left s e =
    marked_text_step left s
    ∙ ap (λ o. by_text o (λ row rest. read_name (funclet row) rest s) (hash_or_symbol_by left s)) (no_funclet left e)
    ∙ none (after (codes "?") left) e
  where
    none : (o : Option (List ℕ)) → is_some o ≡ false
        → chosen o (λ rest. chosen (after (codes "?@") rest) (λ l. read_name whole_hash l s)
        (read symbol_body rest s)) None
        ≡ None
    none None h = refl
    none (Some rest) h = absurd (true≢false h)

pub whole_text_step : (left : List ℕ) (s : State) → read_name whole_text left s
    ≡ chosen (after (codes ".") left) (λ rest. read_name named_type rest s)
    (cond (begins left (codes "?")) (read marked_text left s) None)
unfolding grammar read read_by
whole_text_step left s =
    read_name-is whole_text left s
    ∙ literal_or-is {a = symbol_tree} (codes ".") (call named_type) marked_text left s
    ∙ ap (chosen (after (codes ".") left) (λ rest. read_name named_type rest s)) (go (begins left (codes "?")) refl)
  where
    go : (b : Bool) → begins left (codes "?") ≡ b → read marked_text left s ≡ cond b (read marked_text left s) None
    go true e = refl
    go false e = marked_text_rejected left s e

-- funclets

pub funclet_step : (row : ℕ) (left : List ℕ) (s : State) → read_name (funclet row) left s
    ≡ and_then (cut_at (name_length left) left s) (λ label l t. in_node l t
    (λ k u. and_then (read_name funclet_home k u) (λ h j v. Some (funclet_of row label h, j, v))))
unfolding grammar read read_by
funclet_step row left s =
    read_name-is (funclet row) left s
    ∙ (λ i. and_then (part_cut left s i) (λ label l t. and_then
    (in_node l t (λ k u. Some (shaped row 0 [] label no_names no_types, k, u))) (λ n k u. at_home n k u)))
    ∙ λ i. and_then (cut_at (name_length left) left s) (λ label l t.
    then_then (counting t.count.weight l t) (λ _ k u. Some (shaped row 0 [] label no_names no_types, k, u)) at_home i)
  where
    at_home : NameTree → List ℕ → State → Found SymbolTree
    at_home n k u = and_then (read_name funclet_home k u)
        (λ h j v. Some (record { name = n; scope = names h.0 no_names; symbol_type = h.1 }, j, v))

pub funclet_home_step : (left : List ℕ) (s : State) → read_name funclet_home left s
    ≡ chosen (after (codes "0@") left) (λ rest. and_then (read name_alone rest s)
    (λ x l t. in_node l t (λ k u. Some ((x, plain plain_kind.None), k, u))))
    (and_then (crate_read (literal (codes "?0?")) left s) (λ _ i a. and_then (read funclet_frame i a)
    (λ x l t. in_node l t (λ k u. in_node k u (λ j v. Some ((x, funclet_variable), j, v))))))
unfolding grammar read read_by crate_read
funclet_home_step left s =
    read_name-is funclet_home left s
    ∙ literal_or-is {a = both name_tree type_tree} (codes "0@") by_name as_variable left s
    ∙ λ i. chosen (after (codes "0@") left) (λ rest. and_then (read name_alone rest s) (λ x l t. named_end x l t i))
    (and_then (after_literal (after (codes "?0?") left) s) (λ _ l t. and_then (read funclet_frame l t)
    (λ x k u. variable_end x k u i)))
  where
    by_name : Rule Production (both name_tree type_tree)
    by_name = do x ← name_alone; t ← no_type; give (x, t)

    as_variable : Rule Production (both name_tree type_tree)
    as_variable = do literal (codes "?0?"); x ← funclet_frame; t ← funclet_type; give (x, t)

    pair : NameTree → TypeTree → List ℕ → State → Found (NameTree × TypeTree)
    pair x y k u = Some ((x, y), k, u)

    named_end : (x : NameTree) (l : List ℕ) (t : State)
        → and_then (in_node l t (λ k u. Some (plain plain_kind.None, k, u))) (pair x)
        ≡ in_node l t (λ k u. Some ((x, plain plain_kind.None), k, u))
    named_end x l t = then_then (counting t.count.weight l t) (λ _ k u. Some (plain plain_kind.None, k, u)) (pair x)

    variable_end : (x : NameTree) (l : List ℕ) (t : State)
        → and_then (in_node l t (λ k u. in_node k u (λ j v. Some (funclet_variable, j, v)))) (pair x)
        ≡ in_node l t (λ k u. in_node k u (λ j v. Some ((x, funclet_variable), j, v)))
    variable_end x l t =
        then_then (counting t.count.weight l t) (λ _ k u. in_node k u (λ j v. Some (funclet_variable, j, v))) (pair x)
        ∙ λ i. in_node l t (λ k u. then_then (counting u.count.weight k u) (λ _ j v. Some (funclet_variable, j, v))
        (pair x) i)

pub funclet_frame_step : (left : List ℕ) (s : State) → read funclet_frame left s
    ≡ in_node left s (λ j a. and_then (read_name funclet_function j a)
    (λ x l t. Some (
      shaped frame_row 0 (record { is_negative = false; value = 1 } ∷ []) [] (names x no_names) no_types,
      l,
      t,
    )))
unfolding read read_by
funclet_frame_step left s = refl

-- neither a funclet nor a symbol is read where no ? stands
no_funclet_or_symbol : (left : List ℕ) (s : State) → begins left (codes "?") ≡ false
    → read_name funclet_or_symbol left s ≡ None
no_funclet_or_symbol left s e =
    funclet_or_symbol_step left s
    ∙ ap (λ o. by_text o (λ row rest. read_name (funclet row) rest s) (read_name symbol left s)) (no_funclet left e)
    ∙ symbol_rejected left s e

pub c_function_name_step : (left : List ℕ) (s : State) → read c_function_name left s
    ≡ in_node left s (λ i a. and_then (read_name source_name i a) (λ x l t. in_node l t (λ j b. in_node j b
    (λ h c. and_then (crate_read (literal (codes "4HA")) h c)
    (λ _ k u. Some (nested (spelled spelling_kind.Source x) no_names (plain plain_kind.None), k, u))))))
unfolding read read_by crate_read
c_function_name_step left s =
    λ i. in_node left s (λ k a. and_then (read_name source_name k a) (λ x l t. inside x l t i))
  where
    ended : NameTree → TypeTree → List ℕ → State → Found NameTree
    ended n y h c = and_then (after_literal (after (codes "4HA") h) c) (λ _ k u. Some (nested n no_names y, k, u))

    typed : NameTree → List ℕ → State → Found NameTree
    typed n j b = and_then (in_node j b (λ h c. Some (plain plain_kind.None, h, c))) (λ y h c. ended n y h c)

    one : (n : NameTree) (j : List ℕ) (b : State)
        → typed n j b ≡ in_node j b (λ h c. ended n (plain plain_kind.None) h c)
    one n j b = then_then (counting b.count.weight j b) (λ _ h c. Some (plain plain_kind.None, h, c)) (ended n)

    inside : (x : List ℕ) (l : List ℕ) (t : State)
        → and_then (in_node l t (λ j b. Some (spelled spelling_kind.Source x, j, b))) (λ n j b. typed n j b)
        ≡ in_node l t (λ j b. in_node j b (λ h c. ended (spelled spelling_kind.Source x) (plain plain_kind.None) h c))
    inside x l t =
        then_then (counting t.count.weight l t) (λ _ j b. Some (spelled spelling_kind.Source x, j, b)) typed
        ∙ λ i. in_node l t (λ j b. one (spelled spelling_kind.Source x) j b i)

pub whole_function_name_step : (left : List ℕ) (s : State) → read whole_function_name left s
    ≡ in_node left s (λ j a. and_then (read_name funclet_or_symbol j a)
    (λ x l t. and_then (crate_read (literal (codes "@4HA")) l t)
    (λ _ k u. Some (nested x.name x.scope x.symbol_type, k, u))))
unfolding read read_by crate_read
whole_function_name_step left s = refl

pub funclet_function_step : (left : List ℕ) (s : State) → read_name funclet_function left s
    ≡ cond (begins left (codes "?")) (read whole_function_name left s) (read c_function_name left s)
unfolding grammar read read_by
funclet_function_step left s = read_name-is funclet_function left s ∙ go (begins left (codes "?")) refl
  where
    or_nothing : (o : Found NameTree) → or_else o None ≡ o
    or_nothing None = refl
    or_nothing (Some x) = refl

    rejected : begins left (codes "?") ≡ false → read whole_function_name left s ≡ None
    rejected e = around_rejected (λ k u. read_name funclet_or_symbol k u)
        (λ x l t. and_then (after_literal (after (codes "@4HA") l) t)
        (λ _ k u. Some (nested x.name x.scope x.symbol_type, k, u))) left s (λ u. no_funclet_or_symbol left u e)

    go : (b : Bool) → begins left (codes "?") ≡ b
        → or_else (cond (not (cond b true false)) (read c_function_name left s) None) (read whole_function_name left s)
        ≡ cond b (read whole_function_name left s) (read c_function_name left s)
    go true e = refl
    go false e = ap (or_else (read c_function_name left s)) (rejected e) ∙ or_nothing (read c_function_name left s)

pub object_symbol_step : (left : List ℕ) (s : State) → read_name (symbol_after forms.Object) left s
    ≡ and_then (read object_name left s) (λ n l t. in_node l t
    (λ k u. Some (symbol_of n [] (plain plain_kind.None), k, u)))
unfolding grammar read read_by
object_symbol_step left s =
    read_name-is (symbol_after forms.Object) left s
    ∙ λ i. and_then (read object_name left s) (λ n l t. last_node n l t i)

-- stubs

pub stub_symbol_step : (stub : Stub) (left : List ℕ) (s : State) → read_name (symbol_after (forms.Stub stub)) left s
    ≡ and_then (read_name (stub_name stub) left s) (λ n l t. and_then (read_name function_code l t)
    (λ x k u. Some (symbol_of n [] x, k, u)))
unfolding grammar read read_by
stub_symbol_step stub left s = read_name-is (symbol_after (forms.Stub stub)) left s

pub stub_name_step : (stub : Stub) (left : List ℕ) (s : State) → read_name (stub_name stub) left s
    ≡ in_node left s (λ i a. in_node i a (λ j b. and_then (read_name stubbed j b)
    (λ x l t. Some (stub_name_of stub x, l, t))))
unfolding grammar read read_by
stub_name_step stub left s = read_name-is (stub_name stub) left s

pub stubbed_step : (left : List ℕ) (s : State) → read_name stubbed left s
    ≡ chosen (after (codes "?$") left) (λ rest. read_name (stubbed_template false) rest s)
    (chosen (after (codes "?") left) (λ rest. read_name marked_stubbed rest s) (read_name (stubbed_name false) left s))
unfolding grammar read read_by
stubbed_step left s =
    read_name-is stubbed left s
    ∙ literal_or-is {a = symbol_tree} (codes "?$") (call (stubbed_template false)) marked_or_name left s
    ∙ ap (chosen (after (codes "?$") left) (λ rest. read_name (stubbed_template false) rest s))
    (literal_or-is {a = symbol_tree} (codes "?") (call marked_stubbed) (call (stubbed_name false)) left s)
  where
    marked_or_name : Rule Production symbol_tree
    marked_or_name = literal_or (codes "?") (call marked_stubbed) (call (stubbed_name false))

pub marked_stubbed_step : (left : List ℕ) (s : State) → read_name marked_stubbed left s
    ≡ chosen (after (codes "?$") left) (λ rest. read_name (stubbed_template true) rest s)
    (read_name (stubbed_name true) left s)
unfolding grammar read read_by
marked_stubbed_step left s =
    read_name-is marked_stubbed left s
    ∙ literal_or-is {a = symbol_tree} (codes "?$") (call (stubbed_template true)) (call (stubbed_name true)) left s

pub variable_or_none_step : (required : Bool) (left : List ℕ) (s : State)
    → read_name (variable_or_none required) left s
    ≡ by_text (text_at variable_texts left) (λ k rest. read_name (stubbed_variable required k) rest s)
    (read_name (no_variable required) left s)
unfolding grammar read read_by
variable_or_none_step required left s =
    read_name-is (variable_or_none required) left s
    ∙ text_or-is variable_texts (λ k. call (stubbed_variable required k)) (call (no_variable required)) left s
    no_variable_begins_another

pub stubbed_variable_step : (required : Bool) (kind : VarStorageKind) (left : List ℕ) (s : State)
    → read_name (stubbed_variable required kind) left s
    ≡ and_then (read_name (variable kind) left s) (λ x l t. and_then (crate_read (literal (end_of_stub required)) l t)
    (λ _ k u. Some (x, k, u)))
unfolding grammar read read_by crate_read
stubbed_variable_step true kind left s = read_name-is (stubbed_variable true kind) left s
stubbed_variable_step false kind left s = read_name-is (stubbed_variable false kind) left s

pub no_variable_step : (left : List ℕ) (s : State)
    → read_name (no_variable false) left s ≡ in_node left s (λ l t. Some (plain plain_kind.None, l, t))
unfolding grammar read read_by
no_variable_step left s = read_name-is (no_variable false) left s

pub variable_required_step : (left : List ℕ) (s : State) → read_name (no_variable true) left s ≡ None
unfolding grammar read read_by
variable_required_step [] s = read_name-is (no_variable true) [] s
variable_required_step (b ∷ bs) s = read_name-is (no_variable true) (b ∷ bs) s

pub stubbed_name_step : (required : Bool) (left : List ℕ) (s : State) → read_name (stubbed_name required) left s
    ≡ and_then (read name_in_scope left s) (λ x l t. and_then (read_name (variable_or_none required) l t)
    (λ y k u. Some (symbol_of x.0 x.1 y, k, u)))
unfolding grammar read read_by
stubbed_name_step required left s = read_name-is (stubbed_name required) left s ∙ go (read_name symbol_name left s)
  where
    symbol_in : NameTree × List NameTree → List ℕ → State → Found SymbolTree
    symbol_in x l t = and_then (read_name (variable_or_none required) l t) (λ y k u. Some (symbol_of x.0 x.1 y, k, u))

    pair : NameTree → List NameTree → List ℕ → State → Found (NameTree × List NameTree)
    pair n ns k u = Some ((n, ns), k, u)

    scoped : (n : NameTree) (p : Found (List NameTree))
        → and_then p (λ ns k u. symbol_in (n, ns) k u) ≡ and_then (and_then p (pair n)) symbol_in
    scoped n None = refl
    scoped n (Some y) = refl

    go : (o : Found NameTree)
        → and_then o (λ n l t. and_then (read_name scope l t) (λ ns k u. symbol_in (n, ns) k u))
        ≡ and_then (and_then o (λ n l t. and_then (read_name scope l t) (pair n))) symbol_in
    go None = refl
    go (Some x) = scoped x.0 (read_name scope x.1 x.2)

pub stubbed_template_step : (required : Bool) (left : List ℕ) (s : State)
    → read_name (stubbed_template required) left s
    ≡ and_then (read_name template_name left s) (λ n l t. and_then (read_name scope l t)
    (λ ns k u. and_then (read_name (variable_or_none required) k (entered (text_at variable_texts k) n u))
    (λ x j v. Some (symbol_of n ns x, j, v))))
unfolding grammar read read_by
stubbed_template_step required left s =
    read_name-is (stubbed_template required) left s
    ∙ λ i. and_then (read_name template_name left s) (λ n l t. and_then (read_name scope l t)
    (λ ns k u. encoded n ns k u i))
  where
    if_variable : NameTree → List NameTree → VarStorageKind → Rule Production symbol_tree
    if_variable n ns kind = do
      remember n
      t ← call (stubbed_variable required kind)
      give (symbol_of n ns t)

    if_other : NameTree → List NameTree → Rule Production symbol_tree
    if_other n ns = do
      t ← call (no_variable required)
      give (symbol_of n ns t)

    entered_is : (n : NameTree) (k : List ℕ) (u : State) (o : Option (VarStorageKind × List ℕ))
        → by_text o (λ kind rest. read_name (stubbed_variable required kind) rest (remember_name n u))
        (read_name (no_variable required) k u)
        ≡ by_text o (λ kind rest. read_name (stubbed_variable required kind) rest (entered o n u))
        (read_name (no_variable required) k (entered o n u))
    entered_is n k u None = refl
    entered_is n k u (Some x) = refl

    encoded : (n : NameTree) (ns : List NameTree) (k : List ℕ) (u : State)
        → read {a = symbol_tree} (text_or variable_texts (if_variable n ns) (if_other n ns)) k u
        ≡ and_then (read_name (variable_or_none required) k (entered (text_at variable_texts k) n u))
        (λ x j v. Some (symbol_of n ns x, j, v))
    encoded n ns k u =
        text_or-is {a = symbol_tree} variable_texts (if_variable n ns) (if_other n ns) k u no_variable_begins_another
        ∙ sym (then_by_text (text_at variable_texts k)
        (λ kind rest. read_name (stubbed_variable required kind) rest (remember_name n u))
        (read_name (no_variable required) k u) (λ x j v. Some (symbol_of n ns x, j, v)))
        ∙ ap (λ o. and_then o (λ x j v. Some (symbol_of n ns x, j, v)))
        (entered_is n k u (text_at variable_texts k)
        ∙ sym (variable_or_none_step required k (entered (text_at variable_texts k) n u)))

pub displaced_step : (left : List ℕ) (s : State) → read_name (encoding_after displaced) left s
    ≡ in_node left s (λ j a. and_then (read_name class_symbol j a)
    (λ x l t. Some (shape displacement_row 0 [] [] (names x no_names) no_types, l, t)))
unfolding grammar read read_by
displaced_step left s = read_name-is (encoding_after displaced) left s

-- the encoding of a template, whose name is memorized where it is a variable
abbrev template_encoding : NameTree → List ℕ → State → Found TypeTree
template_encoding n left s =
    by_text (text_at variable_texts left) (λ k rest. read_name (variable k) rest (remember_name n s))
    (read_name other_encoding left s)

template_encoding_is : (n : NameTree) (left : List ℕ) (s : State)
    → template_encoding n left s ≡ read_name encoding left (entered (text_at variable_texts left) n s)
template_encoding_is n left s =
    go (text_at variable_texts left) ∙ sym (encoding_step left (entered (text_at variable_texts left) n s))
  where
    go : (o : Option (VarStorageKind × List ℕ))
        → by_text o (λ k rest. read_name (variable k) rest (remember_name n s)) (read_name other_encoding left s)
        ≡ by_text o (λ k rest. read_name (variable k) rest (entered o n s))
        (read_name other_encoding left (entered o n s))
    go None = refl
    go (Some x) = refl

pub template_symbol_step : (left : List ℕ) (s : State) → read_name template_symbol left s
    ≡ and_then (read_name template_name left s) (λ n l t. and_then (read_name scope l t)
    (λ ns k u. and_then (read_name encoding k (entered (text_at variable_texts k) n u))
    (λ x j v. Some (symbol_of n ns x, j, v))))
unfolding grammar read read_by
template_symbol_step left s =
    read_name-is template_symbol left s
    ∙ λ i. and_then (read_name template_name left s) (λ n l t. and_then (read_name scope l t)
    (λ ns k u. encoded n ns k u i))
  where
    if_variable : NameTree → List NameTree → VarStorageKind → Rule Production symbol_tree
    if_variable n ns kind = do
      remember n
      t ← call (variable kind)
      give (symbol_of n ns t)

    if_other : NameTree → List NameTree → Rule Production symbol_tree
    if_other n ns = do
      t ← call other_encoding
      give (symbol_of n ns t)

    encoded : (n : NameTree) (ns : List NameTree) (k : List ℕ) (u : State)
        → read {a = symbol_tree} (text_or variable_texts (if_variable n ns) (if_other n ns)) k u
        ≡ and_then (read_name encoding k (entered (text_at variable_texts k) n u))
        (λ x j v. Some (symbol_of n ns x, j, v))
    encoded n ns k u =
        text_or-is {a = symbol_tree} variable_texts (if_variable n ns) (if_other n ns) k u no_variable_begins_another
        ∙ sym (then_by_text (text_at variable_texts k)
        (λ kind rest. read_name (variable kind) rest (remember_name n u))
        (read_name other_encoding k u) (λ x j v. Some (symbol_of n ns x, j, v)))
        ∙ ap (λ o. and_then o (λ x j v. Some (symbol_of n ns x, j, v))) (template_encoding_is n k u)

pub named_symbol_step : (left : List ℕ) (s : State) → read_name named_symbol left s
    ≡ and_then (read name_in_scope left s) (λ x l t. and_then (read_name encoding l t)
    (λ y k u. Some (symbol_of x.0 x.1 y, k, u)))
unfolding grammar read read_by
named_symbol_step left s = read_name-is named_symbol left s ∙ go (read_name symbol_name left s)
  where
    symbol_in : NameTree × List NameTree → List ℕ → State → Found SymbolTree
    symbol_in x l t = and_then (read_name encoding l t) (λ y k u. Some (symbol_of x.0 x.1 y, k, u))

    pair : NameTree → List NameTree → List ℕ → State → Found (NameTree × List NameTree)
    pair n ns k u = Some ((n, ns), k, u)

    scoped : (n : NameTree) (p : Found (List NameTree))
        → and_then p (λ ns k u. symbol_in (n, ns) k u) ≡ and_then (and_then p (pair n)) symbol_in
    scoped n None = refl
    scoped n (Some y) = refl

    go : (o : Found NameTree)
        → and_then o (λ n l t. and_then (read_name scope l t) (λ ns k u. symbol_in (n, ns) k u))
        ≡ and_then (and_then o (λ n l t. and_then (read_name scope l t) (pair n))) symbol_in
    go None = refl
    go (Some x) = scoped x.0 (read_name scope x.1 x.2)

pub operator_symbol_step : (left : List ℕ) (s : State) → read_name operator_symbol left s
    ≡ and_then (read_name operator_name left s) (λ n l t. and_then (read_name scope l t)
    (λ ns k u. and_then (read_name encoding k u) (λ x j v. Some (symbol_of n ns x, j, v))))
unfolding grammar read read_by
operator_symbol_step left s = read_name-is operator_symbol left s

pub guard_symbol_step : (kind : Guard) (left : List ℕ) (s : State) → read_name (symbol_after (forms.Guard kind)) left s
    ≡ and_then (read_name scope left s) (λ ns l t. and_then (read_name (guard_name kind) l t)
    (λ n k u. in_node k u (λ j v. Some (symbol_of n ns (plain plain_kind.None), j, v))))
unfolding grammar read read_by
guard_symbol_step kind left s =
    read_name-is (symbol_after (forms.Guard kind)) left s
    ∙ λ i. and_then (read_name scope left s) (λ ns l t. and_then (read_name (guard_name kind) l t)
    (λ n k u. then_then (counting u.count.weight k u) (λ _ j v. Some (plain plain_kind.None, j, v))
    (λ x j v. Some (symbol_of n ns x, j, v)) i))

pub guard_name_step : (kind : Guard) (left : List ℕ) (s : State) → read_name (guard_name kind) left s
    ≡ in_node left s (λ j a. and_then (read guard_marker j a) (λ _ l t. and_then (read_name guard_index l t)
    (λ zs k u. Some (shaped (guard_row kind) 0 zs [] no_names no_types, k, u))))
unfolding grammar read read_by
guard_name_step kind left s = read_name-is (guard_name kind) left s

pub guard_marker_step : (left : List ℕ) (s : State) → read guard_marker left s
    ≡ chosen (after (codes "4IA") left) (λ rest. Some (tt, rest, s)) (crate_read (literal (codes "5")) left s)
unfolding read read_by crate_read
guard_marker_step left s = go (after (codes "4IA") left)
  where
    go : (o : Option (List ℕ)) → or_else (after_literal o s) (after_literal (after (codes "5") left) s)
        ≡ chosen o (λ rest. Some (tt, rest, s)) (after_literal (after (codes "5") left) s)
    go None = refl
    go (Some rest) = refl

pub hashed_step : (left : List ℕ) (s : State) → read_name (symbol_after forms.Hashed) left s
    ≡ and_then (cut_at (name_length left) left s) (λ n l t. in_node l t (λ k u. in_node k u
    (λ j v. Some (symbol_of (spelled spelling_kind.Md5 n) [] (plain plain_kind.None), j, v))))
unfolding grammar read read_by
hashed_step left s =
    read_name-is (symbol_after forms.Hashed) left s
    ∙ (λ i. and_then (part_cut left s i) (λ n l t. and_then
    (in_node l t (λ k u. Some (spelled spelling_kind.Md5 n, k, u)))
    (λ x k u. and_then (in_node k u (λ j v. Some (plain plain_kind.None, j, v)))
    (λ y j v. Some (symbol_of x [] y, j, v)))))
    ∙ λ i. and_then (cut_at (name_length left) left s) (λ n l t. two_nodes (spelled spelling_kind.Md5 n) l t i)

pub whole_hash_step : (left : List ℕ) (s : State) → read_name whole_hash left s
    ≡ and_then (cut_at (name_length left) left s) (λ n l t. and_then (read (whole_hash_name n) l t)
    (λ x k u. in_node k u (λ j v. Some (symbol_of x [] (plain plain_kind.None), j, v))))
unfolding grammar read read_by
whole_hash_step left s =
    read_name-is whole_hash left s
    ∙ (λ i. and_then (part_cut left s i) (λ n l t. and_then (read (whole_hash_name n) l t)
    (λ x k u. and_then (in_node k u (λ j v. Some (plain plain_kind.None, j, v)))
    (λ y j v. Some (symbol_of x [] y, j, v)))))
    ∙ λ i. and_then (cut_at (name_length left) left s) (λ n l t. and_then (read (whole_hash_name n) l t)
    (λ x k u. last_node x k u i))

pub whole_hash_name_step : (n : List ℕ) (left : List ℕ) (s : State) → read (whole_hash_name n) left s
    ≡ chosen (after (codes "??_R4@") left)
    (λ rest. in_node rest s (λ l t. Some (shaped md5_locator_row 0 [] n no_names no_types, l, t)))
    (in_node left s (λ l t. Some (spelled spelling_kind.Md5 n, l, t)))
unfolding read read_by
whole_hash_name_step n left s =
    literal_or-is {a = name_tree} (codes "??_R4@") (made_name (shaped md5_locator_row 0 [] n no_names no_types))
    (hash_name n) left s

-- what follows the parts of a string: its bytes are decoded, and the symbol has no type
abbrev string_end : ℕ → List Number → List ℕ → State → Found SymbolTree
string_end width zs l t = in_node l t (λ k u. in_node k u
    (λ j v. Some (symbol_of (shaped (string_row width) 0 zs [] no_names no_types) [] (plain plain_kind.None), j, v)))

abbrev string_rest : ℕ × (ℕ × List ℕ) → List ℕ → State → Found SymbolTree
string_rest x l t =
    and_then (with_value (option_map (λ bs. each_plain (x.1.0 ∷ bs)) (decoded x.1.1)) l t)
    (λ zs k u. string_end x.0 zs k u)

decoded_then : (width size : ℕ) (o : Option (List ℕ)) (l : List ℕ) (t : State)
    → and_then (read_name (string_of width size o) l t)
    (λ x k u. and_then (in_node k u (λ j v. Some (plain plain_kind.None, j, v)))
    (λ y j v. Some (symbol_of x [] y, j, v)))
    ≡ and_then (with_value (option_map (λ bs. each_plain (size ∷ bs)) o) l t) (λ zs k u. string_end width zs k u)
unfolding grammar read read_by
decoded_then width size None [] t =
    ap (λ o. and_then o (λ x k u. and_then (in_node k u (λ j v. Some (plain plain_kind.None, j, v)))
    (λ y j v. Some (symbol_of x [] y, j, v)))) (read_name-is (string_of width size None) [] t)
decoded_then width size None (b ∷ bs) t =
    ap (λ o. and_then o (λ x k u. and_then (in_node k u (λ j v. Some (plain plain_kind.None, j, v)))
    (λ y j v. Some (symbol_of x [] y, j, v)))) (read_name-is (string_of width size None) (b ∷ bs) t)
decoded_then width size (Some bytes) l t =
    ap (λ o. and_then o (λ x k u. and_then (in_node k u (λ j v. Some (plain plain_kind.None, j, v)))
    (λ y j v. Some (symbol_of x [] y, j, v)))) (read_name-is (string_of width size (Some bytes)) l t)
    ∙ two_nodes (shaped (string_row width) 0 (each_plain (size ∷ bytes)) [] no_names no_types) l t

pub string_step : (left : List ℕ) (s : State) → read_name (symbol_after forms.String) left s
    ≡ and_then (read encoded_string left s) string_rest
unfolding grammar read read_by
string_step left s =
    read_name-is (symbol_after forms.String) left s
    ∙ (λ i. and_then (after_literal (after (codes "@_") left) s) (λ _ l t. from_width l t i))
    ∙ sym (then_then (after_literal (after (codes "@_") left) s) (λ _ l t. width_and_rest l t) string_rest)
  where
    encoded : ℕ → ℕ → List ℕ → State → Found (ℕ × (ℕ × List ℕ))
    encoded width size l t = and_then (part_here at_sign l t) (λ e k u. Some ((width, (size, e)), k, u))

    dropped : ℕ → ℕ → List ℕ → State → Found (ℕ × (ℕ × List ℕ))
    dropped width size l t = and_then (part_here at_sign l t) (λ _ k u. encoded width size k u)

    counted : ℕ → List ℕ → State → Found (ℕ × (ℕ × List ℕ))
    counted width l t = and_then (read_name count l t) (λ size k u. dropped width size k u)

    width_and_rest : List ℕ → State → Found (ℕ × (ℕ × List ℕ))
    width_and_rest l t = and_then (letter_here widths l t) (λ width k u. counted width k u)

    named : ℕ → ℕ → List ℕ → List ℕ → State → Found SymbolTree
    named width size e l t = and_then (read_name (string_of width size (decoded e)) l t)
        (λ x k u. and_then (in_node k u (λ j v. Some (plain plain_kind.None, j, v)))
        (λ y j v. Some (symbol_of x [] y, j, v)))

    from_encoded : (width size : ℕ) (l : List ℕ) (t : State)
        → and_then (part_here at_sign l t) (λ e k u. named width size e k u)
        ≡ and_then (encoded width size l t) string_rest
    from_encoded width size l t =
        (λ i. and_then (part_here at_sign l t) (λ e k u. decoded_then width size (decoded e) k u i))
        ∙ sym (then_then (part_here at_sign l t) (λ e k u. Some ((width, (size, e)), k, u)) string_rest)

    from_dropped : (width size : ℕ) (l : List ℕ) (t : State)
        → and_then (part_here at_sign l t)
        (λ _ k u. and_then (part_here at_sign k u) (λ e j v. named width size e j v))
        ≡ and_then (dropped width size l t) string_rest
    from_dropped width size l t =
        (λ i. and_then (part_here at_sign l t) (λ _ k u. from_encoded width size k u i))
        ∙ sym (then_then (part_here at_sign l t) (λ _ k u. encoded width size k u) string_rest)

    from_count : (width : ℕ) (l : List ℕ) (t : State)
        → and_then (read_name count l t) (λ size k u. and_then (part_here at_sign k u)
        (λ _ j v. and_then (part_here at_sign j v) (λ e h r. named width size e h r)))
        ≡ and_then (counted width l t) string_rest
    from_count width l t =
        (λ i. and_then (read_name count l t) (λ size k u. from_dropped width size k u i))
        ∙ sym (then_then (read_name count l t) (λ size k u. dropped width size k u) string_rest)

    from_width : (l : List ℕ) (t : State)
        → and_then (letter_here widths l t) (λ width k u. and_then (read_name count k u)
        (λ size j v. and_then (part_here at_sign j v)
        (λ _ h r. and_then (part_here at_sign h r) (λ e m w. named width size e m w))))
        ≡ and_then (width_and_rest l t) string_rest
    from_width l t =
        (λ i. and_then (letter_here widths l t) (λ width k u. from_count width k u i))
        ∙ sym (then_then (letter_here widths l t) (λ width k u. counted width k u) string_rest)

-- a variable of the type that a descriptor has, behind a name of this row, and what follows
described_is : (row : ℕ) (f : NameTree → TypeTree → List ℕ → State → Found SymbolTree) (left : List ℕ) (s : State)
    → and_then (in_node left s (λ l t. Some (shaped row 0 [] [] no_names no_types, l, t)))
    (λ n l t. and_then (in_node l t (λ j b. and_then (read_name result_type j b)
    (λ x k u. Some (tree.variable x storage_kind.Global 0, k, u)))) (λ y k u. f n y k u))
    ≡ in_node left s (λ i a. in_node i a (λ j b. and_then (read_name result_type j b)
    (λ x k u. f (shaped row 0 [] [] no_names no_types) (tree.variable x storage_kind.Global 0) k u)))
described_is row f left s =
    then_then (counting s.count.weight left s)
    (λ _ l t. Some (shaped row 0 [] [] no_names no_types, l, t)) after_name
    ∙ λ i. in_node left s (λ l t. inside l t i)
  where
    after_name : NameTree → List ℕ → State → Found SymbolTree
    after_name n l t = and_then (in_node l t (λ j b. and_then (read_name result_type j b)
        (λ x k u. Some (tree.variable x storage_kind.Global 0, k, u)))) (λ y k u. f n y k u)

    inside : (l : List ℕ) (t : State) → after_name (shaped row 0 [] [] no_names no_types) l t
        ≡ in_node l t (λ j b. and_then (read_name result_type j b)
        (λ x k u. f (shaped row 0 [] [] no_names no_types) (tree.variable x storage_kind.Global 0) k u))
    inside l t =
        then_then (counting t.count.weight l t)
        (λ _ j b. and_then (read_name result_type j b) (λ x k u. Some (tree.variable x storage_kind.Global 0, k, u)))
        (f (shaped row 0 [] [] no_names no_types))
        ∙ λ i. in_node l t (λ j b. then_then (read_name result_type j b)
        (λ x k u. Some (tree.variable x storage_kind.Global 0, k, u)) (f (shaped row 0 [] [] no_names no_types)) i)

pub descriptor_step : (left : List ℕ) (s : State) → read_name (symbol_after forms.Descriptor) left s
    ≡ in_node left s (λ i a. in_node i a (λ j b. and_then (read_name result_type j b)
    (λ x l t. and_then (crate_read (literal (codes "@8")) l t)
    (λ _ k u. Some (descriptor_of type_descriptor_row x, k, u)))))
unfolding grammar read read_by crate_read
descriptor_step left s =
    read_name-is (symbol_after forms.Descriptor) left s
    ∙ described_is type_descriptor_row (λ n y k u. and_then (after_literal (after (codes "@8") k) u)
    (λ _ h v. Some (symbol_of n [] y, h, v))) left s

pub named_type_step : (left : List ℕ) (s : State) → read_name named_type left s
    ≡ in_node left s (λ i a. in_node i a (λ j b. and_then (read_name result_type j b)
    (λ x k u. Some (descriptor_of type_descriptor_name_row x, k, u))))
unfolding grammar read read_by
named_type_step left s =
    read_name-is named_type left s
    ∙ described_is type_descriptor_name_row (λ n y k u. Some (symbol_of n [] y, k, u)) left s

pub ruleset steps = (
  symbol_step,
  symbol_body_step,
  whole_text_step,
  marked_text_step,
  funclet_step,
  funclet_home_step,
  funclet_frame_step,
  c_function_name_step,
  whole_function_name_step,
  funclet_function_step,
  object_symbol_step,
  stub_symbol_step,
  stub_name_step,
  stubbed_step,
  marked_stubbed_step,
  variable_or_none_step,
  stubbed_variable_step,
  no_variable_step,
  variable_required_step,
  stubbed_name_step,
  stubbed_template_step,
  displaced_step,
  template_symbol_step,
  named_symbol_step,
  operator_symbol_step,
  guard_symbol_step,
  guard_name_step,
  guard_marker_step,
  hashed_step,
  whole_hash_step,
  whole_hash_name_step,
  string_step,
  descriptor_step,
  named_type_step,
)
