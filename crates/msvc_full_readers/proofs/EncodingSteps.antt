-- Step lemmas of the encodings of symbols.
use Rattle.std.proofs.Common.{ℕ, List, [], ◌∷◌, Some, None, true, ◌≡◌, ◌==◌, ◌∙◌, arith, length}
use Rattle.std.proofs.lemmas.Bool.{eqb-true}
use Rattle.std.specs.Prelude.{codes}
use Rattle.msvc_nodes.specs.Trees.{name_trees, no_names, no_types, plain, shape, types, vcall_thunk}
use Rattle.msvc_nodes.specs.declared.kinds.PlainType.TheVariants as plain_kind
use Rattle.msvc_nodes.specs.Trees as tree
use Rattle.msvc_nodes.specs.declared.kinds.VarStorageKind.{VarStorageKind}
use Rattle.msvc_rules.specs.Readers.{and_then, in_node, letter_here, read_by}
use Rattle.msvc_rules.specs.Rules.{literal}
use Rattle.msvc_rules.specs.State.{State}
use Rattle.msvc_grammar.specs.Reading.{read as crate_read}
use Rattle.msvc_full_grammar.specs.Forms.{encoding_by_row, free_function, function_of, table_of_class, thunk_of}
use Rattle.msvc_full_grammar.specs.Forms.{type_information, virtual_call}
use Rattle.msvc_full_grammar.specs.declared.forms.Adjustment.{Adjustment}
use Rattle.msvc_full_grammar.specs.Grammar.{grammar}
use Rattle.msvc_full_grammar.specs.Fragments.{adjusted_row, end_of}
use Rattle.msvc_full_grammar.specs.Letters.{conventions, qualifiers}
use Rattle.msvc_full_grammar.specs.Productions.{encoding, encoding_after, function_type, type_, type_row, variable}
use Rattle.msvc_full_grammar.specs.Productions.{variable_end, offsets_of, small_number, targets}
use Rattle.msvc_full_grammar.specs.Rows.{tables_row}
use Rattle.msvc_full_grammar.specs.Reading.{read_name, read}
use Rattle.msvc_full_grammar.specs.declared.forms.OwnQualifiers.TheVariants as own
use Rattle.msvc_full_grammar.specs.declared.forms.TypeRow.{TypeRow}
use Rattle.msvc_full_grammar.proofs.Laws.{read_name-is}
use Rattle.msvc_cursor.specs.Parser.{text_at}
use Rattle.msvc_full_letters.proofs.TextSteps.{encoding_step, other_encoding_step}

-- functions that move their this, tables, and calls of virtual functions
pub thunk_step : (moved : Adjustment) (class : ℕ) (left : List ℕ) (s : State)
    → read_name (encoding_after (thunk_of moved class)) left s
    ≡ in_node left s (λ j a. and_then (read_name (offsets_of moved) j a)
    (λ zs l t. and_then (read_name (encoding_after (function_of class)) l t)
    (λ x k u. Some (shape (adjusted_row moved) 0 zs [] no_names (types x no_types), k, u))))
unfolding grammar read read_by
thunk_step moved class left s = read_name-is (encoding_after (thunk_of moved class)) left s

pub table_step : (left : List ℕ) (s : State) → read_name (encoding_after table_of_class) left s
    ≡ in_node left s (λ j a. and_then (letter_here qualifiers j a)
    (λ q l t. and_then (read_name targets l t)
    (λ ns k u. Some (shape tables_row q [] [] (name_trees ns) no_types, k, u))))
unfolding grammar read read_by
table_step left s = read_name-is (encoding_after table_of_class) left s

pub type_information_step : (left : List ℕ) (s : State) → read_name (encoding_after type_information) left s
    ≡ in_node left s (λ l t. Some (plain plain_kind.Rtti, l, t))
unfolding grammar read read_by
type_information_step left s = read_name-is (encoding_after type_information) left s

pub virtual_call_step : (left : List ℕ) (s : State) → read_name (encoding_after virtual_call) left s
    ≡ in_node left s (λ j a. and_then (read_name small_number j a)
    (λ z l t. and_then (crate_read (literal (codes "A")) l t)
    (λ _ k u. and_then (letter_here conventions k u) (λ c h v. Some (vcall_thunk z c, h, v)))))
unfolding grammar read read_by crate_read
virtual_call_step left s = read_name-is (encoding_after virtual_call) left s

pub encoding_row_step : (r : TypeRow) (left : List ℕ) (s : State)
    → read_name (encoding_after (encoding_by_row r)) left s ≡ read_name (type_row 0 r) left s
unfolding grammar read read_by
encoding_row_step r left s = read_name-is (encoding_after (encoding_by_row r)) left s

pub free_function_step : (left : List ℕ) (s : State)
    → read_name (encoding_after free_function) left s ≡ read_name (function_type own.Absent) left s
unfolding grammar read read_by
free_function_step left s = read_name-is (encoding_after free_function) left s

pub variable_step : (kind : VarStorageKind) (left : List ℕ) (s : State) → read_name (variable kind) left s
    ≡ in_node left s (λ j a. and_then (read_name (type_ 0) j a)
    (λ x l t. and_then (read_name (variable_end (end_of x)) l t) (λ q k u. Some (tree.variable x kind q, k, u))))
unfolding grammar read read_by
variable_step kind left s = read_name-is (variable kind) left s

pub encoding_at_end : (left : List ℕ) (s : State) → (length left == 0) ≡ true
    → read_name encoding left s ≡ in_node left s (λ l t. Some (plain plain_kind.None, l, t))
unfolding text_at
encoding_at_end [] s e = encoding_step [] s ∙ other_encoding_step [] s
encoding_at_end (b ∷ bs) s e =
    let none : length (b ∷ bs) ≡ 0 = eqb-true (length (b ∷ bs)) 0 e in absurd (omega (arith, none))

pub ruleset steps = (
  thunk_step,
  table_step,
  type_information_step,
  virtual_call_step,
  encoding_row_step,
  free_function_step,
  variable_step,
)
