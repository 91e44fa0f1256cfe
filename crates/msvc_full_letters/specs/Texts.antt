-- The tables of texts by the letters that the texts begin with, and base types by their letters.
use Rattle.std.specs.Prelude.{ℕ, List, [], ◌∷◌, Option, Some, None, ◌==◌, if◌then◌else◌}
use Prim.Native.Char.{code}
use Rattle.std.specs.Option.{option_map}
use Rattle.msvc_nodes.specs.Trees.{TypeTree, base}
use Rattle.msvc_nodes.specs.declared.kinds.PrimitiveKind.{PrimitiveKind}
use Rattle.msvc_full_grammar.specs.Forms.{EncodingForm, TypeForm}
use Rattle.msvc_full_grammar.specs.declared.forms.ArgumentForm.{ArgumentForm}
use Rattle.msvc_full_grammar.specs.declared.forms.OperatorForm.{OperatorForm}
use Rattle.msvc_full_grammar.specs.Letters.{argument_texts, encoding_texts, function_texts, operator_texts}
use Rattle.msvc_full_grammar.specs.Letters.{code_texts, funclet_texts, type_texts}
use Rattle.msvc_rules.specs.Readers.{Found, and_then, in_node, with_value}
use Rattle.msvc_rules.specs.Rules.{lookup}
use Rattle.msvc_rules.specs.State.{State}
use Rattle.msvc_cursor.specs.Parser.{at_rest, byte_here, one_less, text_at}

-- the $ that texts of types and of arguments begin with
abbrev pub dollar : ℕ
dollar = code "$"

-- what follows the $ of types, and what follows $$
abbrev pub type_dollar_texts : List (List ℕ × TypeForm)
type_dollar_texts = one_less dollar type_texts

abbrev pub type_double_dollar_texts : List (List ℕ × TypeForm)
type_double_dollar_texts = one_less dollar type_dollar_texts

-- what follows the $ of arguments, and what follows $$
abbrev pub argument_dollar_texts : List (List ℕ × ArgumentForm)
argument_dollar_texts = one_less dollar argument_texts

abbrev pub argument_double_dollar_texts : List (List ℕ × ArgumentForm)
argument_double_dollar_texts = one_less dollar argument_dollar_texts

-- the bytes after the $ of a value, which no other $ follows, as it does before a type
abbrev pub unless_dollar : List ℕ → Option (List ℕ)
unless_dollar [] = Some []
unless_dollar (b ∷ bs) = if b == dollar then None else Some (b ∷ bs)

unfoldable pub value_behind : List ℕ → Option (List ℕ)
value_behind [] = None
value_behind (b ∷ bs) = if b == dollar then unless_dollar bs else None

-- the texts of one letter, by that letter
abbrev pub letter_row : {A : Type 0} → List ℕ → A → List (ℕ × A) → List (ℕ × A)
letter_row [] x others = others
letter_row (b ∷ []) x others = (b, x) ∷ others
letter_row (b ∷ c ∷ bs) x others = others

abbrev pub letters_in : {A : Type 0} → List (List ℕ × A) → List (ℕ × A)
letters_in [] = []
letters_in (row ∷ table) = letter_row row.0 row.1 (letters_in table)

-- what the letters of one table and, after the letter `lead`, the texts of another stand for
abbrev pub text_by : {A : Type 0} → ℕ → List (List ℕ × A) → List (ℕ × A) → List ℕ → Option (A × List ℕ)
text_by lead texts letters [] = None
text_by lead texts letters (b ∷ bs) = if b == lead then text_at texts bs else at_rest (lookup b letters) bs

-- the letters of encodings, and what follows the $ of others
abbrev pub encoding_letters : List (ℕ × EncodingForm)
encoding_letters = letters_in encoding_texts

abbrev pub encoding_dollar_texts : List (List ℕ × EncodingForm)
encoding_dollar_texts = one_less dollar encoding_texts

-- the same of functions alone
abbrev pub function_letters : List (ℕ × EncodingForm)
function_letters = letters_in function_texts

abbrev pub function_dollar_texts : List (List ℕ × EncodingForm)
function_dollar_texts = one_less dollar function_texts

-- the same of functions that may be of C or of managed code
abbrev pub code_letters : List (ℕ × EncodingForm)
code_letters = letters_in code_texts

abbrev pub code_dollar_texts : List (List ℕ × EncodingForm)
code_dollar_texts = one_less dollar code_texts

-- the encoding and the function that the bytes begin with
unfoldable pub encoding_at : List ℕ → Option (EncodingForm × List ℕ)
encoding_at left = text_by dollar encoding_dollar_texts encoding_letters left

unfoldable pub function_at : List ℕ → Option (EncodingForm × List ℕ)
function_at left = text_by dollar function_dollar_texts function_letters left

unfoldable pub code_at : List ℕ → Option (EncodingForm × List ℕ)
code_at left = text_by dollar code_dollar_texts code_letters left

-- what follows the ? of funclets
abbrev pub funclet_mark_texts : List (List ℕ × ℕ)
funclet_mark_texts = one_less (code "?") funclet_texts

-- the same of the funclets that begin with c, with d and with f
abbrev pub funclet_c_texts : List (List ℕ × ℕ)
funclet_c_texts = one_less (code "c") funclet_mark_texts

abbrev pub funclet_d_texts : List (List ℕ × ℕ)
funclet_d_texts = one_less (code "d") funclet_mark_texts

abbrev pub funclet_f_texts : List (List ℕ × ℕ)
funclet_f_texts = one_less (code "f") funclet_mark_texts

-- the operators whose code is one letter, and what follows the _ of the others
abbrev pub operator_letters : List (ℕ × OperatorForm)
operator_letters = letters_in operator_texts

abbrev pub underscore : ℕ
underscore = code "_"

abbrev pub under_operator_texts : List (List ℕ × OperatorForm)
under_operator_texts = one_less underscore operator_texts

-- what follows _R, and what follows __
abbrev pub type_information_texts : List (List ℕ × OperatorForm)
type_information_texts = one_less (code "R") under_operator_texts

abbrev pub double_under_operator_texts : List (List ℕ × OperatorForm)
double_under_operator_texts = one_less underscore under_operator_texts

-- the operator whose code the bytes begin with
unfoldable pub operator_at : List ℕ → Option (OperatorForm × List ℕ)
operator_at left = text_by underscore under_operator_texts operator_letters left

-- a base type by its letter, with qualifiers
abbrev pub base_by : List (ℕ × PrimitiveKind) → ℕ → List ℕ → State → Found TypeTree
base_by table q left s =
    in_node left s (λ l t. and_then (byte_here l t)
    (λ b k u. with_value (option_map (λ x. base x q) (lookup b table)) k u))
