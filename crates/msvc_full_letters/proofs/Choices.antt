-- Choices in the form of the code, of Full.
use Rattle.std.proofs.Common.{ℕ, List, None, true, ◌≡◌}
use Rattle.msvc_rules.specs.Readers.{letter_here}
use Rattle.msvc_rules.specs.Rules.{after, Rule, letter_or, literal_or, text_and, text_or}
use Rattle.msvc_rules.specs.Sorts.{Sort}
use Rattle.msvc_rules.specs.State.{State}
use Rattle.msvc_rules.proofs.Checks.{apart_texts}
use Rattle.msvc_full_grammar.specs.Productions.{Production}
use Rattle.msvc_full_grammar.specs.Reading.{read_name, read}
use Rattle.msvc_cursor.specs.Parser.{text_at}
use Rattle.msvc_cursor.proofs.Choices.{by_text, choose, chosen, letter_or-by, literal_or-by, text_and-by, text_or-by}

pub letter_or-is : {a : Sort} (table : List (ℕ × ℕ)) (f : ℕ → Rule Production a) (q : Rule Production a)
    (left : List ℕ) (s : State)
    → read (letter_or table f q) left s ≡ choose (letter_here table left s) (λ x. read (f x)) (read q left s)
unfolding read
letter_or-is table f q left s = letter_or-by (λ b m. read_name m) table f q left s

pub literal_or-is : {a : Sort} (l : List ℕ) (r q : Rule Production a) (left : List ℕ) (s : State)
    → read (literal_or l r q) left s ≡ chosen (after l left) (λ rest. read r rest s) (read q left s)
unfolding read
literal_or-is l r q left s = literal_or-by (λ b m. read_name m) l r q left s

pub text_and-is : {a : Sort} {A : Type 0} (table : List (List ℕ × A)) (f : A → Rule Production a) (left : List ℕ)
    (s : State)
    → apart_texts table ≡ true
    → read (text_and table f) left s ≡ by_text (text_at table left) (λ x rest. read (f x) rest s) None
unfolding read
text_and-is table f left s h = text_and-by (λ b m. read_name m) table f left s h

pub text_or-is : {a : Sort} {A : Type 0} (table : List (List ℕ × A)) (f : A → Rule Production a)
    (q : Rule Production a) (left : List ℕ)
    (s : State) → apart_texts table ≡ true
    → read (text_or table f q) left s
    ≡ by_text (text_at table left) (λ x rest. read (f x) rest s) (read q left s)
unfolding read
text_or-is table f q left s h = text_or-by (λ b m. read_name m) table f q left s h
