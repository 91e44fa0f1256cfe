-- Full has the laws of a dialect, so what is read of a whole text is the one tree that the grammar derives.
use Rattle.std.proofs.Common.{ℕ, List, Option, Some, None, Result, Err, ◌≡◌}
use Rattle.std.proofs.Common.{refl}
use Rattle.std.specs.Prelude.{codes, IfErr, IfOk, length}
use Rattle.std.specs.Str.{IsUtf8}
use Rattle.msvc_nodes.specs.Trees.{SymbolTree}
use Rattle.msvc_rules.specs.Rules.{after}
use Rattle.msvc_rules.specs.State.{Note, beginning_with}
use Rattle.msvc_rules.proofs.Soundness.{after-is}
use Rattle.msvc_full_grammar.specs.Parsed.{BeginsSymbol, a_symbol, a_type_name, full_dialect}
use Rattle.msvc_full_grammar.specs.Productions.{whole_text}
use Rattle.msvc_full_grammar.specs.Reading.{read_name}
use Rattle.msvc_full_grammar.proofs.Dialects.{full_lawful}
use Rattle.msvc_cursor.proofs.WholeTexts as whole
use Rattle.msvc_cursor.specs.Errors.{IsInside}
use Rattle.msvc_cursor.specs.Failures.{FailsIn}
use Rattle.msvc_cursor.specs.Messages.{limit_of_failure}
use Rattle.msvc_cursor.specs.Parser.{IsRead, with_length}
use Rattle.msvc_cursor.specs.SymbolsRead.{IsSymbolReadIn}
use Rattle.msvc_cursor.specs.declared.failure.Failure.{Failure}
use Rattle.msvc_cursor.specs.declared.failure.Failure.TheVariants as failure
use Rattle.msvc_cursor.specs.declared.failure.Message.TheVariants as message

-- what is read of a text where so many nodes more are allowed than the limit: the tree, how many bytes, and the digits
-- that were read as whole parameters
abbrev pub symbol_under : (extra : ℕ) → Option ℕ → List ℕ → Option (SymbolTree × ℕ × List Note)
symbol_under extra nodes text =
    with_length text (read_name whole_text text (beginning_with (whole.count_under full_lawful extra nodes) text))

-- seen by a view, as the result of a reader
pub result-read : {A : Type 0} (nodes : Option ℕ) (text : List ℕ) (view : A → SymbolTree × ℕ × List Note)
    (result : Result A Failure) → IsUtf8 text
    → ((extra : ℕ) → IsRead extra view result (symbol_under extra nodes text))
    → IfOk result (λ r. IsSymbolReadIn full_dialect nodes text (view r).0 (view r).1 (view r).2)
unfolding read_name
result-read nodes text view result utf8 is = whole.result-read full_lawful nodes text view result utf8 is

-- where neither a full stop nor a question mark stands, a reader fails at once
at-once : {A : Type 0} (text : List ℕ) (result : Result A Failure)
    → (after (codes ".") text ≡ None → after (codes "?") text ≡ None
    → result ≡ Err (failure.Rejected message.NoQuestionMark (length text)))
    → (BeginsSymbol text → ⊥) → result ≡ Err (failure.Rejected message.NoQuestionMark (length text))
at-once text result start never = go (after (codes ".") text) refl (after (codes "?") text) refl
  where
    go : (o : Option (List ℕ)) → after (codes ".") text ≡ o → (p : Option (List ℕ)) → after (codes "?") text ≡ p
        → result ≡ Err (failure.Rejected message.NoQuestionMark (length text))
    go None k None h = start k h
    go None k (Some rest) h = absurd (never (a_symbol (rest, after-is (codes "?") text rest h)))
    go (Some rest) k p h = absurd (never (a_type_name (rest, after-is (codes ".") text rest k)))

-- seen as the result of a reader that fails
pub result-fails : {A : Type 0} (nodes : Option ℕ) (text : List ℕ) (view : A → SymbolTree × ℕ × List Note)
    (result : Result A Failure) → ((extra : ℕ) → IsRead extra view result (symbol_under extra nodes text))
    → (after (codes ".") text ≡ None → after (codes "?") text ≡ None
    → result ≡ Err (failure.Rejected message.NoQuestionMark (length text)))
    → (nodes ≡ None → IfErr result (λ reason. limit_of_failure reason ≡ None))
    → IfErr result (λ reason. FailsIn full_dialect nodes text reason)
unfolding read_name
result-fails nodes text view result is start unlimited =
    whole.result-fails full_lawful nodes text view result is (at-once text result start) unlimited

pub result-inside : {A : Type 0} (nodes : Option ℕ) (text : List ℕ) (result : Result A Failure)
    → IfErr result (λ reason. FailsIn full_dialect nodes text reason)
    → IfErr result (λ reason. IsInside text reason)
result-inside = whole.result-inside full_lawful
