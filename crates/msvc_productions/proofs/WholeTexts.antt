-- The crate's dialect has the laws of a dialect, so what is read of a whole text is the one tree that the grammar
-- derives.
use Rattle.std.proofs.Common.{ℕ, List, Option, Some, None, Result, Err, ◌≡◌}
use Rattle.std.proofs.Common.{refl, ap, ◌∙◌}
use Rattle.std.specs.Prelude.{codes, IfErr, IfOk, length}
use Rattle.std.specs.Str.{IsUtf8}
use Rattle.msvc_nodes.specs.Trees.{SymbolTree}
use Rattle.msvc_rules.specs.Readers.{Found}
use Rattle.msvc_rules.specs.Rules.{after}
use Rattle.msvc_rules.specs.State.{Note, beginning, beginning_with}
use Rattle.msvc_rules.proofs.Dialects.{Lawful, laws_of}
use Rattle.msvc_rules.proofs.Soundness.{after-is}
use Rattle.msvc_grammar.specs.Derived.{Derives}
use Rattle.msvc_grammar.specs.Parsed.{GrammarLaws, crate_dialect}
use Rattle.msvc_grammar.specs.Productions.{symbol, symbol_body}
use Rattle.msvc_grammar.specs.Reading.{read_name}
use Rattle.msvc_grammar.specs.Rejections.{begins_with}
use Rattle.msvc_grammar.proofs.Checks.{crate_figures, crate_fit}
use Rattle.msvc_grammar.proofs.DigitPlaces.{crate_placing}
use Rattle.msvc_grammar.proofs.Hashes.{hashes-read, hashes-stand}
use Rattle.msvc_grammar.proofs.Laws.{crate_starting, symbol-rejected, types-are-local}
use Rattle.msvc_grammar.proofs.NamesInText.{crate_named}
use Rattle.msvc_grammar.proofs.NodesCounted.{crate_counted}
use Rattle.msvc_cursor.proofs.Choices.{chosen}
use Rattle.msvc_cursor.proofs.SymbolSteps.{symbol_step}
use Rattle.msvc_cursor.proofs.WholeTexts as whole
use Rattle.msvc_cursor.specs.Errors.{IsInside}
use Rattle.msvc_cursor.specs.Failures.{Fails}
use Rattle.msvc_cursor.specs.Messages.{limit_of_failure}
use Rattle.msvc_cursor.specs.Parser.{IsRead, with_length}
use Rattle.msvc_cursor.specs.SymbolsRead.{IsSymbolRead}
use Rattle.msvc_cursor.specs.declared.failure.Failure.{Failure}
use Rattle.msvc_cursor.specs.declared.failure.Failure.TheVariants as failure
use Rattle.msvc_cursor.specs.declared.failure.Message.TheVariants as message

-- a symbol begins with a question mark
begun : (text : List ℕ) (tree : SymbolTree) (rest : List ℕ) (notes : List Note) → Derives text tree rest notes
    → begins_with (codes "?") text
begun text tree rest notes d = go (after (codes "?") text) refl
  where
    body : List ℕ → Found SymbolTree
    body remaining = read_name symbol_body remaining (beginning text)

    go : (o : Option (List ℕ)) → after (codes "?") text ≡ o → begins_with (codes "?") text
    go None k =
        let none : read_name symbol text (beginning text) ≡ None =
        symbol_step text (beginning text) ∙ ap (λ o. chosen o body None) k in
        absurd (symbol-rejected text none tree rest notes d)
    go (Some remaining) k = (remaining, after-is (codes "?") text remaining k)

pub crate_lawful : Lawful crate_dialect
crate_lawful =
    record {
      figures = crate_figures;
      fit = crate_fit;
      placing = crate_placing;
      starting = crate_starting;
      counted = crate_counted;
      named = crate_named;
      local = types-are-local;
      begun = begun;
      stands = hashes-stand;
      are_read = hashes-read;
    }

pub laws : (text : List ℕ) → GrammarLaws text
laws = laws_of crate_lawful

-- what is read of a text where so many nodes more are allowed than the limit: the tree, how many bytes, and the digits
-- that were read as whole parameters
abbrev pub symbol_under : (extra : ℕ) → Option ℕ → List ℕ → Option (SymbolTree × ℕ × List Note)
symbol_under extra nodes text =
    with_length text (read_name symbol text (beginning_with (whole.count_under crate_lawful extra nodes) text))

-- seen by a view, as the result of a reader
pub result-read : {A : Type 0} (nodes : Option ℕ) (text : List ℕ) (view : A → SymbolTree × ℕ × List Note)
    (result : Result A Failure) → IsUtf8 text
    → ((extra : ℕ) → IsRead extra view result (symbol_under extra nodes text))
    → IfOk result (λ r. IsSymbolRead nodes text (view r).0 (view r).1 (view r).2)
unfolding read_name
result-read nodes text view result utf8 is = whole.result-read crate_lawful nodes text view result utf8 is

-- where no question mark stands, a reader fails at once
at-once : {A : Type 0} (text : List ℕ) (result : Result A Failure)
    → (after (codes "?") text ≡ None → result ≡ Err (failure.Rejected message.NoQuestionMark (length text)))
    → (begins_with (codes "?") text → ⊥) → result ≡ Err (failure.Rejected message.NoQuestionMark (length text))
at-once text result start never = go (after (codes "?") text) refl
  where
    go : (o : Option (List ℕ)) → after (codes "?") text ≡ o
        → result ≡ Err (failure.Rejected message.NoQuestionMark (length text))
    go None k = start k
    go (Some rest) k = absurd (never (rest, after-is (codes "?") text rest k))

-- seen as the result of a reader that fails
pub result-fails : {A : Type 0} (nodes : Option ℕ) (text : List ℕ) (view : A → SymbolTree × ℕ × List Note)
    (result : Result A Failure) → ((extra : ℕ) → IsRead extra view result (symbol_under extra nodes text))
    → (after (codes "?") text ≡ None → result ≡ Err (failure.Rejected message.NoQuestionMark (length text)))
    → (nodes ≡ None → IfErr result (λ reason. limit_of_failure reason ≡ None))
    → IfErr result (λ reason. Fails nodes text reason)
unfolding read_name
result-fails nodes text view result is start unlimited =
    whole.result-fails crate_lawful nodes text view result is (at-once text result start) unlimited

-- memory may always run out
pub memory-fails : (nodes : Option ℕ) (text : List ℕ) → Fails nodes text failure.Memory
memory-fails = whole.memory-fails crate_lawful

pub result-inside : {A : Type 0} (nodes : Option ℕ) (text : List ℕ) (result : Result A Failure)
    → IfErr result (λ reason. Fails nodes text reason)
    → IfErr result (λ reason. IsInside text reason)
result-inside = whole.result-inside crate_lawful
