-- What is proved of a dialect: its grammar passes the checks, and its symbols have what calls promise of them.
use Rattle.std.specs.Prelude.{ℕ, List, None}
use Rattle.msvc_nodes.specs.Trees.{SymbolTree}
use Rattle.msvc_nodes.specs.declared.error.ErrorRepr.{ErrorRepr}
use Rattle.msvc_rules.specs.Dialects.{Dialect}
use Rattle.msvc_rules.specs.Laws.{TypesAreLocalIn}
use Rattle.msvc_rules.specs.Parsed.{GrammarLawsIn}
use Rattle.msvc_rules.specs.Reads.{DerivesIn}
use Rattle.msvc_rules.specs.Rejections.{IsRejectedRightlyIn}
use Rattle.msvc_rules.specs.State.{Note}
use Rattle.msvc_rules.proofs.Checks.{Figures, Fit}
use Rattle.msvc_rules.proofs.DigitPlaces.{Placing}
use Rattle.msvc_rules.proofs.Laws.{apart-hands-back, derived-only}
use Rattle.msvc_rules.proofs.NamesInText.{Named}
use Rattle.msvc_rules.proofs.NodesCounted.{Counted}
use Rattle.msvc_rules.proofs.TypeStarts.{Starting}
use Rattle.msvc_rules.proofs.WrittenOut.{all_written_out}

pub record Lawful (D : Dialect) : Type 1 where
  pub figures : Figures D.grammar
  pub fit : Fit figures
  pub placing : Placing figures
  pub starting : Starting figures
  pub counted : Counted D.grammar
  pub named : Named D.grammar
  pub local : TypesAreLocalIn D.grammar D.types
  pub begun : (text : List ℕ) (tree : SymbolTree) (rest : List ℕ) (notes : List Note)
      → DerivesIn D.grammar text tree rest notes → D.Begins text
  pub stands : (text : List ℕ) (tree : SymbolTree) (rest : List ℕ) (notes : List Note)
      → DerivesIn D.grammar text tree rest notes → D.Stands text tree
  pub are_read : (text : List ℕ) (e : ErrorRepr) → IsRejectedRightlyIn D.grammar None text e → D.AreRead text e

-- the laws of a dialect's grammar, of every text
pub laws_of : {D : Dialect} → Lawful D → (text : List ℕ) → GrammarLawsIn D text
laws_of L text =
    record {
      unique = derived-only L.fit text;
      local = L.local;
      tables = λ a r left s v rest t d. apart-hands-back L.fit d;
      written_out = all_written_out L.fit L.placing L.starting text;
    }
