-- The laws, of the grammar of this crate.
use Rattle.msvc_rules.proofs.Soundness as soundness
use Rattle.std.proofs.Common.{◌++◌, ◌≤◌, [], ℕ, List, None, Some, ◌≡◌, ◌<◌, ◌+◌, ap, refl}
use Rattle.std.specs.Str.{IsUtf8}
use Rattle.msvc_nodes.specs.Trees.{NameTree, SymbolTree, TypeTree}
use Rattle.msvc_nodes.specs.EachName.{EachName}
use Rattle.msvc_rules.specs.Counts.{name_count, type_count, node_count}
use Rattle.msvc_rules.specs.Parts.{NamesAreParts}
use Rattle.msvc_rules.specs.Readers.{read_in}
use Rattle.msvc_rules.specs.Sorts.{Sort}
use Rattle.msvc_rules.specs.State.{Count, Note, State, beginning, beginning_with}
use Rattle.msvc_rules.specs.Written.{AreRising}
use Rattle.msvc_grammar.specs.Derived.{HasOneTree, TypesAreLocal, TablesAreHandedBack, Derives, CanBeWrittenOut}
use Rattle.msvc_grammar.specs.Grammar.{crate_grammar, template_inside, grammar}
use Rattle.msvc_grammar.specs.Parsed.{GrammarLaws}
use Rattle.msvc_grammar.specs.Productions.{Production, symbol, type_}
use Rattle.msvc_grammar.specs.Reading.{read_name, read}
use Rattle.msvc_rules.proofs.NodeLimits.{at_most}
use Rattle.msvc_rules.proofs.TypeStarts.{Starting, ShortAtStops, short_by, short_within, quiet_by, quiet_within}
use Rattle.msvc_grammar.proofs.Checks.{crate_figures, crate_fit, needs, runs_up}
use Rattle.msvc_grammar.proofs.DigitPlaces.{crate_placing}
use Rattle.msvc_grammar.proofs.NamesInText.{crate_named}
use Rattle.msvc_grammar.proofs.NodesCounted.{makes_template, crate_counted}
use Rattle.msvc_rules.proofs.FuelIndependence as fuel
use Rattle.msvc_rules.proofs.Laws as laws
use Rattle.msvc_rules.proofs.Locality as locality
use Rattle.msvc_rules.proofs.NamesInText as names
use Rattle.msvc_rules.proofs.NodesCounted as counts
use Rattle.msvc_rules.proofs.NodeLimits as limits
use Rattle.msvc_rules.proofs.NotesIncreasing as notes
use Rattle.msvc_rules.proofs.WrittenOut as written

pub crate_starting : Starting crate_figures
unfolding ShortAtStops short_by short_within quiet_by quiet_within grammar needs runs_up
crate_starting = record { short_at_stops = refl; needs_nothing = refl; runs = refl }

-- a production is read as its rule
pub read_name-is : {a : Sort} (n : Production a) (left : List ℕ) (s : State)
    → read_name n left s ≡ read (grammar n) left s
unfolding read_name read read_in
read_name-is n left s = fuel.read_name-is crate_fit n left s

pub symbol-derived : (text : List ℕ) (tree : SymbolTree) (rest : List ℕ) (s : State)
    → read_name symbol text (beginning text) ≡ Some (tree, rest, s)
    → Derives text tree rest s.notes
unfolding read_name
symbol-derived text tree rest s e = laws.symbol-derived crate_fit text tree rest s e

pub symbol-rejected : (text : List ℕ) → read_name symbol text (beginning text) ≡ None
    → (tree : SymbolTree) (rest : List ℕ) (notes : List Note) → Derives text tree rest notes → ⊥
unfolding read_name
symbol-rejected text none = laws.symbol-rejected crate_fit text none

pub derived-only : (text : List ℕ) → HasOneTree text
derived-only text = laws.derived-only crate_fit text

pub types-are-local : TypesAreLocal
unfolding needs
types-are-local q = locality.is-local crate_fit (type_ q) refl

pub tables-are-handed-back : TablesAreHandedBack
tables-are-handed-back a r left s v rest t d = laws.apart-hands-back crate_fit d

pub derived-parts : (text : List ℕ) (tree : SymbolTree) (rest : List ℕ) (notes : List Note)
    → Derives text tree rest notes → NamesAreParts text tree
derived-parts = names.derived-parts crate_named

pub derived-utf8 : (text : List ℕ) (tree : SymbolTree) (rest : List ℕ) (notes : List Note) → IsUtf8 text
    → Derives text tree rest notes → EachName IsUtf8 tree
derived-utf8 = names.derived-utf8 crate_named

pub within_rejected : (text : List ℕ) (max : ℕ) → read_name symbol text (beginning_with (at_most max) text) ≡ None
    → (tree : SymbolTree) (rest : List ℕ) (notes : List Note) → Derives text tree rest notes → max < node_count tree
unfolding read_name
within_rejected = limits.within_rejected crate_fit crate_counted

pub derived_rising : (text : List ℕ) (tree : SymbolTree) (rest : List ℕ) (notes : List Note)
    → Derives text tree rest notes → AreRising notes
derived_rising = notes.derived_rising crate_fit crate_placing

pub all_written_out : (text : List ℕ) (tree : SymbolTree) (rest : List ℕ) (notes : List Note)
    → Derives text tree rest notes → CanBeWrittenOut text tree rest notes
all_written_out = written.all_written_out crate_fit crate_placing crate_starting

pub type_made : (q : ℕ) (left : List ℕ) (s : State) (v : TypeTree) (rest : List ℕ) (t : State)
    → read_name (type_ q) left s ≡ Some (v, rest, t)
    → t.count.used ≡ s.count.used + type_count s.count.weight v
unfolding read_name
type_made q left s v rest t e =
    ap (λ (k : Count). k.used) (counts.read_name-counts crate_counted (type_ q) left s v rest t e)

pub rest-utf8 : (text : List ℕ) (tree : SymbolTree) (rest : List ℕ) (notes : List Note) → IsUtf8 text
    → Derives text tree rest notes → IsUtf8 rest
rest-utf8 = names.rest-utf8 crate_named

pub derived-alone : (text tail : List ℕ) (tree : SymbolTree) (rest : List ℕ) (notes : List Note) → text ≡ tail ++ rest
    → Derives text tree rest notes
    → Derives tail tree [] notes
derived-alone = laws.derived-alone crate_fit

pub within_derived : (text : List ℕ) (max : ℕ) (tree : SymbolTree) (rest : List ℕ) (s : State)
    → read_name symbol text (beginning_with (at_most max) text) ≡ Some (tree, rest, s)
    → Derives text tree rest s.notes × (node_count tree ≤ max)
unfolding read_name
within_derived = limits.within_derived crate_fit crate_counted

pub template_made : (left : List ℕ) (s : State) (v : NameTree) (rest : List ℕ) (t : State)
    → read template_inside left s ≡ Some (v, rest, t)
    → t.count.used ≡ s.count.used + name_count s.count.weight v
unfolding read read_in read_name
template_made left s v rest t e =
    ap (λ (k : Count). k.used)
    (counts.rule_counts crate_counted
    (soundness.if_is (soundness.Derived crate_grammar template_inside left s)
    (read_in crate_grammar template_inside left s) (v, rest, t) e
    (soundness.read-sound crate_grammar template_inside left s)) (makes_template s.count.weight))

-- the public law, of every text
pub grammar-laws : (text : List ℕ) → GrammarLaws text
grammar-laws text =
    record {
      unique = derived-only text;
      local = types-are-local;
      tables = tables-are-handed-back;
      written_out = λ tree rest notes d. all_written_out text tree rest notes d;
    }
