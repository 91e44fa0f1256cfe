-- The laws, of Full.
use Rattle.msvc_rules.proofs.Soundness as soundness
use Rattle.std.proofs.Common.{◌++◌, ◌≤◌, [], ℕ, List, None, Some, ◌≡◌, ◌<◌, ◌+◌, ap, refl}
use Rattle.std.specs.Str.{IsUtf8}
use Rattle.msvc_nodes.specs.Trees.{NameTree, SymbolTree, TypeTree}
use Rattle.msvc_nodes.specs.EachName.{EachName}
use Rattle.msvc_rules.specs.Counts.{name_count, type_count, node_count}
use Rattle.msvc_rules.specs.Laws.{HasOneTreeIn, TypesAreLocalIn, TablesAreHandedBackIn}
use Rattle.msvc_rules.specs.Parts.{NamesAreParts}
use Rattle.msvc_rules.specs.Readers.{read_in}
use Rattle.msvc_rules.specs.Reads.{DerivesIn}
use Rattle.msvc_rules.specs.Sorts.{Sort}
use Rattle.msvc_rules.specs.State.{Count, Note, State, beginning, beginning_with}
use Rattle.msvc_rules.specs.Written.{AreRising, CanBeWrittenOutIn, DigitsCanBeWrittenOutIn}
use Rattle.msvc_full_grammar.specs.Grammar.{full_grammar, grammar}
use Rattle.msvc_full_grammar.specs.Fragments.{template_inside}
use Rattle.msvc_full_grammar.specs.Productions.{Production, whole_text, type_}
use Rattle.msvc_full_grammar.specs.Reading.{read_name, read}
use Rattle.msvc_rules.proofs.NodeLimits.{at_most}
use Rattle.msvc_rules.proofs.TypeStarts.{Starting, ShortAtStops, short_by, short_within, quiet_by, quiet_within}
use Rattle.msvc_full_grammar.proofs.Checks.{full_figures, full_fit, needs, runs_up}
use Rattle.msvc_full_grammar.proofs.DigitPlaces.{full_placing}
use Rattle.msvc_full_grammar.proofs.NamesInText.{full_named}
use Rattle.msvc_full_grammar.proofs.NodesCounted.{makes_template, full_counted}
use Rattle.msvc_rules.proofs.FuelIndependence as fuel
use Rattle.msvc_rules.proofs.Laws as laws
use Rattle.msvc_rules.proofs.Locality as locality
use Rattle.msvc_rules.proofs.NamesInText as names
use Rattle.msvc_rules.proofs.NodesCounted as counts
use Rattle.msvc_rules.proofs.NodeLimits as limits
use Rattle.msvc_rules.proofs.NotesIncreasing as notes
use Rattle.msvc_rules.proofs.WrittenOut as written

pub full_starting : Starting full_figures
unfolding ShortAtStops short_by short_within quiet_by quiet_within grammar needs runs_up
full_starting = record { short_at_stops = refl; needs_nothing = refl; runs = refl }

-- a production is read as its rule
pub read_name-is : {a : Sort} (n : Production a) (left : List ℕ) (s : State)
    → read_name n left s ≡ read (grammar n) left s
unfolding read_name read read_in
read_name-is n left s = fuel.read_name-is full_fit n left s

pub symbol-derived : (text : List ℕ) (tree : SymbolTree) (rest : List ℕ) (s : State)
    → read_name whole_text text (beginning text) ≡ Some (tree, rest, s)
    → DerivesIn full_grammar text tree rest s.notes
unfolding read_name
symbol-derived text tree rest s e = laws.symbol-derived full_fit text tree rest s e

pub symbol-rejected : (text : List ℕ) → read_name whole_text text (beginning text) ≡ None
    → (tree : SymbolTree) (rest : List ℕ) (notes : List Note) → DerivesIn full_grammar text tree rest notes → ⊥
unfolding read_name
symbol-rejected text none = laws.symbol-rejected full_fit text none

-- a text has one tree at most
pub derived-only : (text : List ℕ) → HasOneTreeIn full_grammar text
derived-only text = laws.derived-only full_fit text

-- a type that was read with some tables is read again with later ones, and leaves these as they are
pub types-are-local : TypesAreLocalIn full_grammar type_
unfolding needs
types-are-local q = locality.is-local full_fit (type_ q) refl

-- a template leaves the tables as they were before it
pub tables-are-handed-back : TablesAreHandedBackIn full_grammar
tables-are-handed-back a r left s v rest t d = laws.apart-hands-back full_fit d

pub derived-parts : (text : List ℕ) (tree : SymbolTree) (rest : List ℕ) (notes : List Note)
    → DerivesIn full_grammar text tree rest notes → NamesAreParts text tree
derived-parts = names.derived-parts full_named

pub derived-utf8 : (text : List ℕ) (tree : SymbolTree) (rest : List ℕ) (notes : List Note) → IsUtf8 text
    → DerivesIn full_grammar text tree rest notes → EachName IsUtf8 tree
derived-utf8 = names.derived-utf8 full_named

pub within_rejected : (text : List ℕ) (max : ℕ) → read_name whole_text text (beginning_with (at_most max) text) ≡ None
    → (tree : SymbolTree) (rest : List ℕ) (notes : List Note) → DerivesIn full_grammar text tree rest notes
    → max < node_count tree
unfolding read_name
within_rejected = limits.within_rejected full_fit full_counted

pub derived_rising : (text : List ℕ) (tree : SymbolTree) (rest : List ℕ) (notes : List Note)
    → DerivesIn full_grammar text tree rest notes → AreRising notes
derived_rising = notes.derived_rising full_fit full_placing

pub all_written_out : (text : List ℕ) (tree : SymbolTree) (rest : List ℕ) (notes : List Note)
    → DerivesIn full_grammar text tree rest notes → CanBeWrittenOutIn full_grammar text tree rest notes
all_written_out = written.all_written_out full_fit full_placing full_starting

-- each digit that was read as a whole parameter can be written out
pub digits-can-be-written-out : (text : List ℕ) → DigitsCanBeWrittenOutIn full_grammar text
digits-can-be-written-out text tree rest notes d = all_written_out text tree rest notes d

pub type_made : (q : ℕ) (left : List ℕ) (s : State) (v : TypeTree) (rest : List ℕ) (t : State)
    → read_name (type_ q) left s ≡ Some (v, rest, t)
    → t.count.used ≡ s.count.used + type_count s.count.weight v
unfolding read_name
type_made q left s v rest t e =
    ap (λ (k : Count). k.used) (counts.read_name-counts full_counted (type_ q) left s v rest t e)

pub rest-utf8 : (text : List ℕ) (tree : SymbolTree) (rest : List ℕ) (notes : List Note) → IsUtf8 text
    → DerivesIn full_grammar text tree rest notes → IsUtf8 rest
rest-utf8 = names.rest-utf8 full_named

pub derived-alone : (text tail : List ℕ) (tree : SymbolTree) (rest : List ℕ) (notes : List Note) → text ≡ tail ++ rest
    → DerivesIn full_grammar text tree rest notes
    → DerivesIn full_grammar tail tree [] notes
derived-alone = laws.derived-alone full_fit

pub within_derived : (text : List ℕ) (max : ℕ) (tree : SymbolTree) (rest : List ℕ) (s : State)
    → read_name whole_text text (beginning_with (at_most max) text) ≡ Some (tree, rest, s)
    → DerivesIn full_grammar text tree rest s.notes × (node_count tree ≤ max)
unfolding read_name
within_derived = limits.within_derived full_fit full_counted

pub template_made : (left : List ℕ) (s : State) (v : NameTree) (rest : List ℕ) (t : State)
    → read template_inside left s ≡ Some (v, rest, t)
    → t.count.used ≡ s.count.used + name_count s.count.weight v
unfolding read read_in read_name
template_made left s v rest t e =
    ap (λ (k : Count). k.used)
    (counts.rule_counts full_counted
    (soundness.if_is (soundness.Derived full_grammar template_inside left s)
    (read_in full_grammar template_inside left s) (v, rest, t) e
    (soundness.read-sound full_grammar template_inside left s)) (makes_template s.count.weight))
