-- Full has the laws of a dialect.
use Rattle.std.proofs.Common.{ℕ, List, [], ◌∷◌, ◌++◌, ◌≡◌}
use Prim.Native.Char.{code}
use Rattle.std.specs.Prelude.{codes}
use Rattle.msvc_nodes.specs.Trees.{SymbolTree}
use Rattle.msvc_rules.specs.Reads.{DerivesIn, Reads, a_letter, a_literal, called, in_a_row, the_first, the_second}
use Rattle.msvc_rules.specs.Reads.{where_it_holds}
use Rattle.msvc_rules.specs.Rejections.{begins_with}
use Rattle.msvc_rules.specs.Rules.{Condition, Grammar, Rule, call, here, literal, literal_or, text_and, ◌>>=◌}
use Rattle.msvc_rules.specs.Sorts.{Sort, Value, nothing, symbol_tree}
use Rattle.msvc_rules.specs.State.{Note, State}
use Rattle.msvc_rules.proofs.Dialects.{Lawful, laws_of}
use Rattle.msvc_full_grammar.specs.Grammar.{full_grammar, grammar}
use Rattle.msvc_full_grammar.specs.Letters.{funclet_texts}
use Rattle.msvc_full_grammar.specs.Productions.{funclet, symbol, whole_text}
use Rattle.msvc_full_grammar.specs.Parsed.{BeginsSymbol, FullLaws, a_symbol, a_type_name, full_dialect}
use Rattle.msvc_full_grammar.proofs.Checks.{full_figures, full_fit}
use Rattle.msvc_full_grammar.proofs.DigitPlaces.{full_placing}
use Rattle.msvc_full_grammar.proofs.Laws.{full_starting, types-are-local}
use Rattle.msvc_full_grammar.proofs.NamesInText.{full_named}
use Rattle.msvc_full_grammar.proofs.NodesCounted.{full_counted}

rule_of : {G : Grammar} {a : Sort} {n : G.family a} {left rest : List ℕ} {s t : State} {v : Value a}
    → Reads G a (call n) left s v rest t → Reads G a (G.rule n) left s v rest t
rule_of (called d) = d

under : {G : Grammar} {a : Sort} {c : Condition} {r : Rule G.family a} {left rest : List ℕ} {s t : State} {v : Value a}
    → Reads G a (here c r) left s v rest t → Reads G a r left s v rest t
under (where_it_holds h d) = d

begins_by : {G : Grammar} {l left rest : List ℕ} {s t : State} {v : Value nothing}
    → Reads G nothing (literal l) left s v rest t → begins_with l left
begins_by {rest = rest} (a_literal e) = (rest, e)

literal_begins : {G : Grammar} {a : Sort} {l : List ℕ} {f : Value nothing → Rule G.family a} {left rest : List ℕ}
    {s t : State} {v : Value a} → Reads G a (literal l >>= f) left s v rest t → begins_with l left
literal_begins (in_a_row c d) = begins_by c

-- a text that begins with another begins with the first byte of this
first_of : (l left : List ℕ) (b : ℕ) → begins_with (b ∷ l) left → begins_with (b ∷ []) left
first_of l left b (rest, e) = (l ++ rest, e)

-- a hash or any other symbol begins with a question mark
hash_or_symbol : {r : Rule full_grammar.family symbol_tree} {left rest : List ℕ} {s t : State} {v : SymbolTree}
    → Reads full_grammar symbol_tree (literal_or (codes "??@") r (call symbol)) left s v rest t
    → begins_with (codes "?") left
unfolding grammar
hash_or_symbol {left = left} (the_first d) = first_of (codes "?@") left (code "?") (literal_begins d)
hash_or_symbol (the_second d) = literal_begins (rule_of (under d))

-- so does a funclet
funclet_begins : {left rest : List ℕ} {s t : State} {v : SymbolTree}
    → Reads full_grammar symbol_tree (text_and funclet_texts (λ row. call (funclet row))) left s v rest t
    → begins_with (codes "?") left
funclet_begins {left = left} (the_first d) = first_of (codes "catch$") left (code "?") (literal_begins d)
funclet_begins {left = left} (the_second (the_first d)) =
    first_of (codes "dtor$") left (code "?") (literal_begins d)
funclet_begins {left = left} (the_second (the_second (the_first d))) =
    first_of (codes "filt$") left (code "?") (literal_begins d)
funclet_begins {left = left} (the_second (the_second (the_second (the_first d)))) =
    first_of (codes "fin$") left (code "?") (literal_begins d)
funclet_begins (the_second (the_second (the_second (the_second (a_letter e))))) = absurd (cc)

-- a text that is read begins as symbols do
text_begins : {left rest : List ℕ} {s t : State} {v : SymbolTree}
    → Reads full_grammar symbol_tree (grammar whole_text) left s v rest t → BeginsSymbol left
unfolding grammar
text_begins (the_first d) = a_type_name (literal_begins d)
text_begins (the_second (where_it_holds h (the_first d))) = a_symbol (funclet_begins d)
text_begins (the_second (where_it_holds h (the_second d))) = a_symbol (hash_or_symbol (under d))

begun : (text : List ℕ) (tree : SymbolTree) (rest : List ℕ) (notes : List Note)
    → DerivesIn full_grammar text tree rest notes → BeginsSymbol text
begun text tree rest notes d = text_begins (rule_of d.1)

pub full_lawful : Lawful full_dialect
full_lawful =
    record {
      figures = full_figures;
      fit = full_fit;
      placing = full_placing;
      starting = full_starting;
      counted = full_counted;
      named = full_named;
      local = types-are-local;
      begun = begun;
      stands = λ text tree rest notes d. tt;
      are_read = λ text e h. tt;
    }

-- the public law, of every text
pub full-laws : (text : List ℕ) → FullLaws text
full-laws text = laws_of full_lawful text
