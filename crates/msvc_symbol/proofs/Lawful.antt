-- Both grammars are lawful.
use Rattle.std.proofs.Common.{ℕ, List}
use Rattle.msvc_rules.proofs.Dialects.{Lawful, laws_of}
use Rattle.msvc_rules.specs.Parsed.{GrammarLawsIn}
use Rattle.msvc_full_grammar.proofs.Dialects.{full_lawful}
use Rattle.msvc_productions.proofs.WholeTexts.{crate_lawful}
use Rattle.msvc_symbol.specs.Grammars.{dialect_of}
use Rattle.msvc_symbol.specs.declared.grammar.Grammar.{Grammar}
use Rattle.msvc_symbol.specs.declared.grammar.Grammar.TheVariants.{Crate, Full}

pub lawful_of : (g : Grammar) → Lawful (dialect_of g)
lawful_of Crate = crate_lawful
lawful_of Full = full_lawful

pub laws : (g : Grammar) (text : List ℕ) → GrammarLawsIn (dialect_of g) text
laws g = laws_of (lawful_of g)
