-- The dialect of Full, and what holds of it at a text.
use Rattle.std.specs.Prelude.{ℕ, List, codes}
use Rattle.msvc_rules.specs.Dialects.{Dialect}
use Rattle.msvc_rules.specs.Parsed.{GrammarLawsIn}
use Rattle.msvc_rules.specs.Rejections.{begins_with}
use Rattle.msvc_full_grammar.specs.Grammar.{full_grammar}
use Rattle.msvc_full_grammar.specs.Productions.{type_}

-- a symbol begins with a question mark, and the name of a type with a full stop
pub data BeginsSymbol (text : List ℕ) : Type 0 where
  a_symbol : begins_with (codes "?") text → BeginsSymbol text
  a_type_name : begins_with (codes ".") text → BeginsSymbol text

-- the dialect of Full; no text of it stands for a tree without being read
abbrev pub full_dialect : Dialect
full_dialect = record {
  grammar = full_grammar;
  types = type_;
  Begins = BeginsSymbol;
  Stands = λ text tree. Unit {0};
  AreRead = λ text e. Unit {0};
}

-- what holds of Full at this text, whatever a call returns
abbrev pub FullLaws : List ℕ → Type 0
FullLaws text = GrammarLawsIn full_dialect text
