-- What the grammar is that a caller chooses, and the style that goes with it.
use Rattle.std.specs.Prelude.{ℕ, List, ◌+◌, Bool, Option, false}
use Rattle.msvc_nodes.specs.Trees.{SymbolTree}
use Rattle.msvc_rules.specs.Dialects.{Dialect}
use Rattle.msvc_grammar.specs.Parsed.{crate_dialect}
use Rattle.msvc_full_grammar.specs.Parsed.{full_dialect}
use Rattle.msvc_print.specs.Declaration.{declaration}
use Rattle.msvc_print.specs.Flags.{full_style, with_llvm}
use Rattle.msvc_symbol.specs.declared.grammar.Grammar.{Grammar}
use Rattle.msvc_symbol.specs.declared.grammar.Grammar.TheVariants.{Crate, Full}

-- the dialect of a grammar
abbrev pub dialect_of : Grammar → Dialect
dialect_of Crate = crate_dialect
dialect_of Full = full_dialect

-- a word of flags, with the style of a grammar
abbrev pub styled : Grammar → ℕ → ℕ
styled Crate flags = flags
styled Full flags = flags + full_style

-- a word of flags with flags of llvm-undname, which only Full obeys
abbrev pub word_with : Grammar → (flags left_out : ℕ) → ℕ
word_with Crate flags left_out = flags
word_with Full flags left_out = with_llvm flags left_out

-- a tree's declaration in the style of a grammar
abbrev pub declaration_in : Grammar → SymbolTree → ℕ → List ℕ
declaration_in g tree flags = declaration tree (styled g flags)

-- How symbols are read and shown: a grammar, a word of flags, and whether declarations are colored.
pub record Choice : Type 0 where
  pub grammar : Grammar
  pub flags : ℕ
  pub is_colored : Bool

-- a grammar under flags, without colors
abbrev pub under : Grammar → ℕ → Choice
under g flags = record { grammar = g; flags = flags; is_colored = false }

-- A demangler, as callers know it: the grammar that it reads, and its text.
pub record Kept : Type 0 where
  pub grammar : Grammar
  pub text : Option (List ℕ)
