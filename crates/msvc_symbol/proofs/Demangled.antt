-- What is promised of a declaration.
use Rattle.std.proofs.Common.{ℕ, List, Option, Some, ◌≡◌, ◌∙◌, ap}
use Rattle.msvc_nodes.specs.Trees.{SymbolTree}
use Rattle.msvc_rules.specs.Parsed.{IsParsedIn}
use Rattle.msvc_print.proofs.Laws.{hash-is-its-text}
use Rattle.msvc_print.specs.Declaration.{declaration}
use Rattle.msvc_symbol.specs.Demangled.{HashesAreShown, IsDeclared, IsDeclaredIn}
use Rattle.msvc_symbol.specs.Grammars.{declaration_in, dialect_of}
use Rattle.msvc_symbol.specs.declared.grammar.Grammar.{Grammar}
use Rattle.msvc_symbol.specs.declared.grammar.Grammar.TheVariants.{Crate, Full}

-- a text made of what was printed of a tree
pub declared_of : (g : Grammar) (input text : List ℕ) (tree : SymbolTree) (flags : ℕ) (shown : Option (List ℕ))
    → IsParsedIn (dialect_of g) input tree → shown ≡ Some (declaration_in g tree flags) → shown ≡ Some text
    → IsDeclaredIn g input tree flags text
declared_of g input text tree flags shown parsed printed made = record { parsed = parsed; printed = cc }

-- a declaration shows a hash as it was written
pub hashes_shown : (input text : List ℕ) (tree : SymbolTree) (flags : ℕ) → IsDeclared input tree flags text
    → HashesAreShown input text
hashes_shown input text tree flags declared digits rest hash begins =
    declared.printed ∙ ap (λ t. declaration t flags) (declared.parsed.hashes digits rest hash begins)
    ∙ hash-is-its-text digits flags

-- the same of a declaration in a grammar that is the crate's
pub hashes_in : (g : Grammar) → g ≡ Crate → (input text : List ℕ) (tree : SymbolTree) (flags : ℕ)
    → IsDeclaredIn g input tree flags text → HashesAreShown input text
hashes_in Crate is input text tree flags declared = hashes_shown input text tree flags declared
hashes_in Full is input text tree flags declared = absurd (cc)
