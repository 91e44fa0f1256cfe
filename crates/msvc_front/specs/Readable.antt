-- The text that people read in place of a name.
use Rattle.std.specs.Prelude.{ℕ, List, ◌≡◌, ◌⊎◌, codes}
use Rattle.msvc_demangler.specs.Answers.{line_flags}
use Rattle.msvc_demangler.specs.Demangled.{IsDeclaredWithin}
use Rattle.msvc_demangler.specs.Filtered.{IsNoneWithin, max_declared, max_nodes}
use Rattle.msvc_demangler.specs.GrammarNames.TheVariants.{Crate}
use Rattle.msvc_demangler.specs.Grammars.{under}
use Rattle.msvc_demangler.specs.Limits.{limits_of}
use Rattle.msvc_demangler.specs.Rejections.{begins_with}

-- the name is one of Microsoft's compiler: it begins with a question mark
abbrev pub IsMicrosofts : List ℕ → Type 0
IsMicrosofts name = begins_with (codes "?") name

-- the text is the declaration of the name within the default limits, or the name itself if it has none
abbrev pub IsDeclaredOrStays : List ℕ → List ℕ → Type 0
IsDeclaredOrStays name text = IsDeclaredWithin (limits_of max_nodes max_declared) name line_flags text
    ⊎ (IsNoneWithin (under Crate line_flags) name × (text ≡ name))

-- the text is what people read in place of the name
pub record IsReadable (name text : List ℕ) : Type 0 where
  pub microsofts : IsMicrosofts name → IsDeclaredOrStays name text
  pub others : (IsMicrosofts name → ⊥) → text ≡ name
