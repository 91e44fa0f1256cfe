-- The grammar that the flags of a call from C choose.
use Rattle.std.specs.Prelude.{◌≡◌}
use Rattle.msvc_demangler.specs.GrammarNames.TheVariants.{Crate, Full}
use Rattle.msvc_c_calls.specs.Calls.{grammar_of}

pub record AreCallFlags : Type 0 where
  pub none : grammar_of 0 ≡ Crate
  pub llvm : grammar_of 0xE00400 ≡ Crate
  -- each bit but the highest
  pub others : grammar_of 0x7FFFFFFF ≡ Crate
  pub full : grammar_of 0x80000000 ≡ Full
  pub full_and_llvm : grammar_of 0x80E00400 ≡ Full
  pub all : grammar_of 0xFFFFFFFF ≡ Full
