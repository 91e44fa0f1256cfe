-- The bit of the style beside flags of llvm-undname.
use Rattle.std.proofs.Common.{◌≡◌, ◌<◌, ◌+◌, ℕ, ap, arith, bit_and, eq-eqb, sym, true, ◌∙◌}
use Rattle.std.proofs.lemmas.Nat.{and_assoc, and_comm, and_le_r, and_or_apart, and_or_self, or_disjoint, or_lt}
use lib.Bits.{and_shifted}
use Rattle.msvc_print.specs.Flags.{full_style, has, llvm_flags, with_llvm}

others-apart : (others : ℕ) → bit_and (bit_and others llvm_flags) full_style ≡ 0
others-apart others =
    let none : bit_and others 0 ≡ 0 = omega (arith, and_le_r others 0) in
    and_assoc full_style others llvm_flags ∙ none

with_llvm-apart : (flags others : ℕ) → flags < full_style → bit_and (with_llvm flags others) full_style ≡ 0
with_llvm-apart flags others small =
    and_or_apart full_style flags (bit_and others llvm_flags) (others-apart others) ∙ and_comm flags full_style
    ∙ and_shifted 1 32 flags small

pub with_llvm-styled : (flags others : ℕ) → flags < full_style →
    has (with_llvm flags others + full_style) full_style ≡ true
with_llvm-styled flags others small =
    let word : ℕ = with_llvm flags others in
    eq-eqb _ _ (ap (λ n. bit_and n full_style) (sym (or_disjoint word full_style (with_llvm-apart flags others small)))
    ∙ and_or_self full_style word)

pub with_llvm-small : (flags others : ℕ) → flags < full_style → with_llvm flags others < 0x4000000000
with_llvm-small flags others small =
    or_lt 38 flags (bit_and others llvm_flags) (omega arith) (omega (arith, and_le_r others llvm_flags))
