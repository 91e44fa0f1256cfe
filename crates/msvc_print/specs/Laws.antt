-- Statements of what flags do not change: in declarations, which `proofs/Laws` proves, and in a text that shows a
-- declaration.
use Rattle.std.specs.Prelude.{ℕ, List, ◌++◌, ◌≡◌, bit_and, codes, true}
use Rattle.std.specs.Str.Lossy.{utf8_lossy}
use Rattle.msvc_nodes.specs.Trees.{NameTree, NameTrees, SymbolTree, TypeTree, md5_symbol, operator}
use Rattle.msvc_nodes.specs.declared.kinds.PlainOperator.TheVariants as plain_operator
use Rattle.msvc_print.specs.Declaration.{declaration}
use Rattle.msvc_print.specs.Flags.{full_style, has, llvm_flags, name_only}
use Rattle.msvc_print.specs.Operators.{name_kind}
use Rattle.msvc_print.specs.declared.operators.NameKind.TheVariants as name_kinds

-- the bits of all flags that definitions read in both styles, and the bit of the style; DECODE_32_BIT is none of them
-- of them
abbrev pub obeyed_flags : ℕ
obeyed_flags = 0x101F016E6

-- the words `a` and `b` have the same bits among `bits`
abbrev pub Agree : ℕ → ℕ → ℕ → Type 0
Agree bits a b = bit_and a bits ≡ bit_and b bits

-- a symbol has the same declaration under two words that differ only in bits that no definition reads in their style
abbrev pub OtherBitsChangeNothing : Type 0
OtherBitsChangeNothing = (s : SymbolTree) (a b : ℕ) → Agree obeyed_flags a b →
    (has a full_style ≡ true → Agree llvm_flags a b) → declaration s a ≡ declaration s b

-- under NAME_ONLY symbols that differ only in their types have the same declaration, except conversion operators, of
-- which the second grammar's style knows templates too
abbrev pub NameOnlyAsksNoType : Type 0
NameOnlyAsksNoType = (n : NameTree) (scope : NameTrees) (t other : TypeTree) (flags : ℕ) → has flags name_only ≡ true →
    (name_kind n flags ≡ name_kinds.Conversion → ⊥) →
    declaration (record { name = n; scope = scope; symbol_type = t }) flags
    ≡ declaration (record { name = n; scope = scope; symbol_type = other }) flags

-- a text shows the declaration of a symbol under every word that agrees with `flags` in the bits that definitions read
abbrev pub IsTextUnderOtherBits : List ℕ → SymbolTree → ℕ → Type 0
IsTextUnderOtherBits text s flags =
    (other : ℕ) → Agree obeyed_flags flags other → text ≡ utf8_lossy (declaration s other)

-- under NAME_ONLY a text shows the declaration of every symbol that differs from `s` only in its type, unless `s` is a
-- conversion operator
abbrev pub IsTextOfOtherTypes : List ℕ → SymbolTree → ℕ → Type 0
IsTextOfOtherTypes text s flags = has flags name_only ≡ true → (s.name ≡ operator plain_operator.Conversion → ⊥) →
    (other : TypeTree) → text ≡ utf8_lossy (declaration (record s { symbol_type = other }) flags)

-- the declaration of a symbol that is a hash is the hash as it was written, under all flags
abbrev pub HashIsItsText : Type 0
HashIsItsText = (digits : List ℕ) (flags : ℕ) →
    declaration (md5_symbol digits) flags ≡ codes "??@" ++ (digits ++ codes "@")
