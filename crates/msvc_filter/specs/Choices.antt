-- How symbols are read and shown, as the filter's functions are told.
use Rattle.std.specs.Prelude.{ℕ, ◌==◌, if◌then◌else◌, true}
use Rattle.msvc_symbol.specs.Grammars.{Choice, under, word_with}
use Rattle.msvc_symbol.specs.declared.grammar.Grammar.{Grammar}
use Rattle.msvc_filter.specs.declared.filter.How.{How}

-- a word of flags, with flags of llvm-undname if there are some
abbrev pub word_without : Grammar → (flags left_out : ℕ) → ℕ
word_without g flags left_out = if left_out == 0 then flags else word_with g flags left_out

-- a grammar under flags, without what flags of llvm-undname drop
abbrev pub without : Grammar → (flags left_out : ℕ) → Choice
without g flags left_out = under g (word_without g flags left_out)

-- the same in colors
abbrev pub colored_without : Grammar → (flags left_out : ℕ) → Choice
colored_without g flags left_out =
    record { grammar = g; flags = word_without g flags left_out; is_colored = true }

abbrev pub chosen : How → Choice
chosen how = record {
  grammar = how.grammar;
  flags = word_without how.grammar how.flags.0 how.left_out;
  is_colored = how.is_colored;
}
