-- What is shown of a symbol that was declared.
use Rattle.std.proofs.Common.{◌≡◌, ◌∙◌, ℕ, Bool, List, Option, Some, ap, cond, false, true, refl, sym}
use Rattle.std.specs.Prelude.{◌==◌}
use Rattle.std.proofs.lemmas.Bool.{eqb-true}
use Rattle.std.specs.Int.Bits.{or_zero_r}
use Rattle.msvc_cursor.specs.declared.limits.Limits.{Limits}
use Rattle.msvc_symbol.specs.Demangled.{IsDeclaredAsIn, IsNamedAsIn}
use Rattle.msvc_print.specs.NamePlaces.{name_place}
use Rattle.msvc_symbol.specs.Grammars.{Choice, styled, word_with}
use Rattle.msvc_symbol.specs.declared.grammar.Grammar.{Grammar}
use Rattle.msvc_symbol.specs.declared.grammar.Grammar.TheVariants.{Crate, Full}
use Rattle.msvc_symbol.specs.declared.steps.Named.{Named}
use Rattle.msvc_filter.specs.Choices.{word_without}
use Rattle.msvc_filter.specs.Colors.{colored, declaration_under}
use Rattle.msvc_filter.specs.Shown.{IsShownIn}

-- flags with none of llvm-undname's
with_none : (g : Grammar) (flags : ℕ) → word_with g flags 0 ≡ flags
with_none Crate flags = refl
with_none Full flags = or_zero_r flags

pub with-without : (g : Grammar) (flags left_out : ℕ) → word_with g flags left_out ≡ word_without g flags left_out
with-without g flags left_out = at (left_out == 0) (eqb-true left_out 0)
  where
    at : (none : Bool) → (none ≡ true → left_out ≡ 0)
        → word_with g flags left_out ≡ cond none flags (word_with g flags left_out)
    at true is = ap (word_with g flags) (is refl) ∙ with_none g flags
    at false is = refl

pub shown-plain : (how : Choice) (limits : Limits) (input : List ℕ) (read : ℕ) (text : Option (List ℕ))
    → how.is_colored ≡ false → IsDeclaredAsIn how.grammar limits input how.flags read text
    → IsShownIn how limits input read text
shown-plain how limits input read text plain d = record {
  tree = d.tree;
  parsed = d.parsed;
  nodes = d.nodes;
  takes = d.takes;
  shown = d.printed ∙ ap (λ b. Some (cond b (colored (declaration_under how d.tree) (name_place d.tree (styled how.grammar how.flags)))
      (declaration_under how d.tree))) (sym plain);
  bytes = d.bytes;
}

pub shown-colored : (how : Choice) (limits : Limits) (input : List ℕ) (named : Named) (plain text : Option (List ℕ))
    → how.is_colored ≡ true → (d : IsNamedAsIn how.grammar limits input how.flags named plain)
    → text ≡ Some (colored (declaration_under how d.declared.tree) named.place)
    → IsShownIn how limits input named.length text
shown-colored how limits input named plain text is d made = record {
  tree = d.declared.tree;
  parsed = d.declared.parsed;
  nodes = d.declared.nodes;
  takes = d.declared.takes;
  shown = made ∙ ap (λ p. Some (colored (declaration_under how d.declared.tree) p)) d.name.is
      ∙ ap (λ b. Some (cond b (colored (declaration_under how d.declared.tree)
      (name_place d.declared.tree (styled how.grammar how.flags))) (declaration_under how d.declared.tree))) (sym is);
  bytes = d.declared.bytes;
}
