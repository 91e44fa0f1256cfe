use Rattle.std.proofs.Common.{◌≡◌, ◌<◌, ◌∙◌, arith, false, length, sym}
use Rattle.std.proofs.lemmas.List.Elements.{All-more}
use Rattle.msvc_symbol.specs.declared.grammar.Grammar.TheVariants.{Full}
use Rattle.msvc_filter.specs.SymbolBounds.{is_mark}
use Rattle.msvc_filter.proofs.symbol_bounds.unmarked_len_in_full.Goals as goal

pub unmarked-preserved : goal.unmarked-preserved
unmarked-preserved c =
    let inside : c.unmarked.len < length c.args.bytes.now = omega (arith, c.unmarked-test.true) in (
      omega arith,
      All-more (λ b. is_mark Full b ≡ false) c.args.bytes.now c.unmarked.len 0 inside c.unmarked.invariant.1
          (sym c.is_mark.ensures ∙ c.if-not-is_mark.true),
    )
