use Rattle.std.proofs.Common.{◌∙◌, ap}
use Rattle.std.specs.Str.Lossy.{utf8_lossy}
use Rattle.msvc_tree.specs.View.{tree_of}
use Rattle.msvc_print.proofs.Laws.{name_only-asks-no-type, no_conversion-of-kind, other_bits-change-nothing-in-crate}
use Rattle.msvc_print.proofs.Texts.{declaration-utf8}
use Rattle.msvc_write.proofs.serialized.serialize.Goals as goal

pub returns-clause-text : goal.returns-clause-text
returns-clause-text c =
    let s = tree_of c.args.input.now in
    let flags = c.args.flags.0 in
    let same = c.in_ok-out.ensures.text in
    let lossy = c.in_ok-text.ensures.lossy _ same in
    record {
      declared = λ utf8. c.in_ok-text.ensures.whole _ same (declaration-utf8 s flags utf8);
      lossy = lossy;
      other_bits = λ other agree. lossy ∙ ap utf8_lossy (other_bits-change-nothing-in-crate s flags other
          c.in_ok-out.ensures.narrow agree);
      name_only = λ only no_conversion other. lossy
          ∙ ap utf8_lossy (name_only-asks-no-type s.name s.scope s.symbol_type other flags only
          (no_conversion-of-kind s.name flags c.in_ok-out.ensures.narrow no_conversion));
    }
