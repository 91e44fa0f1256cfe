use Rattle.std.proofs.Common.{arith, length, ap, ◌∙◌, ◌+◌, ◌-◌}
use Rattle.msvc_print.proofs.StringBytes.{later-fit, written-character, written-characters}
use Rattle.msvc_print.specs.Limited.{add_all}
use Rattle.msvc_print.specs.Strings.{bytes_of, character, characters}
use Rattle.msvc_print.proofs.strings.write_characters.Goals as goal

pub characters-preserved : goal.characters-preserved
characters-preserved g c =
    let w = c.args.width in
    let bytes = bytes_of c.args.bytes.now in
    record {
      text = ap (λ k. add_all c.write_character.new.out (characters w bytes (c.characters.at + k) (c.characters.left - 1)))
          c.size-at.ensures
          ∙ written-character w bytes c.characters.at c.characters.left _ _ (omega (arith, c.characters-test.true))
          (c.in_ok-write_character.ensures ∙ ap (λ x. add_all c.characters.out (character x)) c.character_at.ensures)
          ∙ c.characters.invariant.text;
      fits = omega (
        arith,
        c.size-at.ensures,
        later-fit w c.characters.at c.characters.left (length c.args.bytes.now) (omega (arith, c.characters-test.true))
            c.characters.invariant.fits,
      );
    }

pub returns : goal.returns
returns g c = written-characters c.args.width (bytes_of c.args.bytes.now) c.characters.at c.characters.left _
    (omega (arith, c.characters-test.false)) ∙ c.characters.invariant.text
