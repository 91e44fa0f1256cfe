use Rattle.std.proofs.Common.{◌++◌, ap, sym, ◌∙◌}
use Rattle.std.specs.List.{flat_map}
use Rattle.std.specs.String.{string_bytes}
use Rattle.std.proofs.lemmas.List.{map-id}
use Rattle.std.proofs.lemmas.Iterator.{YieldsList-from_chars}
use Rattle.std.proofs.lemmas.Iterator.Consumers.{YieldsList-end}
use Rattle.msvc_debug.specs.Literals.{escaped}
use Rattle.msvc_debug.proofs.literals.write_characters.Goals as goal

pub returns : goal.returns
returns g c =
    c.loop-character.invariant
    ∙ ap (λ cs. string_bytes c.args.text.now ++ flat_map escaped cs) (sym (map-id c.loop-character.yielded)
    ∙ (YieldsList-end (YieldsList-from_chars c.args.spelled.now c.utf8.spelled cc) c.loop-character.yielded _
    c.loop-character.yielded_by _ _ c.in-None.is c.next.ensures.steps).0)
