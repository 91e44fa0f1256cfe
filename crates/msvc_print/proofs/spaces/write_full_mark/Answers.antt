use Rattle.std.proofs.Common.{ap, ◌∙◌, ◌++◌, ◌∷◌}
use Rattle.std.proofs.lemmas.Result.{on_ok_weaker}
use Rattle.msvc_print.proofs.Settling.{settled_two}
use Rattle.msvc_print.specs.Limited.{add_all}
use Rattle.msvc_print.specs.Pieces.{text}
use Rattle.msvc_print.specs.Words.{full_mark_space, full_marked, mark_qualifiers, unaligned}
use Rattle.msvc_print.proofs.spaces.write_full_mark.Goals as goal

pub returns : goal.returns
unfolding full_marked
returns g c =
    let set = c.args.qualifiers.0 in
    let flags = c.args.flags.bits in
    on_ok_weaker c.write_mark_qualifiers.result
    (λ last. settled_two _ _ _ _ _ c.in_ok-write_unaligned.ensures
    (settled_two _ _ _ _ _ c.in_ok-write_full_mark_space.ensures
    (settled_two _ _ _ _ _ c.in_ok-write_text.ensures last))
    ∙ ap (λ s. add_all c.args.out.now (unaligned c.args.is_unaligned flags
    ++ (full_mark_space flags ++ (text c.args.word.now ∷ mark_qualifiers s set))))
    c.full_space-kind.ensures)
    c.write_mark_qualifiers.ensures
