use Rattle.std.proofs.Common.{ap, codes, sym, ◌∙◌, ◌∷◌, [], cond}
use Rattle.msvc_print.proofs.Settling.{settled_two}
use Rattle.msvc_print.specs.Limited.{add_all}
use Rattle.msvc_print.specs.Pieces.{space, text}
use Rattle.msvc_print.specs.Words.{full_space}
use Rattle.msvc_print.proofs.spaces.write_unaligned.Goals as goal

pub returns-in_ok-write_text : goal.returns-in_ok-write_text
returns-in_ok-write_text g c =
    let word = text (codes "__unaligned ") ∷ [] in
    settled_two _ _ _ _ _ c.in_ok-write_space.ensures c.in_ok-write_text.ensures
    ∙ ap (λ s. add_all c.args.out.now (space s ∷ word)) c.full_space.ensures
    ∙ ap (λ b. add_all c.args.out.now (cond b (space (full_space c.args.flags.bits) ∷ word) [])) (sym c.if-has_it.true)
