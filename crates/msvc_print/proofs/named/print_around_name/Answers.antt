use Rattle.std.proofs.Common.{[], ◌∷◌, ◌∙◌, ap}
use Rattle.msvc_print.proofs.NamePlaces.{ran-place, ran-text}
use Rattle.msvc_print.specs.Limited.{add_all}
use Rattle.msvc_print.specs.Pieces.{space}
use Rattle.msvc_print.specs.SymbolNodes.{left_of}
use Rattle.msvc_print.specs.Words.{name_space}
use Rattle.msvc_print.proofs.named.print_around_name.Goals as goal

pub returns-clause-text : goal.returns-clause-text
returns-clause-text g c = λ max empty. ran-text c.args.symbol.now c.args.style.bits max _ _ _
    (record {
      is_spaced = c.in_ok-write_space.ensures ∙ ap (λ k. add_all c.print_part.new.out (space k ∷ [])) c.name_space.ensures
          ∙ ap (λ o. add_all o (space (name_space c.args.style.bits) ∷ [])) (c.in_ok-print_part.ensures
          ∙ ap (λ o. add_all o (left_of c.args.symbol.now c.args.style.bits)) empty);
      is_named = c.in_ok-print_part-2.ensures;
      is_all = c.in_ok-print_part-3.ensures;
    })

pub returns-clause-name : goal.returns-clause-name
returns-clause-name g c = λ max empty whole. ran-place c.args.symbol.now c.args.style.bits max _ _ _ _ _
    (record {
      is_spaced = c.in_ok-write_space.ensures ∙ ap (λ k. add_all c.print_part.new.out (space k ∷ [])) c.name_space.ensures
          ∙ ap (λ o. add_all o (space (name_space c.args.style.bits) ∷ [])) (c.in_ok-print_part.ensures
          ∙ ap (λ o. add_all o (left_of c.args.symbol.now c.args.style.bits)) empty);
      is_named = c.in_ok-print_part-2.ensures;
      is_all = c.in_ok-print_part-3.ensures;
    })
    whole c.len-start.ensures c.len-end.ensures
