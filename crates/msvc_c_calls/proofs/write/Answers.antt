use Rattle.std.proofs.Common.{◌≡◌, ◌-◌, ◌∙◌, ◌++◌, ◌∷◌, arith, drop, length, slice_set, suc, sym, take}
use Rattle.std.proofs.lemmas.Grind.{common_steps}
use Rattle.std.proofs.lemmas.List.{length-take-le}
use Rattle.msvc_c_calls.proofs.Cuts.{longest, one_more, set-copied, written-cut}
use Rattle.msvc_c_calls.proofs.write.Goals as goal

pub returns-clause-written : goal.returns-clause-written
returns-clause-written c =
    let text = c.args.text.now in
    let old = c.args.out.now in
    let cut = c.floor_char_boundary-cut.result in
    let e = c.floor_char_boundary-cut.ensures in
    let some = one_more (length old) (sym c.is_empty.ensures ∙ c.if-is_empty.false) in
    let is : slice_set (c.copy_from_slice.new.self ++ drop cut old) cut 0 ≡ take cut text ++ 0 ∷ drop (suc cut) old =
    grind (set-copied, length-take-le, arith, common_steps) in
    written-cut text old _ cut (length old - 1) some
    (longest text (length old - 1) cut c.utf8.text e.bound e.boundary e.nearest) is
