use Rattle.std.proofs.Common.{◌≡◌, ◌∙◌, ℕ, List, arith, drop, subst, sym}
use Rattle.std.proofs.lemmas.Result.{err_from_is_err_and}
use Rattle.msvc_filter.specs.Choices.{chosen}
use Rattle.msvc_filter.specs.WordStates.{IsDecidedTextOf}
use Rattle.msvc_filter.proofs.Streamed.{WritesPart-map, put-made}
use Rattle.msvc_filter.proofs.filter.write_decided.Goals as goal

pub returns-in_err-write_all-in-Ok-clause-text : goal.returns-in_err-write_all-in-Ok-clause-text
returns-in_err-write_all-in-Ok-clause-text g c =
    let p = err_from_is_err_and c.from_residual.result c.from_residual.ensures.1 in
    let e = c.in_err-write_all-in-Ok.ensures.text in
    let how = (chosen c.args.how) in
    let scan = c.args.scan.now in
    let piece = c.args.piece.now.items in
    let after = c.filter_piece.new.scan in
    let made = rw c.deref.ensures.value at c.in-Ok.ensures in
    let put = put-made how scan after piece _ _ c.in-Ok.at made (omega arith) (omega arith) in
    let whole = λ (text : List ℕ) (h : text ≡ c.deref-in-Ok.result.now).
    subst (IsDecidedTextOf how scan piece) (sym (h ∙ c.deref-in-Ok.ensures.value)) (after, drop c.in-Ok.at piece, put)
    in
    rw (p.1, p.2) (e.0, e.1, WritesPart-map c.in_err-write_all-in-Ok.field-0.0 _ _ whole e.0 e.2)
