use Rattle.std.proofs.Common.{◌≡◌, ◌∙◌, List, ℕ, length, subst, sym}
use Rattle.msvc_filter.specs.Choices.{chosen}
use Rattle.msvc_filter.specs.WordStates.{IsRestText}
use Rattle.msvc_filter.proofs.ScanParts.{parts-all}
use Rattle.msvc_streams.proofs.CallSequence.{Writes-map}
use Rattle.msvc_filter.proofs.filter.write_filtered.Goals as goal

pub returns-in-Ok-clause-text : goal.returns-in-Ok-clause-text
returns-in-Ok-clause-text g c =
    let e = c.write_all.ensures.text in
    let how = (chosen c.args.how) in
    let scan = c.args.scan in
    let bytes = c.args.piece.now in
    let made = c.in-Ok.ensures in
    let all = parts-all how scan c.filter_piece.new.scan bytes (length bytes) c.in-Ok.field-0 made.2 made.4 made.0 in
    let text = λ (text : List ℕ) (h : text ≡ c.deref.result.now).
    subst (IsRestText how scan bytes) (sym (h ∙ c.deref.ensures.value)) (made.2, all, made.3) in
    (e.0, e.1, Writes-map _ _ _ text _ e.2)
