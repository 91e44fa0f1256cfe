use Rattle.std.proofs.Common.{◌≡◌, ◌∙◌, List, ℕ, map, subst, sym}
use Rattle.msvc_filter.specs.Choices.{chosen}
use Rattle.msvc_filter.specs.Filtered.{kept}
use Rattle.msvc_filter.specs.WordStates.{IsRestText}
use Rattle.msvc_filter.proofs.ScanParts.{text-kept, without_mark}
use Rattle.msvc_streams.proofs.CallSequence.{Writes-map}
use Rattle.msvc_filter.proofs.filter.write_rest.Goals as goal

pub returns-then-not-has_mark-clause-text : goal.returns-then-not-has_mark-clause-text
returns-then-not-has_mark-clause-text g c =
    let e = c.write_all.ensures.text in
    let how = (chosen c.args.how) in
    let bytes = c.args.piece.now in
    let none = sym c.has_mark.ensures ∙ c.if-not-has_mark.true in
    let text = λ (text : List ℕ) (h : text ≡ bytes).
    subst (IsRestText how c.args.scan bytes) (sym h)
    (map kept bytes, λ last passed k. without_mark how last passed bytes none, sym (text-kept bytes)) in
    (e.0, e.1, Writes-map _ _ _ text _ e.2)
