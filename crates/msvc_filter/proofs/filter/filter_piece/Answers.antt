use Rattle.std.proofs.Common.{◌≡◌, ◌+◌, ◌-◌, ◌++◌, ◌∷◌, [], ◌∙◌, drop, take, map, ap, subst, arith, length-drop}
use Rattle.msvc_filter.specs.Choices.{chosen}
use Rattle.msvc_filter.specs.Filtered.{declared, kept}
use Rattle.msvc_filter.specs.WordStates.{ArePartsUpTo}
use Rattle.msvc_filter.proofs.ScanParts.{parts-further, text-further, text-stays}
use Rattle.msvc_streams.proofs.CallSequence.{to_end}
use Rattle.msvc_filter.proofs.filter.filter_piece.Goals as goal

pub symbols-preserved-in-Some : goal.symbols-preserved-in-Some
symbols-preserved-in-Some c =
    let piece = c.args.piece.now in
    let at = c.symbols.at in
    let before = c.in-Some.found.before in
    let found = rw (c.in-Some.is, to_end piece at) at c.in_ok-found.ensures.some in
    let so = c.symbols.invariant in
    let stay = take before (drop at piece) in
    let count : at + before - at ≡ before = omega arith in (
      omega (arith, found.inside, so.0, length-drop at piece),
      (
        so.1.0 ++ (map kept stay ++ declared found.text ∷ []),
        c.in_ok-extend_from_slice-in-Some-2.ensures.items
            ∙ ap (λ t. t ++ c.declared.result.now) (c.in_ok-extend_from_slice-in-Some.ensures.items
            ∙ ap (λ n. c.symbols.text.items ++ take n (drop at piece)) count)
            ∙ ap (λ t. (c.symbols.text.items ++ stay) ++ t) (c.declared.ensures found.text found.printed)
            ∙ text-further c.symbols.text.items found.text so.1.0 stay so.1.1,
        parts-further (chosen c.args.how) c.args.scan.now c.symbols.scan c.next_symbol.new.scan
            piece c.args.until at
            (before + c.in-Some.found.bytes) so.1.0 (map kept stay ++ declared found.text ∷ []) so.1.2 (omega arith)
            (omega arith) found.parts,
      ),
    )

pub symbols-preserved : goal.symbols-preserved
symbols-preserved c =
    let piece = c.args.piece.now in
    let at = c.symbols.at in
    let until = c.args.until in
    let none = rw (c.in-None.is, to_end piece at) at c.in_ok-found.ensures.none in
    let so = c.symbols.invariant in
    let stay = take (until - at) (drop at piece) in
    let end : at + (until - at) ≡ until = omega arith in (
      omega arith,
      (
        so.1.0 ++ map kept stay,
        c.in_ok-extend_from_slice-in-None.ensures.items ∙ text-stays c.symbols.text.items so.1.0 stay so.1.1,
        subst (λ n. ArePartsUpTo (chosen c.args.how) c.args.scan.now piece until (so.1.0
            ++ map kept stay) n
            c.next_symbol.new.scan) end
            (parts-further (chosen c.args.how) c.args.scan.now c.symbols.scan c.next_symbol.new.scan
            piece until at
            (until - at) so.1.0
            (map kept stay) so.1.2 (omega arith) (omega arith) none),
      ),
    )
