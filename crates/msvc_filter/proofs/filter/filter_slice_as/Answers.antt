use Rattle.std.proofs.Common.{◌≡◌, ◌+◌, ◌-◌, ◌++◌, ◌∷◌, [], ◌∙◌, append_assoc, arith, ap, drop, length, length-drop}
use Rattle.std.proofs.Common.{List, map, refl, subst, take}
use Rattle.msvc_symbol.specs.Grammars.{under}
use Rattle.msvc_filter.specs.SliceWriters.{IsSliceWriter}
use Rattle.msvc_filter.specs.Filtered.{AreParts, Part, declared, kept}
use Rattle.msvc_filter.specs.WordStates.{ArePartsUpTo}
use Rattle.msvc_filter.proofs.Filled.{SliceWriter-end, SliceWriter-length, SliceWriter-start}
use Rattle.msvc_filter.proofs.Replaced.{Keeps-fresh, fresh, parts-only}
use Rattle.msvc_filter.proofs.Starts.{parts-kept}
use Rattle.msvc_filter.proofs.ScanParts.{parts-all, parts-further}
use Rattle.msvc_streams.proofs.CallSequence.{to_end}
use Rattle.msvc_filter.proofs.filter.filter_slice_as.Goals as goal

pub symbols-init : goal.symbols-init
symbols-init g c = (
  omega arith,
  (
    [],
    SliceWriter-start c.args.out.now _ refl refl refl,
    λ more rest decided h. parts-kept (under c.args.grammar c.args.flags.0) (fresh 10) (Keeps-fresh 10)
        (h 10 [] c.new-scan.ensures),
  ),
)

pub write_declaration-requires : goal.write_declaration-requires
write_declaration-requires g c =
    let so = c.symbols.invariant.1 in
    let on = c.in_ok-writer-in-Some.ensures c.args.out.now so.0 so.1 in
    omega (arith, on.inside, SliceWriter-length c.args.out.now _ _ _ on)

pub symbols-preserved-in-Some : goal.symbols-preserved-in-Some
symbols-preserved-in-Some g c =
    let text = c.args.text.now in
    let given = c.args.out.now in
    let at = c.symbols.at in
    let before = c.in-Some.found.before in
    let found = rw (c.in-Some.is, to_end text at) at c.in_ok-found.ensures.some in
    let so = c.symbols.invariant in
    let parts = so.1.0 in
    let stay = take before (drop at text) in
    let count : at + before - at ≡ before = omega arith in
    let on = c.in_ok-writer-in-Some-2.ensures given _ (c.in_ok-writer-in-Some.ensures given parts so.1.1) in
    let same = ap (λ n. (parts ++ map kept (take n (drop at text))) ++ declared c.declared.result.now ∷ []) count
    ∙ ap (λ t. (parts ++ map kept stay) ++ declared t ∷ []) (c.declared.ensures found.text found.printed)
    ∙ append_assoc parts (map kept stay) (declared found.text ∷ []) in (
      omega (arith, found.inside, so.0, length-drop at text),
      (
        parts ++ (map kept stay ++ declared found.text ∷ []),
        subst (λ ps. IsSliceWriter given ps c.in_ok-writer-in-Some-2.writer c.write_declaration.new.out) same on,
        parts-further (under c.args.grammar c.args.flags.0) (fresh 10) c.symbols.scan c.next_symbol.new.scan text
            (length text) at
            (before + c.in-Some.found.bytes) parts (map kept stay ++ declared found.text ∷ []) so.1.2 so.0 (omega arith)
            found.parts,
      ),
    )

pub symbols-preserved : goal.symbols-preserved
symbols-preserved g c =
    let text = c.args.text.now in
    let given = c.args.out.now in
    let at = c.symbols.at in
    let none = rw (c.in-None.is, to_end text at) at c.in_ok-found.ensures.none in
    let so = c.symbols.invariant in
    let parts = so.1.0 in
    let stay = take (length text - at) (drop at text) in
    let end : at + (length text - at) ≡ length text = omega arith in (
      omega arith,
      (
        parts ++ map kept stay,
        c.in_ok-writer-in-None.ensures given parts so.1.1,
        subst (λ n. ArePartsUpTo (under c.args.grammar c.args.flags.0) (fresh 10) text (length text) (parts
            ++ map kept stay) n
            c.next_symbol.new.scan) end
            (parts-further (under c.args.grammar c.args.flags.0) (fresh 10) c.symbols.scan c.next_symbol.new.scan text
            (length text) at
            (length text - at) parts (map kept stay) so.1.2 so.0 (omega arith) none),
      ),
    )

pub returns : goal.returns
returns g c =
    let text = c.args.text.now in
    let so = c.symbols.invariant in
    let all = parts-all (under c.args.grammar c.args.flags.0) (fresh 10) c.symbols.scan text (length text)
    c.symbols.at so.1.0 so.1.2
    c.symbols-test.false in
    let end = SliceWriter-end c.args.out.now so.1.0 c.symbols.writer c.symbols.out so.1.1 in
    let are = all 10 [] (Keeps-fresh 10) in
    let only : (others : List Part) → AreParts (under c.args.grammar c.args.flags.0) text others → others ≡ so.1.0 =
    λ others more. parts-only (under c.args.grammar c.args.flags.0) 10 [] text so.1.0 others are more in
    record { text = (so.1.0, (are, only), so.1.1.length_is, end.0, end.1) }
