use Rattle.std.proofs.Common.{◌+◌, ◌-◌, ◌≡◌, arith, drop, length-take, map, subst, take}
use Rattle.msvc_filter.specs.Choices.{chosen}
use Rattle.msvc_filter.specs.Filtered.{kept}
use Rattle.msvc_filter.specs.WordStates.{ArePartsUpTo}
use Rattle.msvc_filter.proofs.ScanParts.{parts-found, parts-stays, parts-start, parts-unmarked, unmarked-run}
use Rattle.msvc_filter.proofs.Starts.{unmarked-plain}
use Rattle.msvc_streams.proofs.CallSequence.{to_end}
use Rattle.msvc_filter.proofs.filter.next_symbol.Goals as goal

pub bytes-init : goal.bytes-init
bytes-init g c =
    (omega arith, parts-start (chosen c.args.how) c.args.scan.now c.args.left.now c.args.until)

pub pass-requires-clause-plain : goal.pass-requires-clause-plain
pass-requires-clause-plain g c =
    let run = c.unmarked_len.ensures in
    unmarked-plain c.args.how.grammar _ (unmarked-run c.args.how.grammar c.args.left.now c.bytes.at c.unmarked_len.result
    c.args.until run.bound run.unmarked)

pub bytes-preserved-then-not-is_mark : goal.bytes-preserved-then-not-is_mark
bytes-preserved-then-not-is_mark g c =
    let left = c.args.left.now in
    let at = c.bytes.at in
    let count = c.unmarked_len.result in
    let run = c.unmarked_len.ensures in
    let unmarked = unmarked-run c.args.how.grammar left at count c.args.until run.bound run.unmarked in
    let long = length-take (c.args.until - at) (drop at left) in (
      omega (arith, run.bound, long),
      parts-unmarked (chosen c.args.how) _ c.bytes.scan _ left c.args.until at (at + count)
          c.bytes.invariant.1 (omega arith)
          (omega (arith, run.bound, long)) unmarked c.pass.ensures,
    )

pub bytes-preserved : goal.bytes-preserved
bytes-preserved g c =
    let left = c.args.left.now in
    let at = c.bytes.at in
    let none = rw (c.in-None.is, to_end left at) at c.in_ok-bytes.ensures.none in (
      omega arith,
      parts-stays (chosen c.args.how) _ c.bytes.scan _ left c.args.until at c.bytes.invariant.1
          (omega arith) (omega arith)
          none c.after.ensures,
    )

pub returns-in-Some-clause-some : goal.returns-in-Some-clause-some
returns-in-Some-clause-some g c =
    let left = c.args.left.now in
    let at = c.bytes.at in
    let some = rw (c.in-Some.is, to_end left at) at c.in_ok-bytes.ensures.some in
    parts-found (chosen c.args.how) _ c.bytes.scan _ left c.args.until at c.in-Some.bytes _
    c.bytes.invariant.1 (omega arith)
    (omega arith) some.0 some.1 c.new.ensures

pub returns-clause-none : goal.returns-clause-none
returns-clause-none g c =
    let left = c.args.left.now in
    let until = c.args.until in
    let how = chosen c.args.how in
    let ended : c.bytes.at ≡ until = omega (arith, c.bytes.invariant.0, c.bytes-test.false) in
    subst (λ n. ArePartsUpTo how c.args.scan.now left until (map kept (take n left)) n c.bytes.scan) ended
    c.bytes.invariant.1
