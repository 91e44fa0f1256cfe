use Rattle.std.proofs.Common.{◌≡◌, ◌≢◌, ◌≤◌, ◌++◌, [], ◌∙◌, ap, append-nil, drop, length, refl, rules, subst, take}
use Rattle.std.proofs.lemmas.List.Elements.{All-nil}
use Rattle.std.proofs.lemmas.Result.{err_from_is_err_and}
use Rattle.std.specs.Io.KnownBytes.{Consumes}
use Rattle.msvc_streams.specs.Runs.{IsLines, IsWithoutEnd, Writes, WritesPart}
use Rattle.msvc_filter.specs.Choices.{chosen}
use Rattle.msvc_filter.specs.WordStates.{IsDecidedText, IsDecidedTextOf, IsRestText, LeavesLines}
use Rattle.msvc_filter.proofs.Streamed.{Streaming-end, Streaming-lines, Streaming-polled, Streaming-put}
use Rattle.msvc_filter.proofs.Streamed.{Streaming-put_fault, Streaming-start}
use Rattle.msvc_filter.proofs.Blocks.{end-unended, filter-did, lines-fault, lines-taken, part-did}
use Rattle.msvc_filter.proofs.filter.filter_blocks.Goals as goal

pub blocks-2-init : goal.blocks-2-init
blocks-2-init g c = rw c.new-block.ensures.items (
  Streaming-start (chosen c.args.how) _ _ _ c.new-scan.ensures,
  All-nil (λ b. b ≢ 10),
  refl,
  refl,
)

pub returns-in_err-read_block-clause-text : goal.returns-in_err-read_block-clause-text
returns-in_err-read_block-clause-text g c =
    let p = err_from_is_err_and c.from_residual.result c.from_residual.ensures.1 in
    let e = c.in_err-read_block.ensures.taken in
    let fault = c.in_err-read_block.field-0.0 in
    rw (p.1, p.2)
    (part-did fault (chosen c.args.how) _ _ _ _
    (Streaming-polled fault (chosen c.args.how) c.blocks-2.scan _ _ _ _ _ _ e.0 c.blocks-2.invariant.0 e.2 e.3))

pub returns-then-not-branch-clause-text : goal.returns-then-not-branch-clause-text
returns-then-not-branch-clause-text g c =
    let how = chosen c.args.how in
    let piece = c.blocks-2.block.items in
    let e = c.in_ok-read_block.ensures.taken in
    let none : e.0 ≡ [] = search rules in
    let text = c.write_rest.ensures.text in
    let r = c.write_rest.result in
    let same = c.deref.ensures.value ∙ e.1 ∙ ap (λ l. piece ++ l) none ∙ append-nil piece in
    filter-did r how _ _ _ _
    (Streaming-end r how c.blocks-2.scan _ _ _ _ _ _ piece e.0 text.0 c.blocks-2.invariant.0 e.2 none text.1
    (subst (λ l. Writes r (IsRestText how c.blocks-2.scan l) text.0) same text.2))

pub blocks-2-preserved-in_ok-write_decided : goal.blocks-2-preserved-in_ok-write_decided
blocks-2-preserved-in_ok-write_decided g c =
    let how = chosen c.args.how in
    let scan = c.blocks-2.scan in
    let e = c.in_ok-read_block.ensures.taken in
    let len = c.lines_len-end in
    let block = c.read_block.new.block.items in
    let shown = subst (λ n. IsWithoutEnd (drop n c.deref-in-blocks-2.result.now)) c.if-end-eq0.true
    len.ensures.unended in
    let whole : IsWithoutEnd block = subst IsWithoutEnd c.deref-in-blocks-2.ensures.value shown in
    let more = end-unended c.blocks-2.block.items e.0 block e.1 whole in
    let text = c.in_ok-write_decided.ensures.text in
    let after = c.write_decided.new.scan in
    let rest = c.write_decided.new.piece.items in (
      Streaming-put how scan after _ _ _ _ _ _ c.blocks-2.block.items e.0 text.0 rest c.blocks-2.invariant.0 e.2 more
          text.1 (subst (λ l. IsDecidedText how scan l text.0 after rest) e.1 text.2),
      c.in_ok-write_decided.ensures.unended whole,
      c.in_ok-read_block.ensures.sets_failed.0 ∙ c.blocks-2.invariant.2,
      c.in_ok-write_decided.ensures.sets_failed.1 ∙ c.blocks-2.invariant.3,
    )

pub returns-in_err-write_decided-clause-text : goal.returns-in_err-write_decided-clause-text
returns-in_err-write_decided-clause-text g c =
    let p = err_from_is_err_and c.from_residual-in_err-write_decided.result
    c.from_residual-in_err-write_decided.ensures.1 in
    let how = chosen c.args.how in
    let scan = c.blocks-2.scan in
    let e = c.in_ok-read_block.ensures.taken in
    let len = c.lines_len-end in
    let block = c.read_block.new.block.items in
    let shown = subst (λ n. IsWithoutEnd (drop n c.deref-in-blocks-2.result.now)) c.if-end-eq0.true
    len.ensures.unended in
    let whole : IsWithoutEnd block = subst IsWithoutEnd c.deref-in-blocks-2.ensures.value shown in
    let more = end-unended c.blocks-2.block.items e.0 block e.1 whole in
    let text = c.in_err-write_decided.ensures.text in
    let fault = c.in_err-write_decided.field-0.0 in
    rw (p.1, p.2)
    (part-did fault how _ _ _ _
    (Streaming-put_fault fault how scan _ _ _ _ _ _ c.blocks-2.block.items e.0 text.0 c.blocks-2.invariant.0 e.2 more
    text.1 (subst (λ l. WritesPart fault (IsDecidedTextOf how scan l) text.0) e.1 text.2)))

pub returns-in_err-write_lines-clause-text : goal.returns-in_err-write_lines-clause-text
returns-in_err-write_lines-clause-text g c =
    let p = err_from_is_err_and c.from_residual-in_err-write_lines.result
    c.from_residual-in_err-write_lines.ensures.1 in
    let how = chosen c.args.how in
    let scan = c.blocks-2.scan in
    let piece = c.blocks-2.block.items in
    let e = c.in_ok-read_block.ensures.taken in
    let block = c.read_block.new.block.items in
    let end = c.lines_len-end.result in
    let len = subst (λ l. (end ≤ length l) × IsLines (take end l)) c.deref-in-blocks-2.ensures.value
    (c.lines_len-end.ensures.bound, c.lines_len-end.ensures.lines) in
    let lines = lines-taken piece e.0 block end e.1 c.blocks-2.invariant.1 len.0 c.if-end-eq0.false len.1 in
    let text = c.in_err-write_lines.ensures.text in
    let fault = c.in_err-write_lines.field-0.0 in
    let front = ap (take end) c.deref-else-end-eq0.ensures.value ∙ lines.1 in
    rw (p.1, p.2)
    (lines-fault fault how scan _ _ _ _ _ _ piece lines.0 (drop end block) text.0 c.blocks-2.invariant.0
    c.blocks-2.invariant.1 (subst (Consumes _ _) lines.2 e.2) text.1
    (subst (λ l. LeavesLines fault how scan l text.0) front text.2))

pub blocks-2-preserved : goal.blocks-2-preserved
blocks-2-preserved g c =
    let how = chosen c.args.how in
    let scan = c.blocks-2.scan in
    let piece = c.blocks-2.block.items in
    let e = c.in_ok-read_block.ensures.taken in
    let block = c.read_block.new.block.items in
    let end = c.lines_len-end.result in
    let len = subst (λ l. (end ≤ length l) × IsLines (take end l) × IsWithoutEnd (drop end l))
    c.deref-in-blocks-2.ensures.value
    (c.lines_len-end.ensures.bound, c.lines_len-end.ensures.lines, c.lines_len-end.ensures.unended) in
    let lines = lines-taken piece e.0 block end e.1 c.blocks-2.invariant.1 len.0 c.if-end-eq0.false len.1 in
    let text = c.in_ok-write_lines.ensures.text in
    let front = ap (take end) c.deref-else-end-eq0.ensures.value ∙ lines.1 in
    rw c.drop_front.ensures (
      Streaming-lines how scan c.new-scan-else-end-eq0.result _ _ _ _ _ _ piece lines.0 (drop end block) text.0
          c.blocks-2.invariant.0 (subst (Consumes _ _) lines.2 e.2) len.2 text.1
          (subst (λ l. IsRestText how scan l text.0) front text.2) c.new-scan-else-end-eq0.ensures,
      len.2,
      c.in_ok-read_block.ensures.sets_failed.0 ∙ c.blocks-2.invariant.2,
      c.in_ok-write_lines.ensures.sets_failed.1 ∙ c.blocks-2.invariant.3,
    )
