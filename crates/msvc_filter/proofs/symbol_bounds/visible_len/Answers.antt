use Rattle.std.proofs.Common.{sym, arith}
use Rattle.msvc_filter.proofs.CandidatePrefix.{visible-front}
use Rattle.msvc_filter.proofs.symbol_bounds.visible_len.Goals as goal

pub returns-else-is_visible-clause-visible : goal.returns-else-is_visible-clause-visible
returns-else-is_visible-clause-visible c =
    let inv = c.visible.invariant in
    visible-front c.args.left.now c.visible.len (omega arith) (omega arith) inv.1
    (λ more few. sym c.if-is_visible.ensures)

pub returns-after-visible-clause-visible : goal.returns-after-visible-clause-visible
returns-after-visible-clause-visible c =
    let inv = c.visible.invariant in
    visible-front c.args.left.now c.visible.len (omega arith) (omega arith) inv.1 (λ more few. absurd (omega arith))
