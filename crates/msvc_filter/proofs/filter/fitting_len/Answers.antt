use Rattle.std.proofs.Common.{◌≡◌, ◌++◌, ◌∷◌, length, subst, sym, take}
use Rattle.msvc_filter.specs.SliceWriters.{space_after}
use Rattle.msvc_filter.specs.Filtered.{declared, fitting}
use Rattle.msvc_filter.proofs.Filled.{fitting-cut, fitting-whole}
use Rattle.msvc_filter.proofs.filter.fitting_len.Goals as goal

pub returns-then-text-space-clause-fits : goal.returns-then-text-space-clause-fits
returns-then-text-space-clause-fits c = λ rest. fitting-whole c.args.text.now c.args.space rest c.if-text-space.true

pub returns-else-text-space-clause-fits : goal.returns-else-text-space-clause-fits
returns-else-text-space-clause-fits c = λ rest.
    let text = c.args.text.now in
    let space = c.args.space in
    let front = c.utf8_front.ensures in
    subst (λ l. fitting space (declared text ∷ rest)
    ≡ take (length l) text ++ fitting (space_after (length l) (length text) space) rest) (sym front)
    (fitting-cut text space rest c.if-text-space.false)
