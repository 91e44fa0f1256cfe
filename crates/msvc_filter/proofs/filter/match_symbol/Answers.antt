use Rattle.std.proofs.Common.{arith, sym, ◌∙◌}
use Rattle.msvc_filter.specs.Choices.{chosen}
use Rattle.msvc_filter.proofs.Symbols.{no_symbol-continues, no_symbol-none, read-within}
use Rattle.msvc_filter.proofs.Symbols.{symbol-read}
use Rattle.msvc_filter.proofs.filter.match_symbol.Goals as goal

pub symbol_extent-bytes-requires : goal.symbol_extent-bytes-requires
symbol_extent-bytes-requires g c =
    let d = rw c.in-Some.is at c.in_ok-read.ensures.declared in
    (read-within (chosen c.args.how) c.in-Some.read c.args.left.now c.candidate.result.now
    c.candidate.ensures d.0 d.1 d.4).1

pub returns-else-continues-clause-some : goal.returns-else-continues-clause-some
returns-else-continues-clause-some g c =
    let d = rw c.in-Some.is at c.in_ok-read.ensures.declared in
    let left = c.args.left.now in
    let ends = sym (rw c.symbol_extent-bytes.ensures.extent at c.continues.ensures) ∙ c.if-continues.false in
    let read = read-within (chosen c.args.how) c.in-Some.read left c.candidate.result.now
    c.candidate.ensures d.0 d.1 d.4 in
    let is = symbol-read (chosen c.args.how) c.in-Some.read left c.candidate.result.now
    c.candidate.ensures d.0 d.1 d.3 d.4
    d.5 ends in (
      _,
      d.2,
      rw c.symbol_extent-bytes.ensures.extent is,
      omega (arith, read.0, c.symbol_extent-bytes.ensures.least),
      c.symbol_extent-bytes.ensures.bound,
    )

pub returns-then-continues-clause-none : goal.returns-then-continues-clause-none
returns-then-continues-clause-none g c =
    let d = rw c.in-Some.is at c.in_ok-read.ensures.declared in
    let on = sym (rw c.symbol_extent-bytes.ensures.extent at c.continues.ensures) ∙ c.if-continues.true in
    no_symbol-continues (chosen c.args.how) c.in-Some.read c.args.left.now c.candidate.result.now
    c.candidate.ensures d.0
    d.1 d.4 on

pub returns-in-None-clause-none : goal.returns-in-None-clause-none
returns-in-None-clause-none g c =
    no_symbol-none (chosen c.args.how) c.args.left.now c.candidate.result.now c.candidate.ensures
    (rw c.in-None.is at c.in_ok-read.ensures.none)
