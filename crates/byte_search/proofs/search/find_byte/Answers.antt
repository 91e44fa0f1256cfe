use Rattle.std.proofs.Common.{None, Some, arith, subst, sym}
use Rattle.memchr.specs.Find.{IsFirstByte, is_byte}
use Rattle.byte_search.proofs.FirstByte.{first_after_block, first_in_block}
use Rattle.byte_search.proofs.search.find_byte.Goals as goal

-- it is one of the first bytes
pub returns-then-before-lt-BLOCK-clause-first : goal.returns-then-before-lt-BLOCK-clause-first
returns-then-before-lt-BLOCK-clause-first c =
    subst (λ n. IsFirstByte (is_byte c.args.byte) c.args.bytes.now (Some n)) (sym c.bytes_before-before.ensures)
    (first_in_block c.args.byte c.args.bytes.now (omega arith) (omega (arith, c.bytes_before-before.ensures)))

-- it stands after the first bytes
pub returns-in-Some-clause-first : goal.returns-in-Some-clause-first
returns-in-Some-clause-first c =
    first_after_block c.args.byte c.args.bytes.now (Some c.in-Some.index) (omega arith)
    (λ less. omega (arith, less, c.bytes_before-before.ensures, c.if-before-lt-BLOCK.false))
    (rw c.in-Some.is at c.memchr.ensures)

-- there is no such byte
pub returns-in-None-clause-first : goal.returns-in-None-clause-first
returns-in-None-clause-first c =
    first_after_block c.args.byte c.args.bytes.now None (omega arith)
    (λ less. omega (arith, less, c.bytes_before-before.ensures, c.if-before-lt-BLOCK.false))
    (rw c.in-None.is at c.memchr.ensures)
