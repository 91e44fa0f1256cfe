use Rattle.std.proofs.Common.{Some, None, subst}
use Rattle.memchr.specs.Find.{IsLastByte, is_byte}
use Rattle.msvc_streams.proofs.CallSequence.{to_end}
use Rattle.msvc_streams.proofs.LastLine.{after_last, none_at_all}
use Rattle.msvc_streams.proofs.blocks.lines_len.Goals as goal

pub returns-in-Some-clause-unended : goal.returns-in-Some-clause-unended
returns-in-Some-clause-unended c =
    after_last c.args.block.now c.args.from c.in-Some.at
    (subst (λ l. IsLastByte (is_byte 10) l (Some c.in-Some.at)) (to_end c.args.block.now c.args.from) c.in-Some.ensures)

pub returns-in-None-clause-unended : goal.returns-in-None-clause-unended
returns-in-None-clause-unended c =
    none_at_all c.args.block.now c.args.from c.requires.unended
    (subst (λ l. IsLastByte (is_byte 10) l None) (to_end c.args.block.now c.args.from) c.in-None.ensures)
