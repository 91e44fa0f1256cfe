use Rattle.std.proofs.Common.{arith, length, refl, sym}
use Rattle.msvc_filter.proofs.Filled.{SliceWriter-more, space-cut, space-whole}
use Rattle.msvc_filter.proofs.filter.write_first.Goals as goal

pub returns-then-taken-bytes : goal.returns-then-taken-bytes
returns-then-taken-bytes c = λ given parts others text fits so.
    SliceWriter-more given parts others c.args.writer _ c.args.out.now _ c.args.bytes.now c.args.taken so text fits
    c.requires.bound c.requires.within (omega (arith, c.in-Some.ensures)) refl
    (sym (space-cut c.args.taken (length c.args.bytes.now) c.args.writer.space c.if-taken-bytes.true))
    c.copy_into.ensures

pub returns-else-taken-bytes : goal.returns-else-taken-bytes
returns-else-taken-bytes c = λ given parts others text fits so.
    SliceWriter-more given parts others c.args.writer _ c.args.out.now _ c.args.bytes.now c.args.taken so text fits
    c.requires.bound c.requires.within (omega (arith, c.in-Some.ensures)) refl
    (sym (space-whole c.args.taken (length c.args.bytes.now) c.args.writer.space c.if-taken-bytes.false))
    c.copy_into.ensures
