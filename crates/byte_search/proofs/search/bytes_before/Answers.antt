use Rattle.std.proofs.Common.{ap, ◌∙◌, arith, eqb, take, w8}
use Rattle.std.proofs.lemmas.Simd.{bitmask_splat, length-chunk, trailing_mask_l}
use lib.Count.{count_trailing_zeros}
use Rattle.memchr.specs.Find.{is_byte}
use Rattle.byte_search.proofs.search.bytes_before.Goals as goal

-- the lowest bit that is set is the first lane that is the byte
pub returns : goal.returns
returns c =
    let block = take 16 c.args.bytes.now in
    let long = length-chunk 0 16 c.args.bytes.now c.requires in
    let marks = bitmask_splat w8 eqb block 16 c.args.byte long (omega arith) in
    ap (count_trailing_zeros 64) marks
    ∙ trailing_mask_l (is_byte c.args.byte) 64 block (omega arith) (omega arith)
