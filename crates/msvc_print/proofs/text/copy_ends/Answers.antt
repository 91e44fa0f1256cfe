use Rattle.std.proofs.Common.{◌≡◌, ◌≤◌, ◌+◌, ◌-◌, ◌++◌, ℕ, List, length, take, drop, arith, length-drop, length-take-le}
use Rattle.std.proofs.lemmas.Simd.{take_more_put_chunk, length-put_chunk}
use lib.Lanes.{put_chunk}
use Rattle.msvc_print.proofs.Copies.{ends_cover}
use Rattle.msvc_print.proofs.text.copy_ends.Goals as goal

-- the first bytes of a piece, once they are copied
copied : (bytes piece : List ℕ) (at n : ℕ) → n ≤ length piece → at + n ≤ length bytes →
    take (at + n) (put_chunk at bytes (take n piece)) ≡ take at bytes ++ take n piece
copied bytes piece at n long fits =
    let front : length (take n piece) ≡ n = length-take-le n piece long in
    take_more_put_chunk at bytes (take n piece) _ (omega arith) fits

pub returns-clause-start : goal.returns-clause-start
returns-clause-start g c =
    let piece = c.args.piece.now in
    let last = length piece - g.row.N in
    let once = put_chunk c.args.at c.args.bytes.now (take g.row.N piece) in
    let same : length once ≡ length c.args.bytes.now
    = length-put_chunk c.args.at c.args.bytes.now (take g.row.N piece) in
    ends_cover _ once _ c.args.at g.row.N piece (omega arith) c.requires.covers.0 c.requires.covers.1
    (copied c.args.bytes.now piece c.args.at g.row.N c.requires.covers.0 (omega arith))
    (copied once (drop last piece) (c.args.at + last) g.row.N (omega (arith, length-drop last piece)) (omega arith))
