use Rattle.std.proofs.Common.{◌≡◌, ◌∷◌, ◌++◌, [], ◌<◌, ◌≤◌, ◌+◌, length, take, false, true, arith, ap, sym, ◌∙◌}
use Rattle.std.proofs.Common.{length-append, length-take, length-take-le}
use Rattle.msvc_print.proofs.Longer.{added, left_out}
use Rattle.msvc_print.specs.Limited.{add_all}
use Rattle.msvc_print.specs.Pieces.{text}
use Rattle.msvc_print.proofs.text.write_text_beyond.Goals as goal
use Rattle.msvc_print.proofs.text.write_text_beyond.Goals.{
  then-not-out-via-then-not-out,
  then-not-out-via-else-not-out+then-bytes-out,
}

-- the text is not whole, or the piece exceeds the limit
pub returns-then-not-out : goal.returns-then-not-out
returns-then-not-out g c =
    let fields = c.out.inside in
    let before = take fields.written fields.bytes.items in
    let exceeds : fields.whole ≡ true → fields.max < length (before ++ c.args.bytes.now)
    = λ whole. elim c.then-not-out.branch [
      | then-not-out-via-then-not-out w ↦ let both : false ≡ true = sym w.if-not-out.true ∙ whole in absurd (cc)
      | then-not-out-via-else-not-out+then-bytes-out w ↦ omega (
        arith,
        w.if-bytes-out.true,
        c.out.invariant.0,
        length-take-le fields.written fields.bytes.items (omega (arith, c.out.invariant.0)),
        length-append before c.args.bytes.now,
      )
    ] in
    left_out _ fields.whole before (text c.args.bytes.now) exceeds
    ∙ ap (λ t. add_all t (text c.args.bytes.now ∷ [])) c.out.view_is

pub returns : goal.returns
returns g c =
    let fields = c.out.inside in
    let piece = c.args.bytes.now in
    let before = take fields.written fields.bytes.items in
    let end = fields.written + length piece in
    let filled = c.fill_ahead-out-inside.new.bytes.items in
    let after = take end filled in
    let fits : length after ≤ fields.max
    = omega (arith, c.out.invariant.1, c.if-bytes-out.false, length-take end filled) in
    let longer = c.extend_from_slice.new.self.items in
    let appended : longer ≡ before ++ piece
    = c.in_ok-extend_from_slice.ensures.items ∙ ap (λ b. b ++ piece) c.truncate.ensures.items in
    let whole = length-take-le fields.written fields.bytes.items (omega (arith, c.out.invariant.0)) in
    let long : length longer ≡ end
    = ap length appended ∙ length-append before piece ∙ ap (λ n. n + length piece) whole in
    let is_after : after ≡ before ++ piece
    = ap (λ n. take n filled) (sym long) ∙ c.fill_ahead-out-inside.ensures.kept ∙ appended in
    added _ _ before after (text piece) (sym is_after) fits
    ∙ ap (λ t. add_all t (text piece ∷ [])) c.out.view_is
