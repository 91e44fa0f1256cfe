use Rattle.std.proofs.Common.{◌≡◌, ◌++◌, ◌∷◌, [], ◌∙◌, ap, refl, rules, subst, sym, take}
use Rattle.std.specs.Prelude.{vec_len}
use Rattle.std.proofs.lemmas.List.{nil_from_length}
use Rattle.std.proofs.lemmas.Result.{err_from_is_err_and}
use Rattle.std.specs.Io.KnownBytes.{Consumes}
use Rattle.msvc_streams.specs.Runs.{IsWithEnd, Writes, WritesPart}
use Rattle.msvc_filter.specs.Choices.{chosen}
use Rattle.msvc_filter.specs.WordStates.{IsDecidedText, IsDecidedTextOf, IsRestText}
use Rattle.msvc_streams.specs.Taking.{IsCut}
use Rattle.msvc_streams.specs.declared.watched.Taken.TheVariants.{Part}
use Rattle.msvc_streams.proofs.Polling.{Consumes-front, Consumes-polled}
use Rattle.msvc_filter.proofs.Streamed.{Streaming-end, Streaming-line}
use Rattle.msvc_filter.proofs.Streamed.{Streaming-line_fault, Streaming-polled, Streaming-put}
use Rattle.msvc_filter.proofs.Streamed.{Streaming-put_fault, Streaming-start}
use Rattle.msvc_filter.proofs.filter.filter_lines.Goals as goal

pub pieces-init : goal.pieces-init
pieces-init g c = rw c.new-piece.ensures.items (
  Streaming-start (chosen c.args.how) _ _ _
      c.new-scan.ensures,
  refl,
  refl,
)

pub returns-in-Err-clause-text : goal.returns-in-Err-clause-text
returns-in-Err-clause-text g c =
    let none = Consumes-polled _ _ _ _ c.fill_buf.follows.holds-at-none.0 in
    Streaming-polled _ (chosen c.args.how) c.pieces.scan _ _ _ _ _ _ [] c.pieces.invariant.0
    (subst (λ s. Consumes (g.R.Read.remaining c.pieces.input.stream) (g.R.Read.remaining s) [])
    (sym c.fail.ensures.stream) none) refl

pub returns-then-is_err-clause-text : goal.returns-then-is_err-clause-text
returns-then-is_err-clause-text g c =
    Streaming-polled _ (chosen c.args.how) c.pieces.scan _ _ _ _ _ _ [] c.pieces.invariant.0
    (Consumes-polled _ _ _ _ c.fill_buf.follows.holds-at-none.0) refl

pub returns-then-is_err-2-clause-text : goal.returns-then-is_err-2-clause-text
returns-then-is_err-2-clause-text g c =
    Streaming-polled _ (chosen c.args.how) c.pieces.scan _ _ _ _ _ _ [] c.pieces.invariant.0
    (Consumes-polled _ _ _ _ c.fill_buf.follows.holds-at-none.0) refl

pub returns-in_err-put-in-Line-clause-text : goal.returns-in_err-put-in-Line-clause-text
returns-in_err-put-in-Line-clause-text g c =
    let p = err_from_is_err_and c.from_residual.result c.from_residual.ensures.1 in
    let shown = c.in-Ok.shown in
    let line = take c.line_end-end.result.0 shown.now in
    let taken = Consumes-front _ _ _ _ c.line_end-end.result.0 _ shown c.in-Ok.is c.fill_buf.follows.holds-at-none.0
    c.line_end-end.ensures.bound c.in-Ok.ensures.front c.in-Ok.ensures.end c.consume.ensures.bytes in
    let cut : IsWithEnd line = subst (λ t. IsCut t line) c.in-Line.is c.line_end-end.ensures.taken in
    let none : vec_len c.pieces.piece ≡ 0 = search rules in
    let empty = nil_from_length c.pieces.piece.items (sym c.pieces.piece.ok.0 ∙ none) in
    let text = c.in_err-put-in-Line.ensures.text in
    let fault = c.in_err-put-in-Line.field-0.0 in
    let joined = cut.2 ∙ ap (λ l. l ++ (cut.0 ++ 10 ∷ [])) (sym empty) in
    rw (p.1, p.2)
    (Streaming-line_fault fault (chosen c.args.how) c.pieces.scan _ _ _ _ _ _ c.pieces.piece.items
    cut.0 text.0
    c.pieces.invariant.0 (subst (Consumes _ _) cut.2 taken) cut.1 text.1
    (subst (λ l. WritesPart fault (IsRestText (chosen c.args.how) c.pieces.scan l) text.0) joined
    text.2))

pub returns-in_err-write_rest-in-Line-2-clause-text : goal.returns-in_err-write_rest-in-Line-2-clause-text
returns-in_err-write_rest-in-Line-2-clause-text g c =
    let at = c.from_residual-in_err-write_rest-in-Line-2 in
    let p = err_from_is_err_and at.result at.ensures.1 in
    let shown = c.in-Ok.shown in
    let end = take c.line_end-end.result.0 shown.now in
    let taken = Consumes-front _ _ _ _ c.line_end-end.result.0 _ shown c.in-Ok.is c.fill_buf.follows.holds-at-none.0
    c.line_end-end.ensures.bound c.in-Ok.ensures.front c.in-Ok.ensures.end c.consume-in-Line-2.ensures.bytes in
    let cut : IsWithEnd end = subst (λ t. IsCut t end) c.in-Line-2.is c.line_end-end.ensures.taken in
    let more : c.extend_from_slice.new.self.items ≡ c.pieces.piece.items ++ end = search rules in
    let text = c.in_err-write_rest-in-Line-2.ensures.text in
    let fault = c.in_err-write_rest-in-Line-2.field-0.0 in
    let line = c.deref.ensures.value ∙ more ∙ ap (λ l. c.pieces.piece.items ++ l) cut.2 in
    rw (p.1, p.2)
    (Streaming-line_fault fault (chosen c.args.how) c.pieces.scan _ _ _ _ _ _ c.pieces.piece.items
    cut.0 text.0
    c.pieces.invariant.0 (subst (Consumes _ _) cut.2 taken) cut.1 text.1
    (subst (λ l. WritesPart fault (IsRestText (chosen c.args.how) c.pieces.scan l) text.0) line
    text.2))

pub returns-in_err-write_decided-in-Part-clause-text : goal.returns-in_err-write_decided-in-Part-clause-text
returns-in_err-write_decided-in-Part-clause-text g c =
    let at = c.from_residual-in_err-write_decided-in-Part in
    let p = err_from_is_err_and at.result at.ensures.1 in
    let shown = c.in-Ok.shown in
    let part = take c.line_end-end.result.0 shown.now in
    let taken = Consumes-front _ _ _ _ c.line_end-end.result.0 _ shown c.in-Ok.is c.fill_buf.follows.holds-at-none.0
    c.line_end-end.ensures.bound c.in-Ok.ensures.front c.in-Ok.ensures.end c.consume-in-Part.ensures.bytes in
    let cut : IsCut Part part = subst (λ t. IsCut t part) c.in-Part.is c.line_end-end.ensures.taken in
    let more : c.extend_from_slice-in-Part.new.self.items ≡ c.pieces.piece.items ++ part = search rules in
    let text = c.in_err-write_decided-in-Part.ensures.text in
    let fault = c.in_err-write_decided-in-Part.field-0.0 in
    rw (p.1, p.2)
    (Streaming-put_fault fault (chosen c.args.how) c.pieces.scan _ _ _ _ _ _ c.pieces.piece.items
    part text.0
    c.pieces.invariant.0 taken cut.1 text.1
    (subst (λ l. WritesPart fault (IsDecidedTextOf (chosen c.args.how) c.pieces.scan l) text.0) more
    text.2))

pub returns-in-End-clause-text : goal.returns-in-End-clause-text
returns-in-End-clause-text g c =
    let text = c.write_rest-in-End.ensures.text in
    let r = c.write_rest-in-End.result in
    Streaming-end r (chosen c.args.how) c.pieces.scan _ _ _ _ _ _ c.pieces.piece.items [] text.0
    c.pieces.invariant.0
    (Consumes-polled _ _ _ _ c.fill_buf.follows.holds-at-none.0) refl text.1
    (subst (λ l. Writes r (IsRestText (chosen c.args.how) c.pieces.scan l) text.0)
    c.deref-in-End.ensures.value text.2)

pub pieces-preserved-then-is_empty : goal.pieces-preserved-then-is_empty
pieces-preserved-then-is_empty g c =
    let shown = c.in-Ok.shown in
    let front = take c.line_end-end.result.0 shown.now in
    let taken = Consumes-front _ _ _ _ c.line_end-end.result.0 _ shown c.in-Ok.is c.fill_buf.follows.holds-at-none.0
    c.line_end-end.ensures.bound c.in-Ok.ensures.front c.in-Ok.ensures.end c.consume.ensures.bytes in
    let cut : IsWithEnd front = subst (λ t. IsCut t front) c.in-Line.is c.line_end-end.ensures.taken in
    let none : vec_len c.pieces.piece ≡ 0 = search rules in
    let empty = nil_from_length c.pieces.piece.items (sym c.pieces.piece.ok.0 ∙ none) in
    let text = c.in_ok-put-in-Line.ensures.text in
    let joined = cut.2 ∙ ap (λ l. l ++ (cut.0 ++ 10 ∷ [])) (sym empty) in
    rw empty (
      Streaming-line (chosen c.args.how) c.pieces.scan c.new-scan-in-Line.result _ _ _ _ _ _
          c.pieces.piece.items cut.0
          text.0 c.pieces.invariant.0 (subst (Consumes _ _) cut.2 taken) text.1
          (subst (λ l. IsRestText (chosen c.args.how) c.pieces.scan l text.0) joined text.2)
          c.new-scan-in-Line.ensures,
      c.consume.ensures.failed ∙ c.fill_buf.follows.holds-at-none.1 ∙ c.pieces.invariant.1,
      c.in_ok-put-in-Line.ensures.sets_failed.1 ∙ c.pieces.invariant.2,
    )

pub pieces-preserved-in-Line-2 : goal.pieces-preserved-in-Line-2
pieces-preserved-in-Line-2 g c =
    let shown = c.in-Ok.shown in
    let front = take c.line_end-end.result.0 shown.now in
    let taken = Consumes-front _ _ _ _ c.line_end-end.result.0 _ shown c.in-Ok.is c.fill_buf.follows.holds-at-none.0
    c.line_end-end.ensures.bound c.in-Ok.ensures.front c.in-Ok.ensures.end c.consume-in-Line-2.ensures.bytes in
    let cut : IsWithEnd front = subst (λ t. IsCut t front) c.in-Line-2.is c.line_end-end.ensures.taken in
    let more : c.extend_from_slice.new.self.items ≡ c.pieces.piece.items ++ front = search rules in
    let text = c.in_ok-write_rest-in-Line-2.ensures.text in
    let line = c.deref.ensures.value ∙ more ∙ ap (λ l. c.pieces.piece.items ++ l) cut.2 in
    rw c.clear.ensures.items (
      Streaming-line (chosen c.args.how) c.pieces.scan c.new-scan-in-Line-2.result _ _ _ _ _ _
          c.pieces.piece.items cut.0
          text.0 c.pieces.invariant.0 (subst (Consumes _ _) cut.2 taken) text.1
          (subst (λ l. IsRestText (chosen c.args.how) c.pieces.scan l text.0) line text.2)
          c.new-scan-in-Line-2.ensures,
      c.consume-in-Line-2.ensures.failed ∙ c.fill_buf.follows.holds-at-none.1 ∙ c.pieces.invariant.1,
      c.in_ok-write_rest-in-Line-2.ensures.sets_failed.1 ∙ c.pieces.invariant.2,
    )

pub pieces-preserved : goal.pieces-preserved
pieces-preserved g c =
    let shown = c.in-Ok.shown in
    let part = take c.line_end-end.result.0 shown.now in
    let taken = Consumes-front _ _ _ _ c.line_end-end.result.0 _ shown c.in-Ok.is c.fill_buf.follows.holds-at-none.0
    c.line_end-end.ensures.bound c.in-Ok.ensures.front c.in-Ok.ensures.end c.consume-in-Part.ensures.bytes in
    let cut : IsCut Part part = subst (λ t. IsCut t part) c.in-Part.is c.line_end-end.ensures.taken in
    let more : c.extend_from_slice-in-Part.new.self.items ≡ c.pieces.piece.items ++ part = search rules in
    let text = c.in_ok-write_decided-in-Part.ensures.text in
    let after = c.write_decided.new.scan in
    let rest = c.write_decided.new.piece.items in (
      Streaming-put (chosen c.args.how) c.pieces.scan after _ _ _ _ _ _ c.pieces.piece.items part
          text.0 rest
          c.pieces.invariant.0 taken cut.1 text.1
          (subst (λ l. IsDecidedText (chosen c.args.how) c.pieces.scan l text.0 after rest) more
          text.2),
      c.consume-in-Part.ensures.failed ∙ c.fill_buf.follows.holds-at-none.1 ∙ c.pieces.invariant.1,
      c.in_ok-write_decided-in-Part.ensures.sets_failed.1 ∙ c.pieces.invariant.2,
    )
