use Rattle.std.proofs.Common.{rules, ◌≡◌, ◌≢◌, ◌++◌, ◌∷◌, [], subst, sym, ap, ◌∙◌, refl, take}
use Rattle.std.specs.Prelude.{vec_len}
use Rattle.std.proofs.lemmas.List.{nil_from_length}
use Rattle.std.proofs.lemmas.Result.{err_from_is_err_and}
use Rattle.std.specs.Io.KnownBytes.{Consumes}
use Rattle.msvc_lines.specs.Answers.{IsText, IsTextOf}
use Rattle.msvc_lines.specs.Lines.{line_of}
use Rattle.msvc_lines.specs.Reports.{IsReport}
use Rattle.msvc_streams.specs.Faults.{no_stream}
use Rattle.msvc_streams.specs.Runs.{IsWithEnd, Writes, WritesPart}
use Rattle.msvc_streams.specs.Taking.{IsCut}
use Rattle.msvc_streams.specs.declared.watched.Fault.TheVariants.{Memory, Read}
use Rattle.msvc_streams.specs.declared.watched.Taken.TheVariants.{Part}
use Rattle.msvc_streams.proofs.Polling.{Consumes-front, Consumes-polled}
use Rattle.msvc_lines.proofs.LineRun.{LineRun-end, LineRun-fault, LineRun-line}
use Rattle.msvc_lines.proofs.LineRun.{LineRun-part, LineRun-polled, LineRun-rest, LineRun-start, read_failed}
use Rattle.msvc_lines.proofs.Texts.{answers-joined, reports-joined}
use Rattle.msvc_lines.proofs.lines.undname_lines.Goals as goal

pub pieces-init : goal.pieces-init
pieces-init g c = rw c.new-piece.ensures.items (
  LineRun-start answers-joined _ _,
  refl,
  refl,
  refl,
  LineRun-start (reports-joined c.args.verbose) _ _,
)

pub returns-in-Err-clause-text : goal.returns-in-Err-clause-text
returns-in-Err-clause-text g c =
    let none = Consumes-polled _ _ _ _ c.fill_buf.follows.holds-at-none.0 in
    rw c.fail.ensures.fault (LineRun-polled answers-joined Read read_failed _ _ _ _ _ _ [] c.pieces.invariant.0
    (subst (λ s. Consumes (g.R.Read.remaining c.pieces.input.stream) (g.R.Read.remaining s) [])
    (sym c.fail.ensures.stream) none) refl (refl, refl, refl))

pub returns-then-is_err-clause-text : goal.returns-then-is_err-clause-text
returns-then-is_err-clause-text g c =
    LineRun-polled answers-joined Memory no_stream _ _ _ _ _ _ [] c.pieces.invariant.0
    (Consumes-polled _ _ _ _ c.fill_buf.follows.holds-at-none.0) refl (refl, refl, refl)

pub returns-then-is_err-2-clause-text : goal.returns-then-is_err-2-clause-text
returns-then-is_err-2-clause-text g c =
    LineRun-polled answers-joined Memory no_stream _ _ _ _ _ _ [] c.pieces.invariant.0
    (Consumes-polled _ _ _ _ c.fill_buf.follows.holds-at-none.0) refl (refl, refl, refl)

pub returns-in_err-put-in-Line-clause-text : goal.returns-in_err-put-in-Line-clause-text
returns-in_err-put-in-Line-clause-text g c =
    let p = err_from_is_err_and c.from_residual.result c.from_residual.ensures.1 in
    let shown = c.in-Ok.shown in
    let front = take c.line_end-end.result.0 shown.now in
    let taken = Consumes-front _ _ _ _ c.line_end-end.result.0 _ shown c.in-Ok.is c.fill_buf.follows.holds-at-none.0
    c.line_end-end.ensures.bound c.in-Ok.ensures.front c.in-Ok.ensures.end c.consume.ensures.bytes in
    let cut : IsWithEnd front = subst (λ t. IsCut t front) c.in-Line.is c.line_end-end.ensures.taken in
    let none : vec_len c.pieces.piece ≡ 0 = search rules in
    let empty = nil_from_length c.pieces.piece.items (sym c.pieces.piece.ok.0 ∙ none) in
    let joined = cut.2 ∙ ap (λ l. l ++ (cut.0 ++ 10 ∷ [])) (sym empty) in
    let text = c.in_err-put-in-Line.ensures.text in
    let fault = c.in_err-put-in-Line.field-0.0 in
    rw (p.1, p.2)
    (LineRun-fault answers-joined fault _ _ _ _ _ _ c.pieces.piece.items cut.0 c.pieces.invariant.0
    (subst (Consumes _ _) cut.2 taken) cut.1 text.0 text.1
    (subst (λ l. WritesPart fault (IsText (line_of l ∷ [])) text.0) joined text.2))

pub returns-in_err-undname_line-in-Line-2-clause-text : goal.returns-in_err-undname_line-in-Line-2-clause-text
returns-in_err-undname_line-in-Line-2-clause-text g c =
    let at = c.from_residual-in_err-undname_line-in-Line-2 in
    let p = err_from_is_err_and at.result at.ensures.1 in
    let shown = c.in-Ok.shown in
    let front = take c.line_end-end.result.0 shown.now in
    let taken = Consumes-front _ _ _ _ c.line_end-end.result.0 _ shown c.in-Ok.is c.fill_buf.follows.holds-at-none.0
    c.line_end-end.ensures.bound c.in-Ok.ensures.front c.in-Ok.ensures.end c.consume-in-Line-2.ensures.bytes in
    let cut : IsWithEnd front = subst (λ t. IsCut t front) c.in-Line-2.is c.line_end-end.ensures.taken in
    let more : c.extend_from_slice.new.self.items ≡ c.pieces.piece.items ++ front = search rules in
    let line = c.deref.ensures.value ∙ more ∙ ap (λ l. c.pieces.piece.items ++ l) cut.2 in
    let text = c.in_err-undname_line-in-Line-2.ensures.text in
    let fault = c.in_err-undname_line-in-Line-2.field-0.0 in
    rw (p.1, p.2)
    (LineRun-fault answers-joined fault _ _ _ _ _ _ c.pieces.piece.items cut.0 c.pieces.invariant.0
    (subst (Consumes _ _) cut.2 taken) cut.1 text.0 text.1
    (subst (λ l. WritesPart fault (IsText (line_of l ∷ [])) text.0) line text.2))

pub returns-then-is_empty-2-clause-text : goal.returns-then-is_empty-2-clause-text
returns-then-is_empty-2-clause-text g c =
    let none : vec_len c.pieces.piece ≡ 0 = search rules in
    let empty = nil_from_length c.pieces.piece.items (sym c.pieces.piece.ok.0 ∙ none) in
    LineRun-end answers-joined _ _ _ _ _ _ [] c.pieces.invariant.0
    (Consumes-polled _ _ _ _ c.fill_buf.follows.holds-at-none.0) refl empty

pub returns-in-End-clause-text : goal.returns-in-End-clause-text
returns-in-End-clause-text g c =
    let text = c.undname_line-in-End.ensures.text in
    let r = c.undname_line-in-End.result in
    let some : c.pieces.piece.items ≢ [] = search rules in
    LineRun-rest answers-joined r _ _ _ _ _ _ _ [] c.pieces.invariant.0
    (Consumes-polled _ _ _ _ c.fill_buf.follows.holds-at-none.0) refl some text.0 text.1
    (subst (λ l. Writes r (IsText (line_of l ∷ [])) text.0) c.deref-in-End.ensures.value text.2)

pub returns-in-Err-clause-errors : goal.returns-in-Err-clause-errors
returns-in-Err-clause-errors g c =
    let none = Consumes-polled _ _ _ _ c.fill_buf.follows.holds-at-none.0 in
    rw c.fail.ensures.fault
    (LineRun-polled (reports-joined c.args.verbose) Read read_failed _ _ _ _ _ _ [] c.pieces.invariant.4
    (subst (λ s. Consumes (g.R.Read.remaining c.pieces.input.stream) (g.R.Read.remaining s) [])
    (sym c.fail.ensures.stream) none) refl (refl, refl, refl))

pub returns-then-is_err-clause-errors : goal.returns-then-is_err-clause-errors
returns-then-is_err-clause-errors g c =
    LineRun-polled (reports-joined c.args.verbose) Memory no_stream _ _ _ _ _ _ [] c.pieces.invariant.4
    (Consumes-polled _ _ _ _ c.fill_buf.follows.holds-at-none.0) refl (refl, refl, refl)

pub returns-then-is_err-2-clause-errors : goal.returns-then-is_err-2-clause-errors
returns-then-is_err-2-clause-errors g c =
    LineRun-polled (reports-joined c.args.verbose) Memory no_stream _ _ _ _ _ _ [] c.pieces.invariant.4
    (Consumes-polled _ _ _ _ c.fill_buf.follows.holds-at-none.0) refl (refl, refl, refl)

pub returns-in_err-put-in-Line-clause-errors : goal.returns-in_err-put-in-Line-clause-errors
returns-in_err-put-in-Line-clause-errors g c =
    let p = err_from_is_err_and c.from_residual.result c.from_residual.ensures.1 in
    let shown = c.in-Ok.shown in
    let front = take c.line_end-end.result.0 shown.now in
    let taken = Consumes-front _ _ _ _ c.line_end-end.result.0 _ shown c.in-Ok.is c.fill_buf.follows.holds-at-none.0
    c.line_end-end.ensures.bound c.in-Ok.ensures.front c.in-Ok.ensures.end c.consume.ensures.bytes in
    let cut : IsWithEnd front = subst (λ t. IsCut t front) c.in-Line.is c.line_end-end.ensures.taken in
    let none : vec_len c.pieces.piece ≡ 0 = search rules in
    let empty = nil_from_length c.pieces.piece.items (sym c.pieces.piece.ok.0 ∙ none) in
    let joined = cut.2 ∙ ap (λ l. l ++ (cut.0 ++ 10 ∷ [])) (sym empty) in
    let text = c.in_err-put-in-Line.ensures.errors in
    let fault = c.in_err-put-in-Line.field-0.0 in
    rw (p.1, p.2)
    (LineRun-fault (reports-joined c.args.verbose) fault _ _ _ _ _ _ c.pieces.piece.items cut.0 c.pieces.invariant.4
    (subst (Consumes _ _) cut.2 taken) cut.1 text.0 text.1
    (subst (λ l. WritesPart fault (IsTextOf (IsReport c.args.verbose) (line_of l ∷ [])) text.0) joined text.2))

pub returns-in_err-undname_line-in-Line-2-clause-errors : goal.returns-in_err-undname_line-in-Line-2-clause-errors
returns-in_err-undname_line-in-Line-2-clause-errors g c =
    let at = c.from_residual-in_err-undname_line-in-Line-2 in
    let p = err_from_is_err_and at.result at.ensures.1 in
    let shown = c.in-Ok.shown in
    let front = take c.line_end-end.result.0 shown.now in
    let taken = Consumes-front _ _ _ _ c.line_end-end.result.0 _ shown c.in-Ok.is c.fill_buf.follows.holds-at-none.0
    c.line_end-end.ensures.bound c.in-Ok.ensures.front c.in-Ok.ensures.end c.consume-in-Line-2.ensures.bytes in
    let cut : IsWithEnd front = subst (λ t. IsCut t front) c.in-Line-2.is c.line_end-end.ensures.taken in
    let more : c.extend_from_slice.new.self.items ≡ c.pieces.piece.items ++ front = search rules in
    let line = c.deref.ensures.value ∙ more ∙ ap (λ l. c.pieces.piece.items ++ l) cut.2 in
    let text = c.in_err-undname_line-in-Line-2.ensures.errors in
    let fault = c.in_err-undname_line-in-Line-2.field-0.0 in
    rw (p.1, p.2)
    (LineRun-fault (reports-joined c.args.verbose) fault _ _ _ _ _ _ c.pieces.piece.items cut.0 c.pieces.invariant.4
    (subst (Consumes _ _) cut.2 taken) cut.1 text.0 text.1
    (subst (λ l. WritesPart fault (IsTextOf (IsReport c.args.verbose) (line_of l ∷ [])) text.0) line text.2))

pub returns-then-is_empty-2-clause-errors : goal.returns-then-is_empty-2-clause-errors
returns-then-is_empty-2-clause-errors g c =
    let none : vec_len c.pieces.piece ≡ 0 = search rules in
    let empty = nil_from_length c.pieces.piece.items (sym c.pieces.piece.ok.0 ∙ none) in
    LineRun-end (reports-joined c.args.verbose) _ _ _ _ _ _ [] c.pieces.invariant.4
    (Consumes-polled _ _ _ _ c.fill_buf.follows.holds-at-none.0) refl empty

pub returns-in-End-clause-errors : goal.returns-in-End-clause-errors
returns-in-End-clause-errors g c =
    let text = c.undname_line-in-End.ensures.errors in
    let r = c.undname_line-in-End.result in
    let some : c.pieces.piece.items ≢ [] = search rules in
    LineRun-rest (reports-joined c.args.verbose) r _ _ _ _ _ _ _ [] c.pieces.invariant.4
    (Consumes-polled _ _ _ _ c.fill_buf.follows.holds-at-none.0) refl some text.0 text.1
    (subst (λ l. Writes r (IsTextOf (IsReport c.args.verbose) (line_of l ∷ [])) text.0)
    c.deref-in-End.ensures.value text.2)

pub pieces-preserved-then-is_empty : goal.pieces-preserved-then-is_empty
pieces-preserved-then-is_empty g c =
    let shown = c.in-Ok.shown in
    let front = take c.line_end-end.result.0 shown.now in
    let taken = Consumes-front _ _ _ _ c.line_end-end.result.0 _ shown c.in-Ok.is c.fill_buf.follows.holds-at-none.0
    c.line_end-end.ensures.bound c.in-Ok.ensures.front c.in-Ok.ensures.end c.consume.ensures.bytes in
    let cut : IsWithEnd front = subst (λ t. IsCut t front) c.in-Line.is c.line_end-end.ensures.taken in
    let none : vec_len c.pieces.piece ≡ 0 = search rules in
    let empty = nil_from_length c.pieces.piece.items (sym c.pieces.piece.ok.0 ∙ none) in
    let joined = cut.2 ∙ ap (λ l. l ++ (cut.0 ++ 10 ∷ [])) (sym empty) in
    let put = c.in_ok-put-in-Line.ensures in
    rw empty (
      LineRun-line answers-joined _ _ _ _ _ _ c.pieces.piece.items cut.0 c.pieces.invariant.0
          (subst (Consumes _ _) cut.2 taken) cut.1 put.text.0 put.text.1
          (subst (λ l. IsText (line_of l ∷ []) put.text.0) joined put.text.2),
      c.consume.ensures.failed ∙ c.fill_buf.follows.holds-at-none.1 ∙ c.pieces.invariant.1,
      put.sets_failed.1 ∙ c.pieces.invariant.2,
      put.sets_failed.2 ∙ c.pieces.invariant.3,
      LineRun-line (reports-joined c.args.verbose) _ _ _ _ _ _ c.pieces.piece.items cut.0 c.pieces.invariant.4
          (subst (Consumes _ _) cut.2 taken) cut.1 put.errors.0 put.errors.1
          (subst (λ l. IsTextOf (IsReport c.args.verbose) (line_of l ∷ []) put.errors.0) joined put.errors.2),
    )

pub pieces-preserved-in-Line-2 : goal.pieces-preserved-in-Line-2
pieces-preserved-in-Line-2 g c =
    let shown = c.in-Ok.shown in
    let front = take c.line_end-end.result.0 shown.now in
    let taken = Consumes-front _ _ _ _ c.line_end-end.result.0 _ shown c.in-Ok.is c.fill_buf.follows.holds-at-none.0
    c.line_end-end.ensures.bound c.in-Ok.ensures.front c.in-Ok.ensures.end c.consume-in-Line-2.ensures.bytes in
    let cut : IsWithEnd front = subst (λ t. IsCut t front) c.in-Line-2.is c.line_end-end.ensures.taken in
    let more : c.extend_from_slice.new.self.items ≡ c.pieces.piece.items ++ front = search rules in
    let line = c.deref.ensures.value ∙ more ∙ ap (λ l. c.pieces.piece.items ++ l) cut.2 in
    let put = c.in_ok-undname_line-in-Line-2.ensures in
    rw c.clear.ensures.items (
      LineRun-line answers-joined _ _ _ _ _ _ c.pieces.piece.items cut.0 c.pieces.invariant.0
          (subst (Consumes _ _) cut.2 taken) cut.1 put.text.0 put.text.1
          (subst (λ l. IsText (line_of l ∷ []) put.text.0) line put.text.2),
      c.consume-in-Line-2.ensures.failed ∙ c.fill_buf.follows.holds-at-none.1 ∙ c.pieces.invariant.1,
      put.sets_failed.1 ∙ c.pieces.invariant.2,
      put.sets_failed.2 ∙ c.pieces.invariant.3,
      LineRun-line (reports-joined c.args.verbose) _ _ _ _ _ _ c.pieces.piece.items cut.0 c.pieces.invariant.4
          (subst (Consumes _ _) cut.2 taken) cut.1 put.errors.0 put.errors.1
          (subst (λ l. IsTextOf (IsReport c.args.verbose) (line_of l ∷ []) put.errors.0) line put.errors.2),
    )

pub pieces-preserved : goal.pieces-preserved
pieces-preserved g c =
    let shown = c.in-Ok.shown in
    let front = take c.line_end-end.result.0 shown.now in
    let taken = Consumes-front _ _ _ _ c.line_end-end.result.0 _ shown c.in-Ok.is c.fill_buf.follows.holds-at-none.0
    c.line_end-end.ensures.bound c.in-Ok.ensures.front c.in-Ok.ensures.end c.consume-in-Part.ensures.bytes in
    let cut : IsCut Part front = subst (λ t. IsCut t front) c.in-Part.is c.line_end-end.ensures.taken in
    let more : c.extend_from_slice-in-Part.new.self.items ≡ c.pieces.piece.items ++ front = search rules in
    rw more (
      LineRun-part _ _ _ _ _ c.pieces.piece.items front c.pieces.invariant.0 taken cut.1,
      c.consume-in-Part.ensures.failed ∙ c.fill_buf.follows.holds-at-none.1 ∙ c.pieces.invariant.1,
      c.pieces.invariant.2,
      c.pieces.invariant.3,
      LineRun-part _ _ _ _ _ c.pieces.piece.items front c.pieces.invariant.4 taken cut.1,
    )
