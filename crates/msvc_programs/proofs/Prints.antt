-- What is printed for lines and for symbols, on the way.
use Rattle.std.proofs.Common.{◌≡◌, ◌≢◌, ◌++◌, ◌∷◌, [], ◌⊎◌, ℕ, List, Bool, true, false, Result, Ok, Err, Option, IfErr}
use Rattle.std.proofs.Common.{ap, sym, subst, refl, ◌∙◌, append_assoc, append-nil, inl, inr, length, take, drop}
use Rattle.std.specs.Io.KnownBytes.{Appends, Consumes}
use Rattle.std.proofs.KnownBytes.{Appends-nil, Appends-trans, Consumes-nil, Consumes-trans}
use Rattle.std.proofs.Math.Seq.{take-append_seam}
use Rattle.std.proofs.lemmas.List.{take-append-drop}
use Rattle.std.proofs.lemmas.List.Elements.{All-nil}
use Rattle.msvc_streams.specs.Faults.{FailureFlag, IsSet, Stays, no_stream}
use Rattle.msvc_streams.specs.Faults.{SetsFlagOf as SetsFlagOfOne}
use Rattle.msvc_streams.specs.Runs.{IsLines, IsWithoutEnd, Writes}
use Rattle.msvc_streams.specs.declared.watched.Fault.{Fault}
use Rattle.msvc_streams.specs.declared.watched.Fault.TheVariants.{Read, Write, Memory}
use Rattle.msvc_streams.proofs.WholeLines.{IsLines-append}
use Rattle.msvc_lines.specs.Answers.{IsFilterText, IsLineText}
use Rattle.msvc_lines.specs.Arguments.{IsSymbolsText, LeavesOffAt, WritesAnswers, WritesRemarks, WritesSymbols}
use Rattle.msvc_lines.specs.LineRuns.{LeavesOff, WritesText}
use Rattle.msvc_lines.specs.Reports.{AreReports, IsReport}
use Rattle.msvc_lines.proofs.Pieces.{lines_of-more}
use Rattle.msvc_lines.proofs.SymbolRun.{IsSymbolsText-last}
use Rattle.msvc_lines.proofs.Texts.{IsText-append, answers-joined, reports-joined}
use Rattle.msvc_programs.specs.Programs.{Leaves, LeavesLines, Prints, PrintsAnswers, PrintsLines, PrintsReports}
use Rattle.msvc_programs.specs.Programs.{SetsFlagOf, slice_fault}

-- T says what the text of bytes is: that of lines, and of what comes after them.
pub record AreJoined (T : List ℕ → List ℕ → Type 0) : Type 0 where
  pub none : T [] []
  pub more : (finished bytes text after : List ℕ) → IsLines finished → T finished text → T bytes after
      → T (finished ++ bytes) (text ++ after)

pub answers : AreJoined IsFilterText
answers = record {
  none = answers-joined.whole [] [] answers-joined.none;
  more = λ finished bytes text after lines is next. answers-joined.whole (finished ++ bytes) (text ++ after)
      (rw (lines_of-more finished bytes lines) (IsText-append is.0 next.0));
}

pub reports : (verbose : Bool) → AreJoined (AreReports verbose)
reports verbose = record {
  none = (reports-joined verbose).none;
  more = λ finished bytes text after lines is next.
      rw (lines_of-more finished bytes lines) (IsText-append is next);
}

-- lines, and then lines
IsLines-more : (first second : List ℕ) → IsLines first → IsLines second → IsLines (first ++ second)
IsLines-more first second lines (inl e) = subst IsLines (sym (ap (λ l. first ++ l) e ∙ append-nil first)) lines
IsLines-more first second lines (inr h) = subst IsLines (sym (ap (λ l. first ++ l) h.1)) (IsLines-append first h.0)

-- the text of the first items is printed
whole-text : (X : Type 0) (e : Fault) (P : List X → List ℕ → Type 0) (answered left : List X) (text : List ℕ)
    → P answered text → Leaves X e P (answered ++ left) text
whole-text X e P answered left text is = record {
  answered = answered;
  left = left;
  are = refl;
  more = [];
  is_text = subst (P answered) (sym (append-nil text)) is;
  whole = λ cut. refl;
}

-- or was cut by a failed write
cut-text : (X : Type 0) (P : List X → List ℕ → Type 0) (answered left : List X) (text more : List ℕ)
    → P answered (text ++ more) → Leaves X Write P (answered ++ left) text
cut-text X P answered left text more is = record {
  answered = answered;
  left = left;
  are = refl;
  more = more;
  is_text = is;
  whole = λ cut. absurd (cut refl);
}

-- the same of bytes
whole-lines : {T : List ℕ → List ℕ → Type 0} (e : Fault) (finished left text : List ℕ) → IsLines finished
    → T finished text → (e ≡ Read → IsWithoutEnd left) → LeavesLines e T (finished ++ left) text
unfolding whole-text
whole-lines {T = T} e finished left text lines is unended = record {
  leaves = whole-text ℕ e T finished left text is;
  lines = λ cut. lines;
  unended = unended;
}

cut-lines : {T : List ℕ → List ℕ → Type 0} (answered left text more : List ℕ) → T answered (text ++ more)
    → LeavesLines Write T (answered ++ left) text
cut-lines {T = T} answered left text more is = record {
  leaves = cut-text ℕ T answered left text more is;
  lines = λ cut. absurd (cut refl);
  unended = λ same. let no : Write ≡ Read = same in cc;
}

-- what is printed after lines whose text is written
pub PrintsLines-more : {A : Type 0} {T : List ℕ → List ℕ → Type 0} (laws : AreJoined T) (r : Result A Fault)
    (finished bytes text after : List ℕ) → IsLines finished → T finished text → IfErr r (λ e. e ≢ Read)
    → PrintsLines r T bytes after → PrintsLines r T (finished ++ bytes) (text ++ after)
PrintsLines-more laws (Ok done) finished bytes text after lines is other h =
    laws.more finished bytes text after lines is h
PrintsLines-more {T = T} laws (Err e) finished bytes text after lines is other h =
    let l = h.leaves in
    record {
      leaves = record {
        answered = finished ++ l.answered;
        left = l.left;
        are = ap (λ b. finished ++ b) l.are ∙ sym (append_assoc finished l.answered l.left);
        more = l.more;
        is_text = subst (T (finished ++ l.answered)) (sym (append_assoc text after l.more))
            (laws.more finished l.answered text (after ++ l.more) lines is l.is_text);
        whole = l.whole;
      };
      lines = λ cut. IsLines-more finished l.answered lines (h.lines cut);
      unended = λ same. absurd (other same);
    }

-- where bytes after those are left
LeavesLines-rest : {T : List ℕ → List ℕ → Type 0} (e : Fault) (bytes rest text : List ℕ) → e ≢ Read
    → LeavesLines e T bytes text → LeavesLines e T (bytes ++ rest) text
LeavesLines-rest e bytes rest text other h =
    let l = h.leaves in
    record {
      leaves = record {
        answered = l.answered;
        left = l.left ++ rest;
        are = ap (λ b. b ++ rest) l.are ∙ append_assoc l.answered l.left rest;
        more = l.more;
        is_text = l.is_text;
        whole = l.whole;
      };
      lines = h.lines;
      unended = λ same. absurd (other same);
    }

-- The text of some lines is written, and a part of the next was taken.
pub record BlockRun (T : List ℕ → List ℕ → Type 0) (reader reads writer writes : Option (List ℕ)) (block : List ℕ)
    : Type 0 where
  pub finished : List ℕ
  pub text : List ℕ
  pub taken : Consumes reader reads (finished ++ block)
  pub written : Appends writer writes text
  pub lines : IsLines finished
  pub unended : IsWithoutEnd block
  pub is : T finished text

pub BlockRun-start : {T : List ℕ → List ℕ → Type 0} (laws : AreJoined T) (reader writer : Option (List ℕ))
    → BlockRun T reader reader writer writer []
BlockRun-start laws reader writer = record {
  finished = [];
  text = [];
  taken = Consumes-nil reader;
  written = Appends-nil writer;
  lines = inl refl;
  unended = All-nil (λ b. b ≢ 10);
  is = laws.none;
}

-- more was taken
Consumes-more : {T : List ℕ → List ℕ → Type 0} (reader reads later writer writes : Option (List ℕ))
    (part more block : List ℕ) (so : BlockRun T reader reads writer writes part) → Consumes reads later more
    → block ≡ part ++ more → Consumes reader later (so.finished ++ block)
Consumes-more reader reads later writer writes part more block so taken e =
    subst (Consumes reader later) (append_assoc so.finished part more ∙ ap (λ l. so.finished ++ l) (sym e))
    (Consumes-trans _ _ _ _ _ so.taken taken)

-- and its whole lines were answered
pub BlockRun-lines : {T : List ℕ → List ℕ → Type 0} (laws : AreJoined T)
    (reader reads later writer writes on : Option (List ℕ)) (part more block : List ℕ) (end : ℕ)
    → BlockRun T reader reads writer writes part → Consumes reads later more → block ≡ part ++ more
    → IsLines (take end block) → IsWithoutEnd (drop end block)
    → (text : List ℕ) → Appends writes on text → T (take end block) text
    → BlockRun T reader later writer on (drop end block)
BlockRun-lines laws reader reads later writer writes on part more block end so taken e lines unended text written is =
    record {
      finished = so.finished ++ take end block;
      text = so.text ++ text;
      taken = subst (Consumes reader later) (ap (λ l. so.finished ++ l) (sym (take-append-drop end block))
          ∙ sym (append_assoc so.finished (take end block) (drop end block)))
          (Consumes-more reader reads later writer writes part more block so taken e);
      written = Appends-trans _ _ _ _ _ so.written written;
      lines = IsLines-more so.finished (take end block) so.lines lines;
      unended = unended;
      is = laws.more so.finished (take end block) so.text text so.lines so.is is;
    }

-- what a run has done, in the words of its contract
abbrev pub Did : (T : List ℕ → List ℕ → Type 0) → Result (Unit {0}) Fault
    → (reader reads writer writes : Option (List ℕ)) → Type 0
Did T result reader reads writer writes = (taken text : List ℕ) × Consumes reader reads taken
    × Appends writer writes text × PrintsLines result T taken text

-- a fault came while they were answered
pub BlockRun-fault : {T : List ℕ → List ℕ → Type 0} (laws : AreJoined T) (e : Fault)
    (reader reads later writer writes on : Option (List ℕ)) (part more block : List ℕ) (end : ℕ)
    → BlockRun T reader reads writer writes part → Consumes reads later more → block ≡ part ++ more
    → e ≢ Read → (text : List ℕ) → Appends writes on text → LeavesLines e T (take end block) text
    → Did T (Err e) reader later writer on
BlockRun-fault {T = T} laws e reader reads later writer writes on part more block end so taken same other text
    written h =
    let leaves =
    PrintsLines-more {A = Unit {0}} laws (Err e) so.finished (take end block) so.text text so.lines so.is other h in
    let all = append_assoc so.finished (take end block) (drop end block)
    ∙ ap (λ l. so.finished ++ l) (take-append-drop end block) in (
      so.finished ++ block,
      so.text ++ text,
      Consumes-more reader reads later writer writes part more block so taken same,
      Appends-trans _ _ _ _ _ so.written written,
      subst (λ l. LeavesLines e T l (so.text ++ text)) all
          (LeavesLines-rest e (so.finished ++ take end block) (drop end block) (so.text ++ text) other leaves),
    )

-- all that was taken was answered, at the reader's end
pub BlockRun-end : {T : List ℕ → List ℕ → Type 0} (laws : AreJoined T) (r : Result (Unit {0}) Fault)
    (reader reads later writer writes on : Option (List ℕ)) (part more block : List ℕ)
    → BlockRun T reader reads writer writes part → Consumes reads later more → block ≡ part ++ more
    → IfErr r (λ e. e ≢ Read) → (text : List ℕ) → Appends writes on text → PrintsLines r T block text
    → Did T r reader later writer on
BlockRun-end laws r reader reads later writer writes on part more block so taken same other text written h = (
  so.finished ++ block,
  so.text ++ text,
  Consumes-more reader reads later writer writes part more block so taken same,
  Appends-trans _ _ _ _ _ so.written written,
  PrintsLines-more laws r so.finished block so.text text so.lines so.is other h,
)

-- the reader failed, or there was no memory for what it shows
pub BlockRun-polled : {T : List ℕ → List ℕ → Type 0} (e : Fault)
    (reader reads later writer writes : Option (List ℕ)) (part more : List ℕ)
    → BlockRun T reader reads writer writes part → Consumes reads later more → more ≡ []
    → Did T (Err e) reader later writer writes
BlockRun-polled {T = T} e reader reads later writer writes part more so taken none = (
  so.finished ++ part,
  so.text,
  Consumes-more reader reads later writer writes part more part so taken (sym (append-nil part) ∙ ap (λ l. part ++ l)
      (sym none)),
  so.written,
  whole-lines e so.finished part so.text so.lines so.is (λ same. so.unended),
)

-- the flags where a call of the reader failed, or there was no memory for what it shows
pub flags-polled : (e : Fault) (was entry later : Bool) (out err : FailureFlag)
    → SetsFlagOfOne e (record { before = was; after = later }) no_stream no_stream → was ≡ entry → Stays out
    → SetsFlagOf e (record { before = entry; after = later }) out err
flags-polled Read was entry later out err marks same kept = (marks.0, kept)
flags-polled Write was entry later out err marks same kept = absurd (no_writer marks.1)
  where
    no_writer : (IsSet no_stream × Stays no_stream) ⊎ (Stays no_stream × IsSet no_stream) → ⊥
    no_writer (inl out) = let no : false ≡ true = out.0 in cc
    no_writer (inr err) = let no : false ≡ true = err.1 in cc
flags-polled Memory was entry later out err marks same kept = (marks.0 ∙ same, kept)

-- the flags after the line of a fault
pub flags-reported : (e : Fault) (reader out : FailureFlag) (before after later : Bool)
    → SetsFlagOf e reader out (record { before = before; after = after }) → (after ≡ true → later ≡ true)
    → SetsFlagOf e reader out (record { before = before; after = later })
flags-reported Read reader out before after later marks keeps = marks
flags-reported Write reader out before after later (stays, inl is) keeps = (stays, inl is)
flags-reported Write reader out before after later (stays, inr is) keeps = (stays, inr (keeps is))
flags-reported Memory reader out before after later marks keeps = marks

-- the bytes before those that were taken have no line feed
pub part-unended : (part more block : List ℕ) (from : ℕ) → from ≡ length part → block ≡ part ++ more
    → IsWithoutEnd part → IsWithoutEnd (take from block)
part-unended part more block from long e unended =
    subst (λ l. IsWithoutEnd (take from l)) (sym e)
    (subst (λ n. IsWithoutEnd (take n (part ++ more))) (sym long)
    (subst IsWithoutEnd (sym (take-append_seam part more)) unended))

-- what `undname_run` has written, for the symbols or for the lines that it took
abbrev pub WritesEach : {A : Type 0} → Result A Fault → (T P : List ℕ → List ℕ → Type 0) → List (List ℕ) → List ℕ
    → List ℕ → Type 0
WritesEach result T P [] taken text = WritesText result T taken text
WritesEach result T P (symbol ∷ symbols) taken text = (taken ≡ []) × WritesSymbols result P (symbol ∷ symbols) text

each-answer : {A : Type 0} (r : Result A Fault) (symbols : List (List ℕ)) (taken text : List ℕ)
    → WritesAnswers r symbols taken text → WritesEach r IsFilterText IsLineText symbols taken text
each-answer r [] taken text h = h
each-answer r (symbol ∷ symbols) taken text h = h

each-report : {A : Type 0} (r : Result A Fault) (verbose : Bool) (symbols : List (List ℕ)) (taken text : List ℕ)
    → WritesRemarks r verbose symbols taken text
    → WritesEach r (AreReports verbose) (IsReport verbose) symbols taken text
each-report r verbose [] taken text h = h
each-report r verbose (symbol ∷ symbols) taken text h = h

-- all that a slice had was taken
all_taken : (block rest taken : List ℕ) → block ≡ taken ++ rest → rest ≡ [] → taken ≡ block
all_taken block rest taken e none = sym (e ∙ ap (λ l. taken ++ l) none ∙ append-nil taken)

-- what was held for all of a block is written
Prints-held : {A B : Type 0} (T P : List ℕ → List ℕ → Type 0) (r : Result A Fault) (done : B)
    (symbols : List (List ℕ)) (block rest taken whole text : List ℕ) → (symbols ≢ [] → block ≡ [])
    → block ≡ taken ++ rest → (symbols ≡ [] → rest ≡ []) → WritesEach (Ok done) T P symbols taken whole
    → IfErr r (λ e. e ≡ Write) → Writes r (λ w. w ≡ whole) text → Prints r T P symbols block text
Prints-held T P (Ok ended) done [] block rest taken whole text none split at_end is other h =
    subst (λ l. T l text) (all_taken block rest taken split (at_end refl)) (subst (T taken) (sym h) is)
Prints-held T P (Err Read) done symbols block rest taken whole text none split at_end is other h =
    let no : Read ≡ Write = other in cc
Prints-held T P (Err Memory) done symbols block rest taken whole text none split at_end is other h =
    let no : Memory ≡ Write = other in cc
Prints-held T P (Err Write) done [] block rest taken whole text none split at_end is other h =
    subst (λ l. LeavesLines Write T l text) (append-nil taken ∙ all_taken block rest taken split (at_end refl))
    (cut-lines taken [] text h.0 (subst (T taken) (sym h.1) is))
Prints-held T P (Ok ended) done (symbol ∷ symbols) block rest taken whole text none split at_end is other h =
    (none (λ e. cc), subst (IsSymbolsText P (symbol ∷ symbols)) (sym h) is.1)
Prints-held T P (Err Write) done (symbol ∷ symbols) block rest taken whole text none split at_end is other h = (
  none (λ e. cc),
  subst (λ l. Leaves (List ℕ) Write (IsSymbolsText P) l text) (append-nil (symbol ∷ symbols))
      (cut-text (List ℕ) (IsSymbolsText P) (symbol ∷ symbols) [] text h.0
      (subst (IsSymbolsText P (symbol ∷ symbols)) (sym h.1) is.1)),
)

pub answers-held : (r : Result (Unit {0}) Fault) (done : Unit {0}) (symbols : List (List ℕ))
    (block rest taken whole text : List ℕ) → (symbols ≢ [] → block ≡ [])
    → block ≡ taken ++ rest → (symbols ≡ [] → rest ≡ []) → WritesAnswers {A = Unit {0}} (Ok done) symbols taken whole
    → IfErr r (λ e. e ≡ Write) → Writes r (λ w. w ≡ whole) text → PrintsAnswers r symbols block text
answers-held r done symbols block rest taken whole text none split at_end is fault h =
    Prints-held IsFilterText IsLineText r done symbols block rest taken whole text none split at_end
    (each-answer {A = Unit {0}} (Ok done) symbols taken whole is) fault h

pub reports-held : (r : Result (Unit {0}) Fault) (done : Unit {0}) (verbose : Bool) (symbols : List (List ℕ))
    (block rest taken whole text : List ℕ) → (symbols ≢ [] → block ≡ [])
    → block ≡ taken ++ rest → (symbols ≡ [] → rest ≡ [])
    → WritesRemarks {A = Unit {0}} (Ok done) verbose symbols taken whole
    → IfErr r (λ e. e ≡ Write) → Writes r (λ w. w ≡ whole) text → PrintsReports r verbose symbols block text
reports-held r done verbose symbols block rest taken whole text none split at_end is fault h =
    Prints-held (AreReports verbose) (IsReport verbose) r done symbols block rest taken whole text none split at_end
    (each-report {A = Unit {0}} (Ok done) verbose symbols taken whole is) fault h

-- what such a run leaves of lines
LeavesLines-unheld : {T : List ℕ → List ℕ → Type 0} (e : Fault) (block rest taken text : List ℕ)
    → block ≡ taken ++ rest → LeavesOff e T taken text → LeavesLines (slice_fault e) T block text
LeavesLines-unheld {T = T} Read block rest taken text split (finished, part, e, lines, unended, is) =
    subst (λ l. LeavesLines Memory T l text)
    (sym (split ∙ ap (λ l. l ++ rest) e ∙ append_assoc finished part rest))
    (whole-lines Memory finished (part ++ rest) text lines is (λ same. let no : Memory ≡ Read = same in cc))
LeavesLines-unheld {T = T} Write block rest taken text split
    (finished, part, before, begun, more, e, lines, one, is, w, all) =
    subst (λ l. LeavesLines Write T l text) (sym split) (cut-lines taken rest text more all)
LeavesLines-unheld {T = T} Memory block rest taken text split (finished, part, e, lines, one, is) =
    subst (λ l. LeavesLines Memory T l text)
    (sym (split ∙ ap (λ l. l ++ rest) e ∙ append_assoc finished part rest))
    (whole-lines Memory finished (part ++ rest) text lines is (λ same. let no : Memory ≡ Read = same in cc))

-- and of symbols
LeavesSymbols-unheld : {P : List ℕ → List ℕ → Type 0} (e : Fault) (symbols : List (List ℕ)) (text : List ℕ)
    → LeavesOffAt e P symbols text → Leaves (List ℕ) (slice_fault e) (IsSymbolsText P) symbols text
LeavesSymbols-unheld Read symbols text (done, left, symbol, before, begun, are, w, is, part) = absurd part
LeavesSymbols-unheld {P = P} Write symbols text (done, left, symbol, before, begun, are, w, is, part) =
    subst (λ l. Leaves (List ℕ) Write (IsSymbolsText P) l text)
    (sym (are ∙ sym (append_assoc done (symbol ∷ []) left)))
    (cut-text (List ℕ) (IsSymbolsText P) (done ++ symbol ∷ []) left text part.0
    (subst (IsSymbolsText P (done ++ symbol ∷ []))
    (sym (ap (λ l. l ++ part.0) w ∙ append_assoc before begun part.0)) (IsSymbolsText-last is part.1)))
LeavesSymbols-unheld {P = P} Memory symbols text (done, left, symbol, before, begun, are, w, is, part) =
    subst (λ l. Leaves (List ℕ) Memory (IsSymbolsText P) l text) (sym are)
    (whole-text (List ℕ) Memory (IsSymbolsText P) done (symbol ∷ left) text
    (subst (IsSymbolsText P done) (sym (w ∙ ap (λ l. before ++ l) part ∙ append-nil before)) is))

Prints-unheld : (T P : List ℕ → List ℕ → Type 0) (e : Fault) (symbols : List (List ℕ))
    (block rest taken text : List ℕ) → (symbols ≢ [] → block ≡ []) → block ≡ taken ++ rest
    → WritesEach {A = Unit {0}} (Err e) T P symbols taken text
    → Prints {A = Unit {0}} (Err (slice_fault e)) T P symbols block text
Prints-unheld T P e [] block rest taken text none split h = LeavesLines-unheld e block rest taken text split h
Prints-unheld T P e (symbol ∷ symbols) block rest taken text none split h =
    (none (λ e. cc), LeavesSymbols-unheld e (symbol ∷ symbols) text h.1)

pub answers-unheld : (e : Fault) (symbols : List (List ℕ)) (block rest taken text : List ℕ)
    → (symbols ≢ [] → block ≡ []) → block ≡ taken ++ rest
    → WritesAnswers {A = Unit {0}} (Err e) symbols taken text
    → PrintsAnswers {A = Unit {0}} (Err (slice_fault e)) symbols block text
answers-unheld e symbols block rest taken text none split h =
    Prints-unheld IsFilterText IsLineText e symbols block rest taken text none split
    (each-answer {A = Unit {0}} (Err e) symbols taken text h)

pub reports-unheld : (e : Fault) (verbose : Bool) (symbols : List (List ℕ)) (block rest taken text : List ℕ)
    → (symbols ≢ [] → block ≡ []) → block ≡ taken ++ rest
    → WritesRemarks {A = Unit {0}} (Err e) verbose symbols taken text
    → PrintsReports {A = Unit {0}} (Err (slice_fault e)) verbose symbols block text
reports-unheld e verbose symbols block rest taken text none split h =
    Prints-unheld (AreReports verbose) (IsReport verbose) e symbols block rest taken text none split
    (each-report {A = Unit {0}} (Err e) verbose symbols taken text h)
