-- A run over lines, on its way.
use Rattle.std.proofs.Common.{◌≡◌, ◌≢◌, ◌++◌, ◌∷◌, [], ℕ, List, true, false, Result, Ok, Err, ◌⊎◌}
use Rattle.std.proofs.Common.{ap, sym, subst, refl, ◌∙◌, append_assoc, append-nil, inl, inr}
use Rattle.std.specs.declared.option.Option.{Option}
use Rattle.std.specs.Io.KnownBytes.{Appends, Consumes}
use Rattle.std.proofs.KnownBytes.{Appends-nil, Appends-trans, Consumes-nil, Consumes-trans}
use Rattle.std.proofs.lemmas.List.Elements.{All-nil, All-append}
use Rattle.msvc_streams.specs.Faults.{IsSet, FailureFlag, SetsFlagOf, Stays, no_stream}
use Rattle.msvc_lines.specs.LineRuns.{LeavesOff, WritesText}
use Rattle.msvc_streams.specs.Runs.{IsLines, IsOfOneLine, IsWithoutEnd, Writes, WritesPart}
use Rattle.msvc_streams.specs.declared.watched.Fault.{Fault}
use Rattle.msvc_streams.specs.declared.watched.Fault.TheVariants.{Read, Write, Memory}
use Rattle.msvc_lines.proofs.LineTexts.{AreJoined}
use Rattle.msvc_streams.proofs.WholeLines.{IsLines-append}

-- Some lines are finished and their text is written, and a part of the next was taken.
pub record LineRun (T : List ℕ → List ℕ → Type 0) (reader reads writer writes : Option (List ℕ))
    (part : List ℕ) : Type 0 where
  pub finished : List ℕ
  pub text : List ℕ
  pub taken : Consumes reader reads (finished ++ part)
  pub written : Appends writer writes text
  pub lines : IsLines finished
  pub unended : IsWithoutEnd part
  pub is : T finished text

pub LineRun-start : {T P Q : List ℕ → List ℕ → Type 0} (laws : AreJoined T P Q) (reader writer : Option (List ℕ))
    → LineRun T reader reader writer writer []
LineRun-start laws reader writer = record {
  finished = [];
  text = [];
  taken = Consumes-nil reader;
  written = Appends-nil writer;
  lines = inl refl;
  unended = All-nil (λ b. b ≢ 10);
  is = laws.none;
}

-- more of the line was taken
pub LineRun-part : {T : List ℕ → List ℕ → Type 0} (reader reads later writer writes : Option (List ℕ))
    (part more : List ℕ)
    → LineRun T reader reads writer writes part → Consumes reads later more → IsWithoutEnd more
    → LineRun T reader later writer writes (part ++ more)
LineRun-part reader reads later writer writes part more so taken unended = record {
  finished = so.finished;
  text = so.text;
  taken = rw (← append_assoc so.finished part more) (Consumes-trans _ _ _ _ _ so.taken taken);
  written = so.written;
  lines = so.lines;
  unended = All-append (λ b. b ≢ 10) part more so.unended unended;
  is = so.is;
}

-- a line with its line feed
IsOfOneLine-ended : (part front : List ℕ) → IsWithoutEnd part → IsWithoutEnd front
    → IsOfOneLine (part ++ (front ++ 10 ∷ []))
IsOfOneLine-ended part front first second =
    inr (part ++ front, All-append (λ b. b ≢ 10) part front first second, sym (append_assoc part front (10 ∷ [])))

ended-some : (part front : List ℕ) → part ++ (front ++ 10 ∷ []) ≢ []
ended-some [] [] e = cc
ended-some [] (x ∷ xs) e = cc
ended-some (x ∷ xs) front e = cc

-- the line was answered
pub LineRun-line : {T P Q : List ℕ → List ℕ → Type 0} (laws : AreJoined T P Q)
    (reader reads later writer writes on : Option (List ℕ)) (part front : List ℕ)
    → LineRun T reader reads writer writes part → Consumes reads later (front ++ 10 ∷ []) → IsWithoutEnd front
    → (text : List ℕ) → Appends writes on text → P (part ++ (front ++ 10 ∷ [])) text
    → LineRun T reader later writer on []
LineRun-line laws reader reads later writer writes on part front so taken unended text written is =
    let line = part ++ (front ++ 10 ∷ []) in
    let joined = append_assoc so.finished part (front ++ 10 ∷ []) in
    let split : so.finished ++ line ≡ so.finished ++ ((part ++ front) ++ 10 ∷ []) =
    ap (λ l. so.finished ++ l) (sym (append_assoc part front (10 ∷ []))) in
    let both = Consumes-trans _ _ _ _ _ so.taken taken in
    let one = IsOfOneLine-ended part front so.unended unended in
    record {
      finished = so.finished ++ line;
      text = so.text ++ text;
      taken = subst (Consumes reader later) (joined ∙ sym (append-nil (so.finished ++ line))) both;
      written = Appends-trans _ _ _ _ _ so.written written;
      lines = subst IsLines (sym split) (IsLines-append so.finished (part ++ front));
      unended = All-nil (λ b. b ≢ 10);
      is = laws.line so.finished line so.text text so.lines (ended-some part front) one so.is is;
    }

-- a fault while the line was answered
pub LeavesOff-line : {T P Q : List ℕ → List ℕ → Type 0} (laws : AreJoined T P Q) (e : Fault)
    (finished part text more : List ℕ) → IsLines finished → part ≢ [] → IsOfOneLine part
    → T finished text → WritesPart e (P part) more
    → LeavesOff e Q (finished ++ part) (text ++ more)
LeavesOff-line laws Read finished part text more lines some one is h = absurd h
LeavesOff-line laws Write finished part text more lines some one is h =
    let whole = laws.line finished part text (more ++ h.0) lines some one is h.1 in (
      finished,
      part,
      text,
      more,
      h.0,
      refl,
      lines,
      one,
      laws.whole _ _ is,
      refl,
      laws.whole _ _ (rw (append_assoc text more h.0) whole),
    )
LeavesOff-line laws Memory finished part text more lines some one is h =
    (finished, part, refl, lines, one, laws.whole _ _ (rw (h, append-nil text) is))

-- where there is no writer, none has failed
no_writer : (IsSet no_stream × Stays no_stream) ⊎ (Stays no_stream × IsSet no_stream) → ⊥
no_writer (inl out) = let no : false ≡ true = out.0 in cc
no_writer (inr err) = let no : false ≡ true = err.1 in cc

-- a fault of the reader, or no memory for what it shows
pub LeavesOff-part : {T P Q : List ℕ → List ℕ → Type 0} (laws : AreJoined T P Q) (e : Fault) (reader : FailureFlag)
    (finished part text : List ℕ) → SetsFlagOf e reader no_stream no_stream
    → IsLines finished → IsWithoutEnd part → T finished text → LeavesOff e Q (finished ++ part) text
LeavesOff-part laws Read reader finished part text marks lines unended is =
    (finished, part, refl, lines, unended, laws.whole _ _ is)
LeavesOff-part laws Write reader finished part text marks lines unended is = absurd (no_writer marks.1)
LeavesOff-part laws Memory reader finished part text marks lines unended is =
    (finished, part, refl, lines, inl unended, laws.whole _ _ is)

-- the answer to a line, or the fault that came
pub WritesText-line : {A : Type 0} {T P Q : List ℕ → List ℕ → Type 0} (laws : AreJoined T P Q) (r : Result A Fault)
    (finished part text more : List ℕ) → IsLines finished
    → part ≢ []
    → IsOfOneLine part → T finished text → Writes r (P part) more
    → WritesText r Q (finished ++ part) (text ++ more)
WritesText-line laws (Ok done) finished part text more lines some one is h =
    laws.whole _ _ (laws.line finished part text more lines some one is h)
WritesText-line laws (Err e) finished part text more lines some one is h =
    LeavesOff-line laws e finished part text more lines some one is h

-- what a run has done, in the words of its contract
abbrev pub Did : {A : Type 0} → (Q : List ℕ → List ℕ → Type 0) → Result A Fault
    → (reader reads writer writes : Option (List ℕ)) → Type 0
Did Q result reader reads writer writes = (taken text : List ℕ) × Consumes reader reads taken
    × Appends writer writes text × WritesText result Q taken text

abbrev pub DidPart : (Q : List ℕ → List ℕ → Type 0) → Fault → (reader reads writer writes : Option (List ℕ)) → Type 0
DidPart Q e reader reads writer writes = (taken text : List ℕ) × Consumes reader reads taken
    × Appends writer writes text × LeavesOff e Q taken text

-- nothing more was taken
Consumes-none : (reader reads later : Option (List ℕ)) (bytes more : List ℕ) → Consumes reader reads bytes
    → Consumes reads later more → more ≡ [] → Consumes reader later bytes
Consumes-none reader reads later bytes more first second none =
    subst (Consumes reader later) (ap (λ l. bytes ++ l) none ∙ append-nil bytes) (Consumes-trans _ _ _ _ _ first second)

-- it ended where the reader was polled
pub LineRun-polled : {T P Q : List ℕ → List ℕ → Type 0} (laws : AreJoined T P Q) (e : Fault) (flag : FailureFlag)
    (reader reads later writer writes : Option (List ℕ)) (part more : List ℕ)
    → LineRun T reader reads writer writes part → Consumes reads later more → more ≡ []
    → SetsFlagOf e flag no_stream no_stream
    → DidPart Q e reader later writer writes
LineRun-polled laws e flag reader reads later writer writes part more so taken none marks = (
  so.finished ++ part,
  so.text,
  Consumes-none _ _ _ _ _ so.taken taken none,
  so.written,
  LeavesOff-part laws e flag so.finished part so.text marks so.lines so.unended so.is,
)

-- it ended where a line was answered
pub LineRun-fault : {T P Q : List ℕ → List ℕ → Type 0} (laws : AreJoined T P Q) (e : Fault)
    (reader reads later writer writes on : Option (List ℕ)) (part front : List ℕ)
    → LineRun T reader reads writer writes part → Consumes reads later (front ++ 10 ∷ []) → IsWithoutEnd front
    → (text : List ℕ) → Appends writes on text → WritesPart e (P (part ++ (front ++ 10 ∷ []))) text
    → DidPart Q e reader later writer on
LineRun-fault laws e reader reads later writer writes on part front so taken unended text written is =
    let line = part ++ (front ++ 10 ∷ []) in
    let both = Consumes-trans _ _ _ _ _ so.taken taken in
    let one = IsOfOneLine-ended part front so.unended unended in (
      so.finished ++ line,
      so.text ++ text,
      subst (Consumes reader later) (append_assoc so.finished part (front ++ 10 ∷ [])) both,
      Appends-trans _ _ _ _ _ so.written written,
      LeavesOff-line laws e so.finished line so.text text so.lines (ended-some part front) one so.is is,
    )

-- it ended with the reader, at the end of a line
pub LineRun-end : {T P Q : List ℕ → List ℕ → Type 0} (laws : AreJoined T P Q)
    (reader reads later writer writes : Option (List ℕ)) (part more : List ℕ)
    → LineRun T reader reads writer writes part → Consumes reads later more → more ≡ [] → part ≡ []
    → (taken text : List ℕ) × Consumes reader later taken × Appends writer writes text × Q taken text
LineRun-end laws reader reads later writer writes part more so taken none empty = (
  so.finished,
  so.text,
  subst (Consumes reader later) (ap (λ l. so.finished ++ l) empty ∙ append-nil so.finished)
      (Consumes-none _ _ _ _ _ so.taken taken none),
  so.written,
  laws.whole _ _ so.is,
)

-- and after a line that no line feed ends
pub LineRun-rest : {A : Type 0} {T P Q : List ℕ → List ℕ → Type 0} (laws : AreJoined T P Q) (r : Result A Fault)
    (reader reads later writer writes on : Option (List ℕ))
    (part more : List ℕ) → LineRun T reader reads writer writes part → Consumes reads later more → more ≡ [] → part ≢ []
    → (text : List ℕ) → Appends writes on text → Writes r (P part) text
    → Did Q r reader later writer on
LineRun-rest laws r reader reads later writer writes on part more so taken none some text written is = (
  so.finished ++ part,
  so.text ++ text,
  Consumes-none _ _ _ _ _ so.taken taken none,
  Appends-trans _ _ _ _ _ so.written written,
  WritesText-line laws r so.finished part so.text text so.lines some (inl so.unended) so.is is,
)

-- the flag of a reader that failed, in place of others
abbrev pub read_failed : FailureFlag
read_failed = record { before = false; after = true }
