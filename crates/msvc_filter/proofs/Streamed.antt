-- The filter over a text, on its way.
use Rattle.std.proofs.Common.{◌≡◌, ◌≢◌, ◌≤◌, ◌<◌, ◌+◌, ◌++◌, ◌∷◌, [], ◌∙◌, inl, inr, ℕ, List, Result, Ok, Err, length}
use Rattle.std.proofs.Common.{refl, sym, ap}
use Rattle.std.proofs.Common.{drop, length-drop, subst, arith, append_assoc, append-nil, length-append}
use Rattle.std.specs.declared.option.Option.{Option}
use Rattle.std.specs.Io.KnownBytes.{Appends, Consumes}
use Rattle.std.proofs.KnownBytes.{Appends-nil, Appends-trans, Consumes-nil, Consumes-trans}
use Rattle.std.proofs.lemmas.List.Elements.{All-nil, All-append}
use Rattle.msvc_symbol.specs.Grammars.{Choice}
use Rattle.msvc_filter.specs.Filtered.{IsFilteredIn, IsFilteredText, Part, nothing, text_of_parts}
use Rattle.msvc_filter.specs.FilterRuns.{LeavesFilteredIn, WritesFilteredIn, max_held}
use Rattle.msvc_streams.specs.Runs.{IsLines, IsOfOneLine, IsWithoutEnd, Writes, WritesPart}
use Rattle.msvc_filter.specs.WordStates.{AreRest, IsFilteredUpTo, IsDecidedText, IsDecidedTextOf, IsRestText, Keeps}
use Rattle.msvc_filter.specs.WordStates.{max_looked_at}
use Rattle.msvc_streams.specs.declared.watched.Fault.{Fault}
use Rattle.msvc_streams.specs.declared.watched.Fault.TheVariants.{Read, Write, Memory}
use Rattle.msvc_filter.specs.declared.symbol_bounds.WordState.{WordState}
use Rattle.msvc_streams.proofs.WholeLines.{IsLines-append}
use Rattle.msvc_filter.proofs.Replaced.{Keeps-fresh, filtered-after, filtered-only, fresh, rest-exists, text-append}
use Rattle.msvc_filter.proofs.Starts.{parts-kept}

-- Some lines are finished and their text is written. Of the next a part was taken, of which these parts are written
-- and this piece is left.
pub record Streaming (how : Choice) (reader reads writer writes : Option (List ℕ)) (piece : List ℕ) (scan : WordState)
    : Type 0 where
  pub finished : List ℕ
  pub part : List ℕ
  pub before : List ℕ
  pub parts : List Part
  pub taken : Consumes reader reads (finished ++ part)
  pub written : Appends writer writes (before ++ text_of_parts parts)
  pub lines : IsLines finished
  pub unended : IsWithoutEnd part
  pub is : IsFilteredText how finished before
  pub held : length piece ≤ length part
  pub short : length part ≤ max_held → parts ≡ []
  pub on : (more : List ℕ) (others : List Part) → AreRest how scan (piece ++ more) others
      → AreRest how (fresh 10) (part ++ more) (parts ++ others)

pub Streaming-start : (how : Choice) (scan : WordState) (reader writer : Option (List ℕ)) → Keeps scan 10 []
    → Streaming how reader reader writer writer [] scan
Streaming-start how scan reader writer keeps = record {
  finished = [];
  part = [];
  before = [];
  parts = [];
  taken = Consumes-nil reader;
  written = Appends-nil writer;
  lines = inl refl;
  unended = All-nil (λ b. b ≢ 10);
  is = ([], nothing, refl);
  held = omega arith;
  short = λ few. refl;
  on = λ more others h. parts-kept how (fresh 10) (Keeps-fresh 10) (h 10 [] keeps);
}

-- more of the line was taken, and something is written
pub Streaming-put : (how : Choice) (scan after : WordState) (reader reads later writer writes on : Option (List ℕ))
    (piece more text rest : List ℕ) → Streaming how reader reads writer writes piece scan
    → Consumes reads later more → IsWithoutEnd more → Appends writes on text
    → IsDecidedText how scan (piece ++ more) text after rest → Streaming how reader later writer on rest after
Streaming-put how scan after reader reads later writer writes on piece more text rest so taken unended written put =
    let long = length-append piece more in
    let longer = length-append so.part more in
    record {
      finished = so.finished;
      part = so.part ++ more;
      before = so.before;
      parts = so.parts ++ put.parts;
      taken = rw (← append_assoc so.finished so.part more) (Consumes-trans _ _ _ _ _ so.taken taken);
      written = subst (Appends writer on)
          (append_assoc so.before (text_of_parts so.parts) text
          ∙ ap (λ t. so.before ++ t) (ap (λ t. text_of_parts so.parts ++ t) put.is_text
          ∙ sym (text-append so.parts put.parts))) (Appends-trans _ _ _ _ _ so.written written);
      lines = so.lines;
      unended = All-append (λ b. b ≢ 10) so.part more so.unended unended;
      is = so.is;
      held = omega (arith, long, longer, so.held, put.fewer);
      short = λ few.
          ap (λ l. l ++ put.parts) (so.short (omega (arith, longer)))
          ∙ put.nothing_of_short (omega (arith, long, longer, so.held));
      on = λ further others h.
          subst (λ l. AreRest how (fresh 10) l ((so.parts ++ put.parts) ++ others))
          (sym (append_assoc so.part more further))
          (subst (AreRest how (fresh 10) (so.part ++ (more ++ further)))
          (sym (append_assoc so.parts put.parts others))
          (so.on (more ++ further) (put.parts ++ others)
          (subst (λ l. AreRest how scan l (put.parts ++ others)) (append_assoc piece more further)
          (put.before_rest further others h))));
    }

-- the text of the line, where that of what is left comes
pub line-text : (how : Choice) (scan : WordState) (reader reads writer writes : Option (List ℕ))
    (piece more text : List ℕ)
    → (so : Streaming how reader reads writer writes piece scan) → IsRestText how scan (piece ++ more) text
    → IsFilteredText how (so.part ++ more) (text_of_parts so.parts ++ text)
line-text how scan reader reads writer writes piece more text so rest = (
  so.parts ++ rest.0,
  so.on more rest.0 rest.1 10 [] (Keeps-fresh 10),
  ap (λ t. text_of_parts so.parts ++ t) rest.2 ∙ sym (text-append so.parts rest.0),
)

-- what ends with a line feed is lines
pub IsLines-ended : (finished part front : List ℕ) → IsLines (finished ++ (part ++ (front ++ 10 ∷ [])))
IsLines-ended finished part front = subst (λ l. IsLines (finished ++ l)) (append_assoc part front (10 ∷ []))
    (IsLines-append finished (part ++ front))

-- lines are finished, and more was taken of the next
pub Streaming-lines : (how : Choice) (scan after : WordState) (reader reads later writer writes on : Option (List ℕ))
    (piece front rest text : List ℕ) → Streaming how reader reads writer writes piece scan
    → Consumes reads later ((front ++ 10 ∷ []) ++ rest) → IsWithoutEnd rest → Appends writes on text
    → IsRestText how scan (piece ++ (front ++ 10 ∷ [])) text → Keeps after 10 []
    → Streaming how reader later writer on rest after
Streaming-lines how scan after reader reads later writer writes on piece front rest text so taken unended written is
    keeps =
    let end = front ++ 10 ∷ [] in
    let line = so.part ++ end in
    record {
      finished = so.finished ++ line;
      part = rest;
      before = so.before ++ (text_of_parts so.parts ++ text);
      parts = [];
      taken = subst (Consumes reader later)
          (append_assoc so.finished so.part (end ++ rest)
          ∙ ap (λ l. so.finished ++ l) (sym (append_assoc so.part end rest))
          ∙ sym (append_assoc so.finished line rest)) (Consumes-trans _ _ _ _ _ so.taken taken);
      written = subst (Appends writer on)
          (append_assoc so.before (text_of_parts so.parts) text
          ∙ sym (append-nil (so.before ++ (text_of_parts so.parts ++ text))))
          (Appends-trans _ _ _ _ _ so.written written);
      lines = IsLines-ended so.finished so.part front;
      unended = unended;
      is = filtered-after how so.finished line so.before (text_of_parts so.parts ++ text) so.lines so.is
          (line-text how scan reader reads writer writes piece end text so is);
      held = omega arith;
      short = λ few. refl;
      on = λ more others h. parts-kept how (fresh 10) (Keeps-fresh 10) (h 10 [] keeps);
    }

-- the line is finished
pub Streaming-line : (how : Choice) (scan after : WordState) (reader reads later writer writes on : Option (List ℕ))
    (piece front text : List ℕ) → Streaming how reader reads writer writes piece scan
    → Consumes reads later (front ++ 10 ∷ []) → Appends writes on text
    → IsRestText how scan (piece ++ (front ++ 10 ∷ [])) text → Keeps after 10 []
    → Streaming how reader later writer on [] after
Streaming-line how scan after reader reads later writer writes on piece front text so taken written is keeps =
    Streaming-lines how scan after reader reads later writer writes on piece front [] text so
    (subst (Consumes reads later) (sym (append-nil (front ++ 10 ∷ []))) taken) (All-nil (λ b. b ≢ 10)) written is keeps

-- what is settled of bytes that are many
pub put-made : (how : Choice) (scan after : WordState) (left text : List ℕ) (until at : ℕ)
    → IsFilteredUpTo how scan left until text at after → until + max_looked_at ≤ length left
    → max_held < length left → IsDecidedText how scan left text after (drop at left)
put-made how scan after left text until at made far many = record {
  parts = made.2;
  is_text = made.3;
  fewer = omega (arith, length-drop at left);
  nothing_of_short = λ few. absurd (omega arith);
  before_rest = λ more others h. made.4 more others (inr far) h;
}

pub WritesPart-map : (fault : Fault) (P Q : List ℕ → Type 0) → ((text : List ℕ) → P text → Q text)
    → (text : List ℕ) → WritesPart fault P text → WritesPart fault Q text
WritesPart-map Read P Q f text h = h
WritesPart-map Write P Q f text h = (h.0, f (text ++ h.0) h.1)
WritesPart-map Memory P Q f text h = h

pub the_text : (how : Choice) (bytes text : List ℕ) → IsFilteredText how bytes text → IsFilteredIn how bytes text
the_text how bytes text is = (is, λ other h. filtered-only how bytes text other is h)

-- what a run has done
abbrev pub DidFilter : Choice → {A : Type 0} → Result A Fault → (reader reads writer writes : Option (List ℕ)) → Type 0
DidFilter how result reader reads writer writes = (taken text : List ℕ) × Consumes reader reads taken
    × Appends writer writes text × WritesFilteredIn result how taken text

abbrev pub DidPart : Choice → Fault → (reader reads writer writes : Option (List ℕ)) → Type 0
DidPart how fault reader reads writer writes = (taken text : List ℕ) × Consumes reader reads taken
    × Appends writer writes text × LeavesFilteredIn fault how taken text

pub leave : (fault : Fault) (how : Choice) (finished part before begun more : List ℕ) → IsLines finished
    → IsOfOneLine part
    → (fault ≡ Read → IsWithoutEnd part) → IsFilteredText how finished before
    → IsFilteredText how part (begun ++ more) → (fault ≢ Write → length part ≤ max_held → begun ≡ [])
    → LeavesFilteredIn fault how (finished ++ part) (before ++ begun)
leave fault how finished part before begun more lines one unended is begins short = record {
  finished = finished;
  part = part;
  is_taken = refl;
  lines = lines;
  one_line = one;
  before_its_end = unended;
  before = before;
  begun = begun;
  is_written = refl;
  is_filtered = the_text how finished before is;
  more = more;
  begins = the_text how (finished ++ part) ((before ++ begun) ++ more)
      (subst (IsFilteredText how (finished ++ part)) (sym (append_assoc before begun more))
      (filtered-after how finished part before (begun ++ more) lines is begins));
  nothing_of_short = short;
}

-- some text of what is left exists
pub rest-text : (how : Choice) (scan : WordState) (left : List ℕ) → (text : List ℕ) × IsRestText how scan left text
rest-text how scan left =
    let made = rest-exists how (length left) scan left (omega arith) in
    (text_of_parts made.0, (made.0, made.1, refl))

put-text : (how : Choice) (scan : WordState) (left text : List ℕ) → IsDecidedTextOf how scan left text
    → (tail : List ℕ) × IsRestText how scan left (text ++ tail)
put-text how scan left text put =
    let rest = rest-exists how (length put.1) put.0 put.1 (omega arith) in
    let here = put.2.before_rest [] rest.0
    (subst (λ l. AreRest how put.0 l rest.0) (sym (append-nil put.1)) rest.1) in (
      text_of_parts rest.0,
      (
        put.2.parts ++ rest.0,
        subst (λ l. AreRest how scan l (put.2.parts ++ rest.0)) (append-nil left) here,
        ap (λ t. t ++ text_of_parts rest.0) put.2.is_text ∙ sym (text-append put.2.parts rest.0),
      ),
    )

-- a fault while something was written of the line
fault-begun : (fault : Fault) (how : Choice) (scan : WordState) (left text : List ℕ) (P : List ℕ → Type 0)
    → ((whole : List ℕ) → P whole → (tail : List ℕ) × IsRestText how scan left (whole ++ tail))
    → WritesPart fault P text
    → (tail : List ℕ) × IsRestText how scan left (text ++ tail) × (fault ≢ Write → text ≡ []) × (fault ≢ Read)
fault-begun Read how scan left text P f h = absurd h
fault-begun Write how scan left text P f h =
    let rest = f (text ++ h.0) h.1 in (
      h.0 ++ rest.0,
      subst (IsRestText how scan left) (append_assoc text h.0 rest.0) rest.1,
      λ other. absurd (other refl),
      λ e. cc,
    )
fault-begun Memory how scan left text P f h =
    let rest = rest-text how scan left in (
      rest.0,
      subst (λ t. IsRestText how scan left (t ++ rest.0)) (sym h) rest.1,
      λ other. h,
      λ e. cc,
    )

pub Streaming-fault : (fault : Fault) (how : Choice) (scan : WordState)
    (reader reads later writer writes on : Option (List ℕ))
    (piece more text : List ℕ) (P : List ℕ → Type 0) → Streaming how reader reads writer writes piece scan
    → Consumes reads later more → ((part : List ℕ) → IsWithoutEnd part → IsOfOneLine (part ++ more))
    → Appends writes on text
    → ((whole : List ℕ) → P whole → (tail : List ℕ) × IsRestText how scan (piece ++ more) (whole ++ tail))
    → WritesPart fault P text → DidPart how fault reader later writer on
Streaming-fault fault how scan reader reads later writer writes on piece more text P so taken one written f h =
    let begun = fault-begun fault how scan (piece ++ more) text P f h in
    let line = line-text how scan reader reads writer writes piece more (text ++ begun.0) so begun.1 in (
      so.finished ++ (so.part ++ more),
      so.before ++ (text_of_parts so.parts ++ text),
      rw (← append_assoc so.finished so.part more) (Consumes-trans _ _ _ _ _ so.taken taken),
      rw (← append_assoc so.before (text_of_parts so.parts) text) (Appends-trans _ _ _ _ _ so.written written),
      leave fault how so.finished (so.part ++ more) so.before (text_of_parts so.parts ++ text) begun.0 so.lines
          (one so.part so.unended) (λ e. absurd (begun.3 e)) so.is
          (subst (IsFilteredText how (so.part ++ more))
          (sym (append_assoc (text_of_parts so.parts) text begun.0)) line)
          (λ other few. ap (λ t. text_of_parts so.parts ++ t) (begun.2 other) ∙ append-nil (text_of_parts so.parts)
          ∙ ap text_of_parts (so.short (omega (arith, length-append so.part more, few)))),
    )

pub Streaming-put_fault : (fault : Fault) (how : Choice) (scan : WordState)
    (reader reads later writer writes on : Option (List ℕ)) (piece more text : List ℕ)
    → Streaming how reader reads writer writes piece scan → Consumes reads later more → IsWithoutEnd more
    → Appends writes on text → WritesPart fault (IsDecidedTextOf how scan (piece ++ more)) text
    → DidPart how fault reader later writer on
Streaming-put_fault fault how scan reader reads later writer writes on piece more text so taken unended written h =
    Streaming-fault fault how scan reader reads later writer writes on piece more text _ so taken
    (λ part first. inl (All-append (λ b. b ≢ 10) part more first unended)) written
    (λ whole put. put-text how scan (piece ++ more) whole put) h

whole-text : (how : Choice) (scan : WordState) (left whole : List ℕ) → IsRestText how scan left whole
    → (tail : List ℕ) × IsRestText how scan left (whole ++ tail)
whole-text how scan left whole is = ([], subst (IsRestText how scan left) (sym (append-nil whole)) is)

pub Streaming-line_fault : (fault : Fault) (how : Choice) (scan : WordState)
    (reader reads later writer writes on : Option (List ℕ)) (piece front text : List ℕ)
    → Streaming how reader reads writer writes piece scan → Consumes reads later (front ++ 10 ∷ [])
    → IsWithoutEnd front → Appends writes on text
    → WritesPart fault (IsRestText how scan (piece ++ (front ++ 10 ∷ []))) text
    → DidPart how fault reader later writer on
Streaming-line_fault fault how scan reader reads later writer writes on piece front text so taken unended written h =
    Streaming-fault fault how scan reader reads later writer writes on piece (front ++ 10 ∷ []) text _ so taken
    (λ part first. inr (
      part ++ front,
      All-append (λ b. b ≢ 10) part front first unended,
      sym (append_assoc part front (10 ∷ [])),
    )) written
    (λ whole is. whole-text how scan (piece ++ (front ++ 10 ∷ [])) whole is) h

-- where the reader was polled and nothing more was taken
Consumes-none : (reader reads later : Option (List ℕ)) (bytes more : List ℕ) → Consumes reader reads bytes
    → Consumes reads later more → more ≡ [] → Consumes reader later bytes
Consumes-none reader reads later bytes more first second none =
    subst (Consumes reader later) (ap (λ l. bytes ++ l) none ∙ append-nil bytes) (Consumes-trans _ _ _ _ _ first second)

pub Streaming-polled : (fault : Fault) (how : Choice) (scan : WordState)
    (reader reads later writer writes : Option (List ℕ))
    (piece more : List ℕ) → Streaming how reader reads writer writes piece scan → Consumes reads later more
    → more ≡ [] → DidPart how fault reader later writer writes
Streaming-polled fault how scan reader reads later writer writes piece more so taken none =
    let rest = rest-text how scan (piece ++ []) in
    let line = line-text how scan reader reads writer writes piece [] rest.0 so rest.1 in (
      so.finished ++ so.part,
      so.before ++ text_of_parts so.parts,
      Consumes-none _ _ _ _ _ so.taken taken none,
      so.written,
      leave fault how so.finished so.part so.before (text_of_parts so.parts) rest.0 so.lines (inl so.unended)
          (λ e. so.unended) so.is
          (subst (λ l. IsFilteredText how l (text_of_parts so.parts ++ rest.0)) (append-nil so.part) line)
          (λ other few. ap text_of_parts (so.short few)),
    )

-- at the end
pub Streaming-end : {A : Type 0} (result : Result A Fault) (how : Choice) (scan : WordState)
    (reader reads later writer writes on : Option (List ℕ)) (piece more text : List ℕ)
    → Streaming how reader reads writer writes piece scan → Consumes reads later more → more ≡ []
    → Appends writes on text → Writes result (IsRestText how scan piece) text
    → DidFilter how result reader later writer on
Streaming-end (Ok done) how scan reader reads later writer writes on piece more text so taken none written h =
    let line = line-text how scan reader reads writer writes piece [] text so
    (subst (λ l. IsRestText how scan l text) (sym (append-nil piece)) h) in
    let whole = subst (λ l. IsFilteredText how l (text_of_parts so.parts ++ text)) (append-nil so.part) line in (
      so.finished ++ so.part,
      so.before ++ (text_of_parts so.parts ++ text),
      Consumes-none _ _ _ _ _ so.taken taken none,
      rw (← append_assoc so.before (text_of_parts so.parts) text) (Appends-trans _ _ _ _ _ so.written written),
      the_text how _ _
          (filtered-after how so.finished so.part so.before (text_of_parts so.parts ++ text) so.lines so.is whole),
    )
Streaming-end (Err fault) how scan reader reads later writer writes on piece more text so taken none written h =
    Streaming-fault fault how scan reader reads later writer writes on piece more text _ so taken
    (λ part first. inl (subst IsWithoutEnd (sym (append-nil part) ∙ ap (λ l. part ++ l) (sym none)) first)) written
    (λ whole is. whole-text how scan (piece ++ more) whole (subst (λ l. IsRestText how scan l whole)
    (sym (append-nil piece) ∙ ap (λ l. piece ++ l) (sym none)) is)) h
