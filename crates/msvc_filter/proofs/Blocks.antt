-- The filter over blocks of lines, on its way.
use Rattle.std.proofs.Common.{◌≡◌, ◌≢◌, ◌++◌, ◌∷◌, [], ◌∙◌, ℕ, List, Result, Ok, Err, refl, sym, ap, subst}
use Rattle.std.proofs.Common.{◌≤◌, append_assoc, append-nil, drop, inl, inr, length, take}
use Rattle.std.specs.declared.option.Option.{Option}
use Rattle.std.specs.Io.KnownBytes.{Appends, Consumes}
use Rattle.std.proofs.KnownBytes.{Appends-nil, Appends-trans, Consumes-trans}
use Rattle.std.proofs.lemmas.List.{length-take-le, take-append-drop}
use Rattle.std.proofs.lemmas.List.Elements.{All-head, All-nil, All-tail}
use Rattle.msvc_symbol.specs.Grammars.{Choice}
use Rattle.msvc_streams.specs.Runs.{IsLines, IsWithEnd, IsWithoutEnd, Writes, WritesPart}
use Rattle.msvc_streams.specs.declared.watched.Fault.{Fault}
use Rattle.msvc_streams.specs.declared.watched.Fault.TheVariants.{Read, Write, Memory}
use Rattle.msvc_filter.specs.Filtered.{IsFilteredText, nothing, text_of_parts}
use Rattle.msvc_filter.specs.FilterRuns.{LeavesFilteredBlocks, LeavesFilteredIn, WritesFilteredBlocks}
use Rattle.msvc_filter.specs.WordStates.{IsRestText, Keeps, LeavesLines, WritesLines}
use Rattle.msvc_filter.specs.declared.symbol_bounds.WordState.{WordState}
use Rattle.msvc_streams.proofs.WholeLines.{IsLines-append}
use Rattle.msvc_filter.proofs.Replaced.{Keeps-fresh, filtered-after, fresh, parts-joined, text-append}
use Rattle.msvc_filter.proofs.Streamed.{DidFilter, DidPart, IsLines-ended, Streaming}
use Rattle.msvc_filter.proofs.Streamed.{leave, line-text, rest-text, the_text}

-- what a run over blocks has done
abbrev pub DidBlocks : Choice → {A : Type 0} → Result A Fault → (reader reads writer writes : Option (List ℕ)) → Type 0
DidBlocks how result reader reads writer writes = (taken text : List ℕ) × Consumes reader reads taken
    × Appends writer writes text × WritesFilteredBlocks result how taken text

-- the bytes before the first line feed are those that were taken before
pub line_feed-taken : (piece more front rest : List ℕ) → piece ++ more ≡ (front ++ 10 ∷ []) ++ rest
    → IsWithoutEnd piece → (end : List ℕ) × (front ≡ piece ++ end) × (more ≡ (end ++ 10 ∷ []) ++ rest)
line_feed-taken [] more front rest e unended = (front, refl, e)
line_feed-taken (b ∷ piece) more [] rest e unended =
    let same : b ≡ 10 = cc in
    absurd (All-head (λ b. b ≢ 10) b piece unended same)
line_feed-taken (b ∷ piece) more (x ∷ front) rest e unended =
    let first : b ≡ x = cc in
    let others : piece ++ more ≡ (front ++ 10 ∷ []) ++ rest = cc in
    let h = line_feed-taken piece more front rest others (All-tail (λ b. b ≢ 10) b piece unended) in
    (h.0, ap (λ l. x ∷ l) h.1 ∙ ap (λ b. b ∷ (piece ++ h.0)) (sym first), h.2)

-- the lines of a block end with a line feed that was taken last
pub lines-taken : (piece more block : List ℕ) (end : ℕ) → block ≡ piece ++ more → IsWithoutEnd piece
    → end ≤ length block → end ≢ 0 → IsLines (take end block)
    → (front : List ℕ) × (take end block ≡ piece ++ (front ++ 10 ∷ [])) × (more ≡ (front ++ 10 ∷ []) ++ drop end block)
lines-taken piece more block end e unended bound some (inl none) =
    absurd (some (sym (length-take-le end block bound) ∙ ap length none))
lines-taken piece more block end e unended bound some (inr ended) =
    let whole = sym e ∙ sym (take-append-drop end block) ∙ ap (λ l. l ++ drop end block) ended.1 in
    let taken = line_feed-taken piece more ended.0 (drop end block) whole unended in (
      taken.0,
      ended.1 ∙ ap (λ l. l ++ 10 ∷ []) taken.1 ∙ append_assoc piece taken.0 (10 ∷ []),
      taken.2,
    )

-- no byte of a block without lines is a line feed, nor of its end
pub end-unended : (piece more block : List ℕ) → block ≡ piece ++ more → IsWithoutEnd (drop 0 block)
    → IsWithoutEnd more
end-unended [] more block e unended = subst IsWithoutEnd e unended
end-unended (b ∷ piece) more block e unended =
    end-unended piece more (piece ++ more) refl
    (All-tail (λ b. b ≢ 10) b (piece ++ more) (subst IsWithoutEnd e unended))

-- all bytes that were taken were answered
leaves-all : (fault : Fault) (how : Choice) (taken text : List ℕ) → LeavesFilteredIn fault how taken text
    → LeavesFilteredBlocks fault how taken text
leaves-all fault how taken text h = record {
  more = h.more;
  begins = h.begins;
  first = taken;
  left = [];
  is_taken = sym (append-nil taken);
  all_read = λ e. refl;
  leaves = λ other. h;
}

pub part-did : (fault : Fault) (how : Choice) (reader reads writer writes : Option (List ℕ))
    → DidPart how fault reader reads writer writes → DidBlocks how {A = Unit {0}} (Err fault) reader reads writer writes
part-did fault how reader reads writer writes h = (h.0, h.1, h.2, h.3, leaves-all fault how h.0 h.1 h.4)

pub filter-did : {A : Type 0} (result : Result A Fault) (how : Choice) (reader reads writer writes : Option (List ℕ))
    → DidFilter how result reader reads writer writes → DidBlocks how result reader reads writer writes
filter-did (Ok done) how reader reads writer writes h = h
filter-did (Err fault) how reader reads writer writes h =
    (h.0, h.1, h.2, h.3, leaves-all fault how h.0 h.1 h.4)

-- lines, and what stands after them
rest-joined : (how : Choice) (scan after : WordState) (front text more others : List ℕ)
    → IsRestText how scan (front ++ 10 ∷ []) text → Keeps after 10 [] → IsRestText how after more others
    → IsRestText how scan ((front ++ 10 ∷ []) ++ more) (text ++ others)
rest-joined how scan after front text more others is keeps h = (
  is.0 ++ h.0,
  λ last passed k. parts-joined how more h.0 (h.1 10 [] keeps) (is.1 last passed k) front refl,
  ap (λ t. t ++ others) is.2 ∙ ap (λ t. text_of_parts is.0 ++ t) h.2 ∙ sym (text-append is.0 h.0),
)

-- Of some lines the first are written, and others are left.
pub record LineRun (how : Choice) (scan : WordState) (lines : List ℕ) (writer writes : Option (List ℕ)) (left : List ℕ)
    (after : WordState) : Type 0 where
  pub first : List ℕ
  pub text : List ℕ
  pub are : lines ≡ first ++ left
  pub whole : IsLines first
  pub none : first ≡ [] → text ≡ []
  pub written : Appends writer writes text
  pub on : (more others : List ℕ) → IsRestText how after more others
      → IsRestText how scan (first ++ more) (text ++ others)

pub LineRun-start : (how : Choice) (scan : WordState) (lines : List ℕ) (writer : Option (List ℕ))
    → LineRun how scan lines writer writer lines scan
LineRun-start how scan lines writer = record {
  first = [];
  text = [];
  are = refl;
  whole = inl refl;
  none = λ e. refl;
  written = Appends-nil writer;
  on = λ more others h. h;
}

pub LineRun-more : (how : Choice) (scan after next : WordState) (lines : List ℕ) (writer writes on : Option (List ℕ))
    (left line rest text : List ℕ) → LineRun how scan lines writer writes left after → left ≡ line ++ rest
    → IsWithEnd line → Appends writes on text → IsRestText how after line text → Keeps next 10 []
    → LineRun how scan lines writer on rest next
LineRun-more how scan after next lines writer writes on left line rest text so split ended written is keeps =
    record {
      first = so.first ++ line;
      text = so.text ++ text;
      are = so.are ∙ ap (λ l. so.first ++ l) split ∙ sym (append_assoc so.first line rest);
      whole = subst (λ l. IsLines (so.first ++ l)) (sym ended.2) (IsLines-append so.first ended.0);
      none = λ e. absurd (some so.first e);
      written = Appends-trans _ _ _ _ _ so.written written;
      on = λ more others h.
          subst (λ l. IsRestText how scan l ((so.text ++ text) ++ others)) (sym (append_assoc so.first line more))
          (subst (IsRestText how scan (so.first ++ (line ++ more))) (sym (append_assoc so.text text others))
          (so.on (line ++ more) (text ++ others)
          (subst (λ l. IsRestText how after (l ++ more) (text ++ others)) (sym ended.2)
          (rest-joined how after next ended.0 text more others
          (subst (λ l. IsRestText how after l text) ended.2 is) keeps h))));
    }
  where
    some : (first : List ℕ) → first ++ line ≡ [] → ⊥
    some [] e = ends ended.0 (sym ended.2 ∙ e)
      where
        ends : (front : List ℕ) → front ++ 10 ∷ [] ≡ [] → ⊥
        ends [] e = cc
        ends (b ∷ front) e = cc
    some (b ∷ first) e = cc

-- the text of the first lines
LineRun-text : (how : Choice) (scan after : WordState) (lines : List ℕ) (writer writes : Option (List ℕ))
    (left : List ℕ) → (so : LineRun how scan lines writer writes left after) → IsRestText how scan so.first so.text
LineRun-text how scan after lines writer writes left so =
    subst (λ l. IsRestText how scan l so.text) (append-nil so.first)
    (subst (IsRestText how scan (so.first ++ [])) (append-nil so.text)
    (so.on [] [] ([], λ last passed k. nothing, refl)))

-- what the call that writes lines has done
abbrev pub DidLines : Choice → {A : Type 0} → Result A Fault → WordState → (lines : List ℕ)
    → (writer writes : Option (List ℕ)) → Type 0
DidLines how result scan lines writer writes = (text : List ℕ) × Appends writer writes text
    × WritesLines result how scan lines text

-- the last call, or one for a line that has failed
pub LineRun-fault : (fault : Fault) (how : Choice) (scan after next : WordState) (lines : List ℕ)
    (writer writes on : Option (List ℕ)) (left line rest text : List ℕ)
    → LineRun how scan lines writer writes left after → left ≡ line ++ rest → IsWithEnd line → Keeps next 10 []
    → Appends writes on text → WritesPart fault (IsRestText how after line) text
    → DidLines how {A = Unit {0}} (Err fault) scan lines writer on
LineRun-fault Read how scan after next lines writer writes on left line rest text so split ended keeps written h =
    absurd h
LineRun-fault Write how scan after next lines writer writes on left line rest text so split ended keeps written h =
    let others = rest-text how next rest in
    let all = rest-joined how after next ended.0 (text ++ h.0) rest others.0
    (subst (λ l. IsRestText how after l (text ++ h.0)) ended.2 h.1) keeps others.1 in
    let whole = so.on left ((text ++ h.0) ++ others.0)
    (subst (λ l. IsRestText how after l ((text ++ h.0) ++ others.0))
    (ap (λ l. l ++ rest) (sym ended.2) ∙ sym split) all) in (
      so.text ++ text,
      Appends-trans _ _ _ _ _ so.written written,
      (
        h.0 ++ others.0,
        subst (λ l. IsRestText how scan l ((so.text ++ text) ++ (h.0 ++ others.0))) (sym so.are)
            (subst (IsRestText how scan (so.first ++ left))
            (ap (λ t. so.text ++ t) (append_assoc text h.0 others.0)
            ∙ sym (append_assoc so.text text (h.0 ++ others.0)))
            whole),
      ),
    )
LineRun-fault Memory how scan after next lines writer writes on left line rest text so split ended keeps written h = (
  so.text,
  subst (Appends writer on) (ap (λ t. so.text ++ t) h ∙ append-nil so.text)
      (Appends-trans _ _ _ _ _ so.written written),
  (so.first, left, so.are, so.whole, LineRun-text how scan after lines writer writes left so, so.none),
)

pub LineRun-last : (result : Result (Unit {0}) Fault) (how : Choice) (scan after : WordState) (lines : List ℕ)
    (writer writes on : Option (List ℕ)) (left text : List ℕ) → LineRun how scan lines writer writes left after
    → Appends writes on text → Writes result (IsRestText how after left) text → DidLines how result scan lines writer on
LineRun-last (Ok done) how scan after lines writer writes on left text so written h = (
  so.text ++ text,
  Appends-trans _ _ _ _ _ so.written written,
  subst (λ l. IsRestText how scan l (so.text ++ text)) (sym so.are) (so.on left text h),
)
LineRun-last (Err Read) how scan after lines writer writes on left text so written h = absurd h
LineRun-last (Err Write) how scan after lines writer writes on left text so written h = (
  so.text ++ text,
  Appends-trans _ _ _ _ _ so.written written,
  (
    h.0,
    subst (λ l. IsRestText how scan l ((so.text ++ text) ++ h.0)) (sym so.are)
        (subst (IsRestText how scan (so.first ++ left)) (sym (append_assoc so.text text h.0))
        (so.on left (text ++ h.0) h.1)),
  ),
)
LineRun-last (Err Memory) how scan after lines writer writes on left text so written h = (
  so.text,
  subst (Appends writer on) (ap (λ t. so.text ++ t) h ∙ append-nil so.text)
      (Appends-trans _ _ _ _ _ so.written written),
  (so.first, left, so.are, so.whole, LineRun-text how scan after lines writer writes left so, so.none),
)

-- lines could not be written, or there was no memory for their text
pub lines-fault : (fault : Fault) (how : Choice) (scan : WordState)
    (reader reads later writer writes on : Option (List ℕ)) (piece front rest text : List ℕ)
    → Streaming how reader reads writer writes piece scan → IsWithoutEnd piece
    → Consumes reads later ((front ++ 10 ∷ []) ++ rest) → Appends writes on text
    → LeavesLines fault how scan (piece ++ (front ++ 10 ∷ [])) text
    → DidBlocks how {A = Unit {0}} (Err fault) reader later writer on
lines-fault Read how scan reader reads later writer writes on piece front rest text so unended taken written h =
    absurd h
lines-fault Write how scan reader reads later writer writes on piece front rest text so unended taken written h =
    let end = front ++ 10 ∷ [] in
    let lines = so.finished ++ (so.part ++ end) in
    let parts = text_of_parts so.parts in
    let line = line-text how scan reader reads writer writes piece end (text ++ h.0) so h.1 in
    let whole = filtered-after how so.finished (so.part ++ end) so.before (parts ++ (text ++ h.0)) so.lines so.is line
    in
    let others = rest-text how (fresh 10) rest in
    let after : IsFilteredText how rest others.0 = (others.1.0, others.1.1 10 [] (Keeps-fresh 10), others.1.2) in
    let all = filtered-after how lines rest (so.before ++ (parts ++ (text ++ h.0))) others.0
    (IsLines-ended so.finished so.part front) whole after in (
      lines ++ rest,
      so.before ++ (parts ++ text),
      subst (Consumes reader later)
          (append_assoc so.finished so.part (end ++ rest)
          ∙ ap (λ l. so.finished ++ l) (sym (append_assoc so.part end rest))
          ∙ sym (append_assoc so.finished (so.part ++ end) rest)) (Consumes-trans _ _ _ _ _ so.taken taken),
      subst (Appends writer on) (append_assoc so.before parts text) (Appends-trans _ _ _ _ _ so.written written),
      record {
        more = h.0 ++ others.0;
        begins = the_text how (lines ++ rest) ((so.before ++ (parts ++ text)) ++ (h.0 ++ others.0))
            (subst (IsFilteredText how (lines ++ rest))
            (ap (λ t. (so.before ++ t) ++ others.0) (sym (append_assoc parts text h.0))
            ∙ ap (λ t. t ++ others.0) (sym (append_assoc so.before (parts ++ text) h.0))
            ∙ append_assoc (so.before ++ (parts ++ text)) h.0 others.0) all);
        first = lines ++ rest;
        left = [];
        is_taken = sym (append-nil (lines ++ rest));
        all_read = λ e. refl;
        leaves = λ other. absurd (other refl);
      },
    )
lines-fault Memory how scan reader reads later writer writes on piece front rest text so unended taken written
    (first, left, are, inl none, is, nothing_of) =
    let more = (front ++ 10 ∷ []) ++ rest in
    let parts = text_of_parts so.parts in
    let some = rest-text how scan (piece ++ more) in
    let line = line-text how scan reader reads writer writes piece more some.0 so some.1 in
    let all = filtered-after how so.finished (so.part ++ more) so.before (parts ++ some.0) so.lines so.is line in
    let begin = rest-text how scan (piece ++ []) in
    let begun = line-text how scan reader reads writer writes piece [] begin.0 so begin.1 in (
      (so.finished ++ so.part) ++ more,
      so.before ++ parts,
      Consumes-trans _ _ _ _ _ so.taken taken,
      subst (Appends writer on)
          (ap (λ t. (so.before ++ parts) ++ t) (nothing_of none) ∙ append-nil (so.before ++ parts))
          (Appends-trans _ _ _ _ _ so.written written),
      record {
        more = some.0;
        begins = the_text how ((so.finished ++ so.part) ++ more) ((so.before ++ parts) ++ some.0)
            (rw (append_assoc so.finished so.part more, append_assoc so.before parts some.0) all);
        first = so.finished ++ so.part;
        left = more;
        is_taken = refl;
        all_read = λ e. cc;
        leaves = λ other. leave Memory how so.finished so.part so.before parts begin.0 so.lines (inl so.unended)
            (λ e. so.unended) so.is
            (subst (λ l. IsFilteredText how l (parts ++ begin.0)) (append-nil so.part) begun)
            (λ other few. ap text_of_parts (so.short few));
      },
    )
lines-fault Memory how scan reader reads later writer writes on piece front rest text so unended taken written
    (first, left, are, inr ended, is, nothing_of) =
    let parts = text_of_parts so.parts in
    let split = line_feed-taken piece (front ++ 10 ∷ []) ended.0 left (are ∙ ap (λ l. l ++ left) ended.1) unended in
    let end = split.0 ++ 10 ∷ [] in
    let line = ended.1 ∙ ap (λ l. l ++ 10 ∷ []) split.1 ∙ append_assoc piece split.0 (10 ∷ []) in
    let begun = line-text how scan reader reads writer writes piece end text so
    (subst (λ l. IsRestText how scan l text) line is) in
    let lines = so.finished ++ (so.part ++ end) in
    let before = so.before ++ (parts ++ text) in
    let whole = filtered-after how so.finished (so.part ++ end) so.before (parts ++ text) so.lines so.is begun in
    let others = rest-text how (fresh 10) (left ++ rest) in
    let after : IsFilteredText how (left ++ rest) others.0 =
    (others.1.0, others.1.1 10 [] (Keeps-fresh 10), others.1.2) in
    let ends = IsLines-ended so.finished so.part split.0 in
    let all = filtered-after how lines (left ++ rest) before others.0 ends whole after in
    let none : IsFilteredText how [] [] = ([], nothing, refl) in
    let more = ap (λ l. l ++ rest) split.2 ∙ append_assoc end left rest in (
      lines ++ (left ++ rest),
      before,
      subst (Consumes reader later)
          (append_assoc so.finished so.part ((front ++ 10 ∷ []) ++ rest)
          ∙ ap (λ l. so.finished ++ (so.part ++ l)) more
          ∙ ap (λ l. so.finished ++ l) (sym (append_assoc so.part end (left ++ rest)))
          ∙ sym (append_assoc so.finished (so.part ++ end) (left ++ rest)))
          (Consumes-trans _ _ _ _ _ so.taken taken),
      subst (Appends writer on) (append_assoc so.before parts text) (Appends-trans _ _ _ _ _ so.written written),
      record {
        more = others.0;
        begins = the_text how (lines ++ (left ++ rest)) (before ++ others.0) all;
        first = lines ++ [];
        left = left ++ rest;
        is_taken = ap (λ l. l ++ (left ++ rest)) (sym (append-nil lines));
        all_read = λ e. cc;
        leaves = λ other. subst (LeavesFilteredIn Memory how (lines ++ [])) (append-nil before)
            (leave Memory how lines [] before [] [] ends (inl (All-nil (λ b. b ≢ 10))) (λ e. All-nil (λ b. b ≢ 10))
            whole none (λ other few. refl));
      },
    )

-- nothing was taken
pub nothing-left : (fault : Fault) (how : Choice) → LeavesFilteredBlocks fault how [] []
nothing-left fault how =
    let none : IsFilteredText how [] [] = ([], nothing, refl) in
    leaves-all fault how [] []
    (leave fault how [] [] [] [] [] (inl refl) (inl (All-nil (λ b. b ≢ 10))) (λ e. All-nil (λ b. b ≢ 10)) none none
    (λ other few. refl))
