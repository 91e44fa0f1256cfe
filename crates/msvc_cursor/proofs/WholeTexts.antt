-- Reads a whole text in a dialect: what is read is the one tree that the grammar derives, and where nothing is read it
-- derives none.
use Rattle.std.proofs.Common.{ℕ, List, [], ◌++◌, length, length-append, take, Option, Some, None, Result, Ok, Err, ◌≡◌}
use Rattle.std.proofs.Common.{◌≤◌, ◌<◌, ◌+◌, ◌-◌, ◌⊎◌, cond, inl, inr, refl}
use Rattle.std.proofs.Common.{sym, ap, ◌∙◌, subst, arith}
use Rattle.std.specs.Cow.{cow_str_bytes}
use Rattle.std.specs.Prelude.{IfErr, IfOk}
use Rattle.std.specs.Str.{IsCharBoundary, IsUtf8}
use Rattle.msvc_nodes.specs.Errors.{context_of, limit_of, message_limit}
use Rattle.msvc_nodes.specs.Trees.{SymbolTree}
use Rattle.msvc_nodes.specs.declared.error.ErrorRepr.{ErrorRepr}
use Rattle.msvc_nodes.specs.declared.error.ErrorRepr.TheVariants as error
use Rattle.msvc_nodes.specs.declared.error.Limit.{Limit}
use Rattle.msvc_nodes.specs.declared.error.Limit.TheVariants.{Bytes, Nodes}
use Rattle.std.proofs.lemmas.Str.{IsCharBoundary-at_seam}
use Rattle.std.proofs.Math.Seq.{take-append_seam}
use Rattle.msvc_rules.specs.Counts.{node_count}
use Rattle.msvc_rules.specs.Dialects.{Dialect}
use Rattle.msvc_rules.specs.Limits.{IsWithin, MayBeAbout, limit_meant}
use Rattle.msvc_rules.specs.Parsed.{AreReferencesIn, IsParsedIn, IsRejectedIn, IsSymbolLengthIn}
use Rattle.msvc_rules.specs.Prefix.{IsReadToIn}
use Rattle.msvc_rules.specs.Readers.{Found, read_name_in}
use Rattle.msvc_rules.specs.Reads.{DerivesIn}
use Rattle.msvc_rules.specs.Rejections.{IsNoSymbolIn, IsRejectedRightlyIn, IsRejectionAt}
use Rattle.msvc_rules.specs.State.{Count, State, Note, beginning, beginning_with}
use Rattle.msvc_rules.proofs.Dialects.{Lawful}
use Rattle.msvc_rules.proofs.Laws.{derived-alone, derived-only, symbol-derived, symbol-rejected}
use Rattle.msvc_rules.proofs.NamesInText.{derived-parts, derived-utf8, rest-utf8}
use Rattle.msvc_rules.proofs.NodeLimits.{at_most, within_derived, within_rejected}
use Rattle.msvc_rules.proofs.NotesIncreasing.{derived_rising}
use Rattle.msvc_rules.proofs.Progress.{IsTail, tail}
use Rattle.msvc_rules.proofs.WrittenOut.{all_written_out}
use Rattle.msvc_cursor.proofs.Messages.{not-bytes, words-limit}
use Rattle.msvc_cursor.specs.Errors.{IsErrorOf, IsInside, IsSaid}
use Rattle.msvc_cursor.specs.Failures.{FailsIn, UnlessMemory}
use Rattle.msvc_cursor.specs.Messages.{limit_of_failure, limit_of_message}
use Rattle.msvc_cursor.specs.Parser.{IsRead, Rejects, reads_on, with_length}
use Rattle.msvc_cursor.specs.SymbolsRead.{IsSymbolReadIn}
use Rattle.msvc_cursor.specs.declared.failure.Failure.{Failure}
use Rattle.msvc_cursor.specs.declared.failure.Failure.TheVariants as failure
use Rattle.msvc_cursor.specs.declared.failure.Message.{Message}
use Rattle.msvc_cursor.specs.declared.failure.Message.TheVariants as message

module _ {D : Dialect} (L : Lawful D) where
  -- what holds of a tree that is derived
  parsed : (text : List ℕ) (tree : SymbolTree) (rest : List ℕ) (notes : List Note) → IsUtf8 text
      → DerivesIn D.grammar text tree rest notes → IsParsedIn D text tree
  parsed text tree rest notes utf8 d =
      record {
        rest = rest;
        notes = notes;
        derived = d;
        only = λ other remaining others e. derived-only L.fit text other tree remaining rest others notes e d;
        parts = derived-parts L.named text tree rest notes d;
        texts = derived-utf8 L.named text tree rest notes utf8 d;
        hashes = L.stands text tree rest notes d;
        begins = L.begun text tree rest notes d;
      }

  -- The bytes that were read

  -- the grammar derives the tree, with so many bytes before the rest
  abbrev DerivedTo : List ℕ → SymbolTree → ℕ → Type 0
  DerivedTo text tree n =
      (rest : List ℕ) × (notes : List Note) × (derived : DerivesIn D.grammar text tree rest notes)
      × (length text - length rest ≡ n)

  -- bytes before others are as many as the text has more than these
  front : (text consumed rest : List ℕ) (n : ℕ) → text ≡ consumed ++ rest → length text - length rest ≡ n → length
      consumed ≡ n
  front text consumed rest n e h = omega (arith, ap length e, length-append consumed rest, h)

  -- what a symbol leaves stands after the bytes that were read
  left-after : (text : List ℕ) (tree : SymbolTree) (n : ℕ) → DerivedTo text tree n
      → (other : SymbolTree) (rest : List ℕ) (notes : List Note) → DerivesIn D.grammar text other rest notes
      → (consumed : List ℕ) × (text ≡ consumed ++ rest) × (length consumed ≡ n)
  left-after text tree n found other rest notes d =
      let same : rest ≡ found.0 = (derived-only L.fit text other tree rest found.0 notes found.1 d found.2).1 in
      let consumed : IsTail text rest = tail L.fit d.1 in (
        consumed.0,
        consumed.1,
        front text consumed.0 rest n consumed.1 (ap (λ z. length text - length z) same ∙ found.3),
      )

  read-to : (text : List ℕ) (tree : SymbolTree) (n : ℕ) → DerivedTo text tree n
      → (other : SymbolTree) (rest : List ℕ) (notes : List Note) → DerivesIn D.grammar text other rest notes
      → IsReadToIn D.grammar n text other rest notes
  read-to text tree n found other rest notes d =
      let left = left-after text tree n found other rest notes d in
      let cut : take n text ≡ left.0 =
      ap (λ m. take m text) (sym left.2) ∙ ap (take (length left.0)) left.1 ∙ take-append_seam left.0 rest in (
        omega (arith, left.2, ap length left.1, length-append left.0 rest),
        left.1 ∙ ap (λ z. z ++ rest) (sym cut),
        subst (λ z. DerivesIn D.grammar z other [] notes) (sym cut)
            (derived-alone L.fit text left.0 other rest notes left.1 d),
      )

  boundary : (text : List ℕ) (tree : SymbolTree) (n : ℕ) → IsUtf8 text → DerivedTo text tree n → IsCharBoundary text n
  boundary text tree n utf8 found =
      let left = left-after text tree n found tree found.0 found.1 found.2 in
      subst (IsCharBoundary text) left.2
      (IsCharBoundary-at_seam text left.0 found.0 left.1 (rest-utf8 L.named text tree found.0 found.1 utf8 found.2))

  to-length : (text : List ℕ) (tree : SymbolTree) (n : ℕ) → IsUtf8 text → DerivedTo text tree n
      → IsSymbolLengthIn D n text
  to-length text tree n utf8 found =
      record { read_to = read-to text tree n found; boundary = boundary text tree n utf8 found }

  -- the digits that were read as whole parameters rise, and can be written out
  derived_references : (text : List ℕ) (tree : SymbolTree) (rest : List ℕ) (notes : List Note)
      → DerivesIn D.grammar text tree rest notes → AreReferencesIn D text notes
  derived_references text tree rest notes derived =
      record {
        tree = tree;
        rest = rest;
        derived = derived;
        only = λ other remaining others d. derived-only L.fit text other tree remaining rest others notes d derived;
        begins = L.begun text tree rest notes derived;
        rising = derived_rising L.fit L.placing text tree rest notes derived;
        written_out = all_written_out L.fit L.placing L.starting text tree rest notes derived;
      }

  -- What a reader returns

  -- how nodes are counted where so many more are allowed than the limit
  abbrev pub count_under : (extra : ℕ) → Option ℕ → Count
  count_under extra None = record { weight = 0; used = 0; max = 0 + extra }
  count_under extra (Some max) = at_most (max + extra)

  -- what is read of a text where so many nodes more are allowed than the limit: the tree, how many bytes, and the digits
  -- that were read as whole parameters
  abbrev pub symbol_under : (extra : ℕ) → Option ℕ → List ℕ → Option (SymbolTree × ℕ × List Note)
  symbol_under extra nodes text =
      with_length text (read_name_in D.grammar D.grammar.start text (beginning_with (count_under extra nodes) text))

  whole : (text : List ℕ) (r : Found SymbolTree) (tree : SymbolTree) (n : ℕ) (notes : List Note)
      → with_length text r ≡ Some (tree, n, notes)
      → (rest : List ℕ) × (s : State) × (r ≡ Some (tree, rest, s)) × (length text - length rest ≡ n) × (s.notes ≡ notes)
  whole text None tree n notes e = absurd (cc)
  whole text (Some x) tree n notes e =
      let all : (x.0, length text - length x.1, x.2.notes) ≡ (tree, n, notes) = cc in
      let same : x.0 ≡ tree = ap (λ (p : SymbolTree × ℕ × List Note). p.0) all in (
        x.1,
        x.2,
        ap (λ t. Some (t, x.1, x.2)) same,
        ap (λ (p : SymbolTree × ℕ × List Note). p.1) all,
        ap (λ (p : SymbolTree × ℕ × List Note). p.2) all,
      )

  -- the grammar derives what is read, and its tree is within the limit
  abbrev DerivedWithin : Option ℕ → List ℕ → SymbolTree → ℕ → List Note → Type 0
  DerivedWithin nodes text tree n notes =
      (rest : List ℕ) × (derived : DerivesIn D.grammar text tree rest notes) × (length text - length rest ≡ n)
      × IsWithin nodes (node_count tree)

  read-derived : (nodes : Option ℕ) (text : List ℕ) (tree : SymbolTree) (n : ℕ) (notes : List Note)
      → symbol_under 0 nodes text ≡ Some (tree, n, notes) → DerivedWithin nodes text tree n notes
  read-derived None text tree n notes e =
      let found = whole text (read_name_in D.grammar D.grammar.start text (beginning text)) tree n notes e in (
        found.0,
        subst (DerivesIn D.grammar text tree found.0) found.4 (symbol-derived L.fit text tree found.0 found.1 found.2),
        found.3,
        tt,
      )
  read-derived (Some max) text tree n notes e =
      let found = whole text
      (read_name_in D.grammar D.grammar.start text (beginning_with (at_most (max + 0)) text)) tree n notes e in
      let within = within_derived L.fit L.counted text (max + 0) tree found.0 found.1 found.2 in (
        found.0,
        subst (DerivesIn D.grammar text tree found.0) found.4 within.0,
        found.3,
        omega (arith, within.1),
      )

  symbol-read : (nodes : Option ℕ) (text : List ℕ) (tree : SymbolTree) (n : ℕ) (notes : List Note) → IsUtf8 text
      → symbol_under 0 nodes text ≡ Some (tree, n, notes) → IsSymbolReadIn D nodes text tree n notes
  unfolding derived_references
  symbol-read nodes text tree n notes utf8 e =
      let read = read-derived nodes text tree n notes e in
      let to : DerivedTo text tree n = (read.0, notes, read.1, read.2) in
      record {
        parsed = parsed text tree read.0 notes utf8 read.1;
        within = read.3;
        takes = to-length text tree n utf8 to;
        inside = omega (arith, read.2);
        references = derived_references text tree read.0 notes read.1;
        same = refl;
      }

  -- seen by a view, as the result of a reader
  pub result-read : {A : Type 0} (nodes : Option ℕ) (text : List ℕ) (view : A → SymbolTree × ℕ × List Note)
      (result : Result A Failure) → IsUtf8 text
      → ((extra : ℕ) → IsRead extra view result (symbol_under extra nodes text))
      → IfOk result (λ r. IsSymbolReadIn D nodes text (view r).0 (view r).1 (view r).2)
  result-read nodes text view (Err reason) utf8 is = tt
  result-read nodes text view (Ok r) utf8 is = symbol-read nodes text (view r).0 (view r).1 (view r).2 utf8 (is 0)

  -- Where nothing is read

  none : (text : List ℕ) (r : Found SymbolTree) → with_length text r ≡ None → r ≡ None
  none text None k = refl
  none text (Some x) k = absurd (cc)

  -- where at most so many nodes are allowed and nothing is read, what is derived has more
  more-than : (max : ℕ) (text : List ℕ)
      → with_length text (read_name_in D.grammar D.grammar.start text (beginning_with (at_most max) text)) ≡ None
      → (tree : SymbolTree) (rest : List ℕ) (notes : List Note) → DerivesIn D.grammar text tree rest notes
      → max < node_count tree
  more-than max text e =
      within_rejected L.fit L.counted text max
      (none text (read_name_in D.grammar D.grammar.start text (beginning_with (at_most max) text)) e)

  none-within : (nodes : Option ℕ) (text : List ℕ) → symbol_under 0 nodes text ≡ None
      → IsNoSymbolIn D.grammar nodes text
  none-within None text e =
      symbol-rejected L.fit text (none text (read_name_in D.grammar D.grammar.start text (beginning text)) e)
  none-within (Some max) text e = λ tree rest notes d.
      let more : max + 0 < node_count tree = more-than (max + 0) text e tree rest notes d in omega (arith, more)

  -- a tree would be read where as many nodes more are allowed as it has
  none-at-all : (nodes : Option ℕ) (text : List ℕ) → ((extra : ℕ) → symbol_under extra nodes text ≡ None)
      → IsNoSymbolIn D.grammar None text
  none-at-all None text e = none-within None text (e 0)
  none-at-all (Some max) text e = λ tree rest notes d.
      let n : ℕ = node_count tree in
      let more : max + n < n = more-than (max + n) text (e n) tree rest notes d in absurd (omega (arith, more))

  none-meant : (about : Option Limit) (nodes : Option ℕ) (text : List ℕ)
      → ((extra : ℕ) → cond (reads_on extra about) (Unit {0}) (symbol_under extra nodes text ≡ None))
      → IsNoSymbolIn D.grammar (limit_meant about nodes) text
  none-meant (Some Nodes) nodes text e = none-within nodes text (e 0)
  none-meant (Some Bytes) nodes text e = none-at-all nodes text e
  none-meant None nodes text e = none-at-all nodes text e

  at_rejected : (nodes : Option ℕ) (text : List ℕ) (m : Message) (left : ℕ) (e : ErrorRepr)
      → IsNoSymbolIn D.grammar (limit_meant (limit_of_message m) nodes) text
      → IsRejectionAt text (length text - left) e → IsSaid m e → IsRejectedRightlyIn D.grammar nodes text e
  at_rejected nodes text m left (error.ParseError said c at) none h is =
      let inside : at ≤ length text = omega (arith, h.0) in
      let about : message_limit (cow_str_bytes said) ≡ limit_of_message m = ap message_limit is ∙ words-limit m in (
        inside,
        subst (λ o. IsNoSymbolIn D.grammar (limit_meant o nodes) text) (sym about) none,
        λ ascii. h.1 ascii ∙ ap (context_of text) (sym h.0),
      )
  at_rejected nodes text m left error.Memory none h is = tt
  at_rejected nodes text m left (error.Other said) none h is = absurd h
  at_rejected nodes text m left (error.Utf8 cause) none h is = absurd h
  at_rejected nodes text m left (error.FromUtf8 cause) none h is = absurd h

  -- the error that a caller sees says what the failure inside the reader says
  error-rejected : (nodes : Option ℕ) (text : List ℕ) (r : Failure) (e : ErrorRepr)
      → ((extra : ℕ) → Rejects extra r (symbol_under extra nodes text)) → IsErrorOf r text e
      → IsRejectedRightlyIn D.grammar nodes text e
  error-rejected nodes text failure.Memory e h is =
      subst (λ (x : ErrorRepr). IsRejectedRightlyIn D.grammar nodes text x) (sym is) tt
  error-rejected nodes text (failure.Rejected message left) e h is =
      at_rejected nodes text message left e (none-meant (limit_of_message message) nodes text h) is.0 is.1
  error-rejected nodes text (failure.TooLong read) e h is = absurd (h 0)

  -- what an error says is about the limit that the failure is about
  said-limit : (m : Message) (e : ErrorRepr) → IsSaid m e → (limit_of e ≡ limit_of_message m) ⊎ (limit_of e ≡ None)
  said-limit m (error.ParseError said c at) is = inl (ap message_limit is ∙ words-limit m)
  said-limit m error.Memory is = inr refl
  said-limit m (error.Other said) is = inr refl
  said-limit m (error.Utf8 cause) is = inr refl
  said-limit m (error.FromUtf8 cause) is = inr refl

  error-limit : {Y : Type 0} (text : List ℕ) (r : Failure) (e : ErrorRepr) (read : Option Y) → Rejects 0 r read
      → IsErrorOf r text e → (limit_of e ≡ limit_of_failure r) ⊎ (limit_of e ≡ None)
  error-limit text failure.Memory e read h is = inr (ap limit_of is)
  error-limit text (failure.Rejected message left) e read h is = said-limit message e is.1
  error-limit text (failure.TooLong length) e read h is = absurd h

  failure-about : {Y : Type 0} (nodes : Option ℕ) (r : Failure) (read : Option Y) → Rejects 0 r read
      → (nodes ≡ None → limit_of_failure r ≡ None) → MayBeAbout nodes (limit_of_failure r)
  failure-about None r read h unlimited = unlimited refl
  failure-about (Some max) failure.Memory read h unlimited = λ e. let no : None ≡ Some Bytes = e in absurd (cc)
  failure-about (Some max) (failure.Rejected message left) read h unlimited = not-bytes message
  failure-about (Some max) (failure.TooLong length) read h unlimited = absurd h

  error-about : (nodes : Option ℕ) (e : ErrorRepr) (about : Option Limit) → MayBeAbout nodes about
      → (limit_of e ≡ about) ⊎ (limit_of e ≡ None) → MayBeAbout nodes (limit_of e)
  error-about None e about none (inl same) = same ∙ none
  error-about None e about none (inr other) = other
  error-about (Some max) e about other (inl same) = λ bytes. other (sym same ∙ bytes)
  error-about (Some max) e about other (inr none) =
      λ bytes. let no : None ≡ Some Bytes = sym none ∙ bytes in absurd (cc)

  -- a text that doesn't begin with a question mark is rejected at its beginning
  rejected-at-once : {A : Type 0} (text : List ℕ) (r : Failure) (e : ErrorRepr)
      → ((D.Begins text → ⊥)
      → ◌≡◌ {A = Result A Failure} (Err r) (Err (failure.Rejected message.NoQuestionMark (length text))))
      → IsErrorOf r text e → (D.Begins text → ⊥) → IsRejectionAt text 0 e
  rejected-at-once text r e start is never =
      let same : r ≡ failure.Rejected message.NoQuestionMark (length text) = let whole = start never in cc in
      let here : length text - length text ≡ 0 = omega arith in
      subst (λ n. IsRejectionAt text n e) here (subst (λ x. IsErrorOf x text e) same is).0

  hashes-under : (nodes : Option ℕ) (text : List ℕ) (e : ErrorRepr) → IsRejectedRightlyIn D.grammar nodes text e
      → nodes ≡ None → D.AreRead text e
  hashes-under None text e rightly unlimited = L.are_read text e rightly
  hashes-under (Some max) text e rightly unlimited = absurd (cc)

  -- each error that is made of a failure to read rejects the text
  rejected : {A : Type 0} (nodes : Option ℕ) (text : List ℕ) (r : Failure) (e : ErrorRepr)
      → ((extra : ℕ) → Rejects extra r (symbol_under extra nodes text))
      → ((D.Begins text → ⊥)
      → ◌≡◌ {A = Result A Failure} (Err r) (Err (failure.Rejected message.NoQuestionMark (length text))))
      → (nodes ≡ None → limit_of_failure r ≡ None) → IsErrorOf r text e → IsRejectedIn D nodes text e
  rejected nodes text r e h start unlimited is =
      let rightly : IsRejectedRightlyIn D.grammar nodes text e = error-rejected nodes text r e h is in
      record {
        rejected = rightly;
        begins = rejected-at-once text r e start is;
        hashes = hashes-under nodes text e rightly;
        limit =
            error-about nodes e (limit_of_failure r) (failure-about nodes r _ (h 0) unlimited)
            (error-limit text r e _ (h 0) is);
      }

  -- where no symbol is read, none is derived, and a text without a question mark at its beginning is rejected there
  unread-none : (nodes : Option ℕ) (text : List ℕ) (r : Failure)
      → ((extra : ℕ) → Rejects extra r (symbol_under extra nodes text))
      → UnlessMemory text r (λ offset. IsNoSymbolIn D.grammar (limit_meant (limit_of_failure r) nodes) text)
  unread-none nodes text failure.Memory h = tt
  unread-none nodes text (failure.Rejected message left) h = none-meant (limit_of_message message) nodes text h
  unread-none nodes text (failure.TooLong read) h = absurd (h 0)

  unread-begins : {A Y : Type 0} (text : List ℕ) (r : Failure) (read : Option Y) → Rejects 0 r read
      → ((D.Begins text → ⊥)
      → ◌≡◌ {A = Result A Failure} (Err r) (Err (failure.Rejected message.NoQuestionMark (length text))))
      → UnlessMemory text r (λ offset. (D.Begins text → ⊥) → offset ≡ 0)
  unread-begins text failure.Memory read h start = tt
  unread-begins text (failure.TooLong length) read h start = absurd h
  unread-begins text (failure.Rejected m left) read h start = λ never.
      let whole = start never in
      let same : left ≡ length text = cc in
      omega (arith, same)

  fails : {A : Type 0} (nodes : Option ℕ) (text : List ℕ) (r : Failure)
      → ((extra : ℕ) → Rejects extra r (symbol_under extra nodes text))
      → ((D.Begins text → ⊥)
      → ◌≡◌ {A = Result A Failure} (Err r) (Err (failure.Rejected message.NoQuestionMark (length text))))
      → (nodes ≡ None → limit_of_failure r ≡ None) → FailsIn D nodes text r
  fails nodes text r h start unlimited =
      record {
        rejected = λ e is. rejected nodes text r e h start unlimited is;
        none = unread-none nodes text r h;
        begins = unread-begins text r _ (h 0) start;
        limit = failure-about nodes r _ (h 0) unlimited;
      }

  -- seen as the result of a reader
  pub result-fails : {A : Type 0} (nodes : Option ℕ) (text : List ℕ) (view : A → SymbolTree × ℕ × List Note)
      (result : Result A Failure) → ((extra : ℕ) → IsRead extra view result (symbol_under extra nodes text))
      → ((D.Begins text → ⊥) → result ≡ Err (failure.Rejected message.NoQuestionMark (length text)))
      → (nodes ≡ None → IfErr result (λ reason. limit_of_failure reason ≡ None))
      → IfErr result (λ reason. FailsIn D nodes text reason)
  result-fails nodes text view (Ok r) is start unlimited = tt
  result-fails nodes text view (Err reason) is start unlimited = fails nodes text reason is start unlimited

  -- Failures of calls that read

  -- memory may always run out
  pub memory-fails : (nodes : Option ℕ) (text : List ℕ) → FailsIn D nodes text failure.Memory
  memory-fails nodes text =
      record {
        rejected = λ e is. subst (IsRejectedIn D nodes text) (sym is) (memory-rejects nodes text);
        none = tt;
        begins = tt;
        limit = no-limit-about nodes;
      }
    where
      no-limit-about : (nodes : Option ℕ) → MayBeAbout nodes None
      no-limit-about None = refl
      no-limit-about (Some max) = λ e. let no : None ≡ Some Bytes = e in absurd (cc)

      memory-rejects : (nodes : Option ℕ) (text : List ℕ) → IsRejectedIn D nodes text error.Memory
      memory-rejects nodes text =
          record {
            rejected = tt;
            begins = λ never. tt;
            hashes = λ unlimited. L.are_read text error.Memory tt;
            limit = no-limit-about nodes;
          }

  -- reading fails for no declaration, so the offset of its failure is inside the text
  fails-inside : (nodes : Option ℕ) (text : List ℕ) (r : Failure) → FailsIn D nodes text r → IsInside text r
  fails-inside nodes text failure.Memory fails = tt
  fails-inside nodes text (failure.Rejected message left) fails = tt
  fails-inside nodes text (failure.TooLong read) fails = absurd fails.none

  pub result-inside : {A : Type 0} (nodes : Option ℕ) (text : List ℕ) (result : Result A Failure)
      → IfErr result (λ reason. FailsIn D nodes text reason) → IfErr result (λ reason. IsInside text reason)
  result-inside nodes text (Ok r) fails = tt
  result-inside nodes text (Err reason) fails = fails-inside nodes text reason fails
