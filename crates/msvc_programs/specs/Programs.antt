-- What the program `undname` prints, and how it ends.
use Rattle.std.specs.Prelude.{ℕ, List, [], ◌∷◌, ◌++◌, ◌≡◌, ◌≢◌, ◌⊎◌, Bool, Result, Ok, Err, MatchResult}
use Rattle.msvc_streams.specs.Faults.{FailureFlag, IsSet, Stays}
use Rattle.msvc_streams.specs.Runs.{IsLines, IsWithoutEnd}
use Rattle.msvc_streams.specs.declared.watched.Fault.{Fault}
use Rattle.msvc_streams.specs.declared.watched.Fault.TheVariants.{Read, Write, Memory}
use Rattle.msvc_lines.specs.Answers.{IsFilterText, IsLineText}
use Rattle.msvc_lines.specs.Arguments.{IsSymbolsText}
use Rattle.msvc_lines.specs.Reports.{AreReports, IsReport}

-- What has been printed when a fault came, where P states what the text of some items is: the text of the first items.
-- A failed write leaves out an end of this text.
pub record Leaves (X : Type 0) (fault : Fault) (P : List X → List ℕ → Type 0) (items : List X) (text : List ℕ)
    : Type 0 where
  -- the items that were answered, and the others
  pub answered : List X
  pub left : List X
  pub are : items ≡ answered ++ left
  -- what is missing of the text
  pub more : List ℕ
  pub is_text : P answered (text ++ more)
  pub whole : fault ≢ Write → more ≡ []

-- The same of the bytes that were taken. Only a failed write cuts a line, and when a read fails, no whole line is left.
pub record LeavesLines (fault : Fault) (P : List ℕ → List ℕ → Type 0) (taken text : List ℕ) : Type 0 where
  pub leaves : Leaves ℕ fault P taken text
  pub lines : fault ≢ Write → IsLines leaves.answered
  pub unended : fault ≡ Read → IsWithoutEnd leaves.left

-- What is printed of the text of the bytes that were taken: all of it, or what was printed before a fault.
abbrev pub PrintsLines : {A : Type 0} → Result A Fault → (P : List ℕ → List ℕ → Type 0) → List ℕ → List ℕ → Type 0
PrintsLines result P taken text = MatchResult result (λ _. P taken text) (λ fault. LeavesLines fault P taken text)

-- the same of the text of symbols, where P states what that of one symbol is
abbrev pub PrintsSymbols : {A : Type 0} → Result A Fault → (P : List ℕ → List ℕ → Type 0) → List (List ℕ) → List ℕ
    → Type 0
PrintsSymbols result P symbols text =
    MatchResult result (λ _. IsSymbolsText P symbols text)
    (λ fault. Leaves (List ℕ) fault (IsSymbolsText P) symbols text)

-- What is printed for the symbols among the words or, without symbols, for the bytes that were taken, where T states
-- what the text of bytes is, and P what that of one symbol is.
abbrev pub Prints : {A : Type 0} → Result A Fault → (T P : List ℕ → List ℕ → Type 0) → List (List ℕ) → List ℕ → List ℕ
    → Type 0
Prints result T P [] taken text = PrintsLines result T taken text
Prints result T P (symbol ∷ symbols) taken text = (taken ≡ []) × PrintsSymbols result P (symbol ∷ symbols) text

-- what is printed to standard output: the answers
abbrev pub PrintsAnswers : {A : Type 0} → Result A Fault → List (List ℕ) → List ℕ → List ℕ → Type 0
PrintsAnswers result symbols taken text = Prints result IsFilterText IsLineText symbols taken text

-- what is printed to standard error: the reports
abbrev pub PrintsReports : {A : Type 0} → Result A Fault → (verbose : Bool) → List (List ℕ) → List ℕ → List ℕ → Type 0
PrintsReports result verbose symbols taken text =
    Prints result (AreReports verbose) (IsReport verbose) symbols taken text

-- A fault sets the flag of the stream that failed: a failed write that of an output. Without a fault no flag is set.
abbrev pub SetsFlagOf : Fault → (reader out err : FailureFlag) → Type 0
SetsFlagOf Read reader out err = IsSet reader × Stays out
SetsFlagOf Write reader out err = Stays reader × (IsSet out ⊎ IsSet err)
SetsFlagOf Memory reader out err = Stays reader × Stays out

abbrev pub SetsFlags : {A : Type 0} → Result A Fault → (reader out err : FailureFlag) → Type 0
SetsFlags result reader out err =
    MatchResult result (λ _. Stays reader × Stays out × Stays err) (λ fault. SetsFlagOf fault reader out err)

-- the exit status
abbrev pub status_of : {A : Type 0} → Result A Fault → ℕ
status_of (Ok done) = 0
status_of (Err fault) = 1

-- the fault of a run over a slice, which is read without a fault
abbrev pub slice_fault : Fault → Fault
slice_fault Write = Write
slice_fault Read = Memory
slice_fault Memory = Memory
