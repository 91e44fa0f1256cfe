-- What is written for the arguments of `undname`.
use Rattle.std.specs.Prelude.{ℕ, List, [], ◌∷◌, ◌++◌, ◌≡◌, Bool, false, Result, MatchResult, bytes_eq, codes}
use Rattle.std.specs.Prelude.{if◌then◌else◌}
use Rattle.msvc_streams.specs.Runs.{WritesPart}
use Rattle.msvc_streams.specs.declared.watched.Fault.{Fault}
use Rattle.msvc_lines.specs.Answers.{IsLineText}
use Rattle.msvc_lines.specs.LineRuns.{WritesLines}
use Rattle.msvc_lines.specs.Reports.{IsReport, WritesReports}

-- the symbols among the arguments: all arguments, or all but the first if that is `-v`
abbrev pub symbols_of : List (List ℕ) → List (List ℕ)
symbols_of [] = []
symbols_of (word ∷ words) = if bytes_eq word (codes "-v") then words else word ∷ words

-- whether the first argument is `-v`
abbrev pub is_verbose : List (List ℕ) → Bool
is_verbose [] = false
is_verbose (word ∷ words) = bytes_eq word (codes "-v")

-- the text is that of the symbols, where P states what that of one symbol is
pub data IsSymbolsText (P : List ℕ → List ℕ → Type 0) : List (List ℕ) → List ℕ → Type 0 where
  nothing : IsSymbolsText P [] []
  answered : {symbol : List ℕ} {symbols : List (List ℕ)} {first text : List ℕ} → P symbol first
      → IsSymbolsText P symbols text → IsSymbolsText P (symbol ∷ symbols) (first ++ text)

-- What a run over symbols that failed at a symbol has written: the text of the symbols before it, and if a write failed
-- a beginning of the text of this symbol.
abbrev pub LeavesOffAt : Fault → (P : List ℕ → List ℕ → Type 0) → List (List ℕ) → List ℕ → Type 0
LeavesOffAt fault P symbols text = (done left : List (List ℕ)) × (symbol before begun : List ℕ)
    × (symbols ≡ done ++ symbol ∷ left) × (text ≡ before ++ begun) × IsSymbolsText P done before
    × WritesPart fault (P symbol) begun

-- What a run over symbols has written: the text of all symbols, or what it has written up to a fault.
abbrev pub WritesSymbols : {A : Type 0} → Result A Fault → (P : List ℕ → List ℕ → Type 0) → List (List ℕ) → List ℕ
    → Type 0
WritesSymbols result P symbols text =
    MatchResult result (λ _. IsSymbolsText P symbols text) (λ fault. LeavesOffAt fault P symbols text)

-- What `undname` has written to standard output: the answer and a line feed for each symbol, or without symbols for
-- each of the lines taken from the reader.
abbrev pub WritesAnswers : {A : Type 0} → Result A Fault → List (List ℕ) → List ℕ → List ℕ → Type 0
WritesAnswers result [] taken text = WritesLines result taken text
WritesAnswers result (symbol ∷ symbols) taken text =
    (taken ≡ []) × WritesSymbols result IsLineText (symbol ∷ symbols) text

-- What it has written to standard error: the reports on these.
abbrev pub WritesRemarks : {A : Type 0} → Result A Fault → (verbose : Bool) → List (List ℕ) → List ℕ → List ℕ → Type 0
WritesRemarks result verbose [] taken text = WritesReports result verbose taken text
WritesRemarks result verbose (symbol ∷ symbols) taken text =
    (taken ≡ []) × WritesSymbols result (IsReport verbose) (symbol ∷ symbols) text
