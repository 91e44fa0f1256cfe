-- What a run over lines has written when it ends.
use Rattle.std.specs.Prelude.{ℕ, List, ◌++◌, ◌≡◌, Result, MatchResult}
use Rattle.msvc_streams.specs.Runs.{IsLines, IsOfOneLine, IsWithoutEnd}
use Rattle.msvc_streams.specs.declared.watched.Fault.{Fault}
use Rattle.msvc_streams.specs.declared.watched.Fault.TheVariants.{Read, Write, Memory}
use Rattle.msvc_lines.specs.Answers.{IsFilterText}

-- What a run over lines that failed has written for the bytes that it took from the reader, where P states what the
-- text of some bytes is: the text of the lines finished before, and if a write failed also a beginning of the text of
-- the next line.
abbrev pub LeavesOff : Fault → (P : List ℕ → List ℕ → Type 0) → List ℕ → List ℕ → Type 0
LeavesOff Read P taken text = (finished part : List ℕ) × (taken ≡ finished ++ part) × IsLines finished
    × IsWithoutEnd part × P finished text
LeavesOff Write P taken text = (finished part before begun more : List ℕ) × (taken ≡ finished ++ part)
    × IsLines finished × IsOfOneLine part × P finished before × (text ≡ before ++ begun) × P taken (text ++ more)
LeavesOff Memory P taken text = (finished part : List ℕ) × (taken ≡ finished ++ part) × IsLines finished
    × IsOfOneLine part × P finished text

-- What a run over lines has written, where P states what the text of some bytes is: the text of all bytes that it took
-- from the reader, or what it has written up to a fault.
abbrev pub WritesText : {A : Type 0} → Result A Fault → (P : List ℕ → List ℕ → Type 0) → List ℕ → List ℕ → Type 0
WritesText result P taken text = MatchResult result (λ _. P taken text) (λ fault. LeavesOff fault P taken text)

-- What `undname` has written for the bytes that it took from the reader.
abbrev pub WritesLines : {A : Type 0} → Result A Fault → List ℕ → List ℕ → Type 0
WritesLines result taken text = WritesText result IsFilterText taken text
