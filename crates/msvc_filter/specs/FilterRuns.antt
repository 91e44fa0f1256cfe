-- What the filter has written when it ends.
use Rattle.std.specs.Prelude.{ℕ, List, [], ◌++◌, ◌≡◌, ◌≢◌, ◌≤◌, Result, MatchResult, length}
use Rattle.msvc_streams.specs.Runs.{IsLines, IsOfOneLine, IsWithoutEnd}
use Rattle.msvc_streams.specs.declared.watched.Fault.{Fault}
use Rattle.msvc_streams.specs.declared.watched.Fault.TheVariants.{Read, Write}
use Rattle.msvc_symbol.specs.Grammars.{Choice, under}
use Rattle.msvc_symbol.specs.declared.grammar.Grammar.TheVariants.{Crate}
use Rattle.msvc_filter.specs.Filtered.{IsFilteredIn}

-- the most bytes of a line that is written whole; a longer line is written in pieces
abbrev pub max_held : ℕ
max_held = 65536

-- What a run of the filter that failed has written for the bytes that it took from the reader: the text of the lines
-- finished before, and a beginning of the text of the next line.
pub record LeavesFilteredIn (fault : Fault) (how : Choice) (taken text : List ℕ) : Type 0 where
  -- the lines finished before, and the bytes that were taken of the next line
  pub finished : List ℕ
  pub part : List ℕ
  pub is_taken : taken ≡ finished ++ part
  pub lines : IsLines finished
  pub one_line : IsOfOneLine part
  pub before_its_end : fault ≡ Read → IsWithoutEnd part
  -- the text of the finished lines, and what was written of the next line
  pub before : List ℕ
  pub begun : List ℕ
  pub is_written : text ≡ before ++ begun
  pub is_filtered : IsFilteredIn how finished before
  -- the written text is a beginning of the text of all bytes that were taken
  pub more : List ℕ
  pub begins : IsFilteredIn how taken (text ++ more)
  -- unless a write failed, nothing is written of a next line of at most `max_held` bytes
  pub nothing_of_short : fault ≢ Write → length part ≤ max_held → begun ≡ []

-- What a run of the filter has written: the text of all bytes that it took from the reader, or what it has written up
-- to a fault.
abbrev pub WritesFilteredIn : {A : Type 0} → Result A Fault → Choice → List ℕ → List ℕ → Type 0
WritesFilteredIn result how taken text =
    MatchResult result (λ _. IsFilteredIn how taken text) (λ fault. LeavesFilteredIn fault how taken text)

-- the same in the crate's grammar
abbrev pub WritesFiltered : {A : Type 0} → Result A Fault → (flags : ℕ) → List ℕ → List ℕ → Type 0
WritesFiltered result flags taken text = WritesFilteredIn result (under Crate flags) taken text

-- What a run over blocks of lines that failed has written for the bytes that it took from the reader: the text of the
-- first of them, or a beginning of the text of all of them after a failed write.
pub record LeavesFilteredBlocks (fault : Fault) (how : Choice) (taken text : List ℕ) : Type 0 where
  -- the written text is a beginning of the text of all bytes that were taken
  pub more : List ℕ
  pub begins : IsFilteredIn how taken (text ++ more)
  -- the bytes that were answered, and those for which memory did not suffice
  pub first : List ℕ
  pub left : List ℕ
  pub is_taken : taken ≡ first ++ left
  pub all_read : fault ≡ Read → left ≡ []
  -- what is written of the bytes that were answered
  pub leaves : fault ≢ Write → LeavesFilteredIn fault how first text

-- What such a run has written: the text of all bytes that it took, or what it has written up to a fault.
abbrev pub WritesFilteredBlocks : {A : Type 0} → Result A Fault → Choice → List ℕ → List ℕ → Type 0
WritesFilteredBlocks result how taken text =
    MatchResult result (λ _. IsFilteredIn how taken text) (λ fault. LeavesFilteredBlocks fault how taken text)
