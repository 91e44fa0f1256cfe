-- Texts of lines: what is asked of a kind of text that is written line by line.
use Rattle.std.proofs.Common.{◌≢◌, ◌++◌, [], ℕ, List}
use Rattle.msvc_streams.specs.Runs.{IsLines, IsOfOneLine}

-- T says what the text of some bytes is, and P what that of one line is. The text of lines is that of the first ones
-- and then that of the last. Q is what is promised of a whole text.
pub record AreJoined (T P Q : List ℕ → List ℕ → Type 0) : Type 0 where
  pub none : T [] []
  pub line : (finished part text more : List ℕ) → IsLines finished → part ≢ [] → IsOfOneLine part → T finished text
      → P part more → T (finished ++ part) (text ++ more)
  pub whole : (bytes text : List ℕ) → T bytes text → Q bytes text
