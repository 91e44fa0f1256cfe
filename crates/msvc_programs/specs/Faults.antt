-- What a program prints of the fault that its run ended with.
use Rattle.std.specs.Prelude.{ℕ, List, [], ◌∷◌, ◌++◌, ◌≡◌, Result, MatchResult, codes}
use Rattle.msvc_streams.specs.declared.watched.Fault.{Fault}
use Rattle.msvc_streams.specs.declared.watched.Fault.TheVariants.{Read, Write, Memory}

-- what follows the program's name in the line of a fault
abbrev pub rest_of_line : Fault → List ℕ
rest_of_line Read = codes ": read failed" ++ 10 ∷ []
rest_of_line Write = codes ": write failed" ++ 10 ∷ []
rest_of_line Memory = codes ": out of memory" ++ 10 ∷ []

-- the line of a fault
abbrev pub fault_line : (program : List ℕ) → Fault → List ℕ
fault_line program fault = program ++ rest_of_line fault

-- what is printed of the fault at the end: nothing, or its line, if it can be written
abbrev pub PrintsFault : {A : Type 0} → (program : List ℕ) → Result A Fault → List ℕ → Type 0
PrintsFault program result text =
    MatchResult result (λ _. text ≡ []) (λ fault. (more : List ℕ) × (fault_line program fault ≡ text ++ more))
