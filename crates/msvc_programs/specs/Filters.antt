-- What the program `msvcfilt` writes, and how it ends.
use Rattle.std.specs.Prelude.{ℕ, List, [], ◌∷◌, ◌++◌, ◌≡◌, ◌≢◌, ◌&&◌, Bool, false, true, Option, Some, OnSome}
use Rattle.std.specs.Prelude.{Result, Ok, Err}
use Rattle.std.specs.Borrow.{Bor}
use Rattle.std.specs.Io.KnownBytes.{Consumes, IsAtEnd}
use Rattle.msvc_streams.specs.declared.watched.Fault.{Fault}
use Rattle.msvc_streams.specs.declared.watched.Fault.TheVariants.{Read}
use Rattle.msvc_symbol.specs.Grammars.{Choice}
use Rattle.msvc_filter.specs.FilterRuns.{WritesFilteredBlocks}

-- the bytes of an argument
abbrev pub text_of : Bor (List ℕ) → List ℕ
text_of argument = argument.now

-- symbols, each as a line
abbrev pub as_lines : List (List ℕ) → List ℕ
as_lines [] = []
as_lines (symbol ∷ symbols) = symbol ++ 10 ∷ as_lines symbols

-- how the filter has ended at an input, where the answer is whether the input was read to its end
abbrev pub ended : Result Bool Fault → Result Bool Fault
ended (Ok true) = Ok true
ended (Ok false) = Err Read
ended (Err fault) = Err fault

-- What is written of an input with these bytes, where they are known: the filtered text of all of them if it was read
-- to its end, and else what the filter has written up to the fault. Nothing is read of an input that can't be opened.
pub record WritesInput (read : Result Bool Fault) (how : Choice) (bytes : Option (List ℕ)) (text : List ℕ) : Type 0
  where
    -- the bytes that were read, and those that are left
    pub taken : List ℕ
    pub rest : Option (List ℕ)
    pub are : Consumes bytes rest taken
    pub at_end : read ≡ Ok true → OnSome bytes (IsAtEnd rest)
    pub goes_on : read ≢ Err Read
    pub writes : WritesFilteredBlocks (ended read) how taken text

-- whether an input and all after it were read to their ends, if no fault has ended the run
abbrev pub both : Bool → Result Bool Fault → Result Bool Fault
both read (Ok others) = Ok (read && others)
both read (Err fault) = Err fault

-- What is written of the inputs of some names, one after another: the text of each, up to the fault that ends the run.
pub data WritesInputs (how : Choice) (bytes : List ℕ → Option (List ℕ))
    : (names : List (List ℕ)) → Result Bool Fault → (text : List ℕ) → Type 0 where
  nothing : WritesInputs how bytes [] (Ok true) []
  stops : {name : List ℕ} {names : List (List ℕ)} {fault : Fault} {text : List ℕ}
      → WritesInput (Err fault) how (bytes name) text → WritesInputs how bytes (name ∷ names) (Err fault) text
  goes_on : {name : List ℕ} {names : List (List ℕ)} {read : Bool} {result : Result Bool Fault} {text more : List ℕ}
      → WritesInput (Ok read) how (bytes name) text → WritesInputs how bytes names result more
      → WritesInputs how bytes (name ∷ names) (both read result) (text ++ more)

-- what is written of the arguments: of symbols, each as a line, or of the inputs that they name
abbrev pub WritesArguments : Choice → (bytes : List ℕ → Option (List ℕ)) → (as_symbols : Bool) → List (List ℕ)
    → Result Bool Fault → List ℕ → Type 0
WritesArguments how bytes true symbols result text = WritesInput result how (Some (as_lines symbols)) text
WritesArguments how bytes false names result text = WritesInputs how bytes names result text

-- the exit status: 0 if all inputs were read to their ends
abbrev pub status_of_inputs : Result Bool Fault → ℕ
status_of_inputs (Ok true) = 0
status_of_inputs (Ok false) = 1
status_of_inputs (Err fault) = 1
