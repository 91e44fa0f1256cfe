-- What `undname` writes to standard error: the trees, if they are asked for, and the errors.
use Rattle.std.specs.Prelude.{ℕ, List, [], ◌∷◌, ◌++◌, ◌≡◌, ◌≢◌, ◌⊎◌, Bool, IfSome, None, Result, codes, if◌then◌else◌}
use Rattle.msvc_nodes.specs.Errors.{error_text}
use Rattle.msvc_nodes.specs.Trees.{SymbolTree}
use Rattle.msvc_nodes.specs.declared.error.ErrorRepr.{ErrorRepr}
use Rattle.msvc_nodes.specs.declared.error.ErrorRepr.TheVariants as error
use Rattle.msvc_grammar.specs.Parsed.{IsRejected}
use Rattle.msvc_cursor.specs.Errors.{IsErrorOf}
use Rattle.msvc_cursor.specs.declared.failure.Failure.{Failure}
use Rattle.msvc_debug.specs.TreeText.{tree_text}
use Rattle.msvc_streams.specs.declared.watched.Fault.{Fault}
use Rattle.msvc_lines.specs.Answers.{IsTextOf, IsTreeOf}
use Rattle.msvc_lines.specs.LineRuns.{WritesText}
use Rattle.msvc_lines.specs.Lines.{lines_of}

-- the line of an error: `error: `, what the error prints, and a line feed
abbrev pub IsErrorLine : ErrorRepr → List ℕ → Type 0
IsErrorLine e line = (shown : List ℕ) × (line ≡ codes "error: " ++ (shown ++ 10 ∷ []))
    × IfSome (error_text e) (λ text. shown ≡ text)

-- the line of an error that is made of a failure
abbrev pub IsFailureLine : Failure → List ℕ → List ℕ → Type 0
IsFailureLine reason symbol line =
    (e : ErrorRepr) × (e ≢ error.Memory) × IsErrorOf reason symbol e × IsErrorLine e line

-- the line of a tree, if trees are asked for
abbrev pub tree_line : (verbose : Bool) → SymbolTree → List ℕ
tree_line verbose tree = if verbose then tree_text tree ++ 10 ∷ [] else []

-- the report on a symbol: the line of its tree, or of the error with which it is rejected
abbrev pub IsReport : (verbose : Bool) → List ℕ → List ℕ → Type 0
IsReport verbose symbol report = ((tree : SymbolTree) × IsTreeOf symbol tree × (report ≡ tree_line verbose tree))
    ⊎ ((e : ErrorRepr) × (e ≢ error.Memory) × IsRejected None symbol e × IsErrorLine e report)

-- the reports on the lines of some bytes
abbrev pub AreReports : (verbose : Bool) → List ℕ → List ℕ → Type 0
AreReports verbose bytes text = IsTextOf (IsReport verbose) (lines_of bytes) text

-- What a run over lines has written to standard error for the bytes that it took from the reader.
abbrev pub WritesReports : {A : Type 0} → Result A Fault → (verbose : Bool) → List ℕ → List ℕ → Type 0
WritesReports result verbose taken text = WritesText result (AreReports verbose) taken text
