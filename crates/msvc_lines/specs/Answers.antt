-- The answer of `undname` to a symbol, and its text for lines.
use Rattle.std.specs.Prelude.{ℕ, List, [], ◌∷◌, ◌++◌, ◌≡◌, ◌⊎◌, None}
use Rattle.std.specs.Str.{IsUtf8}
use Rattle.msvc_nodes.specs.Trees.{SymbolTree}
use Rattle.msvc_rules.specs.State.{Note}
use Rattle.msvc_grammar.specs.Derived.{Derives, IsOnly}
use Rattle.msvc_grammar.specs.Rejections.{IsNoSymbol}
use Rattle.msvc_print.specs.Declaration.{declaration}
use Rattle.msvc_lines.specs.Lines.{lines_of}

-- the flags under which lines are printed, those of `DemangleFlags::llvm`
abbrev pub line_flags : ℕ
line_flags = 0xE00400

-- the tree is the only one that the grammar derives from a beginning of the symbol
abbrev pub IsTreeOf : List ℕ → SymbolTree → Type 0
IsTreeOf symbol tree =
    (rest : List ℕ) × (notes : List Note) × Derives symbol tree rest notes × IsOnly symbol tree rest notes

-- the text is the answer to the symbol: the declaration of its tree, or the symbol itself if it has no tree
abbrev pub IsAnswer : List ℕ → List ℕ → Type 0
IsAnswer symbol text = ((tree : SymbolTree) × IsTreeOf symbol tree × (text ≡ declaration tree line_flags))
    ⊎ (IsNoSymbol None symbol × (text ≡ symbol))

-- the text is the answer to the symbol and a line feed
abbrev pub IsLineText : List ℕ → List ℕ → Type 0
IsLineText symbol text = (answer : List ℕ) × IsAnswer symbol answer × (text ≡ answer ++ 10 ∷ [])

-- the text is that of the lines, where P states what that of one line is: nothing for a line that is not UTF-8
pub data IsTextOf (P : List ℕ → List ℕ → Type 0) : List (List ℕ) → List ℕ → Type 0 where
  nothing : IsTextOf P [] []
  left_out : {line : List ℕ} {lines : List (List ℕ)} {text : List ℕ} → ¬ (IsUtf8 line) → IsTextOf P lines text
      → IsTextOf P (line ∷ lines) text
  answered : {line : List ℕ} {lines : List (List ℕ)} {first text : List ℕ} → IsUtf8 line → P line first
      → IsTextOf P lines text → IsTextOf P (line ∷ lines) (first ++ text)

-- the text is that of the lines: the answer and a line feed for each
abbrev pub IsText : List (List ℕ) → List ℕ → Type 0
IsText lines text = IsTextOf IsLineText lines text

-- the text is that of the lines of some bytes, and no other text is
abbrev pub IsFilterText : List ℕ → List ℕ → Type 0
IsFilterText bytes text = IsText (lines_of bytes) text
    × ((other : List ℕ) → IsText (lines_of bytes) other → other ≡ text)
