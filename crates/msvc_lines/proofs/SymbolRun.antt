-- A run over symbols, on its way.
use Rattle.std.proofs.Common.{◌≡◌, ◌≢◌, ◌++◌, ◌∷◌, ◌<◌, ◌+◌, [], ℕ, suc, Bool, List, Result, ap, sym, subst, refl, ◌∙◌}
use Rattle.std.proofs.Common.{append_assoc, append-nil, drop, drop-cons, get_or, length, take}
use Rattle.std.proofs.lemmas.List.{map-append, map_more, take-append-drop}
use Rattle.std.specs.Prelude.{map}
use Rattle.std.specs.declared.option.Option.{Option}
use Rattle.std.specs.Io.KnownBytes.{Appends}
use Rattle.std.proofs.KnownBytes.{Appends-trans}
use Rattle.msvc_streams.specs.Runs.{WritesPart}
use Rattle.msvc_streams.specs.declared.watched.Fault.{Fault}
use Rattle.msvc_lines.specs.Answers.{IsLineText}
use Rattle.msvc_lines.specs.Arguments.{IsSymbolsText, LeavesOffAt, WritesAnswers, WritesRemarks, WritesSymbols}
use Rattle.msvc_lines.specs.Arguments.{answered, nothing}
use Rattle.msvc_lines.specs.Reports.{IsReport}

-- the text of some symbols is written
abbrev pub SymbolRun : (P : List ℕ → List ℕ → Type 0) → List (List ℕ) → (writer writes : Option (List ℕ)) → Type 0
SymbolRun P done writer writes = (text : List ℕ) × Appends writer writes text × IsSymbolsText P done text

-- the text of symbols, and then of one more
pub IsSymbolsText-last : {P : List ℕ → List ℕ → Type 0} {done : List (List ℕ)} {symbol text first : List ℕ}
    → IsSymbolsText P done text → P symbol first → IsSymbolsText P (done ++ symbol ∷ []) (text ++ first)
IsSymbolsText-last {P = P} {symbol = symbol} {first = first} nothing h =
    subst (IsSymbolsText P (symbol ∷ [])) (append-nil first) (answered h nothing)
IsSymbolsText-last {P = P} {symbol = symbol} {first = first}
    (answered {symbol = one} {symbols = symbols} {first = begin} {text = text} is rest) h =
    subst (IsSymbolsText P (one ∷ (symbols ++ symbol ∷ []))) (sym (append_assoc begin text first))
    (answered is (IsSymbolsText-last rest h))

-- the symbol at an index was answered
pub SymbolRun-more : {A : Type 0} {P : List ℕ → List ℕ → Type 0} (f : A → List ℕ) (xs : List A) (i : ℕ) (d : A)
    (writer writes on : Option (List ℕ)) → i < length xs → SymbolRun P (map f (take i xs)) writer writes
    → (first : List ℕ) → Appends writes on first → P (f (get_or xs i d)) first
    → SymbolRun P (map f (take (i + 1) xs)) writer on
SymbolRun-more f xs i d writer writes on less so first written is = (
  so.0 ++ first,
  Appends-trans _ _ _ _ _ so.1 written,
  rw (map_more f xs i d less) (IsSymbolsText-last so.2 is),
)

-- or not
pub SymbolRun-fault : {A : Type 0} {P : List ℕ → List ℕ → Type 0} (f : A → List ℕ) (xs : List A) (i : ℕ) (d : A)
    (fault : Fault) (writer writes on : Option (List ℕ)) → i < length xs
    → SymbolRun P (map f (take i xs)) writer writes
    → (begun : List ℕ) → Appends writes on begun → WritesPart fault (P (f (get_or xs i d))) begun
    → (text : List ℕ) × Appends writer on text × LeavesOffAt fault P (map f xs) text
SymbolRun-fault f xs i d fault writer writes on less so begun written is =
    let split : xs ≡ take i xs ++ get_or xs i d ∷ drop (suc i) xs =
    sym (take-append-drop i xs) ∙ ap (λ l. take i xs ++ l) (drop-cons xs i d less) in (
      so.0 ++ begun,
      Appends-trans _ _ _ _ _ so.1 written,
      (
        map f (take i xs),
        map f (drop (suc i) xs),
        f (get_or xs i d),
        so.0,
        begun,
        ap (map f) split ∙ map-append f (take i xs) (get_or xs i d ∷ drop (suc i) xs),
        refl,
        so.2,
        is,
      ),
    )

-- where there are symbols, nothing is taken from the reader
pub WritesAnswers-symbols : {A : Type 0} (r : Result A Fault) (symbols : List (List ℕ)) (text : List ℕ)
    → symbols ≢ [] → WritesSymbols r IsLineText symbols text → WritesAnswers r symbols [] text
WritesAnswers-symbols r [] text some h = absurd (some refl)
WritesAnswers-symbols r (symbol ∷ symbols) text some h = (refl, h)

pub WritesRemarks-symbols : {A : Type 0} (r : Result A Fault) (verbose : Bool) (symbols : List (List ℕ))
    (text : List ℕ) → symbols ≢ [] → WritesSymbols r (IsReport verbose) symbols text
    → WritesRemarks r verbose symbols [] text
WritesRemarks-symbols r verbose [] text some h = absurd (some refl)
WritesRemarks-symbols r verbose (symbol ∷ symbols) text some h = (refl, h)

-- where there are some items, there are some of what they are mapped to
pub mapped-some : {A B : Type 0} (f : A → B) (xs : List A) → length xs ≢ 0 → map f xs ≢ []
mapped-some f [] some e = some refl
mapped-some f (x ∷ xs) some e = cc
