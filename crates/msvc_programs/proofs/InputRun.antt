-- A run over inputs and over symbols, on its way.
use Rattle.std.proofs.Common.{◌≡◌, ◌++◌, ◌∷◌, ◌<◌, ◌+◌, [], ◌∙◌, ℕ, suc, Bool, true, false, List, Option, Result, Ok}
use Rattle.std.proofs.Common.{Err, ap, sym, subst, refl, append_assoc, append-nil, drop, drop-cons, get_or, length, take}
use Rattle.std.specs.Prelude.{◌&&◌, map}
use Rattle.std.specs.Borrow.{Bor}
use Rattle.std.specs.Io.KnownBytes.{Appends}
use Rattle.std.proofs.KnownBytes.{Appends-nil, Appends-trans, Consumes-nil}
use Rattle.std.proofs.lemmas.List.{map-append, map_more, take-append-drop}
use Rattle.msvc_streams.specs.declared.watched.Fault.{Fault}
use Rattle.msvc_streams.specs.declared.watched.Fault.TheVariants.{Read, Memory}
use Rattle.msvc_symbol.specs.Grammars.{Choice}
use Rattle.msvc_filter.proofs.Blocks.{nothing-left}
use Rattle.msvc_programs.specs.Filters.{WritesInput, WritesInputs, as_lines, both, goes_on, nothing, stops, text_of}

both-true : (result : Result Bool Fault) → both true result ≡ result
both-true (Ok read) = refl
both-true (Err fault) = refl

and-assoc : (a b c : Bool) → a && (b && c) ≡ (a && b) && c
and-assoc true b c = refl
and-assoc false b c = refl

both-assoc : (first second : Bool) (result : Result Bool Fault)
    → both first (both second result) ≡ both (first && second) result
both-assoc first second (Ok read) = ap Ok (and-assoc first second read)
both-assoc first second (Err fault) = refl

both-last : (read last : Bool) → both read (both last (Ok true)) ≡ Ok (read && last)
both-last true true = refl
both-last true false = refl
both-last false last = refl

-- some inputs, and then others
WritesInputs-on : {how : Choice} {bytes : List ℕ → Option (List ℕ)} {done : List (List ℕ)} {all : Result Bool Fault}
    {text : List ℕ} → WritesInputs how bytes done all text → (read : Bool) → all ≡ Ok read
    → (others : List (List ℕ)) (result : Result Bool Fault) (more : List ℕ) → WritesInputs how bytes others result more
    → WritesInputs how bytes (done ++ others) (both read result) (text ++ more)
WritesInputs-on {how = how} {bytes = bytes} nothing read e others result more h =
    let all : true ≡ read = cc in
    subst (λ r. WritesInputs how bytes others r more) (sym (both-true result) ∙ ap (λ r. both r result) all) h
WritesInputs-on {how = how} {bytes = bytes}
    (goes_on {name = name} {names = names} {read = first} {result = rest} {text = text} {more = after} is t) read e
    others result more h =
    at rest e (λ second same. WritesInputs-on t second same others result more h)
  where
    at : (rest : Result Bool Fault) → both first rest ≡ Ok read
        → ((second : Bool) → rest ≡ Ok second
        → WritesInputs how bytes (names ++ others) (both second result) (after ++ more))
        → WritesInputs how bytes (name ∷ (names ++ others)) (both read result) ((text ++ after) ++ more)
    at (Ok second) e further =
        let same : first && second ≡ read = cc in
        subst (WritesInputs how bytes (name ∷ (names ++ others)) (both read result))
        (sym (append_assoc text after more))
        (subst (λ r. WritesInputs how bytes (name ∷ (names ++ others)) r (text ++ (after ++ more)))
        (both-assoc first second result ∙ ap (λ r. both r result) same) (goes_on is (further second refl)))
    at (Err fault) e further = absurd (cc)
WritesInputs-on (stops is) read e others result more h = absurd (cc)

-- the text of the inputs of some names is written
abbrev pub InputRun : Choice → (List ℕ → Option (List ℕ)) → List (List ℕ) → Bool → (writer writes : Option (List ℕ))
    → Type 0
InputRun how bytes done read writer writes = (text : List ℕ) × Appends writer writes text
    × WritesInputs how bytes done (Ok read) text

pub InputRun-start : (how : Choice) (bytes : List ℕ → Option (List ℕ)) (writer : Option (List ℕ))
    → InputRun how bytes [] true writer writer
InputRun-start how bytes writer = ([], Appends-nil writer, nothing)

pub InputRun-more : (how : Choice) (bytes : List ℕ → Option (List ℕ)) (names : List (Bor (List ℕ))) (i : ℕ)
    (d : Bor (List ℕ)) (read last : Bool) (writer writes on : Option (List ℕ)) → i < length names
    → InputRun how bytes (map text_of (take i names)) read writer writes
    → (first : List ℕ) → Appends writes on first
    → WritesInput (Ok last) how (bytes (text_of (get_or names i d))) first
    → InputRun how bytes (map text_of (take (i + 1) names)) (read && last) writer on
InputRun-more how bytes names i d read last writer writes on less so first written is = (
  so.0 ++ first,
  Appends-trans _ _ _ _ _ so.1 written,
  rw (map_more text_of names i d less)
      (subst (λ r. WritesInputs how bytes (map text_of (take i names) ++ text_of (get_or names i d) ∷ []) r
      (so.0 ++ first)) (both-last read last)
      (WritesInputs-on so.2 read refl (text_of (get_or names i d) ∷ []) (both last (Ok true)) first
      (subst (WritesInputs how bytes (text_of (get_or names i d) ∷ []) (both last (Ok true))) (append-nil first)
      (goes_on is nothing)))),
)

pub InputRun-fault : (how : Choice) (bytes : List ℕ → Option (List ℕ)) (names : List (Bor (List ℕ))) (i : ℕ)
    (d : Bor (List ℕ)) (read : Bool) (fault : Fault) (writer writes on : Option (List ℕ)) → i < length names
    → InputRun how bytes (map text_of (take i names)) read writer writes
    → (begun : List ℕ) → Appends writes on begun
    → WritesInput (Err fault) how (bytes (text_of (get_or names i d))) begun
    → (text : List ℕ) × Appends writer on text × WritesInputs how bytes (map text_of names) (Err fault) text
InputRun-fault how bytes names i d read fault writer writes on less so begun written is =
    let split : names ≡ take i names ++ get_or names i d ∷ drop (suc i) names =
    sym (take-append-drop i names) ∙ ap (λ l. take i names ++ l) (drop-cons names i d less) in (
      so.0 ++ begun,
      Appends-trans _ _ _ _ _ so.1 written,
      subst (λ l. WritesInputs how bytes l (Err fault) (so.0 ++ begun))
          (sym (ap (map text_of) split
          ∙ map-append text_of (take i names) (get_or names i d ∷ drop (suc i) names)))
          (WritesInputs-on so.2 read refl (text_of (get_or names i d) ∷ map text_of (drop (suc i) names)) (Err fault)
          begun (stops is)),
    )

-- nothing was read of an input
pub WritesInput-nothing : (read : Bool) → read ≡ false → (how : Choice) (bytes : Option (List ℕ))
    → WritesInput (Ok read) how bytes []
WritesInput-nothing true e how bytes = absurd (cc)
WritesInput-nothing false e how bytes = record {
  taken = [];
  rest = bytes;
  are = Consumes-nil bytes;
  at_end = λ e. absurd (cc);
  goes_on = λ e. cc;
  writes = nothing-left Read how;
}

pub WritesInput-unheld : (how : Choice) (bytes : Option (List ℕ)) → WritesInput (Err Memory) how bytes []
WritesInput-unheld how bytes = record {
  taken = [];
  rest = bytes;
  are = Consumes-nil bytes;
  at_end = λ e. absurd (cc);
  goes_on = λ e. cc;
  writes = nothing-left Memory how;
}

-- symbols, and one more, as lines
lines-append : (symbols : List (List ℕ)) (symbol : List ℕ)
    → as_lines (symbols ++ symbol ∷ []) ≡ as_lines symbols ++ (symbol ++ 10 ∷ [])
lines-append [] symbol = refl
lines-append (first ∷ symbols) symbol =
    ap (λ l. first ++ 10 ∷ l) (lines-append symbols symbol)
    ∙ sym (append_assoc first (10 ∷ as_lines symbols) (symbol ++ 10 ∷ []))

pub lines-more : (symbols : List (Bor (List ℕ))) (i : ℕ) (d : Bor (List ℕ)) (lines : List ℕ) → i < length symbols
    → lines ≡ as_lines (map text_of (take i symbols))
    → (lines ++ text_of (get_or symbols i d)) ++ 10 ∷ [] ≡ as_lines (map text_of (take (i + 1) symbols))
lines-more symbols i d lines less so =
    append_assoc lines (text_of (get_or symbols i d)) (10 ∷ [])
    ∙ ap (λ l. l ++ (text_of (get_or symbols i d) ++ 10 ∷ [])) so
    ∙ sym (lines-append (map text_of (take i symbols)) (text_of (get_or symbols i d)))
    ∙ ap as_lines (sym (map_more text_of symbols i d less))
