-- What C sees of a symbol's tree and of its back references.
use Rattle.std.proofs.Common.{◌≡◌, ◌≢◌, ◌≤◌, ◌<◌, ◌∙◌, ◌++◌, ℕ, zero, suc, List, [], ◌∷◌, ap}
use Rattle.std.proofs.Common.{arith, drop, get_or, length, map, refl, set, subst, sym, take}
use Rattle.std.specs.Str.{IsUtf8, IsValidUpTo}
use Rattle.msvc_cursor.specs.Notes.{note_of}
use Rattle.msvc_cursor.specs.declared.back_references.BackReference.{BackReference}
use Rattle.msvc_demangler.specs.CallLimits.{Limits}
use Rattle.msvc_demangler.specs.Counts.{node_count}
use Rattle.msvc_demangler.specs.GrammarNames.{Grammar}
use Rattle.msvc_demangler.specs.Grammars.{dialect_of}
use Rattle.msvc_demangler.specs.Limits.{IsWithin}
use Rattle.msvc_demangler.specs.ParsedIn.{AreReferencesIn, IsParsedIn}
use Rattle.msvc_demangler.specs.State.{Note}
use Rattle.msvc_demangler.specs.Trees.{SymbolTree}
use Rattle.msvc_c_calls.specs.Buffers.{IsWritten}
use Rattle.msvc_c_calls.specs.Calls.{IsNotRead, not_utf8, not_utf8_text, out_of_memory_text}
use Rattle.msvc_c_calls.proofs.Found.{no_memory}
use Rattle.msvc_demangler_in.specs.Shown.{AreListed, IsListed, IsShown, listed, not_listed, not_shown, reference_of}
use Rattle.msvc_demangler_in.specs.Shown.{shown}
use Rattle.msvc_demangler_in.specs.TreeTexts.{IsTreeText, made, unmade}
use Rattle.msvc_demangler_in.specs.declared.references.Reference.{Reference}

-- The tree

pub tree_shown : (g : Grammar) (limits : Limits) (symbol : List ℕ) (tree : SymbolTree) (status offset : ℕ)
    (text : List ℕ) → IsUtf8 symbol → IsParsedIn (dialect_of g) symbol tree → IsWithin limits.nodes (node_count tree)
    → IsTreeText tree status offset text
    → IsShown g limits symbol status offset text
tree_shown g limits symbol tree status offset text u parsed within (made is at says) =
    let Status : ℕ → Type 0 = λ n. IsShown g limits symbol n offset text in
    let At : ℕ → Type 0 = λ n. IsShown g limits symbol 0 n text in
    let Says : List ℕ → Type 0 = λ t. IsShown g limits symbol 0 0 t in
    subst Status (sym is) (subst At (sym at) (subst Says (sym says) (shown u parsed within)))
tree_shown g limits symbol tree status offset text u parsed within (unmade is at same) =
    not_shown (no_memory g limits symbol status offset text u is at same)

-- what is written of a symbol for which memory ran out
pub lost_tree : (g : Grammar) (limits : Limits) (symbol : List ℕ) (status offset count : ℕ) (old new : List ℕ)
    → IsUtf8 symbol → (status ≡ 3) × (offset ≡ 0) × (count ≡ length out_of_memory_text) → IsWritten out_of_memory_text old new
    → (text : List ℕ) × IsShown g limits symbol status offset text × (count ≡ length text) × IsWritten text old new
lost_tree g limits symbol status offset count old new u is written = (
  out_of_memory_text,
  not_shown (no_memory g limits symbol status offset out_of_memory_text u is.0 is.1 refl),
  is.2,
  written,
)

-- what is written of a symbol that is not UTF-8
pub not_valid_tree : (g : Grammar) (limits : Limits) (symbol : List ℕ) (status offset count at : ℕ) (old new : List ℕ)
    → ¬ (IsUtf8 symbol) → IsValidUpTo symbol at → (status ≡ 2) × (offset ≡ at) × (count ≡ length not_utf8_text)
    → IsWritten not_utf8_text old new
    → (text : List ℕ) × IsShown g limits symbol status offset text × (count ≡ length text) × IsWritten text old new
not_valid_tree g limits symbol status offset count at old new not valid is written =
    let Status : ℕ → Type 0 = λ n. IsShown g limits symbol n offset not_utf8_text in
    let At : ℕ → Type 0 = λ n. IsShown g limits symbol 2 n not_utf8_text in
    (not_utf8_text, subst Status (sym is.0) (subst At (sym is.1) (not_shown (not_utf8 not valid))), is.2, written)

-- The list

-- one more reference is written
pub one_more : (found : List BackReference) (old : List Reference) (i : ℕ) (x d : BackReference)
    → x ≡ get_or found i d → i < length found → i < length old
    → set (map reference_of (take i (map note_of found)) ++ drop i old) i (reference_of (note_of x))
    ≡ map reference_of (take (suc i) (map note_of found)) ++ drop (suc i) old
one_more [] old i x d e h k = absurd (omega (arith, h))
one_more (f ∷ found) [] i x d e h k = absurd (omega (arith, k))
one_more (f ∷ found) (o ∷ old) zero x d e h k = ap (λ y. reference_of (note_of y) ∷ old) e
one_more (f ∷ found) (o ∷ old) (suc i) x d e h k =
    ap (λ xs. reference_of (note_of f) ∷ xs) (one_more found old i x d e (omega (arith, h)) (omega (arith, k)))

-- the same of the loop that writes them
pub written_on : (found : List BackReference) (old out : List Reference) (i next : ℕ) (d : BackReference)
    → next ≡ suc i → i < length found → i < length old
    → out ≡ map reference_of (take i (map note_of found)) ++ drop i old
    → set out i (reference_of (note_of (get_or found i d)))
    ≡ map reference_of (take next (map note_of found)) ++ drop next old
written_on found old out i next d one inside place is =
    let New : ℕ → Type 0 = λ n. set out i (reference_of (note_of (get_or found i d)))
    ≡ map reference_of (take n (map note_of found)) ++ drop n old in
    subst New (sym one)
    (ap (λ xs. set xs i (reference_of (note_of (get_or found i d)))) is
    ∙ one_more found old i (get_or found i d) d refl inside place)

-- as many were written as the list has places for
pub all_written : (notes : List Note) (old : List Reference) (count : ℕ) → count ≤ length notes → count ≤ length old
    → (count < length notes → length old ≤ count)
    → map reference_of (take count notes) ++ drop count old
    ≡ take (length old) (map reference_of notes) ++ drop (length notes) old
all_written [] [] zero a b c = refl
all_written [] (o ∷ old) zero a b c = refl
all_written [] old (suc count) a b c = absurd (omega (arith, a))
all_written (n ∷ notes) [] zero a b c = refl
all_written (n ∷ notes) [] (suc count) a b c = absurd (omega (arith, b))
all_written (n ∷ notes) (o ∷ old) zero a b c =
    let no : length (o ∷ old) ≤ zero = c (omega arith) in absurd (omega (arith, no))
all_written (n ∷ notes) (o ∷ old) (suc count) a b c =
    ap (λ xs. reference_of n ∷ xs)
    (all_written notes old count (omega (arith, a)) (omega (arith, b))
    (λ h. let more : length (o ∷ old) ≤ suc count = c (omega (arith, h)) in omega (arith, more)))

pub list_found : (g : Grammar) (limits : Limits) (symbol : List ℕ) (old new : List Reference) (notes : List Note)
    (status offset count : ℕ) → IsUtf8 symbol → (are : AreReferencesIn (dialect_of g) symbol notes)
    → IsWithin limits.nodes (node_count are.tree) → AreListed notes old new → status ≡ 0 → offset ≡ 0
    → count ≡ length notes → IsListed g limits symbol old new status offset count
list_found g limits symbol old new notes status offset count u are within written is at all =
    let Status : ℕ → Type 0 = λ n. IsListed g limits symbol old new n offset count in
    let At : ℕ → Type 0 = λ n. IsListed g limits symbol old new 0 n count in
    let Count : ℕ → Type 0 = λ n. IsListed g limits symbol old new 0 0 n in
    subst Status (sym is) (subst At (sym at) (subst Count (sym all) (listed u are within written)))

-- no list, for a symbol that is not read
pub unlisted : (g : Grammar) (limits : Limits) (symbol : List ℕ) (old new : List Reference) (status offset count : ℕ)
    → (text : List ℕ) × IsNotRead g limits symbol status offset text × (count ≡ 0) → (status ≢ 3 → new ≡ old)
    → IsListed g limits symbol old new status offset count
unlisted g limits symbol old new status offset count not same =
    let Count : ℕ → Type 0 = λ n. IsListed g limits symbol old new status offset n in
    subst Count (sym not.2) (not_listed not.1 same)

-- and if memory ran out
pub lost_list : (g : Grammar) (limits : Limits) (symbol : List ℕ) (old new : List Reference) (status offset count : ℕ)
    → IsUtf8 symbol → (status ≡ 3) × (offset ≡ 0) × (count ≡ 0) → IsListed g limits symbol old new status offset count
lost_list g limits symbol old new status offset count u is =
    unlisted g limits symbol old new status offset count
    (out_of_memory_text, no_memory g limits symbol status offset out_of_memory_text u is.0 is.1 refl, is.2)
    (λ no. absurd (no is.0))
