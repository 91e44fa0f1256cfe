-- What the calls return and write that print a tree or list back references.
use Rattle.std.specs.Prelude.{ℕ, List, ◌≡◌, ◌≢◌, ◌++◌, drop, length, map, take}
use Rattle.std.specs.Str.{IsUtf8}
use Rattle.msvc_demangler.specs.CallLimits.{Limits}
use Rattle.msvc_demangler.specs.Counts.{node_count}
use Rattle.msvc_demangler.specs.GrammarNames.{Grammar}
use Rattle.msvc_demangler.specs.Grammars.{dialect_of}
use Rattle.msvc_demangler.specs.Limits.{IsWithin}
use Rattle.msvc_demangler.specs.ParsedIn.{AreReferencesIn, IsParsedIn}
use Rattle.msvc_demangler.specs.State.{Note}
use Rattle.msvc_demangler.specs.Trees.{SymbolTree}
use Rattle.msvc_debug.specs.TreeText.{tree_text}
use Rattle.msvc_c_calls.specs.Calls.{IsNotRead}
use Rattle.msvc_demangler_in.specs.declared.references.Reference.{Reference}

-- What a call that prints a symbol's tree returns: the status, the offset, and the text of the tree, or the text that
-- states why there is no tree.
pub data IsShown (g : Grammar) (limits : Limits) (symbol : List ℕ) : (status offset : ℕ) (text : List ℕ) → Type 0 where
  -- OK
  shown : {tree : SymbolTree} → IsUtf8 symbol → IsParsedIn (dialect_of g) symbol tree
      → IsWithin limits.nodes (node_count tree) → IsShown g limits symbol 0 0 (tree_text tree)
  not_shown : {status offset : ℕ} {text : List ℕ} → IsNotRead g limits symbol status offset text
      → IsShown g limits symbol status offset text

-- a back reference, as C gets it
abbrev pub reference_of : Note → Reference
reference_of note = record { at = note.at; start = note.start; end = note.end }

-- The list `old` becomes `new`: it has as many references as there are places, and then its old entries.
abbrev pub AreListed : List Note → (old new : List Reference) → Type 0
AreListed notes old new = new ≡ take (length old) (map reference_of notes) ++ drop (length notes) old

-- What a call that lists a symbol's back references returns and writes: the status, the offset, the number of
-- references, and the list `new` in place of `old`.
pub data IsListed (g : Grammar) (limits : Limits) (symbol : List ℕ) (old new : List Reference) :
    (status offset count : ℕ) → Type 0 where
  -- OK
  listed : {notes : List Note} → IsUtf8 symbol → (are : AreReferencesIn (dialect_of g) symbol notes)
      → IsWithin limits.nodes (node_count are.tree) → AreListed notes old new
      → IsListed g limits symbol old new 0 0 (length notes)
  -- the statuses and offsets of `IsNotRead`, without its text; if memory ran out, the entries may be any
  not_listed : {status offset : ℕ} {text : List ℕ} → IsNotRead g limits symbol status offset text
      → (status ≢ 3 → new ≡ old) → IsListed g limits symbol old new status offset 0
