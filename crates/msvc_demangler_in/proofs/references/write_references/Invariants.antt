use Rattle.std.proofs.Common.{◌≡◌, ◌++◌, drop, map, take}
use Rattle.msvc_cursor.specs.Notes.{note_of}
use Rattle.msvc_demangler_in.specs.Shown.{reference_of}
use Rattle.msvc_demangler_in.proofs.references.write_references.Given as goal

-- the references before the index are written
abbrev pub invariant-entries : goal.invariant-entries
invariant-entries l =
    l.out ≡ map reference_of (take l.i (map note_of l.found)) ++ drop l.i l.fn.out
