use Rattle.std.proofs.Common.{◌≡◌, ◌++◌}
use Rattle.std.specs.List.{flat_map}
use Rattle.std.specs.String.{string_bytes}
use Rattle.msvc_debug.specs.Literals.{escaped}
use Rattle.msvc_debug.proofs.literals.write_characters.Given as goal

-- the characters so far were appended
abbrev pub invariant-loop-character : goal.invariant-loop-character
invariant-loop-character g l = string_bytes l.text ≡ string_bytes l.fn.text ++ flat_map escaped l.yielded
