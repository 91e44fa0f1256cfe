use Rattle.std.proofs.Common.{◌≡◌, ◌++◌, take}
use Rattle.std.specs.String.{string_bytes}
use Rattle.msvc_debug.specs.Words.{numbers_text}
use Rattle.msvc_debug.proofs.words.write_numbers.Given as goal

-- the numbers so far were appended
abbrev pub invariant-loop-number : goal.invariant-loop-number
invariant-loop-number g l =
    string_bytes l.text ≡ string_bytes l.fn.text ++ numbers_text (take l.number-index l.numbers)
