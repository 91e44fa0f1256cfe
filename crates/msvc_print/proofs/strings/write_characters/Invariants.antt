use Rattle.std.proofs.Common.{◌≡◌, ◌≤◌, ◌+◌, ◌*◌, length}
use Rattle.msvc_print.specs.Limited.{add_all}
use Rattle.msvc_print.specs.Strings.{bytes_of, characters, size}
use Rattle.msvc_print.proofs.strings.write_characters.Given as goal

-- the characters that are left, written after the text, give the text with all characters
pub record Holds (g : goal.Over) (l : goal.Live-characters g) : Type 0 where
  pub text : add_all l.out (characters l.width (bytes_of l.bytes) l.at l.left)
      ≡ add_all l.fn.out (characters l.fn.width (bytes_of l.fn.bytes) 0 l.fn.count)
  pub fits : l.at + size l.width * l.left ≤ length l.bytes

abbrev pub invariant-characters : goal.invariant-characters
invariant-characters g l = Holds g l

abbrev pub decreases-characters : goal.decreases-characters
decreases-characters g l = l.left
