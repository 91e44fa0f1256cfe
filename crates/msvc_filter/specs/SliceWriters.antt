-- How far a slice is filled with a filtered text.
use Rattle.std.specs.Prelude.{ℕ, List, ◌+◌, ◌-◌, ◌++◌, ◌≡◌, ◌≤◌, drop, if◌then◌else◌, length, nat_lt}
use Rattle.msvc_filter.specs.Filtered.{Part, fitting, text_of_parts}
use Rattle.msvc_filter.specs.declared.filter.SliceWriter.{SliceWriter}

-- the space for later parts after `taken` of `all` bytes were written to a space: none, once a byte was left out
abbrev pub space_after : (taken all space : ℕ) → ℕ
space_after taken all space = if nat_lt taken all then 0 else space - taken

-- The slice `given` has become `out`, which has what fits of the parts, and the writer states how far it is filled.
pub record IsSliceWriter (given : List ℕ) (parts : List Part) (writer : SliceWriter) (out : List ℕ) : Type 0 where
  -- the bytes written
  pub sent : List ℕ
  pub length_is : writer.length ≡ length (text_of_parts parts)
  pub written_is : writer.written ≡ length sent
  pub inside : writer.written + writer.space ≤ length given
  pub holds : out ≡ sent ++ drop (length sent) given
  -- what fits of the parts and of others after them
  pub fits : (others : List Part) → fitting (length given) (parts ++ others) ≡ sent ++ fitting writer.space others
