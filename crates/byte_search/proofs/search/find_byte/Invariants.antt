use Rattle.memchr.specs.Find.{Nowhere, Passes, is_byte}
use Rattle.byte_search.proofs.search.find_byte.Given as goal

-- none of the bytes before is that byte
abbrev pub invariant-bytes : goal.invariant-bytes
invariant-bytes l = Nowhere (Passes (is_byte l.byte) l.bytes) 0 l.i
