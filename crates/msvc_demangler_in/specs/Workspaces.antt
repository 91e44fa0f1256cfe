-- What becomes of lent memory, and what is written into a buffer where it may run out.
use Rattle.std.specs.Prelude.{ℕ, List, ◌≡◌, ◌≢◌, length}
use denote.RawPtr.{Ptr, null_ptr}
use Rattle.msvc_c_calls.specs.Buffers.{IsWritten}

-- A part of a workspace, an address and a size, before and after a call with this status.
pub data IsBack (status : ℕ) (old_ptr : Ptr) (old_size : ℕ) (ptr : Ptr) (size : ℕ) : Type 0 where
  -- the address and the size stay
  back : ptr ≡ old_ptr → size ≡ old_size → IsBack status old_ptr old_size ptr size
  -- the part becomes null and 0, with OUT_OF_MEMORY
  lost : status ≡ 3 → ptr ≡ null_ptr → size ≡ 0 → IsBack status old_ptr old_size ptr size

-- The text is written into a buffer by the rules of `snprintf`. If memory ran out, the bytes after the NUL may be any.
abbrev pub IsWrittenUnless : ℕ → List ℕ → List ℕ → List ℕ → Type 0
IsWrittenUnless status text old new =
    (others : List ℕ) × (length others ≡ length old) × IsWritten text others new × (status ≢ 3 → others ≡ old)
