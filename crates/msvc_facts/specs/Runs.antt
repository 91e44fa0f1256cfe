-- Runs that fail: the streams that a fault is about, and what a run over lines has written by then.
use Rattle.std.specs.Prelude.{ℕ, List, ◌++◌, ◌≡◌, Err, Ok, codes, false, true}
use Rattle.msvc_demangler.specs.Fault.{Fault}
use Rattle.msvc_demangler.specs.Fault.TheVariants.{Memory, Read, Write}
use Rattle.msvc_demangler.specs.Faults.{FailureFlag, SetsFailureFlag}
use Rattle.msvc_lines.specs.LineRuns.{WritesLines}

-- the flag of a stream that fails in a call
abbrev fails : FailureFlag
fails = record { before = false; after = true }

-- the flag of a stream that does not fail in a call
abbrev stays : FailureFlag
stays = record { before = false; after = false }

-- a call that succeeds may leave these flags of its reader and of its writers
abbrev Succeeds : (reader out err : FailureFlag) → Type 0
Succeeds reader out err = SetsFailureFlag {A = Unit {0}} (Ok tt) reader out err

-- a call that ends with this fault may leave these flags of its reader and of its writers
abbrev EndsWith : Fault → (reader out err : FailureFlag) → Type 0
EndsWith fault reader out err = SetsFailureFlag {A = Unit {0}} (Err fault) reader out err

pub record AreFaults : Type 0 where
  pub success : Succeeds stays stays stays
  pub no_success : ¬ (Succeeds fails stays stays)
  pub read : EndsWith Read fails stays stays
  pub no_read : ¬ (EndsWith Read stays stays stays)
  pub read_alone : ¬ (EndsWith Read fails fails stays)
  -- `Write` sets the flag of one of the writers
  pub write_out : EndsWith Write stays fails stays
  pub write_err : EndsWith Write stays stays fails
  pub no_write : ¬ (EndsWith Write stays stays stays)
  pub write_one : ¬ (EndsWith Write stays fails fails)
  pub write_alone : ¬ (EndsWith Write fails fails stays)
  pub memory : EndsWith Memory stays stays stays
  pub memory_alone : ¬ (EndsWith Memory fails stays stays)

-- a run over lines that ends with this fault may have written this text for the bytes that it took
abbrev Leaves : Fault → (taken text : List ℕ) → Type 0
Leaves fault taken text = WritesLines {A = Unit {0}} (Err fault) taken text

-- a run over lines that ends with this fault has written this text, and no other, for the bytes that it took
pub record LeavesOnly (fault : Fault) (taken text : List ℕ) : Type 0 where
  pub leaves : Leaves fault taken text
  pub only : (other : List ℕ) → Leaves fault taken other → other ≡ text

pub record AreLineRuns : Type 0 where
  pub all : WritesLines {A = Unit {0}} (Ok tt) (codes "?x@@3HA\nmain") (codes "int x\nmain\n")
  -- after `Read` and `Memory` the text is that of the lines whose ends were taken
  pub read : LeavesOnly Read (codes "?x@@3HA\nmain") (codes "int x\n")
  pub memory : LeavesOnly Memory (codes "?x@@3HA\nmain") (codes "int x\n")
  -- the end of a line whose text was not written may be taken
  pub memory_at_the_end : Leaves Memory (codes "?x@@3HA\n?y@@3HA\n") (codes "int x\n")
  -- after `Write` the text may end with a beginning of the text of the next line
  pub write : Leaves Write (codes "?x@@3HA\n?y@@3HA\n") (codes "int x\nint")
  pub write_only : (text : List ℕ) → Leaves Write (codes "?x@@3HA\nmain") text
      → (begun more : List ℕ) × (text ≡ codes "int x\n" ++ begun) × (text ++ more ≡ codes "int x\nmain\n")
