-- Which streams of a call failed, by the fault that the call ends with.
use Rattle.std.specs.Prelude.{◌≡◌, ◌⊎◌, Bool, true, false, Result, MatchResult}
use Rattle.msvc_streams.specs.Streams.{Stream}
use Rattle.msvc_streams.specs.declared.watched.Fault.{Fault}
use Rattle.msvc_streams.specs.declared.watched.Fault.TheVariants.{Read, Write, Memory}

-- whether a stream has failed before a call, and after the call
pub record FailureFlag : Type 0 where
  pub before : Bool
  pub after : Bool

-- the failure flag of a stream that is `old` before the call and `new` after it
abbrev pub failure_flag : {A : Type 0} → Stream A → Stream A → FailureFlag
failure_flag old new = record { before = old.failed; after = new.failed }

-- the flag in place of a stream that the call does not have
abbrev pub no_stream : FailureFlag
no_stream = record { before = false; after = false }

-- the flag keeps its value
abbrev pub Stays : FailureFlag → Type 0
Stays flag = flag.after ≡ flag.before

-- the flag is set after the call
abbrev pub IsSet : FailureFlag → Type 0
IsSet flag = flag.after ≡ true

-- A fault sets the flag of the stream that failed, the reader or one of the two writers. Other flags keep their values.
abbrev pub SetsFlagOf : Fault → (reader out err : FailureFlag) → Type 0
SetsFlagOf Read reader out err = IsSet reader × Stays out × Stays err
SetsFlagOf Write reader out err = Stays reader × ((IsSet out × Stays err) ⊎ (Stays out × IsSet err))
SetsFlagOf Memory reader out err = Stays reader × Stays out × Stays err

-- A call that ends with a fault sets the flag of the stream that failed. A call that succeeds sets no flag.
abbrev pub SetsFailureFlag : {A : Type 0} → Result A Fault → (reader out err : FailureFlag) → Type 0
SetsFailureFlag result reader out err =
    MatchResult result (λ _. Stays reader × Stays out × Stays err) (λ fault. SetsFlagOf fault reader out err)
