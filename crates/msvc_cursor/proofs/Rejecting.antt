-- What is rejected where one step of a reader fails.
use Rattle.std.proofs.Common.{ℕ, List, [], ◌∷◌, Bool, true, false, cond, Option, Some, None, Result, Ok, Err, ◌≡◌, refl}
use Rattle.std.specs.Prelude.{IfOk}
use Rattle.msvc_rules.specs.Readers.{letter_here, with_value}
use Rattle.msvc_rules.specs.Rules.{lookup}
use Rattle.msvc_rules.specs.State.{State}
use Rattle.msvc_cursor.specs.Messages.{limit_of_message}
use Rattle.msvc_cursor.specs.Parser.{Gives, Rejects, beyond, reads_on}
use Rattle.msvc_cursor.specs.declared.failure.Failed.{Failed}
use Rattle.msvc_cursor.specs.declared.failure.Failure.{Failure}
use Rattle.msvc_cursor.specs.declared.failure.Failure.TheVariants as failure

-- where the step reads nothing, the reader reads nothing
pub rejects_with : {Y Z : Type 0} (extra : ℕ) (r : Failure) (step : Option Y) (whole : Option Z)
    → (step ≡ None → whole ≡ None) → Rejects extra r step → Rejects extra r whole
rejects_with extra failure.Memory step whole f h = tt
rejects_with extra (failure.Rejected message left) step whole f h = go (reads_on extra (limit_of_message message)) h
  where
    go : (t : Bool) → cond t (Unit {0}) (step ≡ None) → cond t (Unit {0}) (whole ≡ None)
    go true h = tt
    go false h = f h
rejects_with extra (failure.TooLong length) step whole f h = absurd h

-- a letter that no table has is in none, however many nodes more are allowed
pub no_letter_beyond : {A : Type 0} (extra : ℕ) (table : List (ℕ × A)) (left : List ℕ) (s : State)
    → letter_here table left s ≡ None → letter_here table left (beyond extra s) ≡ None
no_letter_beyond {A} extra table [] s e = refl
no_letter_beyond {A} extra table (b ∷ bs) s e = go (lookup b table) e
  where
    go : (o : Option A) → with_value o bs s ≡ None → with_value o bs (beyond extra s) ≡ None
    go None h = refl
    go (Some x) h = absurd (cc)

-- where the rule reads nothing, a reader returns nothing
pub none_read : {X Y : Type 0} (extra : ℕ) (view : X → Y) (reason : Failure) (result : Result X Failed) (P : X → Type 0)
    → Gives extra view reason result None → IfOk result P
none_read extra view reason (Ok x) P h = absurd (cc)
none_read extra view reason (Err e) P h = tt
