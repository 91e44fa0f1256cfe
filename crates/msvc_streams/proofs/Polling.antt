-- What is consumed of the bytes that a reader showed.
use Rattle.std.proofs.Common.{◌≡◌, ◌≤◌, [], ℕ, List, Result, Ok, IfSome, length, subst, take}
use Rattle.std.specs.Borrow.{Bor}
use Rattle.std.specs.Io.{StartsWith}
use Rattle.std.specs.Io.BufRead.{DropsConsumable, FillKeeps}
use Rattle.std.specs.Io.KnownBytes.{Consumes}
use Rattle.std.specs.declared.option.Option.{Option}
use Rattle.std.proofs.BufReadLemmas.{Consumes_shown}
use Rattle.std.proofs.KnownBytes.{Consumes-kept, Consumes-nil}

pub Consumes-front : {E : Type 0} (reads shows later : Option (List ℕ)) (limit : Option ℕ) (count : ℕ)
    (polled : Result (Bor (List ℕ)) E) (shown : Bor (List ℕ)) → polled ≡ Ok shown → FillKeeps reads shows limit polled
    → count ≤ length shown.now → IfSome reads (λ xs. StartsWith xs shown.now)
    → IfSome reads (λ xs. length shown.now ≡ 0 → xs ≡ []) → DropsConsumable shows later limit count
    → Consumes reads later (take count shown.now)
Consumes-front reads shows later limit count polled shown is keeps within front end drops =
    let filled = subst (FillKeeps reads shows limit) is keeps in
    (Consumes_shown reads shows later limit shown.now count within front end filled.0 filled.1 drops).0

-- nothing is consumed by a poll
pub Consumes-polled : {E : Type 0} (reads shows : Option (List ℕ)) (limit : Option ℕ)
    (polled : Result (Bor (List ℕ)) E) → FillKeeps reads shows limit polled → Consumes reads shows []
Consumes-polled reads shows limit polled keeps = Consumes-kept reads reads shows [] (Consumes-nil reads) keeps.0
