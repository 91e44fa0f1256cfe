use Rattle.msvc_c_calls.proofs.Found.{as_some_not_read, some_no_memory, some_not_read}
use Rattle.msvc_c_calls.proofs.calls.unread.Goals as goal

pub returns-in-Some : goal.returns-in-Some
returns-in-Some c =
    λ h limits fails.
    let rejected = c.in-Some.ensures in
    as_some_not_read h limits c.args.symbol.now _ _ _ c.in-Some.status c.in-Some.offset c.unmeasured.ensures
    (some_not_read h limits c.args.symbol.now c.in-Some.status c.in-Some.offset c.args.failure c.utf8.symbol fails
    rejected.memory rejected.status rejected.offset)

pub returns-in-None : goal.returns-in-None
returns-in-None c =
    λ h limits fails. some_no_memory h limits c.args.symbol.now _ _ _ c.utf8.symbol c.unmeasured-in-None.ensures
