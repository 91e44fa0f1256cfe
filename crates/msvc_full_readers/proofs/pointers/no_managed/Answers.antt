use Rattle.std.proofs.Common.{rules, ◌≡◌, Err, None, refl}
use Rattle.msvc_cursor.proofs.Rejecting.{rejects_with}
use Rattle.msvc_full_readers.proofs.pointers.no_managed.Goals as goal

-- no byte is left
pub returns-in_err-byte-clause-value : goal.returns-in_err-byte-clause-value
returns-in_err-byte-clause-value g c = λ extra.
    let failed : c.from_residual.result ≡ Err c.in_err-byte.field-0.0 = search rules in
    rw failed
    (rejects_with extra c.byte.new.self.last_error.reason _ None (λ none. refl) (c.in_err-byte.ensures.value extra))
