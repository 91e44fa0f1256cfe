use Rattle.std.proofs.Common.{refl, subst}
use Rattle.msvc_c_calls.specs.Buffers.{IsWritten}
use Rattle.msvc_c_calls.specs.Calls.{out_of_memory_text}
use Rattle.msvc_c_calls.specs.Reasons.{said, unsaid}
use Rattle.msvc_c_calls.proofs.calls.write_reason.Goals as goal

pub returns-in_default : goal.returns-in_default
returns-in_default g c =
    let is = c.out_of_memory.ensures.result in
    (out_of_memory_text, unsaid is.0 is.1 refl, is.2, c.out_of_memory.ensures.written)

pub returns-in-Some-write_text : goal.returns-in-Some-write_text
returns-in-Some-write_text g c =
    let found = c.in-Some-write_text.ensures.some in
    let rejected = c.in-Some.ensures in
    (found.0, said rejected.memory rejected.status rejected.offset found.1, found.2, found.3)

pub returns-in-None : goal.returns-in-None
returns-in-None g c =
    let is = c.out_of_memory-in-None.ensures.result in (
      out_of_memory_text,
      unsaid is.0 is.1 refl,
      is.2,
      subst (λ old. IsWritten out_of_memory_text old c.out_of_memory-in-None.new.out) c.in-None.ensures.none
          c.out_of_memory-in-None.ensures.written,
    )
