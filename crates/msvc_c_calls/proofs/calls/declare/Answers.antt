use Rattle.msvc_c_calls.proofs.Found.{found_as, found_for}
use Rattle.msvc_c_calls.specs.Calls.{declared}
use Rattle.msvc_c_calls.proofs.calls.declare.Goals as goal

pub returns-in-Ok : goal.returns-in-Ok
returns-in-Ok g c = (
  c.in-Ok.declaration.now,
  found_as _ c.grammar_of.result c.args.limits c.args.symbol.now c.args.flags _ _ _ _ c.grammar_of.ensures
      (c.from_bits_retain-style.ensures tt) (declared c.utf8.symbol c.in-Ok.ensures.declared),
  c.write.ensures.length,
  c.write.ensures.written,
)

pub returns : goal.returns
returns g c =
    let found = c.write_reason.ensures in (
      found.0,
      found_as _ c.grammar_of.result c.args.limits c.args.symbol.now c.args.flags _ _ _ _ c.grammar_of.ensures
          (c.from_bits_retain-style.ensures tt)
          (found_for c.grammar_of.result c.args.limits c.args.symbol.now _ _ _ c.in-Err.failure found.0 c.utf8.symbol
          c.in-Err.ensures.fails found.1),
      found.2,
      found.3,
    )
