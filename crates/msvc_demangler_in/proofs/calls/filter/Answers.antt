use Rattle.std.proofs.Common.{refl}
use Rattle.msvc_c_calls.proofs.Filters.{filter_lost}
use Rattle.msvc_demangler_in.proofs.calls.filter.Goals as goal

pub returns-in-None-clause-filtered : goal.returns-in-None-clause-filtered
returns-in-None-clause-filtered c =
    let is = c.out_of_memory.ensures.result in
    filter_lost _ c.args.flags c.args.input.now c.args.out.now c.args.out.now _ _ _ refl is.0 is.2
    c.out_of_memory.ensures.written
