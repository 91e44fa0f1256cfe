use Rattle.msvc_c_calls.proofs.Filters.{filter_lost}
use Rattle.msvc_demangler_in.proofs.msvc_demangler_filter_in_parts.Goals as goal

pub returns-else-has_arena-clause-filtered : goal.returns-else-has_arena-clause-filtered
returns-else-has_arena-clause-filtered c =
    let is = c.out_of_memory.ensures.result in
    filter_lost _ c.args.flags c.args.input.now c.args.out.now c.filter-found.new.out _ _ _ c.filter-found.auto.out is.0
    is.2
    c.out_of_memory.ensures.written
