use Rattle.msvc_c_calls.proofs.Filters.{filtered_call}
use Rattle.msvc_c_calls.proofs.calls.filter.Goals as goal

pub returns-clause-filtered : goal.returns-clause-filtered
returns-clause-filtered g c =
    filtered_call (λ f. f.length) (λ f. f.written) c.filter_slice_as-found.result _ c.grammar_of.result c.args.flags _
    c.args.input.now c.args.out.now c.filter_slice_as-found.new.out c.end_filtered.new.out c.saturating_sub-room.result
    c.end_filtered.result.status c.end_filtered.result.length c.grammar_of.ensures
    (c.from_bits_retain-style.ensures tt) c.saturating_sub-room.ensures
    c.filter_slice_as-found.auto.out c.filter_slice_as-found.ensures.text c.end_filtered.ensures.filtered
    c.end_filtered.ensures.not_filtered
