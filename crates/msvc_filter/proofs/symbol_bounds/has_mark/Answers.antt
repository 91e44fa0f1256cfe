use Rattle.msvc_filter.specs.SymbolBounds.{is_mark}
use Rattle.msvc_filter.proofs.Starts.{some_mark}
use Rattle.msvc_filter.proofs.symbol_bounds.has_mark.Goals as goal

pub returns-in-Full : goal.returns-in-Full
returns-in-Full c =
    let found = c.unmarked_len.ensures in
    some_mark (is_mark c.args.grammar) c.args.bytes.now c.unmarked_len.result found.unmarked found.end
