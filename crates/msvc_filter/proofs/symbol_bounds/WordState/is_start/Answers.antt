use Rattle.std.proofs.Common.{◌∙◌}
use Rattle.msvc_symbol.specs.declared.grammar.Grammar.TheVariants.{Crate, Full}
use Rattle.msvc_filter.proofs.Starts.{start-kept}
use Rattle.msvc_filter.proofs.symbol_bounds.WordState.is_start.Goals as goal

pub returns-in-Crate : goal.returns-in-Crate
returns-in-Crate c = rw c.in-Crate.is (λ last passed so.
    c.may_start.ensures ∙ start-kept Crate c.args.self c.args.left.now last passed so)

pub returns-in-Full : goal.returns-in-Full
returns-in-Full c = rw c.in-Full.is (λ last passed so.
    c.may_start_in_full.ensures ∙ start-kept Full c.args.self c.args.left.now last passed so)
