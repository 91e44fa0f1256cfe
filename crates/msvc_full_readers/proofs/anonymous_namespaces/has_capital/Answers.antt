use Rattle.std.proofs.Common.{rules, tests, ◌∙◌}
use Rattle.std.proofs.lemmas.Iterator.{YieldsList-from_slice}
use Rattle.std.proofs.lemmas.Iterator.Search.{any_from_yields_List}
use Rattle.msvc_full_readers.specs.Readings.{is_capital}
use Rattle.msvc_full_readers.proofs.AnonymousSteps.{any-some}
use Rattle.msvc_full_readers.proofs.anonymous_namespaces.has_capital.Goals as goal

pub returns : goal.returns
returns c =
    any_from_yields_List (λ d. is_capital d) _ _ c.any.result c.any.ensures.ran
    (YieldsList-from_slice c.args.digits.now cc) (λ x b q k. search (rules, tests))
    ∙ any-some (λ d. is_capital d) c.args.digits.now
