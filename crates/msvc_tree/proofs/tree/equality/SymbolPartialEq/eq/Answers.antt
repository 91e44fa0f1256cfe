use Rattle.std.proofs.Common.{ap}
use Rattle.std.proofs.lemmas.Bool.Decides.{same_from_decides}
use Rattle.msvc_tree.proofs.EqualityLemmas.{symbol_eq-is}
use Rattle.msvc_tree.proofs.tree.equality.SymbolPartialEq.eq.Goals as goal

pub returns-clause-value : goal.returns-clause-value
returns-clause-value c =
    let same = c.same_symbol.ensures in
    same_from_decides _ _
    (λ h. let p = same.0 h in λ i. (p.0 i, p.1 i), λ e. same.1 (ap (λ x. x.0) e, ap (λ x. x.1) e))
    (symbol_eq-is _ _)
