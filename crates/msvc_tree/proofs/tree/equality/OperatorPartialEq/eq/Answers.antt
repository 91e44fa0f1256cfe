use Rattle.std.proofs.lemmas.Bool.Decides.{same_from_decides}
use Rattle.msvc_tree.proofs.EqualityLemmas.{operator_eq-is}
use Rattle.msvc_tree.proofs.tree.equality.OperatorPartialEq.eq.Goals as goal

pub returns-clause-value : goal.returns-clause-value
returns-clause-value c = same_from_decides _ _ c.same_operator.ensures (operator_eq-is _ _)
