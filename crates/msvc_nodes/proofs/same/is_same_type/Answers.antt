use Rattle.msvc_nodes.proofs.Decisions.{type-from}
use Rattle.msvc_nodes.proofs.same.is_same_type.Goals as goal

pub returns : goal.returns
returns c = type-from _ _ _ c.same_type.ensures.0 c.same_type.ensures.1
