use Rattle.msvc_nodes.proofs.Decisions.{name-from}
use Rattle.msvc_nodes.proofs.same.is_same_name.Goals as goal

pub returns : goal.returns
returns c = name-from _ _ _ c.same_name_inline.ensures.0 c.same_name_inline.ensures.1
