use Rattle.msvc_read.proofs.Ownable.{parsed-ownable}
use Rattle.msvc_read.proofs.calls.read_tree.Goals as goal

pub nodes_to_tree-requires : goal.nodes_to_tree-requires
nodes_to_tree-requires c = parsed-ownable _ _ c.in_ok-symbol.ensures.read.parsed
