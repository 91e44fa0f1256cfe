use Rattle.std.proofs.Common.{◌≡◌, ◌++◌}
use Rattle.std.specs.String.{string_bytes}
use Rattle.msvc_nodes.specs.NodeView.{typed_symbol_of}
use Rattle.msvc_debug.specs.Items.{rest_text}
use Rattle.msvc_debug.specs.TreeText.{tree_text}
use Rattle.msvc_debug.proofs.tree.write_tree.Given as goal

-- what is written and what is left to write are the tree
abbrev pub invariant-items : goal.invariant-items
invariant-items g l =
    string_bytes l.text ++ rest_text l.stack.items ≡ string_bytes l.fn.text ++ tree_text (typed_symbol_of l.fn.symbol)
