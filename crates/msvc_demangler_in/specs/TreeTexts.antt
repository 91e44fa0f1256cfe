-- The text of a tree that was read, or that memory ran out.
use Rattle.std.specs.Prelude.{ℕ, List, ◌≡◌}
use Rattle.msvc_debug.specs.TreeText.{tree_text}
use Rattle.msvc_nodes.specs.Trees.{SymbolTree}
use Rattle.msvc_c_calls.specs.Calls.{out_of_memory_text}

-- the status, the offset and the text of a call that prints a tree that was read
pub data IsTreeText (tree : SymbolTree) (status offset : ℕ) (text : List ℕ) : Type 0 where
  made : status ≡ 0 → offset ≡ 0 → text ≡ tree_text tree → IsTreeText tree status offset text
  unmade : status ≡ 3 → offset ≡ 0 → text ≡ out_of_memory_text → IsTreeText tree status offset text
