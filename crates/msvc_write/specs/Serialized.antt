-- The text that a tree is printed as.
use Rattle.std.specs.Prelude.{ℕ, List, ◌≡◌}
use Rattle.std.specs.Str.{IsUtf8}
use Rattle.std.specs.Str.Lossy.{utf8_lossy}
use Rattle.msvc_nodes.specs.EachName.{EachName}
use Rattle.msvc_nodes.specs.Trees.{SymbolTree}
use Rattle.msvc_print.specs.Declaration.{declaration}
use Rattle.msvc_print.specs.Laws.{IsTextOfOtherTypes, IsTextUnderOtherBits}

-- the text of a tree under a word of flags
pub record IsTextOf (tree : SymbolTree) (flags : ℕ) (text : List ℕ) : Type 0 where
  -- if all names are UTF-8, the text is the declaration
  pub declared : EachName IsUtf8 tree → text ≡ declaration tree flags
  -- the text is the declaration with U+FFFD for what is not UTF-8
  pub lossy : text ≡ utf8_lossy (declaration tree flags)
  -- bits of the flags that no definition asks for do not change the text
  pub other_bits : IsTextUnderOtherBits text tree flags
  -- under NAME_ONLY the type does not change the text, unless the name is a conversion operator
  pub name_only : IsTextOfOtherTypes text tree flags
