-- Equality as a test: whether two trees are equal.
use Rattle.std.specs.Prelude.{Bool}
use mathlib.Core.Bool.{decide}
use Rattle.msvc_nodes.specs.Decided.{name_discrete, type_discrete}
use Rattle.msvc_nodes.specs.Trees.{NameTree, TypeTree}

-- whether two names are equal
unfoldable pub same_name : NameTree → NameTree → Bool
same_name a b = decide (name_discrete a b)

-- whether two types are equal
unfoldable pub same_type : TypeTree → TypeTree → Bool
same_type a b = decide (type_discrete a b)
