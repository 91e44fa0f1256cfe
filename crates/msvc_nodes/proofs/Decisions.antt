-- What the tests of `Equality` tell, and which other tests they are.
use Rattle.std.proofs.Common.{◌≡◌, Bool, IsTrue, ◌↔◌}
use Rattle.std.proofs.lemmas.Bool.Decides.{same_from_decides}
use mathlib.Core.Bool.{decide_iff}
use Rattle.msvc_nodes.specs.Decided.{name_discrete, type_discrete}
use Rattle.msvc_nodes.specs.Equality.{same_name, same_type}
use Rattle.msvc_nodes.specs.Trees.{NameTree, TypeTree}

pub same_name-is : (a b : NameTree) → IsTrue (same_name a b) ↔ (a ≡ b)
unfolding same_name
same_name-is a b = decide_iff (name_discrete a b)

pub same_type-is : (a b : TypeTree) → IsTrue (same_type a b) ↔ (a ≡ b)
unfolding same_type
same_type-is a b = decide_iff (type_discrete a b)

-- a test that holds exactly where two names are the same is `same_name`
pub name-from : (r : Bool) (s t : NameTree) → (IsTrue r → s ≡ t) → (s ≡ t → IsTrue r) → r ≡ same_name s t
name-from r s t f g = same_from_decides r (same_name s t) (f, g) (same_name-is s t)

-- a test that holds exactly where two types are the same is `same_type`
pub type-from : (r : Bool) (s t : TypeTree) → (IsTrue r → s ≡ t) → (s ≡ t → IsTrue r) → r ≡ same_type s t
type-from r s t f g = same_from_decides r (same_type s t) (f, g) (same_type-is s t)
