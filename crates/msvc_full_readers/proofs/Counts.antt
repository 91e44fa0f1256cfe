-- What is counted while a template is read.
use Rattle.std.proofs.Common.{ℕ, List, Some, ◌≡◌, ◌+◌, ap}
use Rattle.msvc_nodes.specs.Trees.{NameTree}
use Rattle.msvc_rules.specs.Counts.{name_count}
use Rattle.msvc_rules.specs.State.{Count, State}
use Rattle.msvc_rules.proofs.NodesCounted as counts
use Rattle.msvc_full_grammar.specs.Productions.{template_name}
use Rattle.msvc_full_grammar.specs.Reading.{read_name}
use Rattle.msvc_full_grammar.proofs.NodesCounted.{full_counted}

-- its nodes
pub template_name_made : (left : List ℕ) (s : State) (v : NameTree) (rest : List ℕ) (t : State)
    → read_name template_name left s ≡ Some (v, rest, t)
    → t.count.used ≡ s.count.used + name_count s.count.weight v
unfolding read_name
template_name_made left s v rest t e =
    ap (λ (k : Count). k.used) (counts.read_name-counts full_counted template_name left s v rest t e)
