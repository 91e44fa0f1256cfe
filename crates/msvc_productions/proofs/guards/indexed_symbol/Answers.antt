use Rattle.std.proofs.Common.{ℕ, Option, None, ◌≡◌, refl}
use Rattle.msvc_nodes.specs.NodeView.{name_at, name_of}
use Rattle.msvc_nodes.specs.declared.kinds.Guard.{Guard}
use Rattle.msvc_nodes.specs.declared.nodes.Name as node
use Rattle.msvc_nodes.specs.declared.nodes.Name.{Name}
use Rattle.msvc_cursor.proofs.GuardSteps.{guard_of, indexed_other}
use Rattle.msvc_cursor.specs.Parser.{beyond, state_of}
use Rattle.std.specs.Prelude.{map}
use Rattle.msvc_productions.proofs.guards.indexed_symbol.Goals as goal

-- a name that is no guard is seen as none
no_guard : (n : Name) → ((kind : Guard) (index : Option ℕ) → n ≡ node.Guard kind index → ⊥)
    → guard_of (name_of n) ≡ None
unfolding name_of
no_guard (node.Guard kind index) other = absurd (other kind index refl)
no_guard _ other = refl

pub returns-in_default-clause-value : goal.returns-in_default-clause-value
returns-in_default-clause-value g c = λ extra.
    indexed_other (name_of c.args.symbol.now.name.now) (map name_at c.args.symbol.now.scope.now)
    c.args.parser.now.rest.now (beyond extra (state_of c.args.parser.now))
    (no_guard c.args.symbol.now.name.now c.in_default.not-Guard)
