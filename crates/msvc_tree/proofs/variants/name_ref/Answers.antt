use Rattle.std.proofs.Common.{sym, ap, ◌∙◌}
use Rattle.msvc_nodes.specs.Trees.{template}
use Rattle.msvc_tree.specs.View.{name_of, params_of}
use Rattle.msvc_tree.proofs.Views.{name_of-Template}
use Rattle.msvc_tree.proofs.variants.name_ref.Goals as goal

pub returns-in-Template : goal.returns-in-Template
returns-in-Template c =
    let w = c.in-Template in
    ap (λ n. template (name_of n) (params_of w.arguments)) c.deref.ensures
    ∙ sym (ap name_of w.is ∙ name_of-Template w.name w.arguments)
