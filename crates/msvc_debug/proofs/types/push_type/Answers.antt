use Rattle.std.specs.Prelude.{OnOk}
use Rattle.std.proofs.Common.{ap, subst, sym, ◌∙◌}
use Rattle.msvc_nodes.proofs.NodeViews.{type_of-Tagged, type_of-MemberPointer, type_of-Table}
use Rattle.msvc_nodes.specs.NodeView.{type_of}
use Rattle.msvc_debug.specs.Items.{Pushes}
use Rattle.msvc_debug.specs.TreeText.{type_text}
use Rattle.msvc_debug.proofs.types.push_type.Goals as goal

pub returns-in-Tagged : goal.returns-in-Tagged
unfolding type_text
returns-in-Tagged g c =
    let w = c.in-Tagged in
    subst (λ t. OnOk c.push_tagged.result (Pushes (type_text t) c.args.stack.now.items c.push_tagged.new.stack.items))
    (sym (ap type_of w.is ∙ type_of-Tagged w.tag w.set w.symbol)) c.push_tagged.ensures

pub returns-in-MemberPointer : goal.returns-in-MemberPointer
unfolding type_text
returns-in-MemberPointer g c =
    let w = c.in-MemberPointer in
    subst (λ t. OnOk c.push_member_pointer.result
    (Pushes (type_text t) c.args.stack.now.items c.push_member_pointer.new.stack.items))
    (sym (ap type_of w.is ∙ type_of-MemberPointer w.class w.function)) c.push_member_pointer.ensures

pub returns-in-Table : goal.returns-in-Table
unfolding type_text
returns-in-Table g c =
    let w = c.in-Table in
    subst (λ t. OnOk c.push_table.result (Pushes (type_text t) c.args.stack.now.items c.push_table.new.stack.items))
    (sym (ap type_of w.is ∙ type_of-Table w.table w.set w.scope)) c.push_table.ensures
