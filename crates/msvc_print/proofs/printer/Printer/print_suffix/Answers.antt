use Rattle.std.specs.Prelude.{OnOk}
use Rattle.std.proofs.Common.{ap, sym, subst, ◌∙◌, arith, rules}
use Rattle.std.proofs.lemmas.Result.{on_ok_weaker}
use Rattle.msvc_nodes.specs.NodeView.{type_of}
use Rattle.msvc_nodes.proofs.NodeViews.{type_of-MemberPointer, type_of-Table}
use Rattle.msvc_print.proofs.Parameters.{settled-array}
use Rattle.msvc_print.proofs.Stack.{same_pieces}
use Rattle.msvc_print.specs.Halves.{after}
use Rattle.msvc_print.specs.Limited.{add_all}
use Rattle.msvc_print.specs.Weights.{type_weight}
use Rattle.msvc_print.specs.Work.{Lightens, Prints, finished_after}
use Rattle.msvc_print.proofs.printer.Printer.print_suffix.Goals as goal

pub returns-in_ok-write_length-in-Array-clause-text : goal.returns-in_ok-write_length-in-Array-clause-text
unfolding type_of
returns-in_ok-write_length-in-Array-clause-text g c =
    let w = c.in-Array in
    let out = c.args.self.now.out.now in
    on_ok_weaker c.push_suffix-in-Array.result
    (λ last. last _ ∙ ap (finished_after c.args.self.now)
    (settled-array out _ c.args.pointed _ w.length (type_of w.inner.now) w.field-1.0 c.args.self.now.flags.bits
    c.in_ok-write_length-in-Array.ensures (search rules)
    ∙ sym (ap (λ t. add_all out (after (type_of t) c.args.pointed c.args.self.now.flags.bits)) w.is)))
    c.push_suffix-in-Array.ensures.text

pub returns-in-MemberPointer-clause-text : goal.returns-in-MemberPointer-clause-text
unfolding after
returns-in-MemberPointer-clause-text g c =
    let w = c.in-MemberPointer in
    on_ok_weaker c.print_member_pointer_end.result
    (λ last. last ∙ same_pieces _ _ _ _ _ (sym (ap (λ t. after t c.args.pointed c.args.self.now.flags.bits)
    (ap type_of w.is ∙ type_of-MemberPointer w.field-0 w.function))))
    c.print_member_pointer_end.ensures.text

pub returns-in-MemberPointer-clause-lighter : goal.returns-in-MemberPointer-clause-lighter
unfolding type_weight
returns-in-MemberPointer-clause-lighter g c =
    let w = c.in-MemberPointer in
    on_ok_weaker c.print_member_pointer_end.result
    (λ last. omega (arith, last, ap type_weight (ap type_of w.is ∙ type_of-MemberPointer w.field-0 w.function)))
    c.print_member_pointer_end.ensures.lighter

pub returns-in-Table-clause-text : goal.returns-in-Table-clause-text
unfolding after
returns-in-Table-clause-text g c =
    let w = c.in-Table in
    subst (λ t. OnOk c.print_table_end.result
    (Prints (after t c.args.pointed c.args.self.now.flags.bits) c.args.self.now c.print_table_end.new.self))
    (sym (ap type_of w.is ∙ type_of-Table w.table w.field-1 w.scope)) c.print_table_end.ensures.text

pub returns-in-Table-clause-lighter : goal.returns-in-Table-clause-lighter
unfolding type_weight
returns-in-Table-clause-lighter g c =
    let w = c.in-Table in
    subst (λ t. OnOk c.print_table_end.result (Lightens (type_weight t) c.args.self.now c.print_table_end.new.self))
    (sym (ap type_of w.is ∙ type_of-Table w.table w.field-1 w.scope)) c.print_table_end.ensures.lighter
