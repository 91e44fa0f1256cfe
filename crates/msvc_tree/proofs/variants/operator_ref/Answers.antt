use mir.Val.{to_z, of_z}
use Rattle.std.proofs.Common.{◌≡◌, rules, sym, ap, ◌∙◌}
use Rattle.std.specs.Int.{w32}
use Rattle.msvc_tree.specs.View.{operator_of}
use Rattle.msvc_tree.proofs.Views.{operator_of-RTTIBaseClassDescriptor}
use Rattle.msvc_tree.proofs.variants.operator_ref.Goals as goal

pub returns-in-RTTIBaseClassDescriptor : goal.returns-in-RTTIBaseClassDescriptor
returns-in-RTTIBaseClassDescriptor c =
    let w = c.in-RTTIBaseClassDescriptor in
    let first : to_z w32 (of_z w32 w.member) ≡ w.member = search rules in
    let second : to_z w32 (of_z w32 w.pointer) ≡ w.pointer = search rules in
    let third : to_z w32 (of_z w32 w.entry) ≡ w.entry = search rules in
    let fourth : to_z w32 (of_z w32 w.attributes) ≡ w.attributes = search rules in
    rw (first, second, third, fourth) (sym (ap operator_of w.is
    ∙ operator_of-RTTIBaseClassDescriptor w.member w.pointer w.entry w.attributes))
