use Rattle.std.proofs.Common.{ℕ, drop, sym, ap, ◌∙◌, add-one}
use Rattle.std.specs.Prelude.{map}
use Rattle.std.specs.List.{list_any}
use Rattle.msvc_nodes.specs.Equality.{same_type}
use Rattle.msvc_nodes.specs.Trees.{TypeTree}
use Rattle.msvc_nodes.specs.NodeView.{type_of}
use Rattle.msvc_cursor.specs.Parser.{memorized_of}
use Rattle.msvc_cursor.proofs.Nodes.{found_here, found_later}
use Rattle.msvc_cursor.proofs.back_references.is_known_type.Goals as goal

-- an equal entry is found where it stands
pub returns-then-is_same_type : goal.returns-then-is_same_type
returns-then-is_same_type g c =
    let t : TypeTree = type_of c.args.memorized.now in
    let same = ap (λ e. same_type t (type_of e.memorized.now)) (sym c.known-item.is)
    ∙ sym (c.if-is_same_type.ensures) in
    sym (found_here (λ known. same_type t known.entered) memorized_of c.args.types.now c.loop-known.known-index _
    c.loop-known-test.true same)
    ∙ c.loop-known.invariant

-- an entry that is another type is passed over
pub loop-known-preserved : goal.loop-known-preserved
loop-known-preserved g c =
    let t : TypeTree = type_of c.args.memorized.now in
    let other = ap (λ e. same_type t (type_of e.memorized.now)) (sym c.known-item.is)
    ∙ sym (c.if-is_same_type.ensures) in
    ap (λ (i : ℕ). list_any (λ known. same_type t known.entered) (map memorized_of (drop i c.args.types.now)))
    (add-one c.loop-known.known-index)
    ∙ sym (found_later (λ known. same_type t known.entered) memorized_of c.args.types.now c.loop-known.known-index _
    c.loop-known-test.true other)
    ∙ c.loop-known.invariant
