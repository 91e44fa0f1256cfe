use Rattle.std.proofs.Common.{ℕ, drop, sym, ap, ◌∙◌, add-one}
use Rattle.std.specs.Prelude.{map}
use Rattle.std.specs.List.{list_any}
use Rattle.msvc_nodes.specs.Equality.{same_name}
use Rattle.msvc_nodes.specs.Trees.{NameTree}
use Rattle.msvc_nodes.specs.NodeView.{name_of}
use Rattle.msvc_cursor.specs.Parser.{known_name_of}
use Rattle.msvc_cursor.proofs.Nodes.{found_here, found_later}
use Rattle.msvc_cursor.proofs.back_references.is_known_name.Goals as goal

-- an equal entry is found where it stands
pub returns-then-is_same_name : goal.returns-then-is_same_name
returns-then-is_same_name g c =
    let n : NameTree = name_of c.args.name.now in
    let same = ap (λ e. same_name n (name_of e.memorized.now)) (sym c.known-item.is)
    ∙ sym (c.if-is_same_name.ensures) in
    sym (found_here (same_name n) known_name_of c.args.names.now c.loop-known.known-index _ c.loop-known-test.true same)
    ∙ c.loop-known.invariant

-- an entry that is another name is passed over
pub loop-known-preserved : goal.loop-known-preserved
loop-known-preserved g c =
    let n : NameTree = name_of c.args.name.now in
    let other = ap (λ e. same_name n (name_of e.memorized.now)) (sym c.known-item.is)
    ∙ sym (c.if-is_same_name.ensures) in
    ap (λ (i : ℕ). list_any (same_name n) (map known_name_of (drop i c.args.names.now)))
    (add-one c.loop-known.known-index)
    ∙ sym (found_later (same_name n) known_name_of c.args.names.now c.loop-known.known-index _
    c.loop-known-test.true other)
    ∙ c.loop-known.invariant
