use Rattle.std.proofs.Common.{◌≡◌, ◌<◌, false, length, is_some, ap, sym, ◌∙◌, arith, rules, drop, ◌+◌}
use Rattle.msvc_nodes.specs.NodeView.{types_in}
use Rattle.msvc_print.specs.Declaration.{parameters}
use Rattle.msvc_print.specs.SimpleTypes.{begun}
use Rattle.msvc_print.specs.Limited.{add_all}
use Rattle.msvc_print.proofs.SimpleTypes.{left_out-end, passed-pack, written-end, written-simple, written-separator}
use Rattle.msvc_print.proofs.simple_types.write_simple_types.Goals as goal
use Rattle.msvc_print.proofs.simple_types.write_simple_types.Goals.{
  then-not-is_empty_pack+in_ok-write_separator+in_ok-write_simple+else-not-branch,
}
use Rattle.msvc_print.proofs.simple_types.write_simple_types.Goals.{else-not-is_empty_pack}

-- a type that is not simple is left, after its comma
pub returns-then-not-branch-clause-text : goal.returns-then-not-branch-clause-text
returns-then-not-branch-clause-text g c =
    let within : c.types.at < length c.args.types.now = omega (arith, c.types-test.true) in
    ap (λ x. add_all x (begun (drop c.types.at c.args.types.now) c.args.flags.bits))
    (c.in_ok-write_simple.ensures.other c.if-not-branch.true)
    ∙ written-separator c.args.types.now c.types.at _ _ c.args.flags.bits _ _ within
    (sym c.is_empty_pack.ensures ∙ c.if-not-is_empty_pack.true) c.in_ok-write_separator.ensures
    ∙ c.types.invariant.written

pub types-preserved : goal.types-preserved
types-preserved g c =
    let ts = c.args.types.now in
    let within : c.types.at < length ts = omega (arith, c.types-test.true) in
    elim c.if-not-is_empty_pack.branch [
      | then-not-is_empty_pack+in_ok-write_separator+in_ok-write_simple+else-not-branch w ↦ record {
        in_range = omega (arith, within);
        written = ap (λ b. add_all c.if-not-is_empty_pack.out (parameters (types_in (drop (c.types.at + 1) ts)) b
            c.args.flags.bits)) w.none_yet-is
            ∙ ap (λ x. add_all x (parameters (types_in (drop (c.types.at + 1) ts)) false c.args.flags.bits)) w.out-is
            ∙ written-simple ts c.types.at _ c.args.flags.bits _ _ within
            (w.in_ok-write_simple.ensures.ends w.if-not-branch.false)
            (w.in_ok-write_simple.ensures.simple w.if-not-branch.false)
            ∙ written-separator ts c.types.at _ _ c.args.flags.bits _ _ within
            (sym c.is_empty_pack.ensures ∙ w.if-not-is_empty_pack.true) w.in_ok-write_separator.ensures
            ∙ c.types.invariant.written;
      }
      | else-not-is_empty_pack w ↦ record {
        in_range = omega (arith, within);
        written = ap (λ b. add_all c.if-not-is_empty_pack.out (parameters (types_in (drop (c.types.at + 1) ts)) b
            c.args.flags.bits)) w.none_yet-is
            ∙ ap (λ x. add_all x (parameters (types_in (drop (c.types.at + 1) ts)) c.types.none_yet c.args.flags.bits))
            w.out-is
            ∙ ap (add_all c.types.out) (sym (passed-pack ts c.types.at _ c.types.none_yet c.args.flags.bits within
            (sym c.is_empty_pack.ensures ∙ w.if-not-is_empty_pack.false)))
            ∙ c.types.invariant.written;
      }
    ]

-- nothing is left to write after a piece was left out
pub returns-else-is_whole-clause-text : goal.returns-else-is_whole-clause-text
returns-else-is_whole-clause-text g c =
    let left_out : is_some c.types.out.text ≡ false = search rules in
    left_out-end c.args.types.now c.types.at _ c.args.flags.bits _ left_out ∙ c.types.invariant.written

pub returns-after-types-clause-text : goal.returns-after-types-clause-text
returns-after-types-clause-text g c =
    written-end c.args.types.now c.types.at _ c.args.flags.bits _ (omega (arith, c.types-test.false))
    ∙ c.types.invariant.written
