use Rattle.std.proofs.Common.{ap, arith, length, ◌∙◌, ◌==◌}
use Rattle.msvc_nodes.specs.NodeView.{types_in}
use Rattle.msvc_print.proofs.ShapePieces.{parted-end, pushed-type, pushed_type-work, types-length}
use Rattle.msvc_print.proofs.Stack.{printed_none}
use Rattle.msvc_print.specs.Declaration.{each_type}
use Rattle.msvc_print.specs.Work.{finished}
use Rattle.msvc_print.proofs.shapes.push_types.Goals as goal

pub types-init : goal.types-init
types-init g c = record {
  text = λ out. printed_none _ out _ _ (parted-end c.args.between.now
      (each_type (types_in c.args.types.now) c.args.flags.bits) (length c.args.types.now)
      (length c.args.types.now == 0) (omega (arith, types-length c.args.types.now c.args.flags.bits)));
  lighter = omega arith;
  fits = omega arith;
}

pub types-preserved : goal.types-preserved
types-preserved g c = record {
  text = λ out. c.in_ok-push_parted_type.ensures.text out ∙ c.types.invariant.text _
      ∙ ap (λ o. finished c.args.stack.now.items o c.args.flags.bits) (pushed-type c.args.between.now c.args.types.now _
      c.types.at c.args.flags.bits out (omega (arith, c.types-test.true)) c.types.invariant.fits);
  lighter = omega (
    arith,
    c.types.invariant.lighter,
    pushed_type-work c.args.types.now _ c.types.at _ _ (omega (arith, c.types-test.true)) c.types.invariant.fits
        c.in_ok-push_parted_type.ensures.lighter,
  );
  fits = omega (arith, c.types.invariant.fits);
}
