use Rattle.std.proofs.Common.{ap, arith, false, length, ◌∙◌, ◌==◌}
use Rattle.msvc_nodes.specs.NodeView.{names_in}
use Rattle.msvc_print.proofs.ShapePieces.{names-length, names-weight-none, parted-end, pushed-name, pushed-work}
use Rattle.msvc_print.proofs.Stack.{printed_none}
use Rattle.msvc_print.specs.Declaration.{each_name}
use Rattle.msvc_print.specs.Work.{finished}
use Rattle.msvc_print.proofs.shapes.push_names.Goals as goal

pub names-init : goal.names-init
names-init g c = record {
  text = λ out. printed_none _ out _ _ (parted-end c.args.between.now
      (each_name (names_in c.args.names.now) false c.args.flags.bits) (length c.args.names.now)
      (length c.args.names.now == 0) (omega (arith, names-length c.args.names.now false c.args.flags.bits)));
  lighter = omega (arith, names-weight-none c.args.names.now (length c.args.names.now) (omega arith));
  fits = omega arith;
}

pub names-preserved : goal.names-preserved
names-preserved g c = record {
  text = λ out. c.in_ok-push_parted_name.ensures.text out ∙ c.names.invariant.text _
      ∙ ap (λ o. finished c.args.stack.now.items o c.args.flags.bits) (pushed-name c.args.between.now c.args.names.now _
      c.names.at c.args.flags.bits out (omega (arith, c.names-test.true)) c.names.invariant.fits);
  lighter = omega (
    arith,
    c.names.invariant.lighter,
    pushed-work c.args.names.now _ c.names.at _ _ (omega (arith, c.names-test.true)) c.names.invariant.fits
        c.in_ok-push_parted_name.ensures.lighter,
  );
  fits = omega (arith, c.names.invariant.fits);
}
