use Rattle.std.proofs.lemmas.Result.{IfOk-weaker}
use Rattle.msvc_print.specs.declared.pointed.Pointed.TheVariants.{No}
use Rattle.msvc_print.proofs.simple_types.write_simple.Goals as goal

pub returns-in_default : goal.returns-in_default
returns-in_default g c = record {
  simple = IfOk-weaker c.write_simple_inner.result _ _ (λ is h e. h e No) c.write_simple_inner.ensures.simple;
  ends = IfOk-weaker c.write_simple_inner.result _ _ (λ is h e. h e No) c.write_simple_inner.ensures.ends;
  other = c.write_simple_inner.ensures.other;
}
