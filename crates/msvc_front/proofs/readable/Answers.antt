use Rattle.std.proofs.Common.{sym, true≢false}
use Rattle.std.proofs.lemmas.Result.{IfOk-weaker}
use Rattle.msvc_front.proofs.Refused.{stays}
use Rattle.msvc_front.proofs.readable.Goals as goal

pub returns : goal.returns
returns c = record {
  shown = IfOk-weaker c.to_string-else-is_out_of_memory.result _ _
      (λ text same. stays c.args.name.now c.in-Err.error _
      (λ e. true≢false (sym (c.if-is_out_of_memory.ensures.1 e))) c.llvm-flags.result.0 c.llvm-flags.ensures
      c.in-Err.ensures.rejected same)
      c.to_string-else-is_out_of_memory.ensures.ok;
}
