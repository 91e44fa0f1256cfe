use Rattle.std.proofs.Common.{arith}
use Rattle.msvc_print.proofs.Styles.{with_llvm-small, with_llvm-styled}
use Rattle.msvc_print.proofs.style.Style+FullWording.full_with.Goals as goal

pub overflow_add-result : goal.overflow_add-result
overflow_add-result c = omega (arith, with_llvm-small c.from.result c.args.others (omega arith))

pub invariant_of-result : goal.invariant_of-result
invariant_of-result c = record { told = with_llvm-styled c.from.result c.args.others (omega arith) }
