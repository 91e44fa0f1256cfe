-- Each fact about the flags of a call from C is computed.
use Rattle.std.proofs.Common.{refl}
use Rattle.msvc_facts.specs.CallFlags.{AreCallFlags}

pub call_flags : AreCallFlags
call_flags = record {
  none = refl;
  llvm = refl;
  others = refl;
  full = refl;
  full_and_llvm = refl;
  all = refl;
}
