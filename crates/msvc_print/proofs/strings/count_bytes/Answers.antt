use Rattle.std.proofs.Common.{sym}
use Rattle.msvc_print.proofs.StringBytes.{bytes-length}
use Rattle.msvc_print.proofs.strings.count_bytes.Goals as goal

pub returns-clause-is : goal.returns-clause-is
returns-clause-is c = sym (bytes-length c.args.bytes.now)
