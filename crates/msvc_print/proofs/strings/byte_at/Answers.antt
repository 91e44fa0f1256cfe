use Rattle.msvc_print.proofs.StringBytes.{byte-at}
use Rattle.msvc_print.proofs.strings.byte_at.Goals as goal

pub returns-clause-is : goal.returns-clause-is
returns-clause-is c = byte-at c.args.bytes.now _ c.args.at c.requires
