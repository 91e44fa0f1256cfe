use Rattle.std.proofs.Common.{arith}
use Rattle.std.proofs.lemmas.Grind.{common_steps}
use Rattle.std.specs.Cow.{cow_str_bytes}
use Rattle.msvc_nodes.proofs.Contexts.{IsRejectionOrMemory-IsAscii}
use Rattle.msvc_nodes.proofs.error.parse_error.Goals as goal

-- an ASCII context, as text, has the same bytes
pub returns-clause-ascii : goal.returns-clause-ascii
returns-clause-ascii c =
    λ ascii.
    IsRejectionOrMemory-IsAscii (cow_str_bytes c.args.message) c.args.input.now c.args.offset c.match-context.repr ascii
    (grind (arith, common_steps))
