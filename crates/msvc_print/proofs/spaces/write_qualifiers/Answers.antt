use Rattle.std.proofs.Common.{ap, sym, ◌∙◌, rules, ◌≡◌}
use Rattle.msvc_print.proofs.Dropped.{qualifiers-none}
use Rattle.msvc_print.proofs.Settling.{add_all-none}
use Rattle.msvc_print.specs.Limited.{add_all}
use Rattle.msvc_print.specs.Words.{qualifiers}
use Rattle.msvc_print.proofs.spaces.write_qualifiers.Goals as goal

-- no bit is set
pub returns-then-is_empty : goal.returns-then-is_empty
returns-then-is_empty g c =
    let none : c.args.qualifiers.0 ≡ 0 = search rules in
    sym (ap (λ set. add_all c.args.out.now (qualifiers set c.args.flags.bits)) none
    ∙ ap (add_all c.args.out.now) (qualifiers-none c.args.flags.bits) ∙ add_all-none _)
