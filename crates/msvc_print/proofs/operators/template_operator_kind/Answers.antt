use Rattle.std.proofs.Common.{sym}
use Rattle.msvc_print.proofs.OperatorNames.{template_kind-other}
use Rattle.msvc_print.proofs.operators.template_operator_kind.Goals as goal

pub returns-in_default : goal.returns-in_default
returns-in_default c =
    sym (template_kind-other _ c.in_default.not-Ctor c.in_default.not-Dtor c.in_default.not-Conversion)
