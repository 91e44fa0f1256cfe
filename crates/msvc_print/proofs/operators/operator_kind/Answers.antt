use Rattle.std.proofs.Common.{sym}
use Rattle.msvc_print.proofs.OperatorNames.{name_kind-other}
use Rattle.msvc_print.proofs.operators.operator_kind.Goals as goal

pub returns-in_default : goal.returns-in_default
returns-in_default g c = sym (name_kind-other _ c.in_default.not-Ctor c.in_default.not-Dtor c.in_default.not-Conversion
    c.in_default.not-VBTable c.in_default.not-LiteralOperatorName _)
