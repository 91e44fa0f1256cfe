use Rattle.std.proofs.Common.{sym, ◌∙◌}
use Rattle.msvc_print.proofs.OperatorNames.{full_operator_word-other}
use Rattle.msvc_print.proofs.operators.full_operator_word.Goals as goal

pub returns-in_default : goal.returns-in_default
returns-in_default c = c.operator_word.ensures ∙ sym (full_operator_word-other _ c.in_default.not-VBaseDtor
    c.in_default.not-VectorDeletingDtor c.in_default.not-DefaultCtorClosure c.in_default.not-ScalarDeletingDtor
    c.in_default.not-VectorCtorIterator c.in_default.not-VectorDtorIterator c.in_default.not-VectorVBaseCtorIterator
    c.in_default.not-EHVectorCtorIterator c.in_default.not-EHVectorDtorIterator
    c.in_default.not-EHVectorVBaseCtorIterator c.in_default.not-CopyCtorClosure
    c.in_default.not-LocalVFTableCtorClosure c.in_default.not-CoroutineAwait)
