use Rattle.std.proofs.Common.{refl}
use Rattle.msvc_filter.proofs.Starts.{Keeps-more}
use Rattle.msvc_filter.proofs.symbol_bounds.WordState.after.Goals as goal

pub returns : goal.returns
returns c = λ last passed so. Keeps-more c.args.self _ c.args.byte last passed c.sees_question_mark.ensures refl so
