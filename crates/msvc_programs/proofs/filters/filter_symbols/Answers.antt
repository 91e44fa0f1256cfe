use Rattle.std.proofs.Common.{[]}
use Rattle.std.proofs.KnownBytes.{Appends-nil}
use Rattle.msvc_programs.proofs.InputRun.{WritesInput-unheld}
use Rattle.msvc_programs.proofs.filters.filter_symbols.Goals as goal

pub returns-in-Err-clause-text : goal.returns-in-Err-clause-text
returns-in-Err-clause-text g c = ([], Appends-nil _, WritesInput-unheld _ _)
